-- The last record of a course, whose step is taken back.
use Rattle.std.specs.Prelude.{◌≡◌, List, [], ◌∷◌, ◌++◌}
use Rattle.gr_base.specs.declared.events.Event.{Event}
use Rattle.gr_causal.specs.Sequences.{Distinct}
use Rattle.gr_step.specs.Record.{Record}
use Rattle.gr_step.specs.Conflicts.{touched_by}
use Rattle.gr_step.specs.Records.{event_of, taken_back, CanGoBack}
use Rattle.gr_step.specs.Stores.{contents_at, SameListing}
use Rattle.gr_depend.specs.Logs.{records_of}
use Rattle.gr_depend.specs.Room.{CanTake}
use Rattle.gr_rollback.specs.declared.course.Course.{Course}
use Rattle.gr_rollback.specs.declared.machine.Machine.{Machine}
use Rattle.gr_rollback.specs.Readiness.{HasReady}

-- what its step wrote stands
pub record GoesBack (r : Record) (c : Course) : Type 0 where
  pub can : CanGoBack r.id.go r.change (contents_at c.store)
  pub once : Distinct (touched_by r)

-- there is a last record, and its step goes back; the pool has those that are ready
pub record LastGoesBack (c : Course) : Type 0 where
  pub front : List Record
  pub last : Record
  pub records : records_of c.log ≡ front ++ last ∷ []
  pub goes : GoesBack last c
  pub pool : HasReady c.pool (contents_at c.store)

-- what had room in the log has room still
abbrev pub KeepsLogRoom : Course → Course → Type 0
KeepsLogRoom old new = (rest : List Record) → CanTake old.log rest → CanTake new.log rest

-- the last step, which was that of the event, is taken back, and there is room for its record in the log
pub record Retracts (old : Course) (event : Event) (new : Course) : Type 0 where
  pub step : Record
  pub event_is : event ≡ event_of step
  pub contents : contents_at new.store ≡ taken_back step.id.go step.change (contents_at old.store)
  pub pool : HasReady new.pool (contents_at new.store)
  pub records : records_of old.log ≡ records_of new.log ++ step ∷ []
  pub room : (rest : List Record) → CanTake old.log rest → CanTake new.log (step ∷ rest)
  pub first : new.first ≡ old.first

-- nothing has changed, but that the pool may know more; it has those that are ready, where it had them
pub record SameCourse (old new : Course) : Type 0 where
  pub listing : SameListing old.store new.store
  pub contents : contents_at new.store ≡ contents_at old.store
  pub records : records_of new.log ≡ records_of old.log
  pub pool : HasReady old.pool (contents_at old.store) → HasReady new.pool (contents_at new.store)
  pub first : new.first ≡ old.first

-- the last step is taken back, and it alone may be done again
pub record RetractsLast (old new : Machine) : Type 0 where
  pub event : Event
  pub course : Retracts old.course event new.course
  pub again : new.again.items ≡ event ∷ []
