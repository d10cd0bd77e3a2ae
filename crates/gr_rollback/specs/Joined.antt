-- The record of a step that was taken joins the log, or the step is taken back.
use Rattle.std.specs.Prelude.{◌≡◌, ◌≤◌, [], ◌∷◌, ◌++◌, length, Result, Ok, Err}
use Rattle.gr_step.specs.Record.{Record}
use Rattle.gr_step.specs.declared.refusal.StepRefused.{StepRefused}
use Rattle.gr_step.specs.declared.refusal.StepRefused.TheVariants as refusals
use Rattle.gr_step.specs.Records.{taken_back}
use Rattle.gr_step.specs.Stores.{contents_at, SameListing}
use Rattle.gr_depend.specs.Logs.{records_of}
use Rattle.gr_rollback.specs.declared.TheConstants.{LOG_LIMIT}
use Rattle.gr_rollback.specs.declared.course.Course.{Course}
use Rattle.gr_rollback.specs.declared.stepped.Stepped.{Stepped}
use Rattle.gr_rollback.specs.Stepping.{told_by}

-- it is the last of the log, what is told is its step, and nothing else has changed
pub record IsLast (r : Record) (told : Stepped) (old new : Course) : Type 0 where
  pub tells : told ≡ told_by r
  pub records : records_of new.log ≡ records_of old.log ++ r ∷ []
  pub short : length (records_of new.log) ≤ LOG_LIMIT
  pub store : new.store ≡ old.store
  pub pool : new.pool ≡ old.pool
  pub first : new.first ≡ old.first

-- its step is taken back, and the log is as it was
pub record IsTakenBack (r : Record) (old new : Course) : Type 0 where
  pub contents : contents_at new.store ≡ taken_back r.id.go r.change (contents_at old.store)
  pub listing : SameListing old.store new.store
  pub records : records_of new.log ≡ records_of old.log
  pub pool : new.pool ≡ old.pool
  pub first : new.first ≡ old.first

abbrev pub Joined : Course → Record → Result Stepped StepRefused → Course → Type 0
Joined old r (Ok told) new = IsLast r told old new
Joined old r (Err why) new = (why ≡ refusals.NoMemory) × IsTakenBack r old new
