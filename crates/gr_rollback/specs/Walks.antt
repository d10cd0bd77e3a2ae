-- A rollback on its way from the end of the log down to a place.
use Rattle.std.specs.Prelude.{◌≡◌, ◌+◌, ◌≤◌, ℕ, Bool, true, not, List, [], ◌∷◌, ◌++◌, length, filter, map, reverse, vec_len, vec_capacity}
use Rattle.gr_causal.specs.Sequences.{In, Distinct}
use Rattle.gr_step.specs.Record.{Record}
use Rattle.gr_step.specs.Conflicts.{touched_by}
use Rattle.gr_step.specs.Records.{event_of, taken_back, CanGoBack}
use Rattle.gr_step.specs.Stores.{contents_at}
use Rattle.gr_step.specs.Back.{all_back, marked, unmarked}
use Rattle.gr_depend.specs.Logs.{records_of}
use Rattle.gr_depend.specs.Room.{CanTake}
use Rattle.gr_rollback.specs.declared.back.Rollback.{Rollback}
use Rattle.gr_rollback.specs.declared.course.Course.{Course}
use Rattle.gr_rollback.specs.Readiness.{HasReady}

-- how many marks are set, and how many are not
abbrev pub count_set : List Bool → ℕ
count_set marks = length (filter (λ m. m) marks)

abbrev pub count_unset : List Bool → ℕ
count_unset marks = length (filter not marks)

-- there is room for the steps that these marks name, and for the others
pub record HasRoomFor (marks : List Bool) (r : Rollback) : Type 0 where
  pub stay : vec_len r.stay + count_unset marks ≤ vec_capacity r.stay
  pub gone : vec_len r.gone + count_set marks ≤ vec_capacity r.gone
  pub ids : vec_len r.ids + count_set marks ≤ vec_capacity r.ids

-- the rollback has not begun, and there is room for all of it
pub record IsNew (marks : List Bool) (r : Rollback) : Type 0 where
  pub stay : r.stay.items ≡ []
  pub gone : r.gone.items ≡ []
  pub ids : r.ids.items ≡ []
  pub room : HasRoomFor marks r

-- There is a mark for each step from the place on; each step that is marked goes back, where the marked ones behind it are back.
pub record RollsBack (at : ℕ) (marks : List Bool) (c : Course) : Type 0 where
  pub count : length marks + at ≡ length (records_of c.log)
  pub each : (front tail : List Record) (r : Record) (before after : List Bool) → records_of c.log ≡ front ++ r ∷ tail → marks ≡ before ++ true ∷ after
      → length before + at ≡ length front → CanGoBack r.id.go r.change (all_back (marked after tail) (contents_at c.store))
  pub once : (r : Record) → In r (records_of c.log) → Distinct (touched_by r)
  pub pool : HasReady c.pool (contents_at c.store)

-- A front of the log stands. Of the steps behind it the marked ones are back, and the others are laid aside, for which the log
-- has room.
pub record IsOnTheWay (start : Course) (at : ℕ) (marks : List Bool) (c : Course) (r : Rollback) : Type 0 where
  pub before : List Bool
  pub after : List Bool
  pub tail : List Record
  pub marks_are : marks ≡ before ++ after
  pub records_are : records_of start.log ≡ records_of c.log ++ tail
  pub place : length before + at ≡ length (records_of c.log)
  pub contents : contents_at c.store ≡ all_back (marked after tail) (contents_at start.store)
  pub aside : reverse r.stay.items ≡ unmarked after tail
  pub events : reverse r.gone.items ≡ map event_of (marked after tail)
  pub names : reverse r.ids.items ≡ map (λ q. q.id) (marked after tail)
  pub room : HasRoomFor before r
  pub log_room : CanTake c.log (unmarked after tail)
  pub pool : HasReady c.pool (contents_at c.store)
  pub first : c.first ≡ start.first

-- a rollback that is on its way from some course
pub record IsRolling (at : ℕ) (marks : List Bool) (c : Course) (r : Rollback) : Type 0 where
  pub start : Course
  pub rolls : RollsBack at marks start
  pub way : IsOnTheWay start at marks c r

-- it is still on its way, wherever it came from
abbrev pub GoesOn : ℕ → List Bool → Course → Rollback → Course → Rollback → Type 0
GoesOn at marks c r d q = (start : Course) → RollsBack at marks start → IsOnTheWay start at marks c r → IsOnTheWay start at marks d q

-- the last step is taken back, and its event and its name join those that are gone
pub record Removes (old : Course) (before : Rollback) (new : Course) (after : Rollback) : Type 0 where
  pub step : Record
  pub contents : contents_at new.store ≡ taken_back step.id.go step.change (contents_at old.store)
  pub pool : HasReady new.pool (contents_at new.store)
  pub records : records_of old.log ≡ records_of new.log ++ step ∷ []
  pub log_room : (rest : List Record) → CanTake old.log rest → CanTake new.log (step ∷ rest)
  pub first : new.first ≡ old.first
  pub gone : after.gone.items ≡ before.gone.items ++ event_of step ∷ []
  pub ids : after.ids.items ≡ before.ids.items ++ step.id ∷ []
  pub stay : after.stay ≡ before.stay
  pub gone_len : vec_len after.gone ≡ vec_len before.gone + 1
  pub ids_len : vec_len after.ids ≡ vec_len before.ids + 1
  pub gone_room : vec_capacity after.gone ≡ vec_capacity before.gone
  pub ids_room : vec_capacity after.ids ≡ vec_capacity before.ids
