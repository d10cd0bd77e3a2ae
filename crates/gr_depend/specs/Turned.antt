-- Steps of a log that another order turns round.
use Rattle.std.specs.Prelude.{◌≡◌, ◌<◌, ◌≤◌, ◌||◌, ℕ, true, List, Some, slice_index_or, slice_get}
use Rattle.gr_causal.specs.Sequences.{Before}
use Rattle.gr_record.specs.declared.record.Record.{Record}
use Rattle.gr_record.specs.Conflicts.{conflict_of}
use Rattle.gr_touches.specs.declared.touch.Touch.{Touch}

-- the place that a list of places has for one
abbrev pub place_at : List ℕ → ℕ → ℕ
place_at places p = slice_index_or places p 0

-- the steps at two places of the log conflict, and stand the other way round where each comes to its new place
pub record AreTurned (rs : List Record) (to : List ℕ) (earlier later : ℕ) : Type 0 where
  pub first : Record
  pub second : Record
  pub first_at : slice_get rs earlier ≡ Some first
  pub second_at : slice_get rs later ≡ Some second
  pub in_log : earlier < later
  pub conflicts : conflict_of first second ≡ true
  pub turned : place_at to later < place_at to earlier

-- the later of two steps that are turned round comes to this place at least
abbrev pub TurnedFrom : ℕ → List Record → List ℕ → Type 0
TurnedFrom first rs to = (p q : ℕ) → AreTurned rs to p q → first ≤ place_at to q

-- the later of two touches of an object that conflict and are turned round comes to this place at least
abbrev pub TouchesTurnedFrom : ℕ → List ℕ → List Touch → Type 0
TouchesTurnedFrom first to ts = (t u : Touch) → Before ts t u → (t.writes || u.writes) ≡ true
    → place_at to u.place < place_at to t.place → first ≤ place_at to u.place

-- These steps are turned round. Of all that are, no later one comes to an earlier place. Of the earlier ones that are turned
-- with the same later one, none stands before it in the log.
pub record AreFirstTurned (rs : List Record) (to : List ℕ) (earlier later : ℕ) : Type 0 where
  pub are : AreTurned rs to earlier later
  pub first_in_order : TurnedFrom (place_at to later) rs to
  pub first_in_log : (p : ℕ) → AreTurned rs to p later → earlier ≤ p
