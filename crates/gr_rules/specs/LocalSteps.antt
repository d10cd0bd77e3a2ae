-- Steps that reach no further than their own goroutine.
use Rattle.std.specs.Prelude.{ℕ, Bool, true, false, not, List, [], ◌∷◌, Option, Some, None}
use Rattle.gr_rules.specs.Outcomes.{Outcome, gives}
use Rattle.gr_rules.specs.Frames.{Frame}
use Rattle.gr_rules.specs.Deeds.{Deed, Moves, Prints, Enters, Leaves, deed}
use Rattle.gr_rules.specs.Goroutines.{Status, ready, Goroutine}
use Rattle.gr_rules.specs.States.{State}
use Rattle.gr_rules.specs.Steps.{is_deepest}

-- What a goroutine with these frames may do by a local step: a statement or part of one that touches nothing else, a print,
-- a call that is not too deep, or a return that is not out of the outermost frame.
abbrev pub stays_within : List Frame → Deed → Bool
stays_within fs (Moves on) = true
stays_within fs (Prints line) = true
stays_within (f ∷ below) (Enters function vs) = not (is_deepest (f ∷ below))
stays_within (f ∷ []) (Leaves v) = false
stays_within (f ∷ g ∷ below) (Leaves v) = true
stays_within fs _ = false

abbrev pub stays_within_by : List Frame → Outcome Deed → Bool
stays_within_by fs d = elim d [ gives d ↦ stays_within fs d | _ ↦ false ]

abbrev pub is_local_at : List Frame → Bool
is_local_at fs = elim fs [ [] ↦ false | f ∷ below ↦ stays_within_by (f ∷ below) (deed f) ]

abbrev pub is_local_in : Goroutine → Bool
is_local_in g = elim g.status [ ready ↦ is_local_at g.frames | _ ↦ false ]

-- whether the next step of a goroutine is local: it reads `Run` and its own goroutine alone, and writes its own goroutine
abbrev pub is_local : State → List ℕ → Bool
is_local s g = elim (s.goroutines g) [ Some x ↦ is_local_in x | None ↦ false ]
