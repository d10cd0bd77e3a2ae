-- Waiting lists: who is taken out by name, and how what was taken out goes back to its place.
use Rattle.std.specs.Prelude.{ℕ, Bool, not, List, [], ◌∷◌, ◌≤◌, length, filter, nat_eq, insert}
use Rattle.std.specs.Cmp.Lexicographic.{pointwise}
use Rattle.gr_channels.specs.declared.waiter.Waiter.{Waiter}

-- whether the waiter is this goroutine
abbrev pub is_of : {X : Type 0} → List ℕ → Waiter X → Bool
is_of name w = pointwise nat_eq w.go name

-- the waiters of other goroutines
abbrev pub others : {X : Type 0} → List ℕ → List (Waiter X) → List (Waiter X)
others name ws = filter (λ w. not (is_of name w)) ws

-- the waiters put back, the last removed first, each at the place that it had
abbrev pub restored : {X : Type 0} → List (ℕ × Waiter X) → List (Waiter X) → List (Waiter X)
restored [] ws = ws
restored (r ∷ rs) ws = insert (restored rs ws) r.0 r.1

-- each place is within the list that it goes back into
abbrev pub PlacesFit : {X : Type 0} → List (ℕ × Waiter X) → List (Waiter X) → Type 0
PlacesFit [] ws = Unit {0}
PlacesFit (r ∷ rs) ws = (r.0 ≤ length (restored rs ws)) × PlacesFit rs ws
