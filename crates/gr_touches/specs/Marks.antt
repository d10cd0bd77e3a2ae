-- Marks for places of a log.
use Rattle.std.specs.Prelude.{◌≡◌, ◌<◌, ◌≤◌, ◌+◌, ◌||◌, ◌&&◌, ◌==◌, ℕ, suc, Bool, true, false, nat_lt, List, [], ◌∷◌, length, filter, slice_index_or}
use Rattle.std.specs.List.{list_any}
use Rattle.gr_touches.specs.declared.touch.Touch.{Touch}
use Rattle.gr_touches.specs.declared.marks.LogSide.{LogSide}
use Rattle.gr_touches.specs.declared.marks.LogSide.TheVariants.{Later, Earlier}
use Rattle.gr_touches.specs.declared.marks.Wanted.{Wanted}
use Rattle.gr_touches.specs.declared.marks.Wanted.TheVariants.{All, Writes}
use Rattle.gr_touches.specs.declared.marks.Origin.{Origin}

-- whether a touch is wanted that wrote, or did not
abbrev pub takes : Wanted → Bool → Bool
takes All writes = true
takes Writes writes = writes

-- the touches that are wanted, of these
abbrev pub wanted : Wanted → List Touch → List Touch
wanted which ts = filter (λ t. takes which t.writes) ts

-- whether one of the wanted touches is at this place
abbrev pub hits : Wanted → List Touch → ℕ → Bool
hits which ts p = list_any (λ t. t.place == p) (wanted which ts)

-- whether the place p is on that side of the place q
abbrev pub is_on : LogSide → ℕ → ℕ → Bool
is_on Later q p = nat_lt q p
is_on Earlier q p = nat_lt p q

abbrev pub is_beyond : Origin → ℕ → Bool
is_beyond origin p = is_on origin.side origin.place p

-- the places ascend, from this one at least
abbrev pub IsAscending : ℕ → List Touch → Type 0
IsAscending n [] = Unit {0}
IsAscending n (t ∷ ts) = (n ≤ t.place) × IsAscending (suc t.place) ts

-- the mark with a number is that of this place
abbrev pub has_mark : List Bool → ℕ → Bool
has_mark marks j = slice_index_or marks j false

-- there are marks for those of these touches that are on the side of the origin
abbrev pub InReach : Origin → ℕ → List Touch → Type 0
InReach origin count [] = Unit {0}
InReach origin count (t ∷ ts) = (is_beyond origin t.place ≡ true → (origin.base ≤ t.place) × (t.place < origin.base + count)) × InReach origin count ts

-- the places on the side of the origin for which the test holds are marked, and all others as before
abbrev pub Marks : Origin → (ℕ → Bool) → List Bool → List Bool → Type 0
Marks origin test old new = (j : ℕ) → j < length old → has_mark new j ≡ (has_mark old j || (is_beyond origin (origin.base + j) && test (origin.base + j)))
