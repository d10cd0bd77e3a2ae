-- Lists that are walked for marks.
use Rattle.std.specs.Prelude.{◌≡◌, ◌<◌, ◌≤◌, ◌+◌, ◌||◌, ℕ, Bool, true, List, length}
use Rattle.std.specs.List.{list_any}
use Rattle.gr_base.specs.declared.objects.Object.{Object}
use Rattle.gr_record.specs.declared.record.Record.{Record}
use Rattle.gr_record.specs.Conflicts.{read_by, written_by}
use Rattle.gr_touches.specs.declared.lanes.Lanes.{Lanes}
use Rattle.gr_touches.specs.declared.marks.Origin.{Origin}
use Rattle.gr_touches.specs.declared.marks.Wanted.{Wanted}
use Rattle.gr_touches.specs.declared.marks.Wanted.TheVariants as which_are
use Rattle.gr_touches.specs.Lists.{list_of, list_numbered}
use Rattle.gr_touches.specs.Marks.{hits, is_beyond, IsAscending, InReach, has_mark}

-- the lists ascend, and there are marks for what they have on the side of the origin
pub record AreInReach (l : Lanes) (origin : Origin) (count : ℕ) : Type 0 where
  pub ascending : (o : Object) → IsAscending 0 (list_of l o)
  pub reach : (o : Object) → InReach origin count (list_of l o)

-- of the lists that were walked, all wanted touches on the side of the origin are marked
abbrev pub AreWalked : Lanes → Origin → Wanted → List Bool → List Bool → Type 0
AreWalked l origin which walked marks = (n : ℕ) → has_mark walked n ≡ true → (j : ℕ) → j < length marks → is_beyond origin (origin.base + j) ≡ true
    → hits which (list_numbered l n) (origin.base + j) ≡ true → has_mark marks j ≡ true

-- whether a wanted touch of one of these objects is at the place
abbrev pub hits_any : Lanes → Wanted → List Object → ℕ → Bool
hits_any l which os p = list_any (λ o. hits which (list_of l o) p) os

-- whether the step at the place wrote what this one read, or touched what it wrote
abbrev pub meets_step : Lanes → Record → ℕ → Bool
meets_step l r p = hits_any l which_are.Writes (read_by r) p || hits_any l which_are.All (written_by r) p

-- there is a mark for each place of a log of this length that is on the side of the origin
abbrev pub HasMarks : Origin → ℕ → ℕ → Type 0
HasMarks origin len count = (p : ℕ) → p < len → is_beyond origin p ≡ true → (origin.base ≤ p) × (p < origin.base + count)
