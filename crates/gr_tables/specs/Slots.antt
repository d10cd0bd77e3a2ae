-- The goroutine in one place, before and after a change.
use Rattle.std.specs.Prelude.{◌≡◌, ◌≤◌, Option, Some}
use Rattle.gr_goros.specs.Views.{Seen}

-- it is there before and after, and this is true of the two
abbrev pub SlotChanges : (Seen → Seen → Type 0) → Option Seen → Option Seen → Type 0
SlotChanges R x y = (a : Seen) × (b : Seen) × (x ≡ Some a) × (y ≡ Some b) × R a b

-- it is there before and after, with the same content, and no less room
abbrev pub SlotKeeps : Option Seen → Option Seen → Type 0
SlotKeeps x y = (a : Seen) × (b : Seen) × (x ≡ Some a) × (y ≡ Some b) × (b.content ≡ a.content) × (a.room ≤ b.room)
