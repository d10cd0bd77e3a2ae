-- The objects that a change of a channel writes, by name.
use Rattle.std.specs.Prelude.{◌≡◌, true, List, [], ◌∷◌, length}
use Rattle.std.specs.List.{list_any}
use Rattle.gr_base.specs.declared.names.ChName.{ChName}
use Rattle.gr_base.specs.declared.objects.Object.{Object}
use Rattle.gr_base.specs.declared.objects.Object.TheVariants.{Gate, Tail, Head, Slot}
use Rattle.gr_channels.specs.declared.changes.ChanUndo.{ChanUndo}
use Rattle.gr_channels.specs.declared.changes.ChanUndo.TheVariants.{Handed, Buffered, Took, Moved, Met, ParkedSender, ParkedReceiver, Withdrawn, Closed}
use Rattle.gr_channels.specs.Channels.{Content}
use Rattle.gr_channels.specs.Changes.{undone}
use Rattle.gr_channels.specs.Objects.{Part, head_slot, tail_slot, is_written}
use Rattle.gr_rules.specs.States.{same}
use Rattle.gr_refine.specs.TakingBack.{part_of, all_undone, any_written}

-- the objects that a change from this content writes
abbrev pub written_objects : ChName → ChanUndo → Content → List Object
written_objects c Buffered x = Tail c ∷ Slot c (tail_slot x) ∷ []
written_objects c (Took v) x = Head c ∷ Slot c (head_slot x) ∷ []
written_objects c (Moved item go case) x = Gate c ∷ Tail c ∷ Head c ∷ Slot c (head_slot x) ∷ Slot c (tail_slot x) ∷ []
written_objects c (Handed w) x = Gate c ∷ []
written_objects c (Met w) x = Gate c ∷ []
written_objects c ParkedSender x = Gate c ∷ []
written_objects c ParkedReceiver x = Gate c ∷ []
written_objects c (Withdrawn s r) x = Gate c ∷ []
written_objects c (Closed s r) x = Gate c ∷ []

-- each of the first objects is one of the second
abbrev pub AreAmong : List Object → List Object → Type 0
AreAmong [] os = Unit {0}
AreAmong (p ∷ ps) os = (list_any (same p) os ≡ true) × AreAmong ps os

-- of changes that led to this content, one after the other
abbrev pub AllAreAmong : ChName → List ChanUndo → Content → List Object → Type 0
AllAreAmong c [] b os = Unit {0}
AllAreAmong c (u ∷ us) b os = AreAmong (written_objects c u (undone u (all_undone us b))) os × AllAreAmong c us b os

-- where these are among the objects of a step, so is each part that a change wrote
abbrev pub WrittenPartsAreNamed : Type 0
WrittenPartsAreNamed = (c : ChName) (u : ChanUndo) (x : Content) (os : List Object) → AreAmong (written_objects c u x) os
    → (p : Part) → is_written u x p ≡ true → list_any (same (part_of c p)) os ≡ true

abbrev pub AllWrittenPartsAreNamed : Type 0
AllWrittenPartsAreNamed = (c : ChName) (us : List ChanUndo) (b : Content) (os : List Object) → AllAreAmong c us b os
    → (p : Part) → any_written us b p ≡ true → list_any (same (part_of c p)) os ≡ true

-- in a full buffer the next value enters the slot that the front item leaves
abbrev pub FullSlotsMeet : Type 0
FullSlotsMeet = (x : Content) → length x.items ≡ x.capacity → tail_slot x ≡ head_slot x
