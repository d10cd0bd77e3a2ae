-- That what a step changed is among what it touched.
use Rattle.std.specs.Prelude.{◌≡◌, ℕ, true, List, [], ◌∷◌, ◌++◌, Option, Some}
use Rattle.std.specs.List.{list_any}
use Rattle.gr_base.specs.declared.names.ChName.{ChName}
use Rattle.gr_base.specs.declared.objects.Object.{Object}
use Rattle.gr_base.specs.declared.objects.Object.TheVariants.{Gate, Go}
use Rattle.gr_channels.specs.declared.changes.ChanUndo.{ChanUndo}
use Rattle.gr_channels.specs.Channels.{Content}
use Rattle.gr_channels.specs.Objects.{Part}
use Rattle.gr_rules.specs.States.{same}
use Rattle.gr_refine.specs.Contents.{Contents}
use Rattle.gr_refine.specs.NamedBack.{at_channel}
use Rattle.gr_refine.specs.Partners.{AreChannels}
use Rattle.gr_refine.specs.TakingBack.{part_of, any_written}
use Rattle.gr_record.specs.Effects.{Effect}
use Rattle.gr_record.specs.Records.{goroutines_changed, channels_changed, begun_by, made_by, writes_of, reads_of}

-- the object is one of these
abbrev pub IsAmong : Object → List Object → Type 0
IsAmong o os = list_any (same o) os ≡ true

-- the object of each name is one of these
abbrev pub EachIsAmong : {N U : Type 0} → (N → Object) → List (N × U) → List Object → Type 0
EachIsAmong object [] os = Unit {0}
EachIsAmong object (e ∷ es) os = IsAmong (object e.0) os × EachIsAmong object es os

-- each part of a channel that the changes wrote, which led to these channels, is one of the objects
abbrev pub PartsAreAmong : List (ChName × ChanUndo) → (ChName → Option Content) → List Object → Type 0
PartsAreAmong us f os = (c : ChName) (b : Content) (q : Part) → f c ≡ Some b → any_written (at_channel c us) b q ≡ true → IsAmong (part_of c q) os

-- a channel is there, which no value has entered or left
abbrev pub IsUnused : Option Content → Type 0
IsUnused o = (x : Content) × (o ≡ Some x) × (x.head ≡ 0) × (x.items ≡ [])

-- What a step of this goroutine wrote, which led to these contents: the goroutines that it changed and started, the gate of
-- the channel that it made, and of each channel that it changed the parts that the changes wrote. Of such a channel it
-- touched the gate. The channels keep within their bounds.
pub record ChangesWithin (n : List ℕ) (c : Effect) (t : Contents) : Type 0 where
  pub goroutines : EachIsAmong Go (goroutines_changed n c) (writes_of n c)
  pub begun : (q : List ℕ) → begun_by c ≡ Some q → IsAmong (Go q) (writes_of n c)
  pub made : (q : ChName) → made_by c ≡ Some q → IsAmong (Gate q) (writes_of n c) × IsUnused (t.channels q)
  pub gates : EachIsAmong Gate (channels_changed c) (reads_of c ++ writes_of n c)
  pub parts : PartsAreAmong (channels_changed c) t.channels (writes_of n c)
  pub valid : AreChannels t
