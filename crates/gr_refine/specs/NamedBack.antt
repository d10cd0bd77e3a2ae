-- Taking back changes of several channels, each under the name of its channel.
use Rattle.std.specs.Prelude.{◌≡◌, true, List, [], ◌∷◌, Option, Some, None, option_map, if◌then◌else◌}
use Rattle.std.specs.List.{list_any}
use Rattle.gr_base.specs.declared.names.ChName.{ChName}
use Rattle.gr_base.specs.declared.objects.Object.{Object}
use Rattle.gr_channels.specs.declared.changes.ChanUndo.{ChanUndo}
use Rattle.gr_channels.specs.Channels.{Content}
use Rattle.gr_channels.specs.Changes.{undone, Fits}
use Rattle.gr_channels.specs.Objects.{Part}
use Rattle.gr_rules.specs.Frames.{Frame}
use Rattle.gr_rules.specs.Operators.{same_channel}
use Rattle.gr_rules.specs.States.{same, look}
use Rattle.gr_code.specs.CodeFrames.{CodeFrame}
use Rattle.gr_refine.specs.Contents.{Contents, state_of}
use Rattle.gr_refine.specs.Partners.{AreChannels}
use Rattle.gr_refine.specs.TakingBack.{part_of, any_written, ChannelBack}

-- the channel of a name once these are taken back, the last first
abbrev pub back_named : List (ChName × ChanUndo) → ChName → Option Content → Option Content
back_named [] c o = o
back_named (e ∷ es) c o = if same_channel c e.0 then option_map (undone e.1) (back_named es c o) else back_named es c o

-- a channel is there, and what the change wrote in it stands
abbrev pub FitsThere : ChanUndo → Option Content → Type 0
FitsThere u None = ⊥
FitsThere u (Some x) = Fits u x

-- what each of them wrote stands when its turn comes
abbrev pub FitNamed : List (ChName × ChanUndo) → (ChName → Option Content) → Type 0
FitNamed [] f = Unit {0}
FitNamed (e ∷ es) f = FitsThere e.1 (back_named es e.0 (f e.0)) × FitNamed es f

-- the changes of one channel among these
abbrev pub at_channel : ChName → List (ChName × ChanUndo) → List ChanUndo
at_channel c [] = []
at_channel c (e ∷ es) = if same_channel c e.0 then e.1 ∷ at_channel c es else at_channel c es

-- Changes of channels led to the contents after a step that wrote these objects, and later what the step wrote still
-- stands. The channels are there, with their capacities. What the changes wrote is among what the step wrote.
pub record StandsLater (frame : CodeFrame → Frame) (os : List Object) (us : List (ChName × ChanUndo)) (after later : Contents) : Type 0 where
  pub fit : FitNamed us after.channels
  pub valid_after : AreChannels after
  pub valid_later : AreChannels later
  pub there : (c : ChName) (b : Content) → after.channels c ≡ Some b → (x : Content) × (later.channels c ≡ Some x) × (x.capacity ≡ b.capacity)
  pub names : (c : ChName) (b : Content) (p : Part) → after.channels c ≡ Some b → any_written (at_channel c us) b p ≡ true
      → list_any (same (part_of c p)) os ≡ true
  pub stands : (o : Object) → list_any (same o) os ≡ true → look (state_of frame later) o ≡ look (state_of frame after) o

-- they can be taken back later
abbrev pub NamedChangesFit : Type 0
NamedChangesFit = (frame : CodeFrame → Frame) (os : List Object) (us : List (ChName × ChanUndo)) (after later : Contents)
    → StandsLater frame os us after later → FitNamed us later.channels

-- taking the changes back takes the step back at each channel
abbrev pub NamedChangesGoBack : Type 0
NamedChangesGoBack = (frame : CodeFrame → Frame) (os : List Object) (us : List (ChName × ChanUndo)) (before after later back : Contents)
    → StandsLater frame os us after later → ((c : ChName) → before.channels c ≡ back_named us c (after.channels c))
    → ((c : ChName) → back.channels c ≡ back_named us c (later.channels c))
    → (c : ChName) → ChannelBack os c (before.channels c) (after.channels c) (later.channels c) (back.channels c)
