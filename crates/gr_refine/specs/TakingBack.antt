-- Taking a step back: what it wrote gets the contents that it had before, wherever that still stands.
use Rattle.std.specs.Prelude.{◌≡◌, fold, ℕ, Bool, true, false, ◌||◌, List, [], ◌∷◌, map, Option, Some, None}
use Rattle.std.specs.List.{list_any}
use Rattle.gr_base.specs.declared.names.ChName.{ChName}
use Rattle.gr_base.specs.declared.objects.Object.{Object}
use Rattle.gr_base.specs.declared.objects.Object.TheVariants as objects
use Rattle.gr_channels.specs.declared.changes.ChanUndo.{ChanUndo}
use Rattle.gr_channels.specs.Channels.{Content, IsChannel}
use Rattle.gr_channels.specs.Changes.{undone, Fits}
use Rattle.gr_channels.specs.Objects.{Part, SameAt, is_written}
use Rattle.gr_channels.specs.Objects as parts
use Rattle.gr_rules.specs.Frames.{Frame}
use Rattle.gr_rules.specs.States.{State, same, look, put}
use Rattle.gr_code.specs.CodeFrames.{CodeFrame}
use Rattle.gr_refine.specs.Contents.{Contents, state_of}

-- the object that is a part of a channel
abbrev pub part_of : ChName → Part → Object
part_of c parts.Gate = objects.Gate c
part_of c parts.Tail = objects.Tail c
part_of c parts.Head = objects.Head c
part_of c (parts.Slot i) = objects.Slot c i

-- the content with these changes taken back, the last first
abbrev pub all_undone : List ChanUndo → Content → Content
all_undone [] x = x
all_undone (u ∷ us) x = undone u (all_undone us x)

-- what each of them wrote stands when its turn comes
abbrev pub AllFit : List ChanUndo → Content → Type 0
AllFit [] x = Unit {0}
AllFit (u ∷ us) x = Fits u (all_undone us x) × AllFit us x

-- whether one of the changes that led to this content wrote the object
abbrev pub any_written : List ChanUndo → Content → Part → Bool
any_written [] b p = false
any_written (u ∷ us) b p = is_written u (undone u (all_undone us b)) p || any_written us b p

-- changes that led to b are taken back from x: what they wrote is as before them, and all else as in x
pub record AllTakenBack (us : List ChanUndo) (b x : Content) : Type 0 where
  pub fits : AllFit us x
  pub valid : IsChannel (all_undone us x)
  pub written : (p : Part) → any_written us b p ≡ true → SameAt p (all_undone us x) (all_undone us b)
  pub kept : (p : Part) → any_written us b p ≡ false → SameAt p (all_undone us x) x

-- they can be, wherever what they wrote stands
abbrev pub ChangesGoBackAnywhere : Type 0
ChangesGoBackAnywhere = (us : List ChanUndo) (b x : Content) → IsChannel b → AllFit us b → IsChannel x → x.capacity ≡ b.capacity
    → ((p : Part) → any_written us b p ≡ true → SameAt p x b) → AllTakenBack us b x

-- the state that has at these objects the contents of one, and elsewhere those of another
abbrev pub ContentsArePutBack : Type 0
ContentsArePutBack = (s t u : State) (os : List Object) → ((o : Object) → list_any (same o) os ≡ true → look u o ≡ look s o)
    → ((o : Object) → list_any (same o) os ≡ false → look u o ≡ look t o) → u ≡ fold put t (map (look s) os)

-- A channel before a step that wrote these objects, directly after it, later, and with the step taken back. The step did
-- not touch it; or changed it; or made it, and nothing has entered it.
pub data ChannelBack (os : List Object) (c : ChName) (before after later back : Option Content) : Type 0 where
  untouched : before ≡ after → back ≡ later → ChannelBack os c before after later back
  changed : (us : List ChanUndo) (b x : Content) → after ≡ Some b → later ≡ Some x → before ≡ Some (all_undone us b) → back ≡ Some (all_undone us x)
      → IsChannel b → AllFit us b → IsChannel x → x.capacity ≡ b.capacity
      → ((p : Part) → any_written us b p ≡ true → list_any (same (part_of c p)) os ≡ true) → ChannelBack os c before after later back
  unmade : (x : Content) → before ≡ None → back ≡ None → later ≡ Some x → x.head ≡ 0 → x.items ≡ []
      → list_any (same (objects.Gate c)) os ≡ true → ChannelBack os c before after later back

-- A step from the first contents to the second, which wrote these objects, is taken back from the third, where what it
-- wrote stands. That gives the fourth.
pub record TakesBack (frame : CodeFrame → Frame) (os : List Object) (before after later back : Contents) : Type 0 where
  pub stands : (o : Object) → list_any (same o) os ≡ true → look (state_of frame later) o ≡ look (state_of frame after) o
  pub run_back : list_any (same objects.Run) os ≡ true → back.run ≡ before.run
  pub run_kept : list_any (same objects.Run) os ≡ false → back.run ≡ later.run
  pub goroutine_back : (n : List ℕ) → list_any (same (objects.Go n)) os ≡ true → back.goroutines n ≡ before.goroutines n
  pub goroutine_kept : (n : List ℕ) → list_any (same (objects.Go n)) os ≡ false → back.goroutines n ≡ later.goroutines n
  pub channel : (c : ChName) → ChannelBack os c (before.channels c) (after.channels c) (later.channels c) (back.channels c)

-- the saved contents of what it wrote are put back, and nothing else changes
abbrev pub TakingBackPutsBack : Type 0
TakingBackPutsBack = (frame : CodeFrame → Frame) (os : List Object) (before after later back : Contents) → TakesBack frame os before after later back
    → state_of frame back ≡ fold put (state_of frame later) (map (look (state_of frame before)) os)
