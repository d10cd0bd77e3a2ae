-- The steps that make a channel, start a goroutine, and count, by what the store contains (Go: Making slices, maps and
-- channels, Go statements, Length and capacity).
use Rattle.std.specs.Prelude.{◌≡◌, ℕ, pos, negsuc, ◌+◌, ◌<◌, ◌≤◌, false, List, [], length, Option, Some, None}
use Rattle.gr_base.specs.declared.names.ChName.{ChName}
use Rattle.gr_base.specs.declared.values.Value.{Value}
use Rattle.gr_base.specs.declared.values.Value.TheVariants as values
use Rattle.gr_base.specs.declared.kinds.Fault.{Fault}
use Rattle.gr_base.specs.declared.kinds.Fault.TheVariants.{BadSize, NameDepth, NameCount}
use Rattle.gr_base.specs.declared.kinds.Kind.TheVariants as kinds
use Rattle.gr_channels.specs.Channels.{Content}
use Rattle.gr_rules.specs.Outcomes.{gives, wrong}
use Rattle.gr_rules.specs.Limits.{most_places, most_counts, greatest_count}
use Rattle.gr_rules.specs.Frames.{Frame, goes_on}
use Rattle.gr_rules.specs.Deeds.{resumed}
use Rattle.gr_rules.specs.Goroutines.{started}
use Rattle.gr_rules.specs.States.{faulted, call_of}
use Rattle.gr_rules.specs.Attempts.{Attempt, Operation, takes_len_of, takes_cap_of}
use Rattle.gr_rules.specs.Actors.{Actor, with_frames, onward}
use Rattle.gr_rules.specs.Steps.{child, go, new_channel, make, take_len, take_cap}
use Rattle.gr_code.specs.CodeFrames.{CodeFrame}
use Rattle.gr_refine.specs.Contents.{Contents, goroutine_of, with_goroutine, with_channel}
use Rattle.gr_code.specs.Goroutines.{CodeGoroutine}
use Rattle.gr_refine.specs.Presence.{Sound}
use Rattle.gr_refine.specs.Performing.{reported, StepsTo}

-- a channel that was made and not used
abbrev pub made : ℕ → Content
made n = record { capacity = n; closed = false; senders = []; receivers = []; head = 0; items = [] }

-- a fault stops the program
abbrev pub faults_in : Contents → Actor → CodeGoroutine → Fault → Contents
faults_in s a g e = record (with_goroutine s a.name (Some g)) { run = faulted e }

module _ (frame : CodeFrame → Frame) (s : Contents) (a : Actor) where
  -- a channel is made, whose name is new
  abbrev pub MakingMakes : Type 0
  MakingMakes = (n : ℕ) (on : Frame) (g : CodeGoroutine) → n < most_places + 1 → a.before.channels < greatest_count → s.channels (new_channel a) ≡ None
      → resumed a.frame (values.Chan (Some (new_channel a))) ≡ gives on → goroutine_of frame g ≡ record (onward a on) { channels = a.before.channels + 1 }
      → StepsTo frame (make a (pos n)) s (with_channel (with_goroutine s a.name (Some g)) (new_channel a) (Some (made n))) (reported a None None kinds.Make)

  -- a size that is negative or too great, and one channel too many
  abbrev pub MakingOfNegativeFaults : Type 0
  MakingOfNegativeFaults = (n : ℕ) (g : CodeGoroutine) → goroutine_of frame g ≡ with_frames a a.before.frames
      → StepsTo frame (make a (negsuc n)) s (faults_in s a g BadSize) (reported a None None (kinds.Fault BadSize))

  abbrev pub MakingOfGreatFaults : Type 0
  MakingOfGreatFaults = (n : ℕ) (g : CodeGoroutine) → most_places + 1 ≤ n → goroutine_of frame g ≡ with_frames a a.before.frames
      → StepsTo frame (make a (pos n)) s (faults_in s a g BadSize) (reported a None None (kinds.Fault BadSize))

  abbrev pub MakingTooManyFaults : Type 0
  MakingTooManyFaults = (n : ℕ) (g : CodeGoroutine) → n < most_places + 1 → greatest_count ≤ a.before.channels
      → goroutine_of frame g ≡ with_frames a a.before.frames
      → StepsTo frame (make a (pos n)) s (faults_in s a g NameCount) (reported a None None (kinds.Fault NameCount))

  abbrev pub MakingGoesOn : Type 0
  MakingGoesOn = (n : ℕ) → Sound frame s (make a (pos n)) → n < most_places + 1 → a.before.channels < greatest_count
      → ¬ (resumed a.frame (values.Chan (Some (new_channel a))) ≡ wrong)

  -- a goroutine starts, whose name is new
  abbrev pub StartingStarts : Type 0
  StartingStarts = (function : ℕ) (vs : List Value) (first : Frame) (g p : CodeGoroutine)
      → length a.name < most_counts → a.before.children < greatest_count → s.goroutines (child a) ≡ None → call_of a.program function vs ≡ gives first
      → goroutine_of frame g ≡ record (onward a (goes_on a.frame)) { children = a.before.children + 1 } → goroutine_of frame p ≡ started first
      → StepsTo frame (go a function vs) s (with_goroutine (with_goroutine s a.name (Some g)) (child a) (Some p)) (reported a None None kinds.Go)

  -- a name that is too long, and one goroutine too many
  abbrev pub StartingTooDeepFaults : Type 0
  StartingTooDeepFaults = (function : ℕ) (vs : List Value) (g : CodeGoroutine) → most_counts ≤ length a.name
      → goroutine_of frame g ≡ with_frames a a.before.frames
      → StepsTo frame (go a function vs) s (faults_in s a g NameDepth) (reported a None None (kinds.Fault NameDepth))

  abbrev pub StartingTooManyFaults : Type 0
  StartingTooManyFaults = (function : ℕ) (vs : List Value) (g : CodeGoroutine) → length a.name < most_counts → greatest_count ≤ a.before.children
      → goroutine_of frame g ≡ with_frames a a.before.frames
      → StepsTo frame (go a function vs) s (faults_in s a g NameCount) (reported a None None (kinds.Fault NameCount))

  abbrev pub StartingIsNew : Type 0
  StartingIsNew = (function : ℕ) (vs : List Value) → Sound frame s (go a function vs) → length a.name < most_counts → a.before.children < greatest_count
      → (s.goroutines (child a) ≡ None) × (¬ (call_of a.program function vs ≡ wrong))

  -- a count that comes to this number
  abbrev pub Counts : Attempt → Option Operation → ℕ → Type 0
  Counts attempt operation n = (on : Frame) (g : CodeGoroutine) → resumed a.frame (values.Int (pos n)) ≡ gives on → goroutine_of frame g ≡ onward a on
      → StepsTo frame attempt s (with_goroutine s a.name (Some g)) (reported a None operation kinds.Length)

  -- `len` and `cap` of a channel and of nil: how many items, and how many places
  abbrev pub CountingItems : Type 0
  CountingItems = (c : ChName) (x : Content) → s.channels c ≡ Some x → Counts (take_len a (Some c)) (Some (takes_len_of c)) (length x.items)

  abbrev pub CountingPlaces : Type 0
  CountingPlaces = (c : ChName) (x : Content) → s.channels c ≡ Some x → Counts (take_cap a (Some c)) (Some (takes_cap_of c)) x.capacity

  abbrev pub CountingItemsOfNil : Type 0
  CountingItemsOfNil = Counts (take_len a None) None 0

  abbrev pub CountingPlacesOfNil : Type 0
  CountingPlacesOfNil = Counts (take_cap a None) None 0

  -- where that is not refused as unsound, the channel is there, and the count is resumed with
  abbrev pub CountingItemsGoesOn : Type 0
  CountingItemsGoesOn = (c : ChName) → Sound frame s (take_len a (Some c))
      → (x : Content) × (s.channels c ≡ Some x) × (¬ (resumed a.frame (values.Int (pos (length x.items))) ≡ wrong))

  abbrev pub CountingPlacesGoesOn : Type 0
  CountingPlacesGoesOn = (c : ChName) → Sound frame s (take_cap a (Some c))
      → (x : Content) × (s.channels c ≡ Some x) × (¬ (resumed a.frame (values.Int (pos x.capacity)) ≡ wrong))

-- P holds of each goroutine, in each state
abbrev pub OfEachActor : ((CodeFrame → Frame) → Contents → Actor → Type 0) → Type 0
OfEachActor P = (frame : CodeFrame → Frame) (s : Contents) (a : Actor) → P frame s a
