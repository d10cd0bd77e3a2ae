-- The steps of a close, by what the store contains (Go: Close).
use Rattle.std.specs.Prelude.{◌≡◌, fold, ℕ, true, false, List, [], ◌∷◌, ◌++◌, map, Some, None, option_map}
use Rattle.std.specs.List.{list_any, list_all}
use Rattle.gr_base.specs.declared.names.ChName.{ChName}
use Rattle.gr_base.specs.declared.kinds.Fault.TheVariants.{CloseOfClosed, CloseOfNil}
use Rattle.gr_base.specs.declared.kinds.Kind.TheVariants.{Close, Fault}
use Rattle.gr_channels.specs.Channels.{Content}
use Rattle.gr_rules.specs.Frames.{Frame, goes_on}
use Rattle.gr_rules.specs.States.{faulted, same_go}
use Rattle.gr_rules.specs.Attempts.{closes}
use Rattle.gr_rules.specs.Actors.{Actor, with_frames, onward, channels_but}
use Rattle.gr_rules.specs.Communications.{once, close}
use Rattle.gr_code.specs.CodeFrames.{CodeFrame}
use Rattle.gr_refine.specs.Contents.{Contents, goroutine_of, with_goroutine}
use Rattle.gr_code.specs.Goroutines.{CodeGoroutine}
use Rattle.gr_refine.specs.Gates.{with_gates, withdrawing}
use Rattle.gr_refine.specs.Partners.{all_made, is_waiting}
use Rattle.gr_refine.specs.Presence.{Sound}
use Rattle.gr_refine.specs.Performing.{reported, StepsTo}
use Rattle.gr_refine.specs.Meetings.{woken, with_woken, all_waits_in, closed_in}

-- who waits on a channel, each once
abbrev pub waiting_on : Content → List (List ℕ)
waiting_on x = once (map (λ w. w.go) x.senders ++ map (λ w. w.go) x.receivers)

-- a closed channel with nobody in its queues
abbrev pub shut : Content → Content
shut x = record x { closed = true; senders = []; receivers = [] }

-- of nil, and of a closed channel, it is a fault
abbrev pub ClosingOfNilFaults : Type 0
ClosingOfNilFaults = (frame : CodeFrame → Frame) (s : Contents) (a : Actor) (g : CodeGoroutine) → goroutine_of frame g ≡ with_frames a a.before.frames
    → StepsTo frame (close a None) s (record (with_goroutine s a.name (Some g)) { run = faulted CloseOfNil }) (reported a None None (Fault CloseOfNil))

abbrev pub ClosingOfClosedFaults : Type 0
ClosingOfClosedFaults = (frame : CodeFrame → Frame) (s : Contents) (a : Actor) (c : ChName) (x : Content) (g : CodeGoroutine)
    → s.channels c ≡ Some x → x.closed ≡ true → goroutine_of frame g ≡ with_frames a a.before.frames
    → StepsTo frame (close a (Some c)) s (record (with_goroutine s a.name (Some g)) { run = faulted CloseOfClosed })
    (reported a None (Some (closes c)) (Fault CloseOfClosed))

-- all that wait on it are ready again
abbrev pub ClosingWakes : Type 0
ClosingWakes = (frame : CodeFrame → Frame) (s : Contents) (a : Actor) (c : ChName) (x : Content) (g : CodeGoroutine)
    → s.channels c ≡ Some x → x.closed ≡ false → is_waiting (s.goroutines a.name) ≡ false
    → list_all (λ n. is_waiting (s.goroutines n)) (waiting_on x) ≡ true → all_made s (channels_but (c ∷ []) (all_waits_in s (waiting_on x))) ≡ true
    → goroutine_of frame g ≡ onward a (goes_on a.frame)
    → StepsTo frame (close a (Some c)) s (with_goroutine (closed_in s c (shut x) (waiting_on x)) a.name (Some g)) (reported a None (Some (closes c)) Close)

-- where it is not refused as unsound, they wait, and their channels are there
abbrev pub ClosingFindsWaiters : Type 0
ClosingFindsWaiters = (frame : CodeFrame → Frame) (s : Contents) (a : Actor) (c : ChName) (x : Content)
    → s.channels c ≡ Some x → x.closed ≡ false → Sound frame s (close a (Some c))
    → (list_all (λ n. is_waiting (s.goroutines n)) (waiting_on x) ≡ true) × (all_made s (channels_but (c ∷ []) (all_waits_in s (waiting_on x))) ≡ true)

-- goroutines that are woken one after the other, and withdrawn one after the other, are so at once
abbrev pub WakingInTurn : Type 0
WakingInTurn = (s : Contents) (names : List (List ℕ)) → fold (λ t n. with_goroutine t n (option_map woken (t.goroutines n))) s names ≡ with_woken s names

abbrev pub WithdrawingInTurn : Type 0
WithdrawingInTurn = (s : Contents) (names : List (List ℕ)) (cs : List ChName)
    → fold (λ t n. with_gates (withdrawing (n ∷ [])) t cs) s names ≡ with_gates (withdrawing names) s cs

-- which goroutines are withdrawn or woken matters, and not how often or in which order they are named
abbrev pub SameNames : List (List ℕ) → List (List ℕ) → Type 0
SameNames ms ns = (n : List ℕ) → list_any (same_go n) ms ≡ list_any (same_go n) ns

abbrev pub OnceNamesTheSame : Type 0
OnceNamesTheSame = (ns : List (List ℕ)) → SameNames (once ns) ns

abbrev pub SameNamesAreWoken : Type 0
SameNamesAreWoken = (s : Contents) (ms ns : List (List ℕ)) → SameNames ms ns → with_woken s ms ≡ with_woken s ns

abbrev pub SameNamesAreWithdrawn : Type 0
SameNamesAreWithdrawn = (s : Contents) (ms ns : List (List ℕ)) (cs : List ChName) → SameNames ms ns
    → with_gates (withdrawing ms) s cs ≡ with_gates (withdrawing ns) s cs
