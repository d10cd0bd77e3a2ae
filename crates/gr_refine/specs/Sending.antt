-- The steps of a send, by what the store contains (Go: Send statements).
use Rattle.std.specs.Prelude.{◌≡◌, ℕ, ◌<◌, ◌≤◌, true, false, List, [], ◌∷◌, ◌++◌, length, Option, Some, None}
use Rattle.gr_base.specs.declared.names.ChName.{ChName}
use Rattle.gr_base.specs.declared.values.Value.{Value}
use Rattle.gr_base.specs.declared.kinds.Fault.TheVariants.{SendOnClosed}
use Rattle.gr_base.specs.declared.kinds.Kind.TheVariants.{Hand, Buffer, Fault}
use Rattle.gr_channels.specs.declared.waiter.Waiter.{Waiter}
use Rattle.gr_channels.specs.Channels.{Content, IsChannel}
use Rattle.gr_rules.specs.Outcomes.{gives, wrong}
use Rattle.gr_rules.specs.Frames.{Frame}
use Rattle.gr_rules.specs.Deeds.{past}
use Rattle.gr_rules.specs.States.{faulted}
use Rattle.gr_rules.specs.Attempts.{Attempt, sends_on}
use Rattle.gr_rules.specs.Actors.{Actor, with_frames, onward}
use Rattle.gr_rules.specs.Communications.{send}
use Rattle.gr_code.specs.CodeFrames.{CodeFrame}
use Rattle.gr_refine.specs.Contents.{Contents, goroutine_of, with_goroutine, with_channel}
use Rattle.gr_code.specs.Goroutines.{CodeGoroutine}
use Rattle.gr_refine.specs.Looks.{Ends}
use Rattle.gr_refine.specs.Partners.{Meets}
use Rattle.gr_refine.specs.Presence.{Sound}
use Rattle.gr_refine.specs.Performing.{reported, StepsTo}
use Rattle.gr_refine.specs.Meetings.{thinned, met_in}

module _ (frame : CodeFrame → Frame) (s : Contents) (a : Actor) (clause : Option ℕ) (c : ChName) (x : Content) (v : Value) (otherwise : Attempt) where
  -- on a closed channel it is a fault
  abbrev pub SendingFaults : Type 0
  SendingFaults = (g : CodeGoroutine) → s.channels c ≡ Some x → x.closed ≡ true → goroutine_of frame g ≡ with_frames a a.before.frames
      → StepsTo frame (send a clause c v otherwise) s (record (with_goroutine s a.name (Some g)) { run = faulted SendOnClosed })
      (reported a None (Some (sends_on c)) (Fault SendOnClosed))

  -- the first waiting receiver gets the value
  abbrev pub SendingHands : Type 0
  SendingHands = (w : Waiter (Unit {0})) (ws : List (Waiter (Unit {0}))) (m : Meets frame s c w.go w.case (Some (v, true))) (on : Frame) (g p : CodeGoroutine)
      → s.channels c ≡ Some x → x.closed ≡ false → x.receivers ≡ w ∷ ws
      → past a.frame clause None ≡ gives on → goroutine_of frame g ≡ onward a on → goroutine_of frame p ≡ m.partner
      → StepsTo frame (send a clause c v otherwise) s (met_in (with_goroutine s a.name (Some g)) c (thinned w.go x) w.go p m.waits)
      (reported a clause (Some (sends_on c)) Hand)

  -- it enters the buffer
  abbrev pub SendingBuffers : Type 0
  SendingBuffers = (on : Frame) (g : CodeGoroutine)
      → s.channels c ≡ Some x → IsChannel x → x.closed ≡ false → x.receivers ≡ [] → length x.items < x.capacity
      → past a.frame clause None ≡ gives on → goroutine_of frame g ≡ onward a on
      → StepsTo frame (send a clause c v otherwise) s (with_channel (with_goroutine s a.name (Some g)) c (Some (record x { items = x.items ++ v ∷ [] })))
      (reported a clause (Some (sends_on c)) Buffer)

  -- it cannot proceed
  abbrev pub SendingCannot : Type 0
  SendingCannot = s.channels c ≡ Some x → IsChannel x → x.closed ≡ false → x.receivers ≡ [] → x.capacity ≤ length x.items
      → Ends frame s (send a clause c v otherwise) otherwise

  -- where it is not refused as unsound, a receiver that waits can be met, and the statement is past
  abbrev pub SendingMeets : Type 0
  SendingMeets = (w : Waiter (Unit {0})) (ws : List (Waiter (Unit {0}))) → Sound frame s (send a clause c v otherwise)
      → s.channels c ≡ Some x → x.closed ≡ false → x.receivers ≡ w ∷ ws
      → Meets frame s c w.go w.case (Some (v, true)) × (¬ (past a.frame clause None ≡ wrong))

  abbrev pub SendingGoesOn : Type 0
  SendingGoesOn = Sound frame s (send a clause c v otherwise) → s.channels c ≡ Some x → IsChannel x → x.closed ≡ false → x.receivers ≡ []
      → length x.items < x.capacity → ¬ (past a.frame clause None ≡ wrong)

-- P holds of each send, in each state
abbrev pub OfEachSend : ((CodeFrame → Frame) → Contents → Actor → Option ℕ → ChName → Content → Value → Attempt → Type 0) → Type 0
OfEachSend P = (frame : CodeFrame → Frame) (s : Contents) (a : Actor) (clause : Option ℕ) (c : ChName) (x : Content) (v : Value) (otherwise : Attempt)
    → P frame s a clause c x v otherwise
