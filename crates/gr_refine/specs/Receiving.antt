-- The steps of a receive, by what the store contains (Go: Receive operator, Channel types).
use Rattle.std.specs.Prelude.{◌≡◌, ℕ, ◌+◌, true, false, List, [], ◌∷◌, length, Option, Some, None}
use Rattle.gr_base.specs.declared.names.ChName.{ChName}
use Rattle.gr_base.specs.declared.values.Value.{Value}
use Rattle.gr_base.specs.declared.kinds.Kind.TheVariants.{Meet, Take, Closed}
use Rattle.gr_channels.specs.declared.waiter.Waiter.{Waiter}
use Rattle.gr_channels.specs.Channels.{Content, IsChannel}
use Rattle.gr_rules.specs.Outcomes.{gives, wrong}
use Rattle.gr_rules.specs.Frames.{Frame}
use Rattle.gr_rules.specs.Deeds.{past}
use Rattle.gr_rules.specs.Attempts.{Attempt, receives_from}
use Rattle.gr_rules.specs.Actors.{Actor, onward}
use Rattle.gr_rules.specs.Communications.{receive}
use Rattle.gr_code.specs.CodeFrames.{CodeFrame}
use Rattle.gr_refine.specs.Contents.{Contents, goroutine_of, with_goroutine, with_channel}
use Rattle.gr_code.specs.Goroutines.{CodeGoroutine}
use Rattle.gr_refine.specs.Looks.{Ends}
use Rattle.gr_refine.specs.Partners.{Meets}
use Rattle.gr_refine.specs.Presence.{Sound}
use Rattle.gr_refine.specs.Performing.{reported, StepsTo}
use Rattle.gr_refine.specs.Meetings.{thinned, moved_up, met_in}

module _ (frame : CodeFrame → Frame) (s : Contents) (a : Actor) (clause : Option ℕ) (c : ChName) (x : Content) (initial : Value) (otherwise : Attempt) where
  -- the front item is taken, and nobody waits to send
  abbrev pub ReceivingTakes : Type 0
  ReceivingTakes = (v : Value) (rest : List Value) (on : Frame) (g : CodeGoroutine)
      → s.channels c ≡ Some x → IsChannel x → x.items ≡ v ∷ rest → x.senders ≡ []
      → past a.frame clause (Some (v, true)) ≡ gives on → goroutine_of frame g ≡ onward a on
      → StepsTo frame (receive a clause c initial otherwise) s
      (with_channel (with_goroutine s a.name (Some g)) c (Some (record x { head = x.head + 1; items = rest })))
      (reported a clause (Some (receives_from c)) Take)

  -- the front item is taken, and the value of the first waiting sender enters the full buffer
  abbrev pub ReceivingMoves : Type 0
  ReceivingMoves = (v : Value) (rest : List Value) (w : Waiter Value) (ws : List (Waiter Value)) (m : Meets frame s c w.go w.case None) (on : Frame)
      (g p : CodeGoroutine)
      → s.channels c ≡ Some x → IsChannel x → x.items ≡ v ∷ rest → x.senders ≡ w ∷ ws → length x.items ≡ x.capacity
      → past a.frame clause (Some (v, true)) ≡ gives on → goroutine_of frame g ≡ onward a on → goroutine_of frame p ≡ m.partner
      → StepsTo frame (receive a clause c initial otherwise) s
      (met_in (with_goroutine s a.name (Some g)) c (moved_up (thinned w.go x) rest w.value) w.go p m.waits) (reported a clause (Some (receives_from c)) Take)

  -- with no item, the first waiting sender gives its value
  abbrev pub ReceivingMeets : Type 0
  ReceivingMeets = (w : Waiter Value) (ws : List (Waiter Value)) (m : Meets frame s c w.go w.case None) (on : Frame) (g p : CodeGoroutine)
      → s.channels c ≡ Some x → IsChannel x → x.items ≡ [] → x.senders ≡ w ∷ ws
      → past a.frame clause (Some (w.value, true)) ≡ gives on → goroutine_of frame g ≡ onward a on → goroutine_of frame p ≡ m.partner
      → StepsTo frame (receive a clause c initial otherwise) s
      (met_in (with_goroutine s a.name (Some g)) c (thinned w.go x) w.go p m.waits) (reported a clause (Some (receives_from c)) Meet)

  -- a closed channel that is empty gives the zero value
  abbrev pub ReceivingEnds : Type 0
  ReceivingEnds = (on : Frame) (g : CodeGoroutine)
      → s.channels c ≡ Some x → IsChannel x → x.items ≡ [] → x.senders ≡ [] → x.closed ≡ true
      → past a.frame clause (Some (initial, false)) ≡ gives on → goroutine_of frame g ≡ onward a on
      → StepsTo frame (receive a clause c initial otherwise) s (with_goroutine s a.name (Some g)) (reported a clause (Some (receives_from c)) Closed)

  -- it cannot proceed
  abbrev pub ReceivingCannot : Type 0
  ReceivingCannot = s.channels c ≡ Some x → IsChannel x → x.items ≡ [] → x.senders ≡ [] → x.closed ≡ false
      → Ends frame s (receive a clause c initial otherwise) otherwise

  -- where it is not refused as unsound, a sender that waits can be met, and the statement is past
  abbrev pub ReceivingFindsMover : Type 0
  ReceivingFindsMover = (v : Value) (rest : List Value) (w : Waiter Value) (ws : List (Waiter Value)) → Sound frame s (receive a clause c initial otherwise)
      → s.channels c ≡ Some x → IsChannel x → x.items ≡ v ∷ rest → x.senders ≡ w ∷ ws
      → Meets frame s c w.go w.case None × (¬ (past a.frame clause (Some (v, true)) ≡ wrong))

  abbrev pub ReceivingFindsSender : Type 0
  ReceivingFindsSender = (w : Waiter Value) (ws : List (Waiter Value)) → Sound frame s (receive a clause c initial otherwise)
      → s.channels c ≡ Some x → IsChannel x → x.items ≡ [] → x.senders ≡ w ∷ ws
      → Meets frame s c w.go w.case None × (¬ (past a.frame clause (Some (w.value, true)) ≡ wrong))

  abbrev pub ReceivingGoesOn : Type 0
  ReceivingGoesOn = (v : Value) (rest : List Value) → Sound frame s (receive a clause c initial otherwise)
      → s.channels c ≡ Some x → IsChannel x → x.items ≡ v ∷ rest → x.senders ≡ [] → ¬ (past a.frame clause (Some (v, true)) ≡ wrong)

  abbrev pub ReceivingEndsWell : Type 0
  ReceivingEndsWell = Sound frame s (receive a clause c initial otherwise)
      → s.channels c ≡ Some x → IsChannel x → x.items ≡ [] → x.senders ≡ [] → x.closed ≡ true → ¬ (past a.frame clause (Some (initial, false)) ≡ wrong)

-- P holds of each receive, in each state
abbrev pub OfEachReceive : ((CodeFrame → Frame) → Contents → Actor → Option ℕ → ChName → Content → Value → Attempt → Type 0) → Type 0
OfEachReceive P = (frame : CodeFrame → Frame) (s : Contents) (a : Actor) (clause : Option ℕ) (c : ChName) (x : Content) (initial : Value)
    (otherwise : Attempt)
    → P frame s a clause c x initial otherwise
