-- When a receive and a send on one channel conflict: the two ends of a buffer are separate objects. A send that faults conflicts
-- with every step.
use Rattle.std.specs.Prelude.{◌≡◌, ℕ, true, List, [], Some}
use Rattle.gr_base.specs.declared.names.ChName.{ChName}
use Rattle.gr_base.specs.declared.kinds.Fault.{Fault}
use Rattle.gr_base.specs.declared.kinds.Kind.{Kind}
use Rattle.gr_base.specs.declared.kinds.Kind.TheVariants.{Take, Meet, RecvWait, Hand, SendWait, Fault as Faulted}
use Rattle.gr_base.specs.declared.objects.Object.{Object}
use Rattle.gr_base.specs.declared.objects.Object.TheVariants.{Go}
use Rattle.gr_causal.specs.Sequences.{In}
use Rattle.gr_rules.specs.States.{State}
use Rattle.gr_rules.specs.Attempts.{Report, sends_on, receives_from}
use Rattle.gr_rules.specs.History.{sends, receives}
use Rattle.gr_rules.specs.Touches.{senders_at, slot_at_head, slot_at_tail}

-- the step received from the channel or waits for that, and so for a send; a fault does neither
abbrev pub IsReceive : ChName → Report → Type 0
IsReceive c r = (r.operation ≡ Some (receives_from c)) × (receives r.deed ≡ true)

abbrev pub IsSend : ChName → Report → Type 0
IsSend c r = (r.operation ≡ Some (sends_on c)) × (sends r.deed ≡ true)

-- the step came to a send on the channel, which faults
abbrev pub FaultsAtSend : ChName → Report → Type 0
FaultsAtSend c r = (r.operation ≡ Some (sends_on c)) × ((e : Fault) × (r.deed ≡ Faulted e))

-- What a receive from one state, which took its item, met a sender or waits, and a send from another have in common; with
-- what each wrote.
pub data Shares (c : ChName) (s t : State) (receive send : Kind) (received sent : List Object) : Type 0 where
  -- a goroutine: that of both, or one that a step woke
  one_goroutine : (g : List ℕ) → In (Go g) received → In (Go g) sent → Shares c s t receive send received sent
  -- the slot of the front item is the one that the value enters
  one_slot : (o : Object) → In o (slot_at_head s c) → In o (slot_at_tail t c) → Shares c s t receive send received sent
  -- a waiting sender moves up
  sender_moves : receive ≡ Take → ¬ (senders_at (s.gates c) ≡ []) → Shares c s t receive send received sent
  -- one of them waits
  receiver_waits : receive ≡ RecvWait → Shares c s t receive send received sent
  sender_waits : send ≡ SendWait → Shares c s t receive send received sent
  -- a value goes from hand to hand
  sender_met : receive ≡ Meet → Shares c s t receive send received sent
  receiver_met : send ≡ Hand → Shares c s t receive send received sent
