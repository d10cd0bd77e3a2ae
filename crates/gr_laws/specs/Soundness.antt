-- What holds of every state that a program reaches.
use Rattle.std.specs.Prelude.{◌≡◌, ◌↔◌, ◌⊎◌, ℕ, ◌+◌, ◌%◌, ◌<◌, ◌≤◌, true, List, [], map, Option, Some, None}
use Rattle.gr_base.specs.declared.names.ChName.{ChName}
use Rattle.gr_base.specs.declared.values.Value.{Value}
use Rattle.gr_causal.specs.Sequences.{In, Distinct}
use Rattle.gr_channels.specs.declared.waiter.Waiter.{Waiter}
use Rattle.gr_channels.specs.Objects.{GateContent}
use Rattle.gr_rules.specs.Goroutines.{Wait, ToSend, ToReceive, channel_of, Goroutine}
use Rattle.gr_rules.specs.States.{State}
use Rattle.gr_rules.specs.Touches.{waits_at}

-- The buffer of a channel that was made holds the values that entered and have not left, each in the slot of its number, and
-- nothing else. Senders wait only where it is full, receivers only where it is empty, nobody where the channel is closed.
pub record SoundBuffer (gate : GateContent) (head tail : ℕ) (slots : ℕ → Option (ℕ × Value)) : Type 0 where
  pub ordered : head ≤ tail
  pub within : tail ≤ head + gate.capacity
  pub holds : (i n : ℕ) → ((v : Value) × (slots i ≡ Some (n, v))) ↔ ((head ≤ n) × (n < tail) × (n % gate.capacity ≡ i))
  pub senders : (gate.senders ≡ []) ⊎ (tail ≡ head + gate.capacity)
  pub receivers : (gate.receivers ≡ []) ⊎ (tail ≡ head)
  pub closed : gate.closed ≡ true → (gate.senders ≡ []) × (gate.receivers ≡ [])

-- nothing entered a channel that was not made
pub record EmptyBuffer (head tail : ℕ) (slots : ℕ → Option (ℕ × Value)) : Type 0 where
  pub none_left : head ≡ 0
  pub none_entered : tail ≡ 0
  pub none_held : (i : ℕ) → slots i ≡ None

abbrev pub SoundChannel : Option GateContent → ℕ → ℕ → (ℕ → Option (ℕ × Value)) → Type 0
SoundChannel None head tail slots = EmptyBuffer head tail slots
SoundChannel (Some gate) head tail slots = SoundBuffer gate head tail slots

-- how many channels a goroutine made
abbrev pub made_by : Option Goroutine → ℕ
made_by None = 0
made_by (Some g) = g.channels

-- its channels are sound, and a goroutine has made no channel with a greater number than how many it made
pub record Sound (s : State) : Type 0 where
  pub channels : (c : ChName) → SoundChannel (s.gates c) (s.heads c) (s.tails c) (s.slots c)
  pub named : (c : ChName) → made_by (s.goroutines c.go) < c.n → s.gates c ≡ None

-- the goroutine stands in the queue of the gate for what it waits for
abbrev pub Stands : Option GateContent → List ℕ → Wait → Type 0
Stands None n w = ⊥
Stands (Some gate) n (ToSend c clause) = (x : Waiter Value) × In x gate.senders × (x.go ≡ n) × (x.case ≡ clause)
Stands (Some gate) n (ToReceive c clause) = (x : Waiter (Unit {0})) × In x gate.receivers × (x.go ≡ n) × (x.case ≡ clause)

-- a goroutine stands in the queues of what it waits for, and in no others
abbrev pub SoundWaits : State → Type 0
SoundWaits s = (n : List ℕ) (w : Wait) → In w (waits_at (s.goroutines n)) ↔ Stands (s.gates (channel_of w)) n w

-- a waiter without its value: its goroutine, and the clause for which that waits
abbrev pub entry : {X : Type 0} → Waiter X → List ℕ × Option ℕ
entry w = (w.go, w.case)

-- no goroutine stands twice among the senders of the gate for one clause, nor among its receivers
abbrev pub SoundQueue : Option GateContent → Type 0
SoundQueue None = Unit {0}
SoundQueue (Some gate) = Distinct (map entry gate.senders) × Distinct (map entry gate.receivers)

abbrev pub SoundQueues : State → Type 0
SoundQueues s = (c : ChName) → SoundQueue (s.gates c)
