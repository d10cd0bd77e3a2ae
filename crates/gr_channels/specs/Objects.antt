-- The objects that a channel's content is made of, so that it can be spoken of one by one: its gate, its tail, its head,
-- and the slots of its buffer.
use Rattle.std.specs.Prelude.{◌≡◌, ◌↔◌, ℕ, ◌+◌, ◌-◌, ◌%◌, ◌<◌, ◌≤◌, ◌==◌, Bool, true, false, ◌&&◌, ◌||◌, if◌then◌else◌, List, [], ◌∷◌, length, slice_get, Option, Some, None}
use Rattle.gr_base.specs.declared.values.Value.{Value}
use Rattle.gr_channels.specs.declared.waiter.Waiter.{Waiter}
use Rattle.gr_channels.specs.declared.changes.ChanUndo.{ChanUndo}
use Rattle.gr_channels.specs.declared.changes.ChanUndo.TheVariants.{Handed, Buffered, Took, Moved, Met, ParkedSender, ParkedReceiver, Withdrawn, Closed}
use Rattle.gr_channels.specs.Channels.{Content, IsChannel, tail_of}
use Rattle.gr_channels.specs.Changes.{undone, Fits}

-- a gate's content: the capacity, whether the channel is closed, and who waits
pub record GateContent : Type 0 where
  pub capacity : ℕ
  pub closed : Bool
  pub senders : List (Waiter Value)
  pub receivers : List (Waiter (Unit {0}))

-- the gate of a channel
abbrev pub gate_of : Content → GateContent
gate_of c = record { capacity = c.capacity; closed = c.closed; senders = c.senders; receivers = c.receivers }

-- how many values have left the buffer
abbrev pub head_of : Content → ℕ
head_of c = c.head

-- the first of the items, numbered from here on, that belongs into slot i: number k belongs into slot k mod capacity
abbrev pub slot_from : {X : Type 0} → ℕ → ℕ → ℕ → List X → Option (ℕ × X)
slot_from capacity i number [] = None
slot_from capacity i number (v ∷ vs) = if number % capacity == i then Some (number, v) else slot_from capacity i (number + 1) vs

-- what slot i holds: an item and its number, or nothing
abbrev pub slot_of : Content → ℕ → Option (ℕ × Value)
slot_of c i = slot_from c.capacity i c.head c.items

-- an object of a channel
pub data Part : Type 0 where
  Gate : Part
  Tail : Part
  Head : Part
  Slot : (i : ℕ) → Part

-- both contents have the same in this object
abbrev pub SameAt : Part → Content → Content → Type 0
SameAt Gate a b = gate_of a ≡ gate_of b
SameAt Tail a b = tail_of a ≡ tail_of b
SameAt Head a b = head_of a ≡ head_of b
SameAt (Slot i) a b = slot_of a i ≡ slot_of b i

abbrev pub is_gate : Part → Bool
is_gate Gate = true
is_gate Tail = false
is_gate Head = false
is_gate (Slot i) = false

abbrev pub is_tail : Part → Bool
is_tail Gate = false
is_tail Tail = true
is_tail Head = false
is_tail (Slot i) = false

abbrev pub is_head : Part → Bool
is_head Gate = false
is_head Tail = false
is_head Head = true
is_head (Slot i) = false

abbrev pub is_slot : ℕ → Part → Bool
is_slot k Gate = false
is_slot k Tail = false
is_slot k Head = false
is_slot k (Slot i) = k == i

-- whether the list has an element
abbrev pub has_any : {X : Type 0} → List X → Bool
has_any [] = false
has_any (x ∷ xs) = true

-- the slot of the number that enters next, and that of the number that leaves next
abbrev pub tail_slot : Content → ℕ
tail_slot c = tail_of c % c.capacity

abbrev pub head_slot : Content → ℕ
head_slot c = c.head % c.capacity

-- whether the change from this content wrote the object
abbrev pub is_written : ChanUndo → Content → Part → Bool
is_written (Handed w) a p = is_gate p
is_written Buffered a p = is_tail p || is_slot (tail_slot a) p
is_written (Took v) a p = is_head p || is_slot (head_slot a) p
is_written (Moved item go case) a p = is_gate p || is_tail p || is_head p || is_slot (head_slot a) p || is_slot (tail_slot a) p
is_written (Met w) a p = is_gate p
is_written ParkedSender a p = is_gate p
is_written ParkedReceiver a p = is_gate p
is_written (Withdrawn s r) a p = is_gate p && (has_any s.items || has_any r.items)
is_written (Closed s r) a p = is_gate p

-- u is what undoes the change from a to b
pub record Changes (u : ChanUndo) (a b : Content) : Type 0 where
  pub valid : IsChannel b
  pub back : undone u b ≡ a
  pub fits : Fits u b

-- the change from a is taken back from c: it can be, what it wrote is as in a, and all else as in c
pub record TakesBack (u : ChanUndo) (a c : Content) : Type 0 where
  pub fits : Fits u c
  pub valid : IsChannel (undone u c)
  pub written : (p : Part) → is_written u a p ≡ true → SameAt p (undone u c) a
  pub kept : (p : Part) → is_written u a p ≡ false → SameAt p (undone u c) c

-- a slot holds a number and a value exactly where the number is one of the items, has this value, and the slot is its own
abbrev pub SlotsHoldItems : Type 0
SlotsHoldItems =
    (c : Content) (i k : ℕ) (v : Value) → IsChannel c → (slot_of c i ≡ Some (k, v)) ↔ ((c.head ≤ k) × (slice_get c.items (k - c.head) ≡ Some v) × (k % c.capacity ≡ i))

-- two contents with the same gate, tail, head and slots are one
abbrev pub ObjectsMakeTheContent : Type 0
ObjectsMakeTheContent =
    (a b : Content) → IsChannel a → IsChannel b → gate_of a ≡ gate_of b → tail_of a ≡ tail_of b → head_of a ≡ head_of b → ((i : ℕ) → i < a.capacity → slot_of a i ≡ slot_of b i) → a ≡ b

-- there is room exactly where the slot of the next number is empty
abbrev pub EmptySlotMeansRoom : Type 0
EmptySlotMeansRoom = (c : Content) → IsChannel c → 0 < c.capacity → (slot_of c (tail_slot c) ≡ None) ↔ (length c.items < c.capacity)

-- the buffer is empty exactly where the slot of the front item's number is
abbrev pub EmptySlotMeansNoItem : Type 0
EmptySlotMeansNoItem = (c : Content) → IsChannel c → (slot_of c (head_slot c) ≡ None) ↔ (c.items ≡ [])

-- a change keeps what it did not write
abbrev pub OnlyWrittenChanges : Type 0
OnlyWrittenChanges = (u : ChanUndo) (a b : Content) → Changes u a b → (p : Part) → is_written u a p ≡ false → SameAt p a b

-- what it wrote it changed
abbrev pub WrittenChanges : Type 0
WrittenChanges = (u : ChanUndo) (a b : Content) → Changes u a b → (p : Part) → is_written u a p ≡ true → ¬ SameAt p a b

-- a change can be taken back from any later content of the channel in which what it wrote stands as it left it
abbrev pub TakenBackAnywhere : Type 0
TakenBackAnywhere =
    (u : ChanUndo) (a b c : Content) → Changes u a b → IsChannel c → c.capacity ≡ b.capacity → ((p : Part) → is_written u a p ≡ true → SameAt p c b) → TakesBack u a c
