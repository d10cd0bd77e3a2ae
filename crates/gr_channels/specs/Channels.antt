-- A channel as a value: its content, and how much more it holds with no memory.
use Rattle.std.specs.Prelude.{ℕ, ◌+◌, ◌<◌, ◌≤◌, ◌^◌, Bool, List, length}
use Rattle.gr_base.specs.declared.values.Value.{Value}
use Rattle.gr_channels.specs.declared.waiter.Waiter.{Waiter}

-- A channel's content (Go specification, "Channel types"): its capacity, whether it is closed, and who waits to send and to
-- receive, in the order of arrival. Beside these, how many values have left the buffer, and the items in it, the front one
-- first.
pub record Content : Type 0 where
  pub capacity : ℕ
  pub closed : Bool
  pub senders : List (Waiter Value)
  pub receivers : List (Waiter (Unit {0}))
  pub head : ℕ
  pub items : List Value

-- how many values have entered the buffer
abbrev pub tail_of : Content → ℕ
tail_of c = c.head + length c.items

-- the buffer holds at most as many items as its capacity, and the values that entered it are counted in 64 bits
pub record IsChannel (c : Content) : Type 0 where
  pub within : length c.items ≤ c.capacity
  pub counted : tail_of c < 2 ^ 64

-- one more value may enter: the count of those that entered is below the greatest of 64 bits
abbrev pub CanEnter : Content → Type 0
CanEnter c = tail_of c + 1 < 2 ^ 64

-- how many more items and waiters fit with no memory
pub record Room : Type 0 where
  pub items : ℕ
  pub senders : ℕ
  pub receivers : ℕ

-- what a contract sees of a channel
pub record Seen : Type 0 where
  pub content : Content
  pub room : Room

-- each room of the first is within that of the second
pub record Within (a b : Room) : Type 0 where
  pub items : a.items ≤ b.items
  pub senders : a.senders ≤ b.senders
  pub receivers : a.receivers ≤ b.receivers

-- both rooms together
abbrev pub plus : Room → Room → Room
plus a b = record { items = a.items + b.items; senders = a.senders + b.senders; receivers = a.receivers + b.receivers }

-- this much room in each of the three
abbrev pub each : ℕ → Room
each n = record { items = n; senders = n; receivers = n }
