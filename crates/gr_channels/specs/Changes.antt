-- What each change does to a channel, and what taking it back gives.
use Rattle.std.specs.Prelude.{◌≡◌, ◌+◌, ◌-◌, ◌<◌, ◌≤◌, true, false, List, [], ◌∷◌, ◌++◌, length, take, vec_len, slice_index_or, count_by, ℕ, Option, Some, None}
use Rattle.gr_base.specs.declared.values.Value.{Value}
use Rattle.gr_channels.specs.declared.waiter.Waiter.{Waiter}
use Rattle.gr_channels.specs.declared.changes.ChanUndo.{ChanUndo}
use Rattle.gr_channels.specs.declared.changes.ChanUndo.TheVariants.{Handed, Buffered, Took, Moved, Met, ParkedSender, ParkedReceiver, Withdrawn, Closed}
use Rattle.gr_channels.specs.declared.changes.Offered.{Offered}
use Rattle.gr_channels.specs.declared.changes.Offered.TheVariants as offered
use Rattle.gr_channels.specs.declared.changes.Taken.{Taken}
use Rattle.gr_channels.specs.declared.changes.Taken.TheVariants as taken
use Rattle.gr_base.specs.Values.{IsNamed}
use Rattle.gr_channels.specs.Queues.{is_of, restored, PlacesFit}
use Rattle.gr_channels.specs.Channels.{Content, Room, Seen, Within, plus}

-- without its last element
abbrev pub front : {X : Type 0} → List X → List X
front xs = take (length xs - 1) xs

-- the last element, or d where there is none
abbrev pub last_or : {X : Type 0} → List X → X → X
last_or xs d = slice_index_or xs (length xs - 1) d

-- the content before the change, from the content after it
abbrev pub undone : ChanUndo → Content → Content
undone (Handed w) c = record c { receivers = w ∷ c.receivers }
undone Buffered c = record c { items = front c.items }
undone (Took v) c = record c { head = c.head - 1; items = v ∷ c.items }
undone (Moved item go case) c = record c {
  head = c.head - 1;
  items = item ∷ front c.items;
  senders = record { go = go; case = case; value = last_or c.items item } ∷ c.senders;
}
undone (Met w) c = record c { senders = w ∷ c.senders }
undone ParkedSender c = record c { senders = front c.senders }
undone ParkedReceiver c = record c { receivers = front c.receivers }
undone (Withdrawn s r) c = record c { senders = restored s.items c.senders; receivers = restored r.items c.receivers }
undone (Closed s r) c = record c { closed = false; senders = restored s.items c.senders; receivers = restored r.items c.receivers }

-- what the change wrote stands, as far as taking it back needs: what entered is there, what left has its place
abbrev pub Fits : ChanUndo → Content → Type 0
Fits (Handed w) c = Unit {0}
Fits Buffered c = 0 < length c.items
Fits (Took v) c = (0 < c.head) × (length c.items < c.capacity)
Fits (Moved item go case) c = (0 < c.head) × (0 < length c.items)
Fits (Met w) c = Unit {0}
Fits ParkedSender c = 0 < length c.senders
Fits ParkedReceiver c = 0 < length c.receivers
Fits (Withdrawn s r) c = PlacesFit s.items c.senders × PlacesFit r.items c.receivers
Fits (Closed s r) c = (c.closed ≡ true) × PlacesFit s.items c.senders × PlacesFit r.items c.receivers

-- how much room taking it back needs
abbrev pub need : ChanUndo → Room
need (Handed w) = record { items = 0; senders = 0; receivers = 1 }
need Buffered = record { items = 0; senders = 0; receivers = 0 }
need (Took v) = record { items = 1; senders = 0; receivers = 0 }
need (Moved item go case) = record { items = 0; senders = 1; receivers = 0 }
need (Met w) = record { items = 0; senders = 1; receivers = 0 }
need ParkedSender = record { items = 0; senders = 0; receivers = 0 }
need ParkedReceiver = record { items = 0; senders = 0; receivers = 0 }
need (Withdrawn s r) = record { items = 0; senders = vec_len s; receivers = vec_len r }
need (Closed s r) = record { items = 0; senders = vec_len s; receivers = vec_len r }

-- how much came in with the change, and what came in took no more room than this
abbrev pub entered : ChanUndo → Room
entered (Handed w) = record { items = 0; senders = 0; receivers = 0 }
entered Buffered = record { items = 1; senders = 0; receivers = 0 }
entered (Took v) = record { items = 0; senders = 0; receivers = 0 }
entered (Moved item go case) = record { items = 0; senders = 0; receivers = 0 }
entered (Met w) = record { items = 0; senders = 0; receivers = 0 }
entered ParkedSender = record { items = 0; senders = 1; receivers = 0 }
entered ParkedReceiver = record { items = 0; senders = 0; receivers = 1 }
entered (Withdrawn s r) = record { items = 0; senders = 0; receivers = 0 }
entered (Closed s r) = record { items = 0; senders = 0; receivers = 0 }

-- the change is undone by u; directly after it no memory is needed for that, and what left gave its room back
pub record Undoes (u : ChanUndo) (old new : Seen) : Type 0 where
  pub back : undone u new.content ≡ old.content
  pub fits : Fits u new.content
  pub room : Within (need u) new.room
  pub gains : Within (plus old.room (need u)) (plus new.room (entered u))

-- What sending does (Go specification, "Send statements"). On a closed channel it does nothing. Else the first waiting
-- receiver gets the value. Else it enters the buffer where there is room. Else nothing happens.
abbrev pub OfferRule : Content → Value → Offered → Content → Type 0
OfferRule old v (offered.Closed w) new = (old.closed ≡ true) × (w ≡ v) × (new ≡ old)
OfferRule old v (offered.Handed w u) new =
    (r : Waiter (Unit {0})) × (u ≡ Handed r) × (old.closed ≡ false) × (w ≡ v) × (old.receivers ≡ r ∷ new.receivers) × (new ≡ record old { receivers = new.receivers })
OfferRule old v (offered.Buffered u) new =
    (u ≡ Buffered) × (old.closed ≡ false) × (old.receivers ≡ []) × (length old.items < old.capacity) × (new ≡ record old { items = old.items ++ v ∷ [] })
OfferRule old v (offered.Full w) new =
    (old.closed ≡ false) × (old.receivers ≡ []) × (old.capacity ≤ length old.items) × (w ≡ v) × (new ≡ old)

-- the undo value of the answer undoes the change; where there is none, the room is as it was
abbrev pub OfferUndone : Offered → Seen → Seen → Type 0
OfferUndone (offered.Closed w) old new = new.room ≡ old.room
OfferUndone (offered.Handed w u) old new = Undoes u old new
OfferUndone (offered.Buffered u) old new = Undoes u old new
OfferUndone (offered.Full w) old new = new.room ≡ old.room

-- why an offered value may find no memory: it would enter the buffer, where there is no more room
pub record OfferNeedsMemory (old : Seen) : Type 0 where
  pub not_closed : old.content.closed ≡ false
  pub unmet : old.content.receivers ≡ []
  pub short : length old.content.items < old.content.capacity
  pub no_room : old.room.items ≡ 0

-- What receiving does (Go specification, "Receive operator"). The front item is taken, and the first waiting sender's value
-- moves up. Else the first waiting sender's value is taken. Else nothing is, and the answer tells whether the channel is
-- closed.
abbrev pub TakeRule : Content → Taken → Content → Type 0
TakeRule old (taken.Item v u) new =
    (u ≡ Took v) × (old.items ≡ v ∷ new.items) × (old.senders ≡ []) × (new ≡ record old { head = old.head + 1; items = new.items })
TakeRule old (taken.Moved v u) new =
    (w : Waiter Value) × (rest : List Value) × (u ≡ Moved v w.go w.case) × (old.items ≡ v ∷ rest) × (old.senders ≡ w ∷ new.senders)
    × (new ≡ record old { head = old.head + 1; items = rest ++ w.value ∷ []; senders = new.senders })
TakeRule old (taken.Met v u) new =
    (w : Waiter Value) × (u ≡ Met w) × (w.value ≡ v) × (old.items ≡ []) × (old.senders ≡ w ∷ new.senders) × (new ≡ record old { senders = new.senders })
TakeRule old taken.Closed new = (old.items ≡ []) × (old.senders ≡ []) × (old.closed ≡ true) × (new ≡ old)
TakeRule old taken.Empty new = (old.items ≡ []) × (old.senders ≡ []) × (old.closed ≡ false) × (new ≡ old)

-- the undo value of the answer undoes the change; where there is none, the room is as it was
abbrev pub TakeUndone : Taken → Seen → Seen → Type 0
TakeUndone (taken.Item v u) old new = Undoes u old new
TakeUndone (taken.Moved v u) old new = Undoes u old new
TakeUndone (taken.Met v u) old new = Undoes u old new
TakeUndone taken.Closed old new = new.room ≡ old.room
TakeUndone taken.Empty old new = new.room ≡ old.room

-- the value that is taken next: the front item, or else the first waiting sender's
abbrev pub next_value : List Value → List (Waiter Value) → Option Value
next_value (v ∷ vs) senders = Some v
next_value [] (w ∷ ws) = Some w.value
next_value [] [] = None

-- why taking a value may find no memory: there is one, and it is a channel, whose name is copied
abbrev pub TakeNeedsMemory : Content → Type 0
TakeNeedsMemory c = (v : Value) × (next_value c.items c.senders ≡ Some v) × IsNamed v

-- why withdrawing a goroutine may find no memory: it waits here
abbrev pub WithdrawNeedsMemory : List ℕ → Content → Type 0
WithdrawNeedsMemory name c = 0 < count_by (is_of name) c.senders + count_by (is_of name) c.receivers

-- why closing may find no memory: somebody waits here
abbrev pub CloseNeedsMemory : Content → Type 0
CloseNeedsMemory c = 0 < length c.senders + length c.receivers

-- what left is a goroutine's waiters, taken out by its name
abbrev pub IsWithdrawn : ChanUndo → Type 0
IsWithdrawn (Withdrawn s r) = Unit {0}
IsWithdrawn (Handed w) = ⊥
IsWithdrawn Buffered = ⊥
IsWithdrawn (Took v) = ⊥
IsWithdrawn (Moved item go case) = ⊥
IsWithdrawn (Met w) = ⊥
IsWithdrawn ParkedSender = ⊥
IsWithdrawn ParkedReceiver = ⊥
IsWithdrawn (Closed s r) = ⊥

-- what left is all waiters, as the channel was closed
abbrev pub IsClosed : ChanUndo → Type 0
IsClosed (Closed s r) = Unit {0}
IsClosed (Handed w) = ⊥
IsClosed Buffered = ⊥
IsClosed (Took v) = ⊥
IsClosed (Moved item go case) = ⊥
IsClosed (Met w) = ⊥
IsClosed ParkedSender = ⊥
IsClosed ParkedReceiver = ⊥
IsClosed (Withdrawn s r) = ⊥

-- what taking a change back gives
pub record TookBack (u : ChanUndo) (old new : Seen) : Type 0 where
  pub content : new.content ≡ undone u old.content
  pub spends : Within (plus old.room (entered u)) (plus new.room (need u))

-- A change from a to b is taken back from any c with the content of b and no less room: it fits, and needs no memory. The
-- result has the content of a and no less room. So changes made one after the other are taken back in the reverse order, the
-- last one first.
pub record GoesBack (u : ChanUndo) (a c : Seen) : Type 0 where
  pub fits : Fits u c.content
  pub room : Within (need u) c.room
  pub content : (d : Seen) → TookBack u c d → d.content ≡ a.content
  pub no_less : (d : Seen) → TookBack u c d → Within a.room d.room

abbrev pub TakenBackInOrder : Type 0
TakenBackInOrder = (u : ChanUndo) (a b c : Seen) → Undoes u a b → c.content ≡ b.content → Within b.room c.room → GoesBack u a c
