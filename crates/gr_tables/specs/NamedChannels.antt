-- The channels of a store, by name: what each contains, and what changes of them do and leave for going back.
use Rattle.std.specs.Prelude.{◌≡◌, ◌-◌, ℕ, Bool, not, ◌||◌, true, false, if◌then◌else◌, List, [], ◌∷◌, ◌++◌, Option, Some, None, option_map}
use Rattle.std.specs.List.{list_any}
use Rattle.std.specs.BTreeMap.{get}
use Rattle.gr_base.specs.Names.{ch_cmp}
use Rattle.gr_base.specs.declared.names.ChName.{ChName}
use Rattle.gr_base.specs.declared.values.Value.{Value}
use Rattle.gr_channels.specs.declared.changes.ChanUndo.{ChanUndo}
use Rattle.gr_channels.specs.declared.changes.ChanUndo.TheVariants.{Handed, Buffered, Took, Moved, Met, ParkedSender, ParkedReceiver, Withdrawn, Closed}
use Rattle.gr_channels.specs.declared.changes.Offered.{Offered}
use Rattle.gr_channels.specs.declared.changes.Offered.TheVariants as offered
use Rattle.gr_channels.specs.declared.changes.Taken.{Taken}
use Rattle.gr_channels.specs.declared.changes.Taken.TheVariants as taken
use Rattle.gr_channels.specs.declared.waiter.Waiter.{Waiter}
use Rattle.gr_channels.specs.Queues.{others}
use Rattle.gr_channels.specs.Channels.{Content, Room, Seen, Within, plus, each}
use Rattle.gr_channels.specs.Changes.{undone, need, entered, Fits, OfferRule, TakeRule}
use Rattle.gr_channels.specs.Objects.{has_any}
use Rattle.gr_rules.specs.Operators.{same_channel}
use Rattle.gr_rules.specs.States.{updated}
use Rattle.gr_tables.specs.Back.{back_at, AllFit}
use Rattle.gr_tables.specs.declared.channels.Channels.{Channels}

-- the channel of a name, as it is seen
abbrev pub seen_of : Channels → ChName → Option Seen
seen_of s name = get ch_cmp s.map name

-- the content of the channel of a name
abbrev pub contents_of : Channels → ChName → Option Content
contents_of s name = option_map (λ c. c.content) (seen_of s name)

-- the room of the channel of a name: none where there is no channel
abbrev pub room_or_none : Option Seen → Room
room_or_none None = each 0
room_or_none (Some c) = c.room

abbrev pub rooms_of : Channels → ChName → Room
rooms_of s name = room_or_none (seen_of s name)

-- a channel that was made and not used: open, and empty (Go specification, "Making slices, maps and channels")
abbrev pub fresh : ℕ → Content
fresh capacity = record { capacity = capacity; closed = false; senders = []; receivers = []; head = 0; items = [] }

-- the channel of the name had the content x and has y, and each other channel has its content still
pub record Becomes (name : ChName) (x y : Content) (old new : Channels) : Type 0 where
  pub was : contents_of old name ≡ Some x
  pub is : contents_of new ≡ updated same_channel (contents_of old) name (Some y)

-- the channel of the name is there, and f changed its content, and that of no other channel
abbrev pub ChangesAt : ChName → (Content → Content) → Channels → Channels → Type 0
ChangesAt name f old new = (x : Content) × Becomes name x (f x) old new

-- with one more that waits to send, with one more that waits to receive, and closed
abbrev pub with_sender : Waiter Value → Content → Content
with_sender w c = record c { senders = c.senders ++ w ∷ [] }

abbrev pub with_receiver : Waiter (Unit {0}) → Content → Content
with_receiver w c = record c { receivers = c.receivers ++ w ∷ [] }

abbrev pub once_closed : Content → Content
once_closed c = record c { closed = true; senders = []; receivers = [] }

-- there is a channel, and this is true of it
abbrev pub At : {X : Type 0} → (X → Type 0) → Option X → Type 0
At holds None = ⊥
At holds (Some x) = holds x

abbrev pub IsOpen : Content → Type 0
IsOpen c = c.closed ≡ false

-- the content without the waits of a goroutine
abbrev pub without : List ℕ → Content → Content
without go c = record c { senders = others go c.senders; receivers = others go c.receivers }

-- the contents, where a goroutine waits no longer on the channels with these names
abbrev pub withdrawn : List ℕ → List ChName → (ChName → Option Content) → ChName → Option Content
withdrawn go names f q = if list_any (same_channel q) names then option_map (without go) (f q) else f q

-- a change taken back
abbrev pub chan_undone : ChanUndo → Option Content → Option Content
chan_undone u x = option_map (undone u) x

-- a channel is there, and what the change wrote in it stands
abbrev pub FitsAt : ChanUndo → Option Content → Type 0
FitsAt u x = At (Fits u) x

-- the content of the channel of a name once the changes are taken back, the last first
abbrev pub chan_back : List (ChName × ChanUndo) → ChName → Option Content → Option Content
chan_back us q x = back_at same_channel chan_undone us q x

-- what each change wrote stands when its turn comes
abbrev pub ChansFit : List (ChName × ChanUndo) → (ChName → Option Content) → Type 0
ChansFit us f = AllFit same_channel chan_undone FitsAt us f

-- what the first room has beyond the second
abbrev pub minus : Room → Room → Room
minus a b = record { items = a.items - b.items; senders = a.senders - b.senders; receivers = a.receivers - b.receivers }

-- the room that taking them back frees at a channel, beyond what the later ones of them need there
abbrev pub frees : List (ChName × ChanUndo) → ChName → Room
frees [] q = each 0
frees (e ∷ es) q = if same_channel q e.0 then plus (entered e.1) (minus (frees es q) (need e.1)) else frees es q

-- the room at a channel that taking them back needs
abbrev pub needs : List (ChName × ChanUndo) → ChName → Room
needs [] q = each 0
needs (e ∷ es) q = if same_channel q e.0 then plus (needs es q) (minus (need e.1) (frees es q)) else needs es q

-- there is room for taking them back
abbrev pub HasRooms : List (ChName × ChanUndo) → (ChName → Room) → Type 0
HasRooms us rooms = (q : ChName) → Within (needs us q) (rooms q)

-- These changes lead from the first channels to the second. Taking them back gives the contents of the first, needs no
-- memory directly after them, and leaves no less room than there was.
pub record GoesBack (us : List (ChName × ChanUndo)) (old new : Channels) : Type 0 where
  pub back : (q : ChName) → chan_back us q (contents_of new q) ≡ contents_of old q
  pub fits : ChansFit us (contents_of new)
  pub room : HasRooms us (rooms_of new)
  pub gains : (q : ChName) → Within (plus (rooms_of old q) (needs us q)) (plus (rooms_of new q) (frees us q))

-- these changes are the first ones, and after them others, which lead from the first channels to the second
pub record Follows (done us : List (ChName × ChanUndo)) (old new : Channels) : Type 0 where
  pub more : List (ChName × ChanUndo)
  pub are : us ≡ done ++ more
  pub goes : GoesBack more old new

-- whether the change wrote the gate of its channel alone
abbrev pub is_at_gate : ChanUndo → Bool
is_at_gate (Handed w) = true
is_at_gate Buffered = false
is_at_gate (Took v) = false
is_at_gate (Moved item go case) = false
is_at_gate (Met w) = true
is_at_gate ParkedSender = true
is_at_gate ParkedReceiver = true
is_at_gate (Withdrawn s r) = true
is_at_gate (Closed s r) = true

-- each of these changes wrote the gate of a channel among these, and nothing else
abbrev pub AreAtGates : List ChName → List (ChName × ChanUndo) → Type 0
AreAtGates names [] = Unit {0}
AreAtGates names (e ∷ es) = (is_at_gate e.1 ≡ true) × (list_any (same_channel e.0) names ≡ true) × AreAtGates names es

-- these changes are the first ones; each of the others after them wrote the gate of a channel among these, and nothing else
pub record MoreAtGates (names : List ChName) (done us : List (ChName × ChanUndo)) : Type 0 where
  pub more : List (ChName × ChanUndo)
  pub are : us ≡ done ++ more
  pub at_gates : AreAtGates names more

-- what taking changes back makes of the channels
pub record TookBack (us : List (ChName × ChanUndo)) (old new : Channels) : Type 0 where
  pub back : (q : ChName) → contents_of new q ≡ chan_back us q (contents_of old q)
  pub spends : (q : ChName) → Within (plus (rooms_of old q) (frees us q)) (plus (rooms_of new q) (needs us q))

-- nobody was withdrawn
abbrev pub is_empty : ChanUndo → Bool
is_empty (Withdrawn s r) = not (has_any s.items || has_any r.items)
is_empty _ = false

-- one change of a channel, if there is one
abbrev pub listed : ChName → Option ChanUndo → List (ChName × ChanUndo)
listed name None = []
listed name (Some u) = (name, u) ∷ []

-- no channel has less room
abbrev pub KeepsRooms : Channels → Channels → Type 0
KeepsRooms old new = (q : ChName) → Within (rooms_of old q) (rooms_of new q)

-- a value is offered at a channel
pub record OfferAt (name : ChName) (value : Value) (answer : Offered) (old new : Channels) : Type 0 where
  pub before : Content
  pub after : Content
  pub becomes : Becomes name before after old new
  pub rule : OfferRule before value answer after

-- what changed goes back; where nothing changed, the channels are as they were
abbrev pub OfferGoesBack : ChName → Offered → Channels → Channels → Type 0
OfferGoesBack name (offered.Closed w) old new = seen_of new ≡ seen_of old
OfferGoesBack name (offered.Handed w u) old new = GoesBack ((name, u) ∷ []) old new
OfferGoesBack name (offered.Buffered u) old new = GoesBack ((name, u) ∷ []) old new
OfferGoesBack name (offered.Full w) old new = seen_of new ≡ seen_of old

-- somebody receives from a channel
pub record TakeAt (name : ChName) (answer : Taken) (old new : Channels) : Type 0 where
  pub before : Content
  pub after : Content
  pub becomes : Becomes name before after old new
  pub rule : TakeRule before answer after

abbrev pub TakeGoesBack : ChName → Taken → Channels → Channels → Type 0
TakeGoesBack name (taken.Item v u) old new = GoesBack ((name, u) ∷ []) old new
TakeGoesBack name (taken.Moved v u) old new = GoesBack ((name, u) ∷ []) old new
TakeGoesBack name (taken.Met v u) old new = GoesBack ((name, u) ∷ []) old new
TakeGoesBack name taken.Closed old new = seen_of new ≡ seen_of old
TakeGoesBack name taken.Empty old new = seen_of new ≡ seen_of old

-- changes that lead from one to a second, and changes that lead from there to a third, lead from the first to the third
abbrev pub ChangesJoin : Type 0
ChangesJoin = (us vs : List (ChName × ChanUndo)) (a b c : Channels) → GoesBack us a b → GoesBack vs b c → GoesBack (us ++ vs) a c

-- Changes are taken back from where they lead to, or from the same contents with no less room. The contents are then those
-- from which they lead, and there is no less room than there was.
abbrev pub ChangesGoBack : Type 0
ChangesGoBack = (us : List (ChName × ChanUndo)) (a b c d : Channels) → GoesBack us a b → contents_of c ≡ contents_of b → KeepsRooms b c → TookBack us c d
    → (contents_of d ≡ contents_of a) × KeepsRooms a d

-- a channel that was made is taken back by removing it
abbrev pub MadeIsRemoved : Type 0
MadeIsRemoved = (name : ChName) (x : Option Content) (f : ChName → Option Content) → f name ≡ None
    → updated same_channel (updated same_channel f name x) name None ≡ f
