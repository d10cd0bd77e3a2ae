-- One channel is seen as it was not before, and no other.
use Rattle.std.proofs.Common.{◌≡◌, ◌+◌, ◌-◌, Bool, true, false, cond, [], ◌∷◌, refl, ap, sym, ◌∙◌, subst, arith, Option, Some, None, option_map, IsSome, MutBor}
use Rattle.std.specs.Option.{option_copied_mut}
use Rattle.std.specs.BTreeMap.{BTreeMap, get, is_at, UpdatesBy}
use Rattle.gr_base.specs.Names.{ch_cmp}
use Rattle.gr_base.specs.declared.names.ChName.{ChName}
use Rattle.gr_channels.specs.declared.changes.ChanUndo.{ChanUndo}
use Rattle.gr_channels.specs.Channels.{Content, Room, Seen, Within, plus, each}
use Rattle.gr_channels.specs.Changes.{undone, need, entered, Undoes}
use Rattle.gr_rules.specs.Operators.{same_channel}
use Rattle.gr_rules.specs.States.{updated}
use Rattle.gr_tables.specs.NamedChannels.{room_or_none, Becomes, chan_undone, FitsAt, minus, frees, needs, HasRooms, GoesBack}
use Rattle.gr_tables.specs.NamedChannels.{TookBack}
use Rattle.gr_tables.specs.declared.channels.Channels.{Channels}
use Rattle.gr_tables.proofs.ChannelNames.{channel_self, at_is_same, at_each, same_or}
use Rattle.gr_tables.proofs.RoomLemmas.{none_within, within_self}

-- what a map of channels holds
abbrev pub seen_in : BTreeMap ChName Seen → ChName → Option Seen
seen_in m q = get ch_cmp m q

abbrev pub contents_in : BTreeMap ChName Seen → ChName → Option Content
contents_in m q = option_map (λ c. c.content) (seen_in m q)

abbrev pub rooms_in : BTreeMap ChName Seen → ChName → Room
rooms_in m q = room_or_none (seen_in m q)

-- the channel of the name was seen as a and is seen as b, and each other channel is seen as before
pub record Sets (name : ChName) (a b : Seen) (old new : BTreeMap ChName Seen) : Type 0 where
  pub was : seen_in old name ≡ Some a
  pub is : (q : ChName) → seen_in new q ≡ cond (same_channel q name) (Some b) (seen_in old q)

pub written : (name : ChName) (a b : Seen) (old new : BTreeMap ChName Seen) → seen_in old name ≡ Some a
    → ((q : ChName) → seen_in new q ≡ cond (is_at (ch_cmp name) q) (Some b) (seen_in old q)) → Sets name a b old new
written name a b old new was is = record {
  was = was;
  is = λ q. is q ∙ ap (λ t. cond t (Some b) (seen_in old q)) (at_is_same name q);
}

-- what taking one change back needs and frees, at its channel and at another
need_here : (name : ChName) (u : ChanUndo) → needs ((name, u) ∷ []) name ≡ need u
need_here name u = ap (λ t. cond t (plus (each 0) (minus (need u) (each 0))) (each 0)) (channel_self name) ∙ one (need u)
  where
    one : (r : Room) → plus (each 0) (minus r (each 0)) ≡ r
    one r =
        let i : 0 + (r.items - 0) ≡ r.items = omega arith in
        let s : 0 + (r.senders - 0) ≡ r.senders = omega arith in
        let v : 0 + (r.receivers - 0) ≡ r.receivers = omega arith in
        λ k. record { items = i k; senders = s k; receivers = v k }

free_here : (name : ChName) (u : ChanUndo) → frees ((name, u) ∷ []) name ≡ entered u
free_here name u = ap (λ t. cond t (plus (entered u) (minus (each 0) (need u))) (each 0)) (channel_self name) ∙ one (entered u) (need u)
  where
    one : (r n : Room) → plus r (minus (each 0) n) ≡ r
    one r n =
        let i : r.items + (0 - n.items) ≡ r.items = omega arith in
        let s : r.senders + (0 - n.senders) ≡ r.senders = omega arith in
        let v : r.receivers + (0 - n.receivers) ≡ r.receivers = omega arith in
        λ k. record { items = i k; senders = s k; receivers = v k }

need_else : (name : ChName) (u : ChanUndo) (q : ChName) → same_channel q name ≡ false → needs ((name, u) ∷ []) q ≡ each 0
need_else name u q e = ap (λ t. cond t (plus (each 0) (minus (need u) (each 0))) (each 0)) e

free_else : (name : ChName) (u : ChanUndo) (q : ChName) → same_channel q name ≡ false → frees ((name, u) ∷ []) q ≡ each 0
free_else name u q e = ap (λ t. cond t (plus (entered u) (minus (each 0) (need u))) (each 0)) e

-- there is room for taking one change back exactly where the channel has it
pub room_here : (name : ChName) (u : ChanUndo) (rooms : ChName → Room) → HasRooms ((name, u) ∷ []) rooms → Within (need u) (rooms name)
room_here name u rooms h = subst (λ n. Within n (rooms name)) (need_here name u) (h name)

module _ {name : ChName} {a b : Seen} {old new : BTreeMap ChName Seen} where
  here : Sets name a b old new → seen_in new name ≡ Some b
  here s = s.is name ∙ ap (λ t. cond t (Some b) (seen_in old name)) (channel_self name)

  elsewhere : Sets name a b old new → (q : ChName) → same_channel q name ≡ false → seen_in new q ≡ seen_in old q
  elsewhere s q e = s.is q ∙ ap (λ t. cond t (Some b) (seen_in old q)) e

  pub content_at : Sets name a b old new → (q : ChName) → contents_in new q ≡ updated same_channel (contents_in old) name (Some b.content) q
  content_at s q = ap (option_map (λ c. c.content)) (s.is q) ∙ inside (same_channel q name)
    where
      inside : (t : Bool) → option_map (λ (c : Seen). c.content) (cond t (Some b) (seen_in old q)) ≡ cond t (Some b.content) (contents_in old q)
      inside true = refl
      inside false = refl

  pub content_was : Sets name a b old new → contents_in old name ≡ Some a.content
  content_was s = ap (option_map (λ c. c.content)) s.was

  pub same_contents : Sets name a b old new → b.content ≡ a.content → contents_in new ≡ contents_in old
  same_contents s e = λ i q. all q i
    where
      all : (q : ChName) → contents_in new q ≡ contents_in old q
      all q = at_each name q (λ x. contents_in new x ≡ contents_in old x)
          (ap (option_map (λ c. c.content)) (here s) ∙ ap Some e ∙ sym (ap (option_map (λ c. c.content)) s.was))
          (λ f. ap (option_map (λ c. c.content)) (elsewhere s q f))

  pub same_seen : Sets name a b old new → b ≡ a → seen_in new ≡ seen_in old
  same_seen s e = λ i q. all q i
    where
      all : (q : ChName) → seen_in new q ≡ seen_in old q
      all q = at_each name q (λ x. seen_in new x ≡ seen_in old x) (here s ∙ ap Some e ∙ sym s.was) (elsewhere s q)

  -- what is true of two rooms at the name, and of two equal ones elsewhere, is true at each name
  rooms_at : (P : ChName → Room → Room → Type 0) → Sets name a b old new → P name a.room b.room
      → ((q : ChName) (r : Room) → same_channel q name ≡ false → P q r r) → (q : ChName) → P q (rooms_in old q) (rooms_in new q)
  rooms_at P s h else q = at_each name q (λ x. P x (rooms_in old x) (rooms_in new x))
      (subst (λ x. P name (room_or_none x) (rooms_in new name)) (sym s.was) (subst (λ x. P name a.room (room_or_none x)) (sym (here s)) h))
      (λ f. subst (λ x. P q (rooms_in old q) (room_or_none x)) (sym (elsewhere s q f)) (else q (rooms_in old q) f))

  pub keeps_rooms : Sets name a b old new → Within a.room b.room → (q : ChName) → Within (rooms_in old q) (rooms_in new q)
  keeps_rooms s h = rooms_at (λ q r t. Within r t) s h (λ q r f. within_self r)

  has_rooms : (u : ChanUndo) → Sets name a b old new → Within (need u) b.room → HasRooms ((name, u) ∷ []) (rooms_in new)
  has_rooms u s h = rooms_at (λ q r t. Within (needs ((name, u) ∷ []) q) t) s
      (subst (λ n. Within n b.room) (sym (need_here name u)) h)
      (λ q r f. subst (λ n. Within n r) (sym (need_else name u q f)) (none_within r))

  gained : (u : ChanUndo) → Sets name a b old new → Within (plus a.room (need u)) (plus b.room (entered u))
      → (q : ChName) → Within (plus (rooms_in old q) (needs ((name, u) ∷ []) q)) (plus (rooms_in new q) (frees ((name, u) ∷ []) q))
  gained u s h = rooms_at (λ q r t. Within (plus r (needs ((name, u) ∷ []) q)) (plus t (frees ((name, u) ∷ []) q))) s
      (subst (λ n. Within (plus a.room n) (plus b.room (frees ((name, u) ∷ []) name))) (sym (need_here name u))
      (subst (λ f. Within (plus a.room (need u)) (plus b.room f)) (sym (free_here name u)) h))
      (λ q r f. subst (λ n. Within (plus r n) (plus r (frees ((name, u) ∷ []) q))) (sym (need_else name u q f))
      (subst (λ g. Within (plus r (each 0)) (plus r g)) (sym (free_else name u q f)) (within_self (plus r (each 0)))))

  spent : (u : ChanUndo) → Sets name a b old new → Within (plus a.room (entered u)) (plus b.room (need u))
      → (q : ChName) → Within (plus (rooms_in old q) (frees ((name, u) ∷ []) q)) (plus (rooms_in new q) (needs ((name, u) ∷ []) q))
  spent u s h = rooms_at (λ q r t. Within (plus r (frees ((name, u) ∷ []) q)) (plus t (needs ((name, u) ∷ []) q))) s
      (subst (λ n. Within (plus a.room n) (plus b.room (needs ((name, u) ∷ []) name))) (sym (free_here name u))
      (subst (λ f. Within (plus a.room (entered u)) (plus b.room f)) (sym (need_here name u)) h))
      (λ q r f. subst (λ n. Within (plus r n) (plus r (needs ((name, u) ∷ []) q))) (sym (free_else name u q f))
      (subst (λ g. Within (plus r (each 0)) (plus r g)) (sym (need_else name u q f)) (within_self (plus r (each 0)))))

-- said of the channels of a store
module _ {name : ChName} {a b : Seen} (old new : Channels) (s : Sets name a b old.map new.map) where
  pub becomes : Becomes name a.content b.content old new
  becomes = record { was = content_was s; is = λ i q. content_at s q i }

  pub goes_back : (u : ChanUndo) → Undoes u a b → GoesBack ((name, u) ∷ []) old new
  goes_back u h = record {
    back = λ q. same_or name q (chan_undone u (contents_in new.map q)) (contents_in new.map q) (contents_in old.map q)
        (λ e. subst (λ x. chan_undone u (contents_in new.map x) ≡ contents_in old.map x) (sym e)
        (ap (λ x. chan_undone u (option_map (λ c. c.content) x)) (here s) ∙ ap Some h.back ∙ sym (content_was s)))
        (λ e. ap (option_map (λ c. c.content)) (elsewhere s q e));
    fits = (subst (λ x. FitsAt u (option_map (λ c. c.content) x)) (sym (here s)) h.fits, tt);
    room = has_rooms u s h.room;
    gains = gained u s h.gains;
  }

  pub took_back : (u : ChanUndo) → b.content ≡ undone u a.content → Within (plus a.room (entered u)) (plus b.room (need u)) → TookBack ((name, u) ∷ []) old new
  took_back u e h = record {
    back = λ q. sym (same_or name q (chan_undone u (contents_in old.map q)) (contents_in old.map q) (contents_in new.map q)
        (λ f. subst (λ x. chan_undone u (contents_in old.map x) ≡ contents_in new.map x) (sym f)
        (ap (λ x. chan_undone u (option_map (λ c. c.content) x)) s.was ∙ sym (ap (option_map (λ c. c.content)) (here s) ∙ ap Some e)))
        (λ f. sym (ap (option_map (λ c. c.content)) (elsewhere s q f))));
    spends = spent u s h;
  }

-- what was lent by the map for a name is written through
pub lent_at : (name : ChName) (a b : Seen) (old new : BTreeMap ChName Seen) → seen_in old name ≡ Some a
    → (IsSome (seen_in old name) → UpdatesBy ch_cmp (ch_cmp name) old new (Some b)) → Sets name a b old new
lent_at name a b old new was writes =
    let some : IsSome (seen_in old name) = subst (λ (x : Option Seen). IsSome x) (sym was) refl in
    written name a b old new was (writes some).0

pub lent : (name : ChName) (o : Option (MutBor Seen)) (r : MutBor Seen) (b : Seen) (old new : BTreeMap ChName Seen)
    → option_copied_mut o ≡ seen_in old name → o ≡ Some r
    → (IsSome (seen_in old name) → UpdatesBy ch_cmp (ch_cmp name) old new (Some b)) → Sets name r.now b old new
lent name o r b old new value is writes = lent_at name r.now b old new (sym value ∙ ap option_copied_mut is) writes

-- a new channel
pub added_contents : (name : ChName) (b : Seen) (old new : BTreeMap ChName Seen)
    → ((q : ChName) → seen_in new q ≡ cond (is_at (ch_cmp name) q) (Some b) (seen_in old q))
    → {x : Content} → b.content ≡ x → contents_in new ≡ updated same_channel (contents_in old) name (Some x)
added_contents name b old new is {x} e = λ i q. all q i
  where
    inside : (q : ChName) (t : Bool) → option_map (λ (c : Seen). c.content) (cond t (Some b) (seen_in old q)) ≡ cond t (Some x) (contents_in old q)
    inside q true = ap Some e
    inside q false = refl

    all : (q : ChName) → contents_in new q ≡ updated same_channel (contents_in old) name (Some x) q
    all q = ap (option_map (λ c. c.content)) (is q ∙ ap (λ t. cond t (Some b) (seen_in old q)) (at_is_same name q)) ∙ inside q (same_channel q name)

pub added_rooms : (name : ChName) (b : Seen) (old new : BTreeMap ChName Seen)
    → ((q : ChName) → seen_in new q ≡ cond (is_at (ch_cmp name) q) (Some b) (seen_in old q))
    → contents_in old name ≡ None → (q : ChName) → Within (rooms_in old q) (rooms_in new q)
added_rooms name b old new is none q = at_each name q (λ x. Within (rooms_in old x) (rooms_in new x))
    (subst (λ r. Within r (rooms_in new name)) (sym (nowhere (seen_in old name) none)) (none_within (rooms_in new name)))
    (λ e. subst (λ x. Within (rooms_in old q) (room_or_none x)) (sym (is q ∙ ap (λ t. cond t (Some b) (seen_in old q)) (at_is_same name q ∙ e)))
    (within_self (rooms_in old q)))
  where
    nowhere : (x : Option Seen) → option_map (λ (c : Seen). c.content) x ≡ None → room_or_none x ≡ each 0
    nowhere None h = refl
    nowhere (Some c) h = cc

-- a channel that is gone
pub removed : (name : ChName) (old new : BTreeMap ChName Seen) → ((q : ChName) → seen_in new q ≡ cond (is_at (ch_cmp name) q) None (seen_in old q))
    → seen_in new ≡ updated same_channel (seen_in old) name None
removed name old new is = λ i q. (is q ∙ ap (λ t. cond t None (seen_in old q)) (at_is_same name q)) i
