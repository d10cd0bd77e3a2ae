-- A goroutine that is withdrawn from one channel after the other.
use Rattle.std.proofs.Common.{◌≡◌, ℕ, ◌+◌, ◌<◌, ◌≤◌, ◌-◌, Bool, true, false, not, ◌||◌, cond, List, [], ◌∷◌, ◌++◌, length, drop, get_or, filter, drop-cons}
use Rattle.std.proofs.Common.{drop_of_length-le, add-one, zero, suc, refl, ap, sym, ◌∙◌, subst, arith, append-nil, append_assoc, Option, Some, None, option_map}
use Rattle.std.specs.List.{list_any}
use Rattle.gr_base.specs.declared.names.ChName.{ChName}
use Rattle.gr_channels.specs.declared.changes.ChanUndo.{ChanUndo}
use Rattle.gr_channels.specs.declared.changes.ChanUndo.TheVariants.{Handed, Buffered, Took, Moved, Met, ParkedSender, ParkedReceiver, Withdrawn, Closed}
use Rattle.gr_channels.specs.Channels.{Content, Room, Seen, Within, plus, each}
use Rattle.gr_channels.specs.Changes.{Undoes, IsWithdrawn}
use Rattle.gr_channels.specs.Objects.{has_any}
use Rattle.gr_channels.specs.Queues.{is_of, restored}
use Rattle.gr_rules.specs.Operators.{same_channel}
use Rattle.gr_rules.specs.States.{updated}
use Rattle.gr_tables.specs.NamedChannels.{contents_of, rooms_of, without, withdrawn, chan_undone, chan_back, ChansFit, minus, needs, frees, HasRooms, GoesBack}
use Rattle.gr_tables.specs.NamedChannels.{TookBack, KeepsRooms, Follows, is_at_gate, AreAtGates, MoreAtGates, is_empty}
use Rattle.gr_tables.specs.declared.channels.Channels.{Channels}
use Rattle.gr_tables.proofs.ChannelNames.{channel_self, at_each}
use Rattle.gr_tables.proofs.RoomLemmas.{none_within, within_self, within_more, frees-append, needs-append}
use Rattle.gr_tables.proofs.BackInOrder.{back_at-append}
use Rattle.std.specs.BTreeMap.{BTreeMap}
use Rattle.gr_tables.proofs.SeenLemmas.{Sets, contents_in, content_at, content_was, same_contents, keeps_rooms}
use Rattle.gr_tables.proofs.Joining.{all_fit, all_have_rooms, changes_join}

-- without one channel's waits of the goroutine
pub withdrawn_one : {name : ChName} {a b : Seen} {m n : BTreeMap ChName Seen} → Sets name a b m n → (go : List ℕ) → b.content ≡ without go a.content
    → contents_in n ≡ withdrawn go (name ∷ []) (contents_in m)
withdrawn_one {name} {a} {b} {m} {n} s go e = λ i q. all q i
  where
    taken : Bool → ChName → Option Content
    taken t q = cond (t || false) (option_map (without go) (contents_in m q)) (contents_in m q)

    all : (q : ChName) → contents_in n q ≡ taken (same_channel q name) q
    all q =
        content_at s q
        ∙ at_each name q (λ x. updated same_channel (contents_in m) name (Some b.content) x ≡ taken (same_channel x name) x)
        (ap (λ t. cond t (Some b.content) (contents_in m name)) (channel_self name) ∙ ap Some e
        ∙ sym (ap (λ t. taken t name) (channel_self name) ∙ ap (option_map (without go)) (content_was s)))
        (λ t. ap (λ x. cond x (Some b.content) (contents_in m q)) t ∙ sym (ap (λ x. taken x q) t))

twice : {X : Type 0} → (p : X → Bool) (xs : List X) → filter p (filter p xs) ≡ filter p xs
twice p [] = refl
twice p (x ∷ xs) = by_test (twice p xs) (p x) refl
  where
    by_test : filter p (filter p xs) ≡ filter p xs → (b : Bool) → p x ≡ b
        → filter p (cond b (x ∷ filter p xs) (filter p xs)) ≡ cond b (x ∷ filter p xs) (filter p xs)
    by_test rest true e = ap (λ b. cond b (x ∷ filter p (filter p xs)) (filter p (filter p xs))) e ∙ ap (λ ys. x ∷ ys) rest
    by_test rest false e = rest

without_twice : (go : List ℕ) (x : Option Content) → option_map (without go) (option_map (without go) x) ≡ option_map (without go) x
without_twice go None = refl
without_twice go (Some c) =
    let senders = twice (λ w. not (is_of go w)) c.senders in
    let receivers = twice (λ w. not (is_of go w)) c.receivers in
    λ i. Some (record c { senders = senders i; receivers = receivers i })

-- from one channel, and then from others
withdrawn_more : (go : List ℕ) (k : ChName) (rest : List ChName) (f : ChName → Option Content)
    → withdrawn go rest (withdrawn go (k ∷ []) f) ≡ withdrawn go (k ∷ rest) f
withdrawn_more go k rest f = λ i q. cases (same_channel q k) (list_any (same_channel q) rest) (f q) i
  where
    cases : (s t : Bool) (x : Option Content)
        → cond t (option_map (without go) (cond (s || false) (option_map (without go) x) x)) (cond (s || false) (option_map (without go) x) x) ≡ cond
        (s || t) (option_map (without go) x) x
    cases true true x = without_twice go x
    cases true false x = refl
    cases false true x = refl
    cases false false x = refl

pub told_more : (go : List ℕ) (names : List ChName) (i : ℕ) (k : ChName) (f g : ChName → Option Content) → i < length names → k ≡ get_or names i k
    → g ≡ withdrawn go (k ∷ []) f → withdrawn go (drop (i + 1) names) g ≡ withdrawn go (drop i names) f
told_more go names i k f g h at is =
    let first : drop i names ≡ k ∷ drop (i + 1) names = rw add-one (drop-cons names i k h ∙ ap (λ x. x ∷ drop (suc i) names) (sym at)) in
    ap (withdrawn go (drop (i + 1) names)) is ∙ withdrawn_more go k (drop (i + 1) names) f ∙ ap (λ ks. withdrawn go ks f) (sym first)

-- from all of them
pub told_all : (go : List ℕ) (names : List ChName) (i : ℕ) (f : ChName → Option Content) → length names ≤ i → f ≡ withdrawn go (drop i names) f
told_all go names i f h = ap (λ ks. withdrawn go ks f) (sym (drop_of_length-le names h))

is_nothing : {X : Type 0} → (xs : List X) → has_any xs ≡ false → xs ≡ []
is_nothing [] h = refl
is_nothing (x ∷ xs) h = absurd (let n : true ≡ false = h in cc)

neither : (a b : Bool) → not (a || b) ≡ true → (a ≡ false) × (b ≡ false)
neither true b h = absurd (let n : false ≡ true = h in cc)
neither false true h = absurd (let n : false ≡ true = h in cc)
neither false false h = (refl, refl)

-- where nobody was taken out, the channel is as it was
nothing_changed : (u : ChanUndo) (a b : Seen) → is_empty u ≡ true → Undoes u a b → (b.content ≡ a.content) × Within a.room b.room
nothing_changed (Withdrawn s r) a b e h =
    let none = neither (has_any s.items) (has_any r.items) e in
    let back = h.back in
    let gains = h.gains in (
      (λ i. record b.content {
        senders = restored (sym (is_nothing s.items none.0) i) b.content.senders;
        receivers =
            restored (sym (is_nothing r.items none.1) i) b.content.receivers;
      }) ∙ back,
      record { items = omega (arith, gains.items); senders = omega (arith, gains.senders); receivers = omega (arith, gains.receivers) },
    )
nothing_changed _ a b e h = absurd (let n : false ≡ true = e in cc)

no_change : (old new : Channels) → contents_of new ≡ contents_of old → KeepsRooms old new → GoesBack [] old new
no_change old new same grows = record {
  back = λ q. ap (λ f. f q) same;
  fits = tt;
  room = λ q. none_within (rooms_of new q);
  gains = λ q. more (rooms_of old q) (rooms_of new q) (grows q);
}
  where
    more : (a b : Room) → Within a b → Within (plus a (each 0)) (plus b (each 0))
    more a b h = record { items = omega (arith, h.items); senders = omega (arith, h.senders); receivers = omega (arith, h.receivers) }

pub nobody_back : {name : ChName} {a b : Seen} (old new : Channels) → Sets name a b old.map new.map → (u : ChanUndo) → is_empty u ≡ true → Undoes u a b
    → GoesBack [] old new
nobody_back {a = a} {b = b} old new s u e h =
    let same = nothing_changed u a b e h in
    no_change old new (same_contents s same.0) (keeps_rooms s same.1)

pub none_after : (done : List (ChName × ChanUndo)) (a : Channels) → Follows done done a a
none_after done a = record { more = []; are = sym (append-nil done); goes = no_change a a refl (λ q. within_self (rooms_of a q)) }

-- who is taken out stands in the queues of a gate
pub withdrawn_at_gate : (u : ChanUndo) → IsWithdrawn u → is_at_gate u ≡ true
withdrawn_at_gate (Withdrawn s r) h = refl
withdrawn_at_gate (Handed w) h = absurd h
withdrawn_at_gate Buffered h = absurd h
withdrawn_at_gate (Took v) h = absurd h
withdrawn_at_gate (Moved item go case) h = absurd h
withdrawn_at_gate (Met w) h = absurd h
withdrawn_at_gate ParkedSender h = absurd h
withdrawn_at_gate ParkedReceiver h = absurd h
withdrawn_at_gate (Closed s r) h = absurd h

-- a name of a list is among its names
at_place : (names : List ChName) (i : ℕ) (k : ChName) → i < length names → k ≡ get_or names i k → list_any (same_channel k) names ≡ true
at_place [] i k h at = absurd (omega (arith, h))
at_place (n ∷ ns) zero k h at = ap (λ c. same_channel k c || list_any (same_channel k) ns) (sym at) ∙ ap (λ t. t || list_any (same_channel k) ns) (channel_self k)
at_place (n ∷ ns) (suc i) k h at = ap (λ t. same_channel k n || t) (at_place ns i k (omega (arith, h)) at) ∙ or_true (same_channel k n)
  where
    or_true : (b : Bool) → (b || true) ≡ true
    or_true true = refl
    or_true false = refl

pub gates_join : (names : List ChName) (us vs : List (ChName × ChanUndo)) → AreAtGates names us → AreAtGates names vs → AreAtGates names (us ++ vs)
gates_join names [] vs h k = k
gates_join names (u ∷ us) vs h k = (h.0, h.1, gates_join names us vs h.2 k)

pub none_at_gate : (names : List ChName) (done : List (ChName × ChanUndo)) → MoreAtGates names done done
none_at_gate names done = record { more = []; are = sym (append-nil done); at_gates = tt }

-- one more change of a gate
pub one_more_at_gate : (names : List ChName) (i : ℕ) (k : ChName) (done us more : List (ChName × ChanUndo)) (u : ChanUndo) → i < length names → k ≡ get_or names i k
    → more ≡ us ++ (k, u) ∷ [] → is_at_gate u ≡ true → MoreAtGates names done us → MoreAtGates names done more
one_more_at_gate names i k done us more u h at are gate gates = record {
  more = gates.more ++ (k, u) ∷ [];
  are = are ∙ ap (λ es. es ++ (k, u) ∷ []) gates.are ∙ append_assoc done gates.more ((k, u) ∷ []);
  at_gates = gates_join names gates.more ((k, u) ∷ []) gates.at_gates (gate, at_place names i k h at, tt);
}

module _ (done us : List (ChName × ChanUndo)) (a b : Channels) (follows : Follows done us a b) where
  -- one more change, or none
  pub follows_more : (vs more : List (ChName × ChanUndo)) (c : Channels) → more ≡ us ++ vs → GoesBack vs b c → Follows done more a c
  follows_more vs more c are goes = record {
    more = follows.more ++ vs;
    are = are ∙ ap (λ es. es ++ vs) follows.are ∙ append_assoc done follows.more vs;
    goes = changes_join follows.more vs a b c follows.goes goes;
  }

  pub still_fit : (c : Channels) → ChansFit done (contents_of a) → contents_of c ≡ contents_of b → ChansFit us (contents_of c)
  still_fit c h same = subst (ChansFit us) (sym same) (subst (λ es. ChansFit es (contents_of b)) (sym follows.are)
      (all_fit done follows.more a b h follows.goes))

  pub still_have_rooms : (c : Channels) → HasRooms done (rooms_of a) → KeepsRooms b c → HasRooms us (rooms_of c)
  still_have_rooms c h grows = λ q. within_more _ _ _ (subst (λ es. HasRooms es (rooms_of b)) (sym follows.are)
      (all_have_rooms done follows.more a b h follows.goes) q) (grows q)

  -- taken back with what was done before
  pub took_all : (c d : Channels) → contents_of c ≡ contents_of b → KeepsRooms b c → TookBack us c d → TookBack done a d
  took_all c d same grows took =
      let more = follows.more in
      record {
        back = λ q. took.back q ∙ ap (λ f. chan_back us q (f q)) same ∙ ap (λ es. chan_back es q (contents_of b q)) follows.are
            ∙ back_at-append same_channel chan_undone done more q (contents_of b q) ∙ ap (chan_back done q) (follows.goes.back q);
        spends = λ q. each_spent (rooms_of a q) (rooms_of b q) (rooms_of c q) (rooms_of d q) (frees done q) (needs done q) (frees more q) (needs more q)
            (follows.goes.gains q) (grows q)
            (subst (λ f. Within (plus (rooms_of c q) f) (plus (rooms_of d q) (plus (needs more q) (minus (needs done q) (frees more q)))))
            (frees-append done more q)
            (subst (λ n. Within (plus (rooms_of c q) (frees (done ++ more) q)) (plus (rooms_of d q) n)) (needs-append done more q)
            (subst (λ es. Within (plus (rooms_of c q) (frees es q)) (plus (rooms_of d q) (needs es q))) follows.are (took.spends q))));
      }
    where
      spent : (a b c d f n g m : ℕ) → a + m ≤ b + g → b ≤ c → c + (f + (g - n)) ≤ d + (m + (n - g)) → a + f ≤ d + n
      spent a b c d f n g m h i j = omega arith

      each_spent : (a b c d f n g m : Room) → Within (plus a m) (plus b g) → Within b c → Within (plus c (plus f (minus g n))) (plus d (plus m (minus n g)))
          → Within (plus a f) (plus d n)
      each_spent a b c d f n g m h i j = record {
        items = spent a.items b.items c.items d.items f.items n.items g.items m.items h.items i.items j.items;
        senders = spent a.senders b.senders c.senders d.senders f.senders n.senders g.senders m.senders h.senders i.senders j.senders;
        receivers = spent a.receivers b.receivers c.receivers d.receivers f.receivers n.receivers g.receivers m.receivers h.receivers i.receivers j.receivers;
      }
