-- Sums and differences of rooms.
use Rattle.std.proofs.Common.{◌≡◌, ℕ, ◌+◌, ◌-◌, ◌≤◌, Bool, true, false, cond, List, [], ◌∷◌, ◌++◌, refl, ap, ◌∙◌, arith}
use Rattle.gr_base.specs.declared.names.ChName.{ChName}
use Rattle.gr_channels.specs.declared.changes.ChanUndo.{ChanUndo}
use Rattle.gr_channels.specs.Channels.{Room, Within, plus, each}
use Rattle.gr_channels.specs.Changes.{need, entered}
use Rattle.gr_rules.specs.Operators.{same_channel}
use Rattle.gr_tables.specs.NamedChannels.{minus, frees, needs}

room_is : (a b : Room) → a.items ≡ b.items → a.senders ≡ b.senders → a.receivers ≡ b.receivers → a ≡ b
room_is a b p q r = λ i. record { items = p i; senders = q i; receivers = r i }

pub none_within : (r : Room) → Within (each 0) r
none_within r = record { items = omega arith; senders = omega arith; receivers = omega arith }

pub within_self : (r : Room) → Within r r
within_self r = record { items = omega arith; senders = omega arith; receivers = omega arith }

pub within_more : (a b c : Room) → Within a b → Within b c → Within a c
within_more a b c h k = record {
  items = omega (arith, h.items, k.items);
  senders = omega (arith, h.senders, k.senders);
  receivers =
      omega (arith, h.receivers, k.receivers);
}

freed_more : (e f n m g : ℕ) → e + ((f + (g - m)) - n) ≡ (e + (f - n)) + (g - (m + (n - f)))
freed_more e f n m g = omega arith

needed_more : (n f m g k : ℕ) → (k + (m - g)) + (n - (f + (g - m))) ≡ k + ((m + (n - f)) - g)
needed_more n f m g k = omega arith

-- f and m are freed and needed by some changes, after which come others, by which g and k are
freed_first : (e n f m g : Room) → plus e (minus (plus f (minus g m)) n) ≡ plus (plus e (minus f n)) (minus g (plus m (minus n f)))
freed_first e n f m g = room_is _ _
    (freed_more e.items f.items n.items m.items g.items)
    (freed_more e.senders f.senders n.senders m.senders g.senders)
    (freed_more e.receivers f.receivers n.receivers m.receivers g.receivers)

needed_first : (n f m g k : Room) → plus (plus k (minus m g)) (minus n (plus f (minus g m))) ≡ plus k (minus (plus m (minus n f)) g)
needed_first n f m g k = room_is _ _
    (needed_more n.items f.items m.items g.items k.items)
    (needed_more n.senders f.senders m.senders g.senders k.senders)
    (needed_more n.receivers f.receivers m.receivers g.receivers k.receivers)

none_freed : (g : Room) → g ≡ plus (each 0) (minus g (each 0))
none_freed g = room_is _ _ (omega arith) (omega arith) (omega arith)

none_needed : (k g : Room) → k ≡ plus k (minus (each 0) g)
none_needed k g = room_is _ _ (omega arith) (omega arith) (omega arith)

-- what one list of changes and then another free and need at a channel
pub frees-append : (us vs : List (ChName × ChanUndo)) (q : ChName) → frees (us ++ vs) q ≡ plus (frees us q) (minus (frees vs q) (needs us q))
frees-append [] vs q = none_freed (frees vs q)
frees-append (e ∷ us) vs q =
    ap (λ r. cond (same_channel q e.0) (plus (entered e.1) (minus r (need e.1))) r) (frees-append us vs q)
    ∙ first (same_channel q e.0)
  where
    first : (b : Bool) → cond b (plus (entered e.1) (minus (plus (frees us q) (minus (frees vs q) (needs us q))) (need e.1)))
        (plus (frees us q) (minus (frees vs q) (needs us q)))
        ≡ plus (cond b (plus (entered e.1) (minus (frees us q) (need e.1))) (frees us q))
        (minus (frees vs q) (cond b (plus (needs us q) (minus (need e.1) (frees us q))) (needs us q)))
    first true = freed_first (entered e.1) (need e.1) (frees us q) (needs us q) (frees vs q)
    first false = refl

pub needs-append : (us vs : List (ChName × ChanUndo)) (q : ChName) → needs (us ++ vs) q ≡ plus (needs vs q) (minus (needs us q) (frees vs q))
needs-append [] vs q = none_needed (needs vs q) (frees vs q)
needs-append (e ∷ us) vs q =
    ap (λ r. cond (same_channel q e.0) (plus r (minus (need e.1) (frees (us ++ vs) q))) r) (needs-append us vs q)
    ∙ ap (λ f. cond (same_channel q e.0) (plus (plus (needs vs q) (minus (needs us q) (frees vs q))) (minus (need e.1) f))
    (plus (needs vs q) (minus (needs us q) (frees vs q)))) (frees-append us vs q)
    ∙ first (same_channel q e.0)
  where
    first : (b : Bool) → cond b (plus (plus (needs vs q) (minus (needs us q) (frees vs q)))
        (minus (need e.1) (plus (frees us q) (minus (frees vs q) (needs us q))))) (plus (needs vs q) (minus (needs us q) (frees vs q)))
        ≡ plus (needs vs q) (minus (cond b (plus (needs us q) (minus (need e.1) (frees us q))) (needs us q)) (frees vs q))
    first true = needed_first (need e.1) (frees us q) (needs us q) (frees vs q) (needs vs q)
    first false = refl

room_after : (f m g k r s : ℕ) → m ≤ r → k ≤ s → r + k ≤ s + g → k + (m - g) ≤ s
room_after f m g k r s a b c = omega arith

-- there is room for both, where there was room for the first, and the second left enough
pub joined_room : (m g k r s : Room) → Within m r → Within k s → Within (plus r k) (plus s g) → Within (plus k (minus m g)) s
joined_room m g k r s a b c = record {
  items = omega (arith, a.items, b.items, c.items);
  senders = omega (arith, a.senders, b.senders, c.senders);
  receivers = omega (arith, a.receivers, b.receivers, c.receivers);
}

balance : (f m g k a b c : ℕ) → a + m ≤ b + f → b + k ≤ c + g → a + (k + (m - g)) ≤ c + (f + (g - m))
balance f m g k a b c h i = omega arith

pub joined_gains : (f m g k a b c : Room) → Within (plus a m) (plus b f) → Within (plus b k) (plus c g)
    → Within (plus a (plus k (minus m g))) (plus c (plus f (minus g m)))
joined_gains f m g k a b c h i = record {
  items = balance f.items m.items g.items k.items a.items b.items c.items h.items i.items;
  senders = balance f.senders m.senders g.senders k.senders a.senders b.senders c.senders h.senders i.senders;
  receivers = balance f.receivers m.receivers g.receivers k.receivers a.receivers b.receivers c.receivers h.receivers i.receivers;
}
