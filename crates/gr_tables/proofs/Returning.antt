-- The last ones of some changes are taken back, and the first ones are left.
use Rattle.std.proofs.Common.{◌≡◌, ℕ, ◌+◌, ◌-◌, ◌≤◌, List, ◌++◌, ap, sym, ◌∙◌, subst, arith}
use Rattle.gr_base.specs.declared.names.ChName.{ChName}
use Rattle.gr_channels.specs.declared.changes.ChanUndo.{ChanUndo}
use Rattle.gr_channels.specs.Channels.{Room, Within, plus}
use Rattle.gr_rules.specs.Operators.{same_channel}
use Rattle.gr_tables.specs.NamedChannels.{contents_of, rooms_of, chan_undone, chan_back, FitsAt, ChansFit, minus, frees, needs, HasRooms, TookBack}
use Rattle.gr_tables.specs.declared.channels.Channels.{Channels}
use Rattle.gr_tables.proofs.BackInOrder.{back_at-append, AllFit-first, AllFit-second}
use Rattle.gr_tables.proofs.RoomLemmas.{frees-append, needs-append}

module _ (all us vs : List (ChName × ChanUndo)) (are : all ≡ us ++ vs) where
  pub last_fit : (a : Channels) → ChansFit all (contents_of a) → ChansFit vs (contents_of a)
  last_fit a h = AllFit-second same_channel chan_undone FitsAt (contents_of a) (contents_of a) us vs (subst (λ es. ChansFit es (contents_of a)) are h)

  pub last_have_rooms : (a : Channels) → HasRooms all (rooms_of a) → HasRooms vs (rooms_of a)
  last_have_rooms a h q = less (needs vs q) (minus (needs us q) (frees vs q)) (rooms_of a q)
      (subst (λ n. Within n (rooms_of a q)) (ap (λ es. needs es q) are ∙ needs-append us vs q) (h q))
    where
      less : (n m r : Room) → Within (plus n m) r → Within n r
      less n m r h = record { items = omega (arith, h.items); senders = omega (arith, h.senders); receivers = omega (arith, h.receivers) }

  module _ (a b : Channels) (took : TookBack vs a b) where
    pub first_fit : ChansFit all (contents_of a) → ChansFit us (contents_of b)
    first_fit h = AllFit-first same_channel chan_undone FitsAt (contents_of a) (contents_of b) us vs (λ q. sym (took.back q))
        (subst (λ es. ChansFit es (contents_of a)) are h)

    pub first_back : (q : ChName) → chan_back us q (contents_of b q) ≡ chan_back all q (contents_of a q)
    first_back q = ap (chan_back us q) (took.back q) ∙ sym (back_at-append same_channel chan_undone us vs q (contents_of a q))
        ∙ ap (λ es. chan_back es q (contents_of a q)) (sym are)

    pub first_have_rooms : HasRooms all (rooms_of a) → HasRooms us (rooms_of b)
    first_have_rooms h q = left (needs us q) (frees vs q) (needs vs q) (rooms_of a q) (rooms_of b q)
        (subst (λ n. Within n (rooms_of a q)) (ap (λ es. needs es q) are ∙ needs-append us vs q) (h q)) (took.spends q)
      where
        left : (n f m r s : Room) → Within (plus m (minus n f)) r → Within (plus r f) (plus s m) → Within n s
        left n f m r s h k = record {
          items = omega (arith, h.items, k.items);
          senders = omega (arith, h.senders, k.senders);
          receivers =
              omega (arith, h.receivers, k.receivers);
        }

    -- what more was freed than needed, since the channels c and their changes es
    pub first_spent : (c : Channels) (es : List (ChName × ChanUndo)) (q : ChName)
        → Within (plus (plus (rooms_of c q) (frees es q)) (needs all q)) (plus (plus (rooms_of a q) (frees all q)) (needs es q))
        → Within (plus (plus (rooms_of c q) (frees es q)) (needs us q)) (plus (plus (rooms_of b q) (frees us q)) (needs es q))
    first_spent c es q h =
        let needed = subst (λ n. Within (plus (plus (rooms_of c q) (frees es q)) n) (plus (plus (rooms_of a q) (frees all q)) (needs es q)))
        (ap (λ fs. needs fs q) are ∙ needs-append us vs q) h in
        let freed = subst (λ f. Within (plus (plus (rooms_of c q) (frees es q)) (plus (needs vs q) (minus (needs us q) (frees vs q))))
        (plus (plus (rooms_of a q) f) (needs es q))) (ap (λ fs. frees fs q) are ∙ frees-append us vs q) needed in
        each_spent (rooms_of c q) (frees es q) (needs es q) (rooms_of a q) (rooms_of b q) (needs us q) (frees us q) (needs vs q) (frees vs q) freed
        (took.spends q)
      where
        spent : (c f n a b m g k e : ℕ) → (c + f) + (k + (m - e)) ≤ (a + (g + (e - m))) + n → a + e ≤ b + k → (c + f) + m ≤ (b + g) + n
        spent c f n a b m g k e h i = omega arith

        each_spent : (c f n a b m g k e : Room) → Within (plus (plus c f) (plus k (minus m e))) (plus (plus a (plus g (minus e m))) n)
            → Within (plus a e) (plus b k) → Within (plus (plus c f) m) (plus (plus b g) n)
        each_spent c f n a b m g k e h i = record {
          items = spent c.items f.items n.items a.items b.items m.items g.items k.items e.items h.items i.items;
          senders = spent c.senders f.senders n.senders a.senders b.senders m.senders g.senders k.senders e.senders h.senders i.senders;
          receivers = spent c.receivers f.receivers n.receivers a.receivers b.receivers m.receivers g.receivers k.receivers e.receivers h.receivers i.receivers;
        }
