-- Changes of channels, one after the other, and taken back.
use Rattle.std.proofs.Common.{◌≡◌, List, ◌++◌, ap, sym, ◌∙◌, subst, arith, cond, None}
use Rattle.gr_base.specs.declared.names.ChName.{ChName}
use Rattle.gr_channels.specs.declared.changes.ChanUndo.{ChanUndo}
use Rattle.gr_channels.specs.Channels.{Room, Within, plus}
use Rattle.gr_rules.specs.Operators.{same_channel}
use Rattle.gr_tables.specs.NamedChannels.{contents_of, rooms_of, chan_undone, chan_back, FitsAt, ChansFit, minus, frees, needs, HasRooms, GoesBack, TookBack}
use Rattle.gr_tables.specs.NamedChannels.{KeepsRooms, ChangesJoin, ChangesGoBack, MadeIsRemoved}
use Rattle.gr_tables.specs.declared.channels.Channels.{Channels}
use Rattle.gr_tables.proofs.BackInOrder.{back_at-append, AllFit-join}
use Rattle.gr_rules.specs.States.{updated}
use Rattle.gr_tables.proofs.ChannelNames.{same_or}
use Rattle.gr_tables.proofs.RoomLemmas.{frees-append, needs-append, joined_room, joined_gains}

-- after more changes, all of them stand
pub all_fit : (us vs : List (ChName × ChanUndo)) (a b : Channels) → ChansFit us (contents_of a) → GoesBack vs a b → ChansFit (us ++ vs) (contents_of b)
all_fit us vs a b h g = AllFit-join same_channel chan_undone FitsAt (contents_of b) (contents_of a) us vs g.back h g.fits

-- after more changes, there is room for all of them
pub all_have_rooms : (us vs : List (ChName × ChanUndo)) (a b : Channels) → HasRooms us (rooms_of a) → GoesBack vs a b → HasRooms (us ++ vs) (rooms_of b)
all_have_rooms us vs a b h g q =
    subst (λ n. Within n (rooms_of b q)) (sym (needs-append us vs q))
    (joined_room (needs us q) (frees vs q) (needs vs q) (rooms_of a q) (rooms_of b q) (h q) (g.room q) (g.gains q))

pub changes_join : ChangesJoin
changes_join us vs a b c h k = record {
  back = λ q. back_at-append same_channel chan_undone us vs q (contents_of c q) ∙ ap (chan_back us q) (k.back q) ∙ h.back q;
  fits = all_fit us vs b c h.fits k;
  room = all_have_rooms us vs b c h.room k;
  gains = λ q.
      let both = joined_gains (frees us q) (needs us q) (frees vs q) (needs vs q) (rooms_of a q) (rooms_of b q) (rooms_of c q) (h.gains q) (k.gains q) in
      let needed = subst (λ n. Within (plus (rooms_of a q) n) (plus (rooms_of c q) (plus (frees us q) (minus (frees vs q) (needs us q)))))
      (sym (needs-append us vs q)) both in
      subst (λ f. Within (plus (rooms_of a q) (needs (us ++ vs) q)) (plus (rooms_of c q) f)) (sym (frees-append us vs q)) needed;
}

pub changes_go_back : ChangesGoBack
changes_go_back us a b c d h same grows took = (
  λ i q. (took.back q ∙ ap (λ f. chan_back us q (f q)) same ∙ h.back q) i,
  λ q. no_less (rooms_of a q) (rooms_of b q) (rooms_of c q) (rooms_of d q) (needs us q) (frees us q) (h.gains q) (grows q) (took.spends q),
)
  where
    no_less : (a b c d n f : Room) → Within (plus a n) (plus b f) → Within b c → Within (plus c f) (plus d n) → Within a d
    no_less a b c d n f h i j = record {
      items = omega (arith, h.items, i.items, j.items);
      senders = omega (arith, h.senders, i.senders, j.senders);
      receivers = omega (arith, h.receivers, i.receivers, j.receivers);
    }

pub made_is_removed : MadeIsRemoved
made_is_removed name x f none = λ i q. all q i
  where
    all : (q : ChName) → updated same_channel (updated same_channel f name x) name None q ≡ f q
    all q = same_or name q None (updated same_channel f name x q) (f q) (λ e. sym (ap f e ∙ none)) (λ e. ap (λ t. cond t x (f q)) e)

-- taken back after room was made
pub took_after : (us : List (ChName × ChanUndo)) (a b c : Channels) → contents_of b ≡ contents_of a → KeepsRooms a b → TookBack us b c → TookBack us a c
took_after us a b c same grows took = record {
  back = λ q. took.back q ∙ ap (λ f. chan_back us q (f q)) same;
  spends = λ q. from_less (rooms_of a q) (rooms_of b q) (rooms_of c q) (needs us q) (frees us q) (grows q) (took.spends q);
}
  where
    from_less : (a b c n f : Room) → Within a b → Within (plus b f) (plus c n) → Within (plus a f) (plus c n)
    from_less a b c n f h i = record {
      items = omega (arith, h.items, i.items);
      senders = omega (arith, h.senders, i.senders);
      receivers =
          omega (arith, h.receivers, i.receivers);
    }
