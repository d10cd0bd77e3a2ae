use Rattle.std.proofs.Common.{◌≡◌, vec_len}
use Rattle.gr_base.specs.declared.names.ChName.{ChName}
use Rattle.gr_channels.specs.Channels.{Within, plus}
use Rattle.gr_tables.specs.NamedChannels.{contents_of, rooms_of, chan_back, ChansFit, frees, needs, HasRooms}
use Rattle.gr_tables.proofs.channels.Channels.put_all_back.Given as goal

abbrev pub invariant-loop-name : goal.invariant-loop-name
invariant-loop-name l = record {
  back : (q : ChName) → chan_back l.undos.items q (contents_of l.self q) ≡ chan_back l.fn.undos.items q (contents_of l.fn.self q);
  fits : ChansFit l.undos.items (contents_of l.self);
  room : HasRooms l.undos.items (rooms_of l.self);
  spent : (q : ChName) → Within (plus (plus (rooms_of l.fn.self q) (frees l.fn.undos.items q)) (needs l.undos.items q))
      (plus (plus (rooms_of l.self q) (frees l.undos.items q)) (needs l.fn.undos.items q));
}

abbrev pub decreases-loop-name : goal.decreases-loop-name
decreases-loop-name l = vec_len l.undos
