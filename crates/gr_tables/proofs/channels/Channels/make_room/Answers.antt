use Rattle.std.proofs.Common.{◌∙◌, arith, subst, sym}
use Rattle.std.proofs.lemmas.Bool.{false≢true}
use Rattle.gr_channels.specs.Channels.{Within}
use Rattle.gr_tables.specs.NamedChannels.{contents_of, rooms_of}
use Rattle.gr_tables.proofs.RoomLemmas.{within_more}
use Rattle.gr_tables.proofs.Reserving.{stands_at, had_room, made_more}
use Rattle.gr_tables.proofs.channels.Channels.make_room.Goals as goal

pub room_is_small-requires : goal.room_is_small-requires
room_is_small-requires c =
    stands_at c.args.undos.now c.loop-place.place c.index-undos-place.result c.loop-place-test.true c.loop-place.invariant.within c.index-undos-place.is
    (contents_of c.args.self.now) (contents_of c.loop-place.self) c.requires c.loop-place.invariant.contents

pub reserve-requires : goal.reserve-requires
reserve-requires c =
    stands_at c.args.undos.now c.loop-place.place c.index-undos-place.result c.loop-place-test.true c.loop-place.invariant.within c.index-undos-place.is
    (contents_of c.args.self.now) (contents_of c.loop-place.self) c.requires c.loop-place.invariant.contents

pub returns-in_default-clause-succeeds : goal.returns-in_default-clause-succeeds
returns-in_default-clause-succeeds c = λ rooms.
    let had = had_room c.args.undos.now c.loop-place.place c.index-undos-place.result c.loop-place-test.true c.loop-place.invariant.within
    c.index-undos-place.is c.args.self.now c.loop-place.self rooms c.loop-place.invariant.grows in
    c.in_default.ensures.fits (within_more _ _ _ had c.room_is_small.ensures)

pub returns-in_err-reserve-clause-succeeds : goal.returns-in_err-reserve-clause-succeeds
returns-in_err-reserve-clause-succeeds c = λ rooms.
    let had = had_room c.args.undos.now c.loop-place.place c.index-undos-place.result c.loop-place-test.true c.loop-place.invariant.within
    c.index-undos-place.is c.args.self.now c.loop-place.self rooms c.loop-place.invariant.grows in
    absurd (false≢true (c.in_err-reserve.ensures.succeeds (subst (λ r. Within r (rooms_of c.loop-place.self c.index-undos-place.result.0))
    (sym c.in-Some.ensures.some) had)))

pub loop-place-preserved : goal.loop-place-preserved
loop-place-preserved c = record {
  within = omega arith;
  contents = c.reserve.ensures.contents ∙ c.loop-place.invariant.contents;
  grows = λ q. within_more _ _ _ (c.loop-place.invariant.grows q) (c.reserve.ensures.grows q);
  made = made_more c.args.undos.now c.loop-place.place c.index-undos-place.result c.loop-place-test.true c.loop-place.invariant.within c.index-undos-place.is
      _ c.loop-place.self c.reserve.new.self c.loop-place.invariant.made c.reserve.ensures.grows c.in-Some.ensures.some c.in_ok-reserve.ensures.ok;
}
