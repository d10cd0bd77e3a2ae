use Rattle.gr_depend.proofs.OrderingLemmas.{first_of_all, beyond_place, none_beyond}
use Rattle.gr_depend.proofs.log.Log.first_to_change.Goals as goal

pub returns-in-Some : goal.returns-in-Some
returns-in-Some c =
    first_of_all c.args.self.now.records.items c.args.from.now c.args.to.now c.requires.inverse c.loop-place.place c.loop-place-test.true c.loop-place.invariant
    c.in-Some.earlier c.in-Some.ensures.0 c.in-Some.ensures.1

pub loop-place-preserved : goal.loop-place-preserved
loop-place-preserved c =
    beyond_place c.args.self.now.records.items c.args.from.now c.args.to.now c.requires.places c.requires.inverse c.loop-place.place c.loop-place.invariant
    c.in_default.ensures

pub returns : goal.returns
returns c = none_beyond c.args.self.now.records.items c.args.from.now c.args.to.now c.requires.places c.requires.inverse c.loop-place.place c.loop-place-test.false c.loop-place.invariant
