use Rattle.std.proofs.Common.{arith}
use Rattle.std.proofs.lemmas.Option.{slice_get_read}
use Rattle.gr_depend.proofs.OrderingLemmas.{found_none, found_next, named_place, named_twice, all_below, no_such_step, refuted, told}
use Rattle.gr_depend.proofs.log.Log.find_moves.Goals as goal

pub loop-i-init : goal.loop-i-init
loop-i-init c = found_none c.args.self.now.records.items c.args.order.now c.args.from.now c.args.to.now c.requires.from c.requires.to

pub returns-in_default-clause-others : goal.returns-in_default-clause-others
returns-in_default-clause-others c =
    refuted
    (no_such_step c.args.self.now.records.items c.args.order.now c.loop-i.i c.index-order-i.result
    (slice_get_read c.args.order.now _ c.loop-i.i c.index-order-i.result (omega arith) c.loop-i-test.true c.index-order-i.is) c.in_default.ensures.missing)

pub bounds-to-place : goal.bounds-to-place
bounds-to-place c =
    let inside = named_place c.args.self.now.records.items c.in-Some.place c.index-order-i.result c.in-Some.ensures.found in
    let places = c.loop-i.invariant.places in
    omega (arith, inside, places)

pub offset_bounds-to-place : goal.offset_bounds-to-place
offset_bounds-to-place c =
    let inside = named_place c.args.self.now.records.items c.in-Some.place c.index-order-i.result c.in-Some.ensures.found in
    omega (arith, inside, c.args.self.now.records.ok.0, c.args.self.now.records.small)

pub returns-then-to-place-clause-others : goal.returns-then-to-place-clause-others
returns-then-to-place-clause-others c =
    refuted
    (named_twice c.args.self.now.records.items c.args.order.now c.loop-i.i c.loop-i.from c.loop-i.to c.loop-i.invariant c.in-Some.place c.index-order-i.result
    c.loop-i-test.true (slice_get_read c.args.order.now _ c.loop-i.i c.index-order-i.result (omega arith) c.loop-i-test.true c.index-order-i.is) c.in-Some.ensures.found
    c.if-to-place.true)

pub loop-i-preserved : goal.loop-i-preserved
loop-i-preserved c =
    found_next c.args.self.now.records.items c.args.order.now c.loop-i.i c.loop-i.from c.loop-i.to c.loop-i.invariant c.in-Some.place c.index-order-i.result
    (slice_get_read c.args.order.now _ c.loop-i.i c.index-order-i.result (omega arith) c.loop-i-test.true c.index-order-i.is) c.in-Some.ensures.found c.if-to-place.false

pub returns-clause-found : goal.returns-clause-found
returns-clause-found c t =
    all_below c.args.self.now.records.items c.args.order.now c.loop-i.i c.loop-i.from c.loop-i.to c.loop-i.invariant c.requires.distinct c.loop-i.auto.i-end c.loop-i-test.false
    (c.are_below.ensures.0 t)

pub returns-clause-others : goal.returns-clause-others
returns-clause-others c =
    told c.args.self.now.records.items c.args.order.now c.loop-i.i c.loop-i.from c.loop-i.to c.loop-i.invariant c.requires.distinct c.loop-i.auto.i-end c.loop-i-test.false
    c.are_below.result c.are_below.ensures
