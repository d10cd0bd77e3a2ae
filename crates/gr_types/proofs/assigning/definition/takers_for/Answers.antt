use Rattle.std.proofs.Common.{◌≡◌, ◌∙◌, sym, ap}
use Rattle.std.specs.Prelude.{Some}
use Rattle.gr_tree.specs.Exprs.{names_of}
use Rattle.gr_program.specs.TypeViews.{ty_of, types_of}
use Rattle.gr_exprs.specs.Tables.{scope_of}
use Rattle.gr_types.specs.Taking as pure
use Rattle.gr_types.specs.TakerViews.{taker_of}
use Rattle.gr_types.proofs.TakerRows.{taker_on, taker_none, taker_end}
use Rattle.gr_types.proofs.assigning.definition.takers_for.Goals as goal

pub returns-in-None : goal.returns-in-None
returns-in-None c =
    let s = scope_of c.args.scope.now in
    taker_none s c.args.names.now c.args.types.now c.loop-index.index c.loop-index.takers.items (pure.takers s (names_of c.args.names.now) (types_of c.args.types.now)) c.loop-index.invariant c.loop-index-test.true c.in-None.ensures.lookup.3

pub loop-index-preserved : goal.loop-index-preserved
loop-index-preserved c =
    let s = scope_of c.args.scope.now in
    let x = c.index-names-index.result in
    let own = c.in_ok-own-in-Some.own in
    let found = c.in-Some.ensures.lookup in
    let gives : pure.taker s x.items (ty_of own) ≡ Some (taker_of c.in_ok-taker.taker) = ap (λ y. pure.taker s y (ty_of own)) (sym c.deref.ensures.value) ∙ c.in_ok-taker.ensures in
    taker_on s c.args.names.now c.args.types.now c.loop-index.index c.loop-index.takers.items (pure.takers s (names_of c.args.names.now) (types_of c.args.types.now)) c.loop-index.invariant x c.in-Some.own.now own c.in_ok-taker.taker c.push_back.new.self.items c.loop-index-test.true c.index-names-index.is found.3.0 found.1 c.in_ok-own-in-Some.ensures gives c.in_ok-push_back.ensures.items

pub returns : goal.returns
returns c =
    let s = scope_of c.args.scope.now in
    taker_end s c.args.names.now c.args.types.now c.loop-index.index c.loop-index.takers.items (pure.takers s (names_of c.args.names.now) (types_of c.args.types.now)) c.loop-index.invariant c.loop-index-test.false
