use Rattle.std.proofs.Common.{◌≡◌, ◌∙◌, sym, ap}
use Rattle.std.specs.Prelude.{Some}
use Rattle.gr_tree.specs.Exprs.{names_of}
use Rattle.gr_exprs.specs.Tables.{scope_of}
use Rattle.gr_program.specs.Views.{expr_of}
use Rattle.gr_types.specs.Taking as pure
use Rattle.gr_types.specs.TakerViews.{taker_of}
use Rattle.gr_exprs.specs.Checking.{meaning_of, meanings_of}
use Rattle.gr_types.proofs.TakerRows.{share_on, share_end}
use Rattle.gr_types.proofs.assigning.definition.shares.Goals as goal

pub loop-name-preserved : goal.loop-name-preserved
loop-name-preserved c =
    let s = scope_of c.args.scope.now in
    let x = c.name-item.result in
    let v = c.in-Some.value in
    let k = c.in_ok-taker.taker in
    let t = c.in_ok-taker.term in
    let gives : pure.share s x.items (meaning_of v) ≡ Some (taker_of k, expr_of t) = ap (λ y. pure.share s y (meaning_of v)) (sym c.deref.ensures.value) ∙ c.in_ok-taker.ensures in
    share_on s c.args.names.now c.loop-name.name-index c.loop-name.values.items c.loop-name.takers.items c.loop-name.terms.items (pure.shares s (names_of c.args.names.now) (meanings_of c.args.values.items)) c.loop-name.invariant x v c.pop_front.new.self.items k t c.push_back.new.self.items c.push.new.self.items c.loop-name-test.true c.name-item.is c.in-Some.ensures.items gives c.in_ok-push_back.ensures.items c.in_ok-push.ensures.items

pub returns : goal.returns
returns c =
    let s = scope_of c.args.scope.now in
    share_end s c.args.names.now c.loop-name.name-index c.loop-name.values.items c.loop-name.takers.items c.loop-name.terms.items (pure.shares s (names_of c.args.names.now) (meanings_of c.args.values.items)) c.loop-name.invariant c.loop-name-test.false
