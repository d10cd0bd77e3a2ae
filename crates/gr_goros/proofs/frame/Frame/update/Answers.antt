use Rattle.std.proofs.Common.{◌∙◌, ap, sym, subst}
use Rattle.gr_rules.specs.Outcomes.{Outcome, ◌>>=◌}
use Rattle.gr_base.specs.declared.values.Value.{Value}
use Rattle.gr_code.specs.CodeFrames as frames
use Rattle.gr_code.specs.CodeViews.{operands_of}
use Rattle.gr_goros.specs.Tasks.{Does, stored}
use Rattle.gr_goros.proofs.TaskLemmas.{update_evaluates, update_holds, update_goes}
use Rattle.gr_goros.proofs.frame.Frame.update.Goals as goal

pub only-requires : goal.only-requires
only-requires c =
    update_evaluates c.args.self.now c.args.variable c.args.op c.args.on (operands_of c.args.operands.now) _ c.cells-2.ensures c.requires

pub held-requires : goal.held-requires
held-requires c =
    update_holds c.args.self.now c.args.variable c.args.op c.args.on (operands_of c.args.operands.now) _ c.cells-2.ensures c.in_ok-right.right
    c.in_ok-right.ensures.ok c.requires

pub operate-requires : goal.operate-requires
operate-requires c w =
    let f = c.args.self.now in
    let is = update_goes f c.args.variable c.args.op c.args.on (operands_of c.args.operands.now) _ c.cells-2.ensures c.in_ok-right.right
    c.in_ok-right.ensures.ok c.in_ok-left.left c.in_ok-left.ensures in
    c.requires (is ∙ ap (λ (o : Outcome Value). o >>= stored f c.args.variable c.args.on) w)

pub store-requires-2 : goal.store-requires-2
store-requires-2 c w =
    let f = c.args.self.now in
    let is = update_goes f c.args.variable c.args.op c.args.on (operands_of c.args.operands.now) _ c.cells-2.ensures c.in_ok-right.right
    c.in_ok-right.ensures.ok c.in_ok-left.left c.in_ok-left.ensures in
    c.requires (is ∙ ap (λ (o : Outcome Value). o >>= stored f c.args.variable c.args.on) c.in_ok-value.ensures.ok ∙ w)

pub returns : goal.returns
returns c =
    let f = c.args.self.now in
    let is = update_goes f c.args.variable c.args.op c.args.on (operands_of c.args.operands.now) _ c.cells-2.ensures c.in_ok-right.right
    c.in_ok-right.ensures.ok c.in_ok-left.left c.in_ok-left.ensures in
    let all = is ∙ ap (λ (o : Outcome Value). o >>= stored f c.args.variable c.args.on) c.in_ok-value.ensures.ok in
    subst {_, _} (λ (o : Outcome frames.Task). Does c.store-2.result o f c.store-2.new.self) (sym all) c.store-2.ensures
