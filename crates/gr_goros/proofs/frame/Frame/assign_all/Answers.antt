use Rattle.std.proofs.Common.{List, ◌∙◌, ap, sym}
use Rattle.gr_base.specs.declared.values.Value.{Value}
use Rattle.gr_rules.specs.Evaluation.{evaluate_all}
use Rattle.gr_rules.specs.Outcomes.{Outcome, ◌>>=◌}
use Rattle.gr_code.specs.CodeFrames.{acted}
use Rattle.gr_code.specs.CodeViews.{operands_of}
use Rattle.gr_code.specs.Instructions.{Assigns}
use Rattle.gr_goros.proofs.TaskLemmas.{assign_right}
use Rattle.gr_goros.proofs.frame.Frame.assign_all.Goals as goal

pub evaluate_all-requires : goal.evaluate_all-requires
evaluate_all-requires c w =
    let f = c.args.self.now in
    let es = operands_of c.args.operands.now in
    c.requires (ap (λ (o : Outcome (List Value)). o >>= acted f (Assigns c.args.targets.now c.args.on))
    (ap (λ cells. evaluate_all cells es) (sym c.cells-in_default.ensures) ∙ w))

pub assign-requires : goal.assign-requires
assign-requires c =
    let f = c.args.self.now in
    let es = operands_of c.args.operands.now in
    let is = ap (λ cells. evaluate_all cells es) (sym c.cells-in_default.ensures) ∙ c.in_ok-values-in_default.ensures.ok in
    assign_right f c.args.targets.now c.args.on es c.in_ok-values-in_default.values.items is c.requires

pub returns-in_ok-assign-in_default : goal.returns-in_ok-assign-in_default
returns-in_ok-assign-in_default c =
    let f = c.args.self.now in
    let es = operands_of c.args.operands.now in
    let is = ap (λ cells. evaluate_all cells es) (sym c.cells-in_default.ensures) ∙ c.in_ok-values-in_default.ensures.ok in (
      ap (λ (o : Outcome (List Value)). o >>= acted f (Assigns c.args.targets.now c.args.on)) is ∙ c.in_ok-assign-in_default.ensures.after,
      c.in_ok-assign-in_default.ensures.back,
    )
