use Rattle.std.proofs.Common.{◌∙◌, ap, not, sym}
use Rattle.std.specs.Prelude.{slice_get}
use Rattle.gr_rules.specs.Evaluation.{evaluate, held}
use Rattle.gr_code.specs.CodeViews.{operand_of}
use Rattle.gr_eval.specs.Stops.{is_fault}
use Rattle.gr_eval.specs.Stops as eval
use Rattle.gr_goros.specs.Alone.{stays}
use Rattle.gr_goros.specs.Tasks.{updated}
use Rattle.gr_goros.specs.Alone.{has_caller_at, is_deepest_at}
use Rattle.gr_goros.proofs.AloneLemmas.{not_one, only_operand, update_right, update_stays}
use Rattle.gr_goros.proofs.frame.Frame.updates.Goals as goal

pub returns-in_default-2 : goal.returns-in_default-2
returns-in_default-2 c =
    not_one c.args.self.now c.args.variable c.args.op c.args.on (has_caller_at c.args.depth) (is_deepest_at c.args.depth) c.args.operands.now c.in_default.len_at_least

pub update_faults-requires : goal.update_faults-requires
update_faults-requires c w =
    let f = c.args.self.now in
    let x = c.args.variable in
    let e = operand_of c.operand-item.result in
    let one = ap (updated f x c.args.op c.args.on)
    (only_operand c.args.operands.now c.operand-item.result c.in-len1.len_at_least c.in-len1.len_below c.operand-item.is) in
    update_right f x c.args.op c.args.on e (λ bad. c.requires (one ∙ bad))
    (ap (λ cells. eval.updated c.args.op (evaluate cells e) (held (slice_get cells x))) (sym c.cells.ensures) ∙ w)

pub returns-in-len1 : goal.returns-in-len1
returns-in-len1 c =
    let f = c.args.self.now in
    let x = c.args.variable in
    let e = operand_of c.operand-item.result in
    let caller = has_caller_at c.args.depth in
    let deepest = is_deepest_at c.args.depth in
    let one = ap (updated f x c.args.op c.args.on)
    (only_operand c.args.operands.now c.operand-item.result c.in-len1.len_at_least c.in-len1.len_below c.operand-item.is) in
    ap not (c.update_faults.ensures ∙ ap (λ cells. is_fault (eval.updated c.args.op (evaluate cells e) (held (slice_get cells x)))) c.cells.ensures)
    ∙ update_stays f x c.args.op c.args.on e caller deepest (λ bad. c.requires (one ∙ bad))
    ∙ ap (stays caller deepest) (sym one)
