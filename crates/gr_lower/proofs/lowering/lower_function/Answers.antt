use Rattle.std.proofs.Common.{◌≡◌, length, map, ap, ◌∙◌}
use Rattle.gr_program.specs.TypeViews.{declared_of}
use Rattle.gr_program.specs.Views.{stmts_of, parameters_of}
use Rattle.gr_rules.specs.Frames.{variable_of}
use Rattle.gr_code.specs.CodeViews.{instructions_of}
use Rattle.gr_lower.specs.Lowered.{body_code, cells_of, body_lines}
use Rattle.gr_lower.proofs.FunctionEmits.{same_code}
use Rattle.gr_lower.proofs.lowering.lower_function.Goals as goal

pub returns : goal.returns
returns c =
    let f = c.args.function.now in
    let n = c.count_variables-variables.result in
    let body = stmts_of f.body.items in
    let v : n ≡ length (declared_of f.variables.items) = c.count_variables-variables.ensures ∙ ap (λ l. length (declared_of l)) c.deref.ensures.value in
    let p = c.in_ok-parameters.ensures ∙ ap (λ l. map variable_of (parameters_of l)) c.deref-2.ensures.value in
    let i = c.in_ok-instructions.ensures ∙ ap (λ l. body_code n (stmts_of l)) c.deref-3.ensures.value ∙ ap (λ k. body_code k body) v in
    let cells = c.in_ok-cells.ensures ∙ ap (λ l. cells_of n (instructions_of l)) c.deref-4.ensures.value ∙ ap (cells_of n) i
    ∙ ap (λ k. cells_of k (body_code (length (declared_of f.variables.items)) body)) v in
    let l = c.in_ok-lines.ensures ∙ ap (λ l. body_lines (stmts_of l) f.closing) c.deref-5.ensures.value in
    same_code _ _ _ _ _ _ _ _ _ _ p v cells i l
