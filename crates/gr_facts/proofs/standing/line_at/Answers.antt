use Rattle.std.proofs.Common.{None, Some, ap, sym, ◌∙◌}
use Rattle.std.specs.Prelude.{option_copied}
use Rattle.gr_facts.proofs.NameLemmas.{no_code, line_found}
use Rattle.gr_facts.proofs.standing.line_at.Goals as goal

pub returns-in_err-function : goal.returns-in_err-function
returns-in_err-function c =
    let code = c.args.code.now in
    c.from_residual.ensures ∙ no_code code.functions.items code.main c.args.spot (sym (ap option_copied c.in_err-function.was) ∙ c.code_of.ensures)

pub returns-in_err-line : goal.returns-in_err-line
returns-in_err-line c =
    let code = c.args.code.now in
    c.from_residual-in_err-line.ensures
    ∙ line_found code.functions.items code.main c.args.spot c.in_ok-function.function.now None
    (sym (ap option_copied c.in_ok-function.was) ∙ c.code_of.ensures) (sym c.in_err-line.was ∙ c.line_in.ensures)

pub returns : goal.returns
returns c =
    let code = c.args.code.now in
    line_found code.functions.items code.main c.args.spot c.in_ok-function.function.now (Some c.in_ok-line.line)
    (sym (ap option_copied c.in_ok-function.was) ∙ c.code_of.ensures) (sym c.in_ok-line.was ∙ c.line_in.ensures)
