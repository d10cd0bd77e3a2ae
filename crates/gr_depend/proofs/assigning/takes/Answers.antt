use Rattle.std.proofs.Common.{option_copied, sym, ap, ◌∙◌}
use Rattle.gr_depend.proofs.CalledLemmas.{parameter_found, no_parameter}
use Rattle.gr_depend.proofs.assigning.takes.Goals as goal

pub returns-in_default : goal.returns-in_default
returns-in_default c =
    let program = c.args.program.now in
    no_parameter c.args.name.now program.functions.items program.main c.args.function
    (sym (ap option_copied c.in_default.is) ∙ c.function_at.ensures)

pub returns : goal.returns
returns c =
    let program = c.args.program.now in
    c.names_parameter.ensures
    ∙ parameter_found c.args.name.now program.functions.items program.main c.args.function c.in-Some.function.now
    (sym (ap option_copied c.in-Some.is) ∙ c.function_at.ensures)
