use Rattle.std.proofs.Common.{ap, sym, ◌∙◌}
use Rattle.std.specs.Prelude.{option_copied}
use Rattle.gr_facts.proofs.NameLemmas.{bytes_of, bytes_on, no_parameters, parameters_found}
use Rattle.gr_facts.proofs.giving.parameters_of.Goals as goal

pub returns-in_default : goal.returns-in_default
returns-in_default c =
    let program = c.args.program.now in
    ap bytes_of c.new.ensures.items
    ∙ no_parameters program.functions.items program.main c.args.function (sym (ap option_copied c.in_default.is) ∙ c.function_of.ensures)

pub returns : goal.returns
returns c =
    let program = c.args.program.now in
    bytes_on c.names_of_parameters.result _ _
    (parameters_found program.functions.items program.main c.args.function c.in-Some.function.now
    (sym (ap option_copied c.in-Some.is) ∙ c.function_of.ensures))
    c.names_of_parameters.ensures
