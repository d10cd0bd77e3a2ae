use Rattle.std.proofs.Common.{ap, sym, ◌∙◌}
use Rattle.std.specs.Prelude.{option_copied}
use Rattle.gr_facts.proofs.NameLemmas.{no_function, function_found}
use Rattle.gr_facts.proofs.standing.function_at.Goals as goal

pub returns-in_default : goal.returns-in_default
returns-in_default c =
    no_function c.args.program.now.functions.items c.args.spot.function (sym (ap option_copied c.in_default.is) ∙ c.function_of.ensures)

pub returns : goal.returns
returns c =
    function_found c.args.program.now.functions.items c.args.spot.function c.in-Some.function.now c.in_ok-name.name.items
    (sym (ap option_copied c.in-Some.is) ∙ c.function_of.ensures) (c.in_ok-name.ensures.items ∙ c.deref.ensures.value)
