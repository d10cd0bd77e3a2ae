use Rattle.std.proofs.Common.{ap, sym, ◌∙◌}
use Rattle.std.specs.Prelude.{option_copied}
use Rattle.gr_facts.proofs.NameLemmas.{bytes_of, bytes_on, no_targets, targets_found}
use Rattle.gr_facts.proofs.giving.targets_in.Goals as goal

pub returns-in_default : goal.returns-in_default
returns-in_default c =
    ap bytes_of c.new.ensures.items
    ∙ no_targets c.args.targets.now c.args.program.now.functions.items c.args.function (sym (ap option_copied c.in_default.is) ∙ c.function_of.ensures)

pub returns : goal.returns
returns c =
    bytes_on c.names_of_targets.result _ _
    (targets_found c.args.targets.now c.args.program.now.functions.items c.args.function c.in-Some.function.now
    (sym (ap option_copied c.in-Some.is) ∙ c.function_of.ensures))
    c.names_of_targets.ensures
