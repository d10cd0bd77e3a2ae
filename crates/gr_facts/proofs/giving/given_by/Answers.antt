use Rattle.std.proofs.Common.{ap, sym, ◌∙◌}
use Rattle.std.specs.Prelude.{option_copied}
use Rattle.gr_program.specs.Views.{program_of}
use Rattle.gr_facts.proofs.NameLemmas.{bytes_of, bytes_on, none_coded, no_instruction, given_found}
use Rattle.gr_facts.proofs.giving.given_by.Goals as goal

pub returns-in_default : goal.returns-in_default
returns-in_default c =
    let code = c.args.code.now in
    ap bytes_of c.new.ensures.items
    ∙ none_coded code.functions.items code.main c.args.spot (program_of c.args.program.now) (sym (ap option_copied c.in_default.is) ∙ c.code_of.ensures)

pub returns-in_default-instruction_at : goal.returns-in_default-instruction_at
returns-in_default-instruction_at c =
    let code = c.args.code.now in
    ap bytes_of c.new-in_default-instruction_at.ensures.items
    ∙ no_instruction code.functions.items code.main c.args.spot (program_of c.args.program.now) c.in-Some.function.now
    (sym (ap option_copied c.in-Some.is) ∙ c.code_of.ensures)
    (sym (ap option_copied c.in_default-instruction_at.is) ∙ c.instruction_at.ensures)

pub returns : goal.returns
returns c =
    let code = c.args.code.now in
    bytes_on c.given_in.result _ _
    (given_found code.functions.items code.main c.args.spot (program_of c.args.program.now) c.in-Some.function.now c.in-Some-instruction_at.instruction.now
    (sym (ap option_copied c.in-Some.is) ∙ c.code_of.ensures)
    (sym (ap option_copied c.in-Some-instruction_at.is) ∙ c.instruction_at.ensures))
    c.given_in.ensures
