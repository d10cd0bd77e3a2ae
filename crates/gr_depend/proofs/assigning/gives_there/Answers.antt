use Rattle.std.proofs.Common.{option_copied, sym, ap, ◌∙◌}
use Rattle.gr_program.specs.Views.{program_of}
use Rattle.gr_depend.proofs.CalledLemmas.{given_found, no_code, no_instruction}
use Rattle.gr_depend.proofs.assigning.gives_there.Goals as goal

pub returns-in_default : goal.returns-in_default
returns-in_default c =
    let code = c.args.code.now in
    no_code c.args.name.now (program_of c.args.program.now) code.functions.items code.main c.args.spot
    (sym (ap option_copied c.in_default.is) ∙ c.code_at.ensures)

pub returns-in_default-instruction_at : goal.returns-in_default-instruction_at
returns-in_default-instruction_at c =
    let code = c.args.code.now in
    no_instruction c.args.name.now (program_of c.args.program.now) code.functions.items code.main c.args.spot c.in-Some.function.now
    (sym (ap option_copied c.in-Some.is) ∙ c.code_at.ensures)
    (sym (ap option_copied c.in_default-instruction_at.is) ∙ c.instruction_at.ensures)

pub returns : goal.returns
returns c =
    let code = c.args.code.now in
    c.gives_at.ensures
    ∙ given_found c.args.name.now (program_of c.args.program.now) code.functions.items code.main c.args.spot c.in-Some.function.now c.in-Some-instruction_at.instruction.now
    (sym (ap option_copied c.in-Some.is) ∙ c.code_at.ensures)
    (sym (ap option_copied c.in-Some-instruction_at.is) ∙ c.instruction_at.ensures)
