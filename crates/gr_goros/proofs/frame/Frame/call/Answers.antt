use Rattle.std.proofs.Common.{replicate, None, sym, ap, ◌∙◌}
use Rattle.std.specs.Prelude.{option_copied}
use Rattle.gr_rules.specs.Outcomes.{gives}
use Rattle.gr_code.specs.CodeViews.{function_code_of, operands_of, program_code_of}
use Rattle.gr_goros.proofs.CallLemmas.{called_gives, passed_alike, passed_right}
use Rattle.gr_goros.proofs.CodeLemmas.{found_function}
use Rattle.gr_goros.proofs.frame.Frame.call.Goals as goal

pub pass-requires : goal.pass-requires
pass-requires c w =
    let own = c.args.self.now.cells in
    let es = operands_of c.args.operands.now in
    let f = function_code_of c.in-Some.function_code.now in
    let found = found_function c.args.code.now.functions.items c.args.function c.in-Some.function_code.now (sym (ap option_copied c.in-Some.is) ∙ c.function_at.ensures) in
    let alike = passed_alike own _ es f.parameters _ (replicate f.cells None) _ c.cells-2.ensures c.deref.ensures.value c.in_ok-cells.ensures in
    passed_right (program_code_of c.args.code.now) c.args.function own es f found c.requires (sym alike ∙ w)

pub returns-clause-ok : goal.returns-clause-ok
returns-clause-ok c =
    let own = c.args.self.now.cells in
    let es = operands_of c.args.operands.now in
    let f = function_code_of c.in-Some.function_code.now in
    let found = found_function c.args.code.now.functions.items c.args.function c.in-Some.function_code.now (sym (ap option_copied c.in-Some.is) ∙ c.function_at.ensures) in
    let alike = passed_alike own _ es f.parameters _ (replicate f.cells None) _ c.cells-2.ensures c.deref.ensures.value c.in_ok-cells.ensures in
    called_gives (program_code_of c.args.code.now) c.args.function own es f _ found (sym alike ∙ c.in_ok-pass.ensures.ok)
    ∙ ap gives (sym c.begin.ensures)
