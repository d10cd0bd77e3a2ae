use Rattle.std.proofs.Common.{◌≡◌, ◌++◌, drop}
use Rattle.gr_program.specs.Views.{stmts_of, cases_of}
use Rattle.gr_lower.specs.Lines.{stmts_lines, cases_lines}
use Rattle.gr_lower.proofs.placing.+marking.Given as goal

abbrev pub invariant-mark_stmts-loop-stmt : goal.invariant-mark_stmts-loop-stmt
invariant-mark_stmts-loop-stmt l = l.lines.items ++ stmts_lines (stmts_of (drop l.stmt-index l.stmts)) ≡ l.initial.lines.items ++ stmts_lines (stmts_of l.stmts)

abbrev pub invariant-mark_cases-loop-case : goal.invariant-mark_cases-loop-case
invariant-mark_cases-loop-case l = l.lines.items ++ cases_lines l.line (cases_of (drop l.case-index l.cases))
    ≡ l.initial.lines.items ++ cases_lines l.line (cases_of l.cases)
