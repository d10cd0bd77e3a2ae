use Rattle.std.proofs.Common.{◌≡◌, drop}
use Rattle.gr_program.specs.Views.{stmts_of, cases_of}
use Rattle.gr_program.specs.LastStarts.{after_body, after_cases}
use Rattle.gr_program.proofs.order.+ordering.Given as goal

abbrev pub invariant-after_body-loop-stmt : goal.invariant-after_body-loop-stmt
invariant-after_body-loop-stmt l = after_body (stmts_of (drop l.stmt-index l.body)) l.start ≡ after_body (stmts_of l.body) l.last

abbrev pub invariant-after_cases-loop-case : goal.invariant-after_cases-loop-case
invariant-after_cases-loop-case l = after_cases (cases_of (drop l.case-index l.cases)) l.start ≡ after_cases (cases_of l.cases) l.last
