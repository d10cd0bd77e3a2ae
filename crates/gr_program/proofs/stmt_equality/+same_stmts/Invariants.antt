use Rattle.std.proofs.Common.{◌≡◌, drop}
use Rattle.gr_program.specs.Views.{stmts_of, cases_of}
use Rattle.gr_program.specs.Sameness.{same_stmts, same_cases}
use Rattle.gr_program.proofs.stmt_equality.+same_stmts.Given as goal

abbrev pub invariant-are_same_stmts-loop-number : goal.invariant-are_same_stmts-loop-number
invariant-are_same_stmts-loop-number l = same_stmts (stmts_of (drop l.number l.a)) (stmts_of (drop l.number l.b)) ≡ same_stmts (stmts_of l.a) (stmts_of l.b)

abbrev pub invariant-are_same_cases-loop-number : goal.invariant-are_same_cases-loop-number
invariant-are_same_cases-loop-number l = same_cases (cases_of (drop l.number l.a)) (cases_of (drop l.number l.b)) ≡ same_cases (cases_of l.a) (cases_of l.b)
