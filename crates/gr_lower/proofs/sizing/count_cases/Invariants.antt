use Rattle.std.proofs.Common.{◌≡◌, ◌+◌, drop}
use Rattle.gr_program.specs.Views.{cases_of}
use Rattle.gr_rules.specs.Points.{case_operands}
use Rattle.gr_code.specs.Passing.{parts_in}
use Rattle.gr_lower.proofs.sizing.count_cases.Given as goal

abbrev pub invariant-loop-case : goal.invariant-loop-case
invariant-loop-case l = l.found + parts_in (case_operands (cases_of (drop l.case-index l.cases))) ≡ parts_in (case_operands (cases_of l.cases))
