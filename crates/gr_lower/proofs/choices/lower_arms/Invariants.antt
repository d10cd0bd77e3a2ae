use Rattle.std.proofs.Common.{◌≡◌, ◌+◌, ◌-◌, ◌++◌, ◌≤◌, ℕ, List, drop, vec_len}
use Rattle.gr_program.specs.Views.{cases_of}
use Rattle.gr_rules.specs.Points.{case_operands}
use Rattle.gr_code.specs.CodeViews.{arms_of, instructions_of}
use Rattle.gr_code.specs.Passing.{parts_in}
use Rattle.gr_lower.specs.PartCode.{code_in}
use Rattle.gr_lower.specs.StatementCode.{arms}
use Rattle.gr_lower.specs.Asked.{clause_sizes}
use Rattle.gr_lower.proofs.choices.lower_arms.Given as goal

abbrev pub invariant-loop-case : goal.invariant-loop-case
invariant-loop-case l = record {
  from : l.start ≤ vec_len l.out;
  begun : l.start ≡ vec_len l.initial.out;
  code : instructions_of l.out.items ++ code_in (case_operands (cases_of (drop l.case-index l.cases))) (l.first + (vec_len l.out - l.start))
      (vec_len l.out) ≡ instructions_of l.initial.out.items ++ code_in (case_operands (cases_of l.cases)) l.first (vec_len l.initial.out);
  grown : vec_len l.out + parts_in (case_operands (cases_of (drop l.case-index l.cases))) ≡ vec_len l.initial.out + parts_in (case_operands (cases_of l.cases));
  value : (rest : List ℕ) → l.initial.sizes ≡ clause_sizes (cases_of l.cases) ++ rest
      → (l.sizes ≡ clause_sizes (cases_of (drop l.case-index l.cases)) ++ rest)
      × (arms_of l.found.items ++ arms (cases_of (drop l.case-index l.cases)) (l.first + (vec_len l.out - l.start)) l.first l.place l.on
      ≡ arms (cases_of l.cases) l.first l.first l.begins l.on);
}
