use Rattle.std.proofs.Common.{◌≡◌, ◌+◌, ◌-◌, ◌++◌, ◌≤◌, drop, vec_len}
use Rattle.gr_program.specs.Views.{exprs_of}
use Rattle.gr_rules.specs.Operands as rules
use Rattle.gr_code.specs.CodeViews.{operands_of, instructions_of}
use Rattle.gr_code.specs.Passing.{parts_in}
use Rattle.gr_lower.specs.PartCode.{left_in, code_in}
use Rattle.gr_lower.proofs.Emits.{joined}
use Rattle.gr_lower.proofs.expressions.+lowering.Given as goal

abbrev pub invariant-lower_exprs-loop-expr : goal.invariant-lower_exprs-loop-expr
invariant-lower_exprs-loop-expr l = record {
  from : l.begins ≤ vec_len l.out;
  begun : l.begins ≡ vec_len l.initial.out;
  code : instructions_of l.out.items ++ code_in (rules.operands_of (exprs_of (drop l.expr-index l.exprs))) (l.first + (vec_len l.out - l.begins))
      (vec_len l.out) ≡ instructions_of l.initial.out.items ++ code_in (rules.operands_of (exprs_of l.exprs)) l.first (vec_len l.initial.out);
  grown : vec_len l.out + parts_in (rules.operands_of (exprs_of (drop l.expr-index l.exprs)))
      ≡ vec_len l.initial.out + parts_in (rules.operands_of (exprs_of l.exprs));
  value : joined (operands_of l.operands.items)
      (left_in (rules.operands_of (exprs_of (drop l.expr-index l.exprs))) (l.first + (vec_len l.out - l.begins)))
      ≡ left_in (rules.operands_of (exprs_of l.exprs)) l.first;
}
