use Rattle.std.proofs.Common.{◌≡◌, ◌+◌, ◌-◌, ◌++◌, ◌≤◌, drop, vec_len}
use Rattle.gr_program.specs.Views.{prints_of}
use Rattle.gr_rules.specs.Points.{printed_operands}
use Rattle.gr_code.specs.CodeViews.{operands_of, instructions_of}
use Rattle.gr_code.specs.Passing.{parts_in}
use Rattle.gr_lower.specs.PartCode.{left_in, code_in}
use Rattle.gr_lower.proofs.Emits.{joined}
use Rattle.gr_lower.proofs.acts.lower_printed.Given as goal

abbrev pub invariant-loop-printed : goal.invariant-loop-printed
invariant-loop-printed l = record {
  from : l.begins ≤ vec_len l.out;
  begun : l.begins ≡ vec_len l.initial.out;
  code : instructions_of l.out.items ++ code_in (printed_operands (prints_of (drop l.printed-index l.values)))
      (l.first + (vec_len l.out - l.begins)) (vec_len l.out)
      ≡ instructions_of l.initial.out.items ++ code_in (printed_operands (prints_of l.values)) l.first (vec_len l.initial.out);
  grown : vec_len l.out + parts_in (printed_operands (prints_of (drop l.printed-index l.values)))
      ≡ vec_len l.initial.out + parts_in (printed_operands (prints_of l.values));
  value : joined (operands_of l.operands.items)
      (left_in (printed_operands (prints_of (drop l.printed-index l.values))) (l.first + (vec_len l.out - l.begins)))
      ≡ left_in (printed_operands (prints_of l.values)) l.first;
}
