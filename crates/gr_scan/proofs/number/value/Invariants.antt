use Rattle.std.proofs.Common.{◌≡◌, ◌≤◌, ◌^◌, drop}
use Rattle.gr_scan.specs.Numbers.{value_after}
use Rattle.gr_scan.proofs.number.value.Given as goal

abbrev pub invariant-loop-b : goal.invariant-loop-b
invariant-loop-b l = record {
  so_far : value_after l.base l.value (drop l.b-index l.digits) ≡ value_after l.base 0 l.digits;
  small : l.value ≤ 2 ^ 63;
}
