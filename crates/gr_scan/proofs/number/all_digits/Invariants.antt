use Rattle.std.proofs.Common.{◌≡◌, drop}
use Rattle.gr_scan.specs.Numbers.{are_digits}
use Rattle.gr_scan.proofs.number.all_digits.Given as goal

abbrev pub invariant-loop-i : goal.invariant-loop-i
invariant-loop-i l = are_digits l.base (drop l.i l.digits) ≡ are_digits l.base l.digits
