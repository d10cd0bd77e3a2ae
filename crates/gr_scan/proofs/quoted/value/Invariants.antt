use Rattle.std.proofs.Common.{◌≡◌, drop, false}
use Rattle.gr_scan.specs.Strings.{body_of}
use Rattle.gr_scan.proofs.Literals.{after_bytes}
use Rattle.gr_scan.proofs.quoted.value.Given as goal

abbrev pub invariant-loop-i : goal.invariant-loop-i
invariant-loop-i l = after_bytes l.value.items (body_of l.escape (drop l.i l.literal)) ≡ body_of false (drop 1 l.literal)
