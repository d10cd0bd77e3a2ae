use Rattle.std.proofs.Common.{◌≡◌, drop}
use Rattle.gr_depend.specs.Given.{spot_before}
use Rattle.gr_facts.proofs.standing.first_spot.Given as goal

abbrev pub invariant-loop-i : goal.invariant-loop-i
invariant-loop-i l = spot_before l.go (drop l.i l.changes) ≡ spot_before l.go l.changes
