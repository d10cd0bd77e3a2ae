use Rattle.std.proofs.Common.{◌≡◌, ◌++◌, drop}
use Rattle.gr_laws.specs.Touched as laws
use Rattle.gr_step.proofs.sides.each_once.Given as goal

abbrev pub invariant-loop-object : goal.invariant-loop-object
invariant-loop-object l =
    l.kept.items ++ laws.each_once (l.kept.items ++ l.seen) (drop l.object-index l.objects) ≡ laws.each_once l.seen l.objects
