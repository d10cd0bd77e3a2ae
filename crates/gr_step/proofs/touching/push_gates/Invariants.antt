use Rattle.std.proofs.Common.{◌≡◌, ◌++◌, map, drop}
use Rattle.gr_base.specs.declared.objects.Object.TheVariants.{Gate}
use Rattle.gr_step.proofs.touching.push_gates.Given as goal

abbrev pub invariant-loop-name : goal.invariant-loop-name
invariant-loop-name l = l.touched.items ++ map Gate (drop l.name-index l.names) ≡ l.fn.touched.items ++ map Gate l.names
