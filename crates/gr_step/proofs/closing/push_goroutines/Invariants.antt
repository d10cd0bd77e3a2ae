use Rattle.std.proofs.Common.{◌≡◌, ◌++◌, map, drop}
use Rattle.gr_base.specs.declared.objects.Object.TheVariants as objects
use Rattle.gr_step.proofs.closing.push_goroutines.Given as goal

abbrev pub invariant-loop-name : goal.invariant-loop-name
invariant-loop-name l = l.touched.items ++ map objects.Go (drop l.name-index l.names) ≡ l.fn.touched.items ++ map objects.Go l.names
