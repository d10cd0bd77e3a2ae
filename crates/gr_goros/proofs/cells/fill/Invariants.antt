use Rattle.std.proofs.Common.{◌≡◌, drop, length}
use Rattle.std.specs.Vec.Iter.{into_iter_items, into_iter_len}
use Rattle.gr_rules.specs.Frames.{assigned}
use Rattle.gr_goros.proofs.cells.fill.Given as goal

abbrev pub invariant-loop-target : goal.invariant-loop-target
invariant-loop-target l =
    (assigned (drop l.target-index l.targets) (into_iter_items l.values) l.cells.items ≡ assigned l.targets l.fn.values.items l.initial.cells.items)
    × (into_iter_len l.values ≡ length (into_iter_items l.values))
