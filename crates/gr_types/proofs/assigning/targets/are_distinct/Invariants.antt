use Rattle.std.proofs.Common.{◌≡◌, [], drop, map}
use Rattle.gr_tree.specs.Exprs.{names_of}
use Rattle.gr_typing.specs.Names.{are_distinct}
use Rattle.gr_types.proofs.assigning.targets.are_distinct.Given as goal

abbrev pub invariant-loop-name : goal.invariant-loop-name
invariant-loop-name l = are_distinct (map (λ k. k.now) l.before.keys) (names_of (drop l.name-index l.names)) ≡ are_distinct [] (names_of l.names)
