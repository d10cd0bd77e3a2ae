use Rattle.std.proofs.Common.{◌≡◌, drop}
use Rattle.std.specs.Prelude.{not}
use Rattle.std.specs.List.{list_all}
use Rattle.gr_tree.specs.Exprs.{names_of}
use Rattle.gr_typing.specs.Names.{among, predeclared}
use Rattle.gr_types.proofs.assigning.targets.none_predeclared.Given as goal

abbrev pub invariant-loop-name : goal.invariant-loop-name
invariant-loop-name l = list_all (λ x. not (among predeclared x)) (names_of (drop l.name-index l.names)) ≡ list_all (λ x. not (among predeclared x)) (names_of l.names)
