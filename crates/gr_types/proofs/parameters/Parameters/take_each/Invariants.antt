use Rattle.std.proofs.Common.{◌≡◌, drop}
use Rattle.gr_tree.specs.Exprs.{names_of}
use Rattle.gr_program.specs.TypeViews.{ty_of}
use Rattle.gr_types.specs.Outlines.{take_each}
use Rattle.gr_types.specs.OutlineViews.{taken_of}
use Rattle.gr_types.proofs.parameters.Parameters.take_each.Given as goal

abbrev pub invariant-loop-name : goal.invariant-loop-name
invariant-loop-name l = take_each (taken_of l.self) (names_of (drop l.name-index l.names)) (ty_of l.own) ≡ take_each (taken_of l.fn.self) (names_of l.names) (ty_of l.own)
