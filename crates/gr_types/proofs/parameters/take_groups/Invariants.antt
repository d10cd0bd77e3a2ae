use Rattle.std.proofs.Common.{◌≡◌, drop}
use Rattle.gr_tree.specs.Files.{groups_of}
use Rattle.gr_types.specs.Outlines.{none_taken, take_groups}
use Rattle.gr_types.specs.OutlineViews.{taken_of}
use Rattle.gr_types.proofs.parameters.take_groups.Given as goal

abbrev pub invariant-loop-group : goal.invariant-loop-group
invariant-loop-group l = take_groups (taken_of l.parameters) (groups_of (drop l.group-index l.groups)) ≡ take_groups none_taken (groups_of l.groups)
