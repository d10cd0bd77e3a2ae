use Rattle.std.proofs.Common.{◌≡◌, drop}
use Rattle.std.specs.List.{list_all}
use Rattle.gr_tree.specs.Exprs.{names_of}
use Rattle.gr_typing.specs.Scopes.{is_free}
use Rattle.gr_exprs.specs.Tables.{scope_of}
use Rattle.gr_types.proofs.assigning.targets.all_free.Given as goal

abbrev pub invariant-loop-name : goal.invariant-loop-name
invariant-loop-name l = list_all (is_free (scope_of l.scope)) (names_of (drop l.name-index l.names)) ≡ list_all (is_free (scope_of l.scope)) (names_of l.names)
