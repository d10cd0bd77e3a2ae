use Rattle.std.proofs.Common.{◌≡◌, drop}
use Rattle.gr_tree.specs.Exprs.{names_of}
use Rattle.gr_program.specs.TypeViews.{ty_of}
use Rattle.gr_exprs.specs.Tables.{scope_of}
use Rattle.gr_typing.specs.Assignments as assigning
use Rattle.gr_types.specs.Declaring.{Declarable}
use Rattle.gr_types.proofs.assigning.declaration.declare_all.Given as goal

abbrev pub invariant-loop-name : goal.invariant-loop-name
invariant-loop-name l = record {
  free : Declarable (scope_of l.scope) (names_of (drop l.name-index l.names));
  so_far : assigning.all_declared (scope_of l.scope) (names_of (drop l.name-index l.names)) (ty_of l.own) ≡ assigning.all_declared (scope_of l.fn.scope) (names_of l.names) (ty_of l.own);
}
