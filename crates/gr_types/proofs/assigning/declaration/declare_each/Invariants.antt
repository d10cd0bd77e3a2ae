use Rattle.std.proofs.Common.{◌≡◌, drop}
use Rattle.gr_tree.specs.Exprs.{names_of}
use Rattle.gr_tree.specs.Statements.{optional}
use Rattle.gr_program.specs.TypeViews.{ty_of}
use Rattle.gr_exprs.specs.Tables.{scope_of}
use Rattle.gr_exprs.specs.Finding.{◌>>=◌}
use Rattle.gr_types.specs.Declaring.{Declarable, all_placed}
use Rattle.gr_exprs.specs.Checking.{meanings_of}
use Rattle.gr_types.proofs.Declaring.{after_placed}
use Rattle.gr_types.proofs.assigning.declaration.declare_each.Given as goal

abbrev pub invariant-loop-name : goal.invariant-loop-name
invariant-loop-name l = record {
  free : Declarable (scope_of l.scope) (names_of (drop l.name-index l.names));
  so_far : (all_placed (optional ty_of l.written) (names_of (drop l.name-index l.names)) (meanings_of l.values.items) (scope_of l.scope) >>= after_placed l.variables.items l.terms.items) ≡ all_placed (optional ty_of l.fn.written) (names_of l.names) (meanings_of l.fn.values.items) (scope_of l.fn.scope);
}
