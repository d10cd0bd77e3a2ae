use Rattle.std.proofs.Common.{◌≡◌, ◌++◌, drop}
use Rattle.std.specs.Prelude.{Some}
use Rattle.gr_tree.specs.Exprs.{trees_of}
use Rattle.gr_exprs.specs.Tables.{scope_of}
use Rattle.gr_exprs.specs.FunctionTables.{functions_of}
use Rattle.gr_exprs.specs.Finding.{◌>>=◌}
use Rattle.gr_exprs.specs.Calling.{values_in}
use Rattle.gr_exprs.specs.Checking.{meanings_of}
use Rattle.gr_exprs.proofs.expressions.+finding.Given as goal

abbrev pub invariant-find_all-loop-expr : goal.invariant-find_all-loop-expr
invariant-find_all-loop-expr l =
    (values_in (functions_of l.functions) (scope_of l.scope) (trees_of (drop l.expr-index l.exprs)) >>= λ vs. Some (meanings_of l.values.items ++ vs)) ≡ values_in (functions_of l.functions) (scope_of l.scope) (trees_of l.exprs)
