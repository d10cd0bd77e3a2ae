-- The arguments of a call in the code's trees, as a list.
use Rattle.std.proofs.Common.{◌≡◌, ℕ, refl, ap, ◌∙◌, Global}
use Rattle.std.specs.Prelude.{Vec, Box}
use Rattle.gr_tree.specs.declared.expr.Expr.{Expr, Row_of-Expr, end_of-Expr, more_of-Expr, items-the_row-Expr, items_hidden-the_row-Expr-0}
use Rattle.gr_tree.specs.declared.expr.Expr.TheBlock.{hidden-the_row-Expr-0}
use Rattle.gr_tree.specs.declared.expr.Expr.TheVariants as exprs
use Rattle.gr_tree.specs.Exprs.{Call, more, tree_of, trees_of, row_trees}

row_list : {n : _} (k : Row_of-Expr n) → row_trees k ≡ trees_of (items-the_row-Expr n k)
row_list end_of-Expr = refl
row_list (more_of-Expr e k) = ap (more (tree_of e)) (row_list k)

pub tree_call : (x : Box (Vec ℕ Global) Global) (v : Vec Expr Global) → tree_of (exprs.Call x v) ≡ Call x.value.items (trees_of v.items)
tree_call x v = ap (Call x.value.items) (row_list (hidden-the_row-Expr-0 v) ∙ ap trees_of (items_hidden-the_row-Expr-0 v))
