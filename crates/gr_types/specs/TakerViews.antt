-- What stands on the two sides of assignments and definitions, without where it lies in memory.
use Rattle.std.specs.Prelude.{ℕ, List, [], ◌∷◌, Vec}
use Rattle.std.specs.declared.collections.vec_deque.VecDeque.{VecDeque}
use Rattle.std.proofs.Common.{Global}
use Rattle.gr_tree.specs.Exprs.{Tree, tree_of}
use Rattle.gr_types.specs.declared.assigning.right_sides.ReceivePair as code_pair
use Rattle.gr_types.specs.declared.assigning.definition.Taker as code_taker
use Rattle.gr_types.specs.declared.assigning.definition.Taker.TheVariants as takers
use Rattle.gr_program.specs.declared.program.Expr as checked_expr
use Rattle.gr_program.specs.Programs.{Expr, Exprs}
use Rattle.gr_program.specs.TypeViews.{ty_of}
use Rattle.gr_program.specs.Views.{expr_of, exprs_of}
use Rattle.gr_types.specs.Taking.{Taker, Old, New}

abbrev pub taker_of : code_taker.Taker → Taker
taker_of (takers.Old target) = Old target
taker_of (takers.New type) = New (ty_of type)

abbrev pub takers_of : List code_taker.Taker → List Taker
takers_of [] = []
takers_of (k ∷ ks) = taker_of k ∷ takers_of ks

abbrev pub shares_of : VecDeque code_taker.Taker Global × Vec checked_expr.Expr Global → List Taker × Exprs
shares_of p = (takers_of p.0.items, exprs_of p.1.items)

abbrev pub pair_view : code_pair.ReceivePair → List ℕ × (List ℕ × Tree)
pair_view p = (p.value.now, (p.ok.now, tree_of p.expr.now))

abbrev pub share_of : code_taker.Taker × checked_expr.Expr → Taker × Expr
share_of p = (taker_of p.0, expr_of p.1)
