use Rattle.std.proofs.Common.{rules, ap, ◌∙◌}
use Rattle.gr_program.specs.Views.{expr_of}
use Rattle.gr_program.proofs.Rows.{call_is}
use Rattle.gr_program.proofs.expr_equality.+same_exprs.Goals as goal

pub is_same_expr-returns-then-m-n : goal.is_same_expr-returns-then-m-n
is_same_expr-returns-then-m-n t c =
    let k = c.in-Call-Call in
    let e = ap expr_of k.is-0 ∙ call_is k.m k.xs in
    let f = ap expr_of k.is-1 ∙ call_is k.n k.ys in
    rw (e, f) (search rules)
