-- What the checks of simple statements answer, without where it lies in memory.
use Rattle.gr_program.specs.declared.program.Expr as checked_expr
use Rattle.gr_types.specs.declared.communications.Awaited as code_awaited
use Rattle.gr_types.specs.declared.communications.Awaited.TheVariants as opens
use Rattle.gr_program.specs.Programs.{Expr, Stmts, Cases, send_case, receive_case}
use Rattle.gr_program.specs.TypeViews.{literal_of}
use Rattle.gr_program.specs.Views.{expr_of}

abbrev pub sent_of : checked_expr.Expr × checked_expr.Expr → Expr × Expr
sent_of p = (expr_of p.0, expr_of p.1)

-- a clause before others, by its body
abbrev pub awaited_of : code_awaited.Awaited → Stmts → Cases → Cases
awaited_of (opens.Send channel value) body others = send_case (expr_of channel) (expr_of value) body others
awaited_of (opens.Receive targets channel zero) body others = receive_case targets.items (expr_of channel) (literal_of zero) body others
