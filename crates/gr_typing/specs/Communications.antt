-- Sends and receives (Go: Send statements, Receive operator).
use Rattle.std.specs.Prelude.{◌≡◌, true, List}
use Rattle.gr_tree.specs.Exprs.{Tree}
use Rattle.gr_tree.specs.Exprs as tree
use Rattle.gr_tree.specs.declared.expr.Direction.{Direction}
use Rattle.gr_tree.specs.declared.expr.UnaryOp.TheVariants as unaries
use Rattle.gr_program.specs.Programs.{Expr}
use Rattle.gr_program.specs.Types.{Ty, ChanType}
use Rattle.gr_typing.specs.Scopes.{Scope, Signature}
use Rattle.gr_typing.specs.Types.{may_send, may_receive}
use Rattle.gr_typing.specs.Values.{Value, Fits, IsValue, Made}

-- a receive, in parentheses or not, of a channel of these elements; as the one right side of two names it gives the value
-- and whether there was one
pub data IsReceive (fs : List Signature) (s : Scope) : Tree → Ty → Expr → Type 0 where
  receive : {e : Tree} {d : Direction} {t : Ty} {p : Expr}
      → IsValue fs s e (Made (ChanType d t) p)
      → may_receive d ≡ true
      → IsReceive fs s (tree.Unary unaries.Receive e) t p
  receive_paren : {e : Tree} {t : Ty} {p : Expr} → IsReceive fs s e t p → IsReceive fs s (tree.Paren e) t p

-- a send of a value on a channel
pub data IsSend (fs : List Signature) (s : Scope) : Tree → Tree → Expr → Expr → Type 0 where
  sends : {c e : Tree} {d : Direction} {t : Ty} {v : Value} {p q : Expr}
      → IsValue fs s c (Made (ChanType d t) p) → may_send d ≡ true → IsValue fs s e v → Fits v t q
      → IsSend fs s c e p q
