-- When two checked programs are the same, as a test.
use Rattle.std.specs.Prelude.{ℕ, Bool, true, false, ◌&&◌, List, Option, nat_eq}
use Rattle.std.specs.Bool.{beq}
use Rattle.std.specs.Option.{option_eq}
use Rattle.std.specs.Ordering.{int_eq}
use Rattle.std.specs.Cmp.Lexicographic.{pointwise}
use denote.Enum.Bare.{sameb}
use Rattle.gr_scan.specs.declared.token.Place.{Place}
use Rattle.gr_tree.specs.declared.expr.UnaryOp.{UnaryOp}
use Rattle.gr_tree.specs.declared.expr.BinaryOp.{BinaryOp}
use Rattle.gr_tree.specs.contracts.expr.UnaryOp as unary
use Rattle.gr_tree.specs.contracts.expr.BinaryOp as binary
use Rattle.gr_program.specs.Types.{same_type}
use Rattle.gr_program.specs.Programs.{Literal, Number, Truth, Empty, Nil, Expr, Literally, Variable, Unary, Binary, Receive, Call, Len, Cap, Make, MakeSized, Exprs, none, more, Printed, PrintExpr, PrintText, Act, Assign, AssignReceive, Update, Eval, Close, Print, Send, Go, Return, Break, Continue, Opening, Opens, Stmt, Does, Block, If, For, Range, Select, Stmts, stop, then, Cases, no_case, default_case, send_case, receive_case, Parameter, Takes, Declared, Named, Function, FunctionIs, Program, ProgramIs}

-- a place in the source
abbrev pub same_place : Place → Place → Bool
same_place p q = nat_eq p.start q.start && (nat_eq p.end q.end && nat_eq p.line q.line)

abbrev pub same_unary : UnaryOp → UnaryOp → Bool
same_unary o p = sameb unary.the_type o p

abbrev pub same_binary : BinaryOp → BinaryOp → Bool
same_binary o p = sameb binary.the_type o p

abbrev pub same_literal : Literal → Literal → Bool
same_literal (Number m) (Number n) = int_eq m n
same_literal (Truth a) (Truth b) = beq a b
same_literal Empty Empty = true
same_literal Nil Nil = true
same_literal _ _ = false

abbrev mutual
  pub same_expr : Expr → Expr → Bool
  same_expr (Literally v) (Literally w) = same_literal v w
  same_expr (Variable m) (Variable n) = nat_eq m n
  same_expr (Unary o t) (Unary p u) = same_unary o p && same_expr t u
  same_expr (Binary o t v) (Binary p u w) = same_binary o p && (same_expr t u && same_expr v w)
  same_expr (Receive t v) (Receive u w) = same_literal v w && same_expr t u
  same_expr (Call m ts) (Call n us) = nat_eq m n && same_exprs ts us
  same_expr (Len t) (Len u) = same_expr t u
  same_expr (Cap t) (Cap u) = same_expr t u
  same_expr Make Make = true
  same_expr (MakeSized t) (MakeSized u) = same_expr t u
  same_expr _ _ = false

  pub same_exprs : Exprs → Exprs → Bool
  same_exprs none none = true
  same_exprs (more t ts) (more u us) = same_expr t u && same_exprs ts us
  same_exprs _ _ = false

abbrev pub same_printed : Printed → Printed → Bool
same_printed (PrintExpr t) (PrintExpr u) = same_expr t u
same_printed (PrintText t) (PrintText u) = pointwise nat_eq t u
same_printed _ _ = false

-- a target, and targets
abbrev pub same_target : Option ℕ → Option ℕ → Bool
same_target x y = option_eq nat_eq x y

abbrev pub same_targets : List (Option ℕ) → List (Option ℕ) → Bool
same_targets xs ys = pointwise (option_eq nat_eq) xs ys

abbrev pub same_act : Act → Act → Bool
same_act (Assign xs ts) (Assign ys us) = same_targets xs ys && same_exprs ts us
same_act (AssignReceive x o t v) (AssignReceive y p u w) = same_target x y && (same_target o p && (same_expr t u && same_literal v w))
same_act (Update m o t) (Update n p u) = nat_eq m n && (same_binary o p && same_expr t u)
same_act (Eval t) (Eval u) = same_expr t u
same_act (Close t) (Close u) = same_expr t u
same_act (Print vs) (Print ws) = pointwise same_printed vs ws
same_act (Send t v) (Send u w) = same_expr t u && same_expr v w
same_act (Go m ts) (Go n us) = nat_eq m n && same_exprs ts us
same_act (Return t) (Return u) = option_eq same_expr t u
same_act (Break m) (Break n) = nat_eq m n
same_act (Continue m) (Continue n) = nat_eq m n
same_act _ _ = false

-- an assignment; an assignment with an operator, a send or a go
abbrev pub assigns : Act → Bool
assigns (Assign targets values) = true
assigns (AssignReceive value ok channel zero) = true
assigns _ = false

abbrev pub passes : Act → Bool
passes (Update variable op value) = true
passes (Send channel value) = true
passes (Go function arguments) = true
passes _ = false

abbrev pub same_opening : Opening → Opening → Bool
same_opening (Opens m a) (Opens n b) = same_place m n && same_act a b

-- statements of one form, which are the same but for the statements in them
abbrev pub same_heading : Stmt → Stmt → Bool
same_heading (Does m a) (Does n b) = same_place m n && same_act a b
same_heading (Block body) (Block other) = true
same_heading (If m i c body otherwise) (If n j d other others) = same_place m n && (option_eq same_opening i j && same_expr c d)
same_heading (For m i c p body) (For n j d q other) = same_place m n && (option_eq same_opening i j && (option_eq same_expr c d && option_eq same_opening p q))
same_heading (Range m x t body) (Range n y u other) = same_place m n && (same_target x y && same_expr t u)
same_heading (Select m cases) (Select n others) = same_place m n
same_heading _ _ = false

abbrev pub loops : Stmt → Bool
loops (For place init condition post body) = true
loops (Range place target channel body) = true
loops _ = false

-- first clauses that are the same but for their bodies
abbrev pub same_awaited : Cases → Cases → Bool
same_awaited (default_case b ks) (default_case c ls) = true
same_awaited (send_case t v b ks) (send_case u w c ls) = same_expr t u && same_expr v w
same_awaited (receive_case xs t v b ks) (receive_case ys u w c ls) = same_targets xs ys && (same_expr t u && same_literal v w)
same_awaited _ _ = false

abbrev mutual
  pub same_stmt : Stmt → Stmt → Bool
  same_stmt (Does m a) (Does n b) = same_heading (Does m a) (Does n b)
  same_stmt (Block body) (Block other) = same_stmts body other
  same_stmt (If m i c body otherwise) (If n j d other others) = same_heading (If m i c body otherwise) (If n j d other others) && (same_stmts body other && same_stmts otherwise others)
  same_stmt (For m i c p body) (For n j d q other) = same_heading (For m i c p body) (For n j d q other) && same_stmts body other
  same_stmt (Range m x t body) (Range n y u other) = same_heading (Range m x t body) (Range n y u other) && same_stmts body other
  same_stmt (Select m cases) (Select n others) = same_heading (Select m cases) (Select n others) && same_cases cases others
  same_stmt _ _ = false

  pub same_stmts : Stmts → Stmts → Bool
  same_stmts stop stop = true
  same_stmts (then s ss) (then t ts) = same_stmt s t && same_stmts ss ts
  same_stmts _ _ = false

  pub same_cases : Cases → Cases → Bool
  same_cases no_case no_case = true
  same_cases (default_case b ks) (default_case c ls) = same_stmts b c && same_cases ks ls
  same_cases (send_case t v b ks) (send_case u w c ls) = (same_awaited (send_case t v b ks) (send_case u w c ls) && same_stmts b c) && same_cases ks ls
  same_cases (receive_case xs t v b ks) (receive_case ys u w c ls) = (same_awaited (receive_case xs t v b ks) (receive_case ys u w c ls) && same_stmts b c) && same_cases ks ls
  same_cases _ _ = false

-- the first clauses
abbrev pub same_first : Cases → Cases → Bool
same_first (default_case b ks) (default_case c ls) = same_stmts b c
same_first (send_case t v b ks) (send_case u w c ls) = same_awaited (send_case t v b ks) (send_case u w c ls) && same_stmts b c
same_first (receive_case xs t v b ks) (receive_case ys u w c ls) = same_awaited (receive_case xs t v b ks) (receive_case ys u w c ls) && same_stmts b c
same_first _ _ = false

abbrev pub same_parameter : Parameter → Parameter → Bool
same_parameter (Takes x t) (Takes y u) = same_target x y && same_type t u

abbrev pub same_declared : Declared → Declared → Bool
same_declared (Named x t) (Named y u) = pointwise nat_eq x y && same_type t u

abbrev pub same_function : Function → Function → Bool
same_function (FunctionIs x ps r vs ss m) (FunctionIs y qs s ws ts n) =
    (pointwise nat_eq x y && (pointwise same_parameter ps qs && option_eq same_type r s)) && (pointwise same_declared vs ws && (same_stmts ss ts && same_place m n))

abbrev pub same_program : Program → Program → Bool
same_program (ProgramIs fs m) (ProgramIs gs n) = pointwise same_function fs gs && nat_eq m n
