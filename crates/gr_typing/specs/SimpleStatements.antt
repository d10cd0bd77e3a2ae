-- Simple statements (Go: Simple statements, Expression statements, Send statements, IncDec statements, Assignment statements,
-- Short variable declarations).
use Rattle.std.specs.Prelude.{◌≡◌, ℕ, pos, true, List, [], ◌∷◌, Option, Some, codes}
use Rattle.gr_tree.specs.Exprs.{Tree, Trees}
use Rattle.gr_tree.specs.Exprs as tree
use Rattle.gr_tree.specs.Statements.{Simple}
use Rattle.gr_tree.specs.Statements as statements
use Rattle.gr_tree.specs.declared.expr.BinaryOp.{BinaryOp}
use Rattle.gr_tree.specs.declared.expr.BinaryOp.TheVariants as binaries
use Rattle.gr_tree.specs.declared.expr.Direction.{Direction}
use Rattle.gr_tree.specs.declared.expr.UnaryOp.TheVariants as unaries
use Rattle.gr_program.specs.Programs.{Number, zero_of, Expr, Literally, Receive, Exprs, Printed, PrintExpr, PrintText, Act, Assign, AssignReceive, Update, Eval, Close, Print, Send}
use Rattle.gr_program.specs.Types.{Ty, IntType, BoolType, ChanType}
use Rattle.gr_typing.specs.Assignments.{HasVariable, AreGiven, AreDefined, may_define, Takes, TakesNew}
use Rattle.gr_typing.specs.Communications.{IsReceive, IsSend}
use Rattle.gr_typing.specs.Scopes.{Scope, Signature}
use Rattle.gr_typing.specs.Types.{may_send}
use Rattle.gr_typing.specs.Values.{Value, HasType, binary_type, may_stand_right, IsPredeclared, IsValue, Made, IsCall}

-- what `println` prints: whole numbers, truth values, and strings that stand in the program
pub data ArePrinted (fs : List Signature) (s : Scope) : Trees → List Printed → Type 0 where
  nothing_printed : ArePrinted fs s tree.none []
  text_printed : {bytes : List ℕ} {es : Trees} {ps : List Printed}
      → ArePrinted fs s es ps
      → ArePrinted fs s (tree.more (tree.Text bytes) es) (PrintText bytes ∷ ps)
  int_printed : {e : Tree} {es : Trees} {v : Value} {p : Expr} {ps : List Printed}
      → IsValue fs s e v → HasType v IntType p → ArePrinted fs s es ps
      → ArePrinted fs s (tree.more e es) (PrintExpr p ∷ ps)
  truth_printed : {e : Tree} {es : Trees} {v : Value} {p : Expr} {ps : List Printed}
      → IsValue fs s e v → HasType v BoolType p → ArePrinted fs s es ps
      → ArePrinted fs s (tree.more e es) (PrintExpr p ∷ ps)

-- an expression as a statement (Go: Expression statements): a receive, or a call of a function, of `close` or `println`
pub data Runs (fs : List Signature) (s : Scope) : Tree → Act → Type 0 where
  run_paren : {e : Tree} {a : Act} → Runs fs s e a → Runs fs s (tree.Paren e) a
  run_receive : {e : Tree} {t : Ty} {p : Expr} → IsReceive fs s (tree.Unary unaries.Receive e) t p
      → Runs fs s (tree.Unary unaries.Receive e) (Eval (Receive p (zero_of t)))
  run_call : {x : List ℕ} {es : Trees} {result : Option Ty} {p : Expr} → IsCall fs s x es result p
      → Runs fs s (tree.Call x es) (Eval p)
  run_close : {x : List ℕ} {e : Tree} {d : Direction} {t : Ty} {p : Expr}
      → IsPredeclared fs s x → x ≡ codes "close" → IsValue fs s e (Made (ChanType d t) p) → may_send d ≡ true
      → Runs fs s (tree.Call x (tree.more e tree.none)) (Close p)
  run_print : {x : List ℕ} {es : Trees} {ps : List Printed}
      → IsPredeclared fs s x → x ≡ codes "println" → ArePrinted fs s es ps → Runs fs s (tree.Call x es) (Print ps)

-- what a simple statement does in a scope, and the scope after it
pub data DoesSimple (fs : List Signature) (s : Scope) : Simple → Act → Scope → Type 0 where
  runs : {e : Tree} {a : Act} → Runs fs s e a → DoesSimple fs s (statements.Eval e) a s
  sends : {c e : Tree} {p q : Expr} → IsSend fs s c e p q → DoesSimple fs s (statements.Send c e) (Send p q) s
  assigns : {xs : List (List ℕ)} {es : Trees} {ks : List (Option ℕ)} {ps : Exprs}
      → AreGiven fs s xs es ks ps → DoesSimple fs s (statements.Assign xs es) (Assign ks ps) s
  assigns_receive : {x y : List ℕ} {e : Tree} {t : Ty} {p : Expr} {k l : Option ℕ}
      → IsReceive fs s e t p → Takes s x t k → Takes s y BoolType l
      → DoesSimple fs s (statements.Assign (x ∷ y ∷ []) (tree.more e tree.none)) (AssignReceive k l p (zero_of t)) s
  defines : {xs : List (List ℕ)} {es : Trees} {ks : List (Option ℕ)} {ps : Exprs} {n : Scope}
      → may_define s xs ≡ true → AreDefined fs s xs es s ks ps n
      → DoesSimple fs s (statements.Define xs es) (Assign ks ps) n
  defines_receive : {x y : List ℕ} {e : Tree} {t : Ty} {p : Expr} {k l : Option ℕ} {m n : Scope}
      → may_define s (x ∷ y ∷ []) ≡ true → IsReceive fs s e t p → TakesNew s x t s k m → TakesNew s y BoolType m l n
      → DoesSimple fs s (statements.Define (x ∷ y ∷ []) (tree.more e tree.none)) (AssignReceive k l p (zero_of t)) n
  updates : {x : List ℕ} {op : BinaryOp} {e : Tree} {v : Value} {k : ℕ} {p : Expr}
      → HasVariable s x k IntType → IsValue fs s e v → HasType v IntType p
      → binary_type op IntType IntType ≡ Some IntType → may_stand_right op v ≡ true
      → DoesSimple fs s (statements.Update x op e) (Update k op p) s
  increments : {x : List ℕ} {k : ℕ} → HasVariable s x k IntType
      → DoesSimple fs s (statements.Increment x) (Update k binaries.Add (Literally (Number (pos 1)))) s
  decrements : {x : List ℕ} {k : ℕ} → HasVariable s x k IntType
      → DoesSimple fs s (statements.Decrement x) (Update k binaries.Subtract (Literally (Number (pos 1)))) s
