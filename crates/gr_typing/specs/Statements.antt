-- Statements that hold others (Go: Blocks, If statements, For statements, Select statements, Labeled statements).
use Rattle.std.specs.Prelude.{◌≡◌, ℕ, zero, suc, ◌+◌, Bool, true, false, List, [], ◌∷◌, Option, Some, None}
use Rattle.gr_scan.specs.declared.token.Place.{Place}
use Rattle.gr_tree.specs.Exprs.{Tree}
use Rattle.gr_tree.specs.Statements.{Simple, Statement, Statements, Clauses}
use Rattle.gr_tree.specs.Statements as statements
use Rattle.gr_tree.specs.declared.expr.Direction.{Direction}
use Rattle.gr_program.specs.Programs.{zero_of, Expr, Act, Opening, Opens, Does, Block, If, For, Range, Select, Stmts, stop, then, joined, Cases, no_case, default_case, send_case, receive_case}
use Rattle.gr_program.specs.Types.{Ty, BoolType, ChanType}
use Rattle.gr_typing.specs.Acts.{DoesAct}
use Rattle.gr_typing.specs.Assignments.{may_define, Takes, TakesNew, TakeAll, TakeAllNew}
use Rattle.gr_typing.specs.Communications.{IsReceive, IsSend}
use Rattle.gr_typing.specs.Contexts.{Loop, Choice, Context, functions, inside}
use Rattle.gr_typing.specs.Scopes.{Scope, entered, left, Signature}
use Rattle.gr_typing.specs.SimpleStatements.{DoesSimple}
use Rattle.gr_typing.specs.Types.{may_receive}
use Rattle.gr_typing.specs.Values.{Value, HasType, IsValue, Made}

-- a statement of a heading, if there is one
pub data IsOpening (fs : List Signature) (s : Scope) : Option statements.Heading → Option Opening → Scope
    → Type 0 where
  no_opening : IsOpening fs s None None s
  opening : {place : Place} {a : Simple} {b : Act} {n : Scope}
      → DoesSimple fs s a b n → IsOpening fs s (Some (statements.Heads place a)) (Some (Opens place b)) n

-- Whether the post statement of a for declares variables. It may not, since the body would see them before they hold values
-- (Go: For statements with for clause).
abbrev pub declares : Option statements.Heading → Bool
declares None = false
declares (Some (statements.Heads place (statements.Define names values))) = true
declares (Some (statements.Heads place a)) = false

pub data IsCondition (fs : List Signature) (s : Scope) : Tree → Expr → Type 0 where
  condition : {e : Tree} {v : Value} {p : Expr} → IsValue fs s e v → HasType v BoolType p → IsCondition fs s e p

pub data IsLoopCondition (fs : List Signature) (s : Scope) : Option Tree → Option Expr → Type 0 where
  no_condition : IsLoopCondition fs s None None
  loop_condition : {e : Tree} {p : Expr} → IsCondition fs s e p → IsLoopCondition fs s (Some e) (Some p)

-- the variable that a range gives each value to, in the block of its statement
pub data IsTarget (s : Scope) (t : Ty) : statements.Target → Option ℕ → Scope → Type 0 where
  no_target : IsTarget s t statements.Nothing None s
  old_target : {x : List ℕ} {k : Option ℕ} → Takes s x t k → IsTarget s t (statements.Old x) k s
  new_target : {x : List ℕ} {k : Option ℕ} {n : Scope}
      → may_define s (x ∷ []) ≡ true → TakesNew s x t s k n → IsTarget s t (statements.New x) k n

-- one default clause at most
abbrev pub defaults : Clauses → ℕ
defaults statements.closed = 0
defaults (statements.default body others) = defaults others + 1
defaults (statements.case communication body others) = defaults others

abbrev pub at_most_one : ℕ → Bool
at_most_one zero = true
at_most_one (suc zero) = true
at_most_one _ = false

-- the label directly before a statement is that of its for or select; what a block declares ends with it
mutual
  pub data IsStatement : Context → Scope → Option (List ℕ) → Statement → Stmts → Scope → Type 0 where
    does : {c : Context} {s n : Scope} {label : Option (List ℕ)} {place : Place} {a : statements.Act} {b : Act}
        → DoesAct c s a b n → IsStatement c s label (statements.Does place a) (then (Does place b) stop) n
    block : {c : Context} {s n : Scope} {label : Option (List ℕ)} {place : Place} {body : Statements} {stmts : Stmts}
        → IsBody c (entered s) body stmts n
        → IsStatement c s label (statements.Block place body) (then (Block stmts) stop) (left n)
    if : {c : Context} {s m n : Scope} {label : Option (List ℕ)} {place : Place} {head : statements.IfHead}
        {body : Statements} {init : Option Opening} {p : Expr} {stmts : Stmts}
        → IsIfHead c (entered s) head init p m
        → IsBody c (entered m) body stmts n
        → IsStatement c s label (statements.If place head body) (then (If place init p stmts stop) stop) (left (left n))
    if_else : {c : Context} {s m n o : Scope} {label : Option (List ℕ)} {place : Place} {head : statements.IfHead}
        {body otherwise : Statements} {init : Option Opening} {p : Expr} {stmts others : Stmts}
        → IsIfHead c (entered s) head init p m
        → IsBody c (entered m) body stmts n
        → IsBody c (entered (left n)) otherwise others o
        → IsStatement c s label (statements.IfElse place head body otherwise) (then (If place init p stmts others) stop) (left (left o))
    if_else_if : {c : Context} {s m n o : Scope} {label : Option (List ℕ)} {place : Place} {head : statements.IfHead}
        {body : Statements} {otherwise : Statement} {init : Option Opening} {p : Expr} {stmts others : Stmts}
        → IsIfHead c (entered s) head init p m
        → IsBody c (entered m) body stmts n
        → IsStatement c (left n) None otherwise others o
        → IsStatement c s label (statements.IfElseIf place head body otherwise) (then (If place init p stmts others) stop) (left o)
    for : {c : Context} {s m n o : Scope} {label : Option (List ℕ)} {place : Place}
        {init post : Option statements.Heading} {condition : Option Tree} {body : Statements}
        {first last : Option Opening} {p : Option Expr} {stmts : Stmts}
        → IsOpening (functions c) (entered s) init first m
        → IsLoopCondition (functions c) m condition p
        → declares post ≡ false
        → IsOpening (functions c) m post last n
        → IsBody (inside (Loop label) c) (entered n) body stmts o
        → IsStatement c s label (statements.For place (statements.Loop init condition post) body) (then (For place first p last stmts) stop) (left (left o))
    range : {c : Context} {s m n : Scope} {label : Option (List ℕ)} {place : Place} {target : statements.Target}
        {e : Tree} {body : Statements} {d : Direction} {t : Ty} {p : Expr} {k : Option ℕ} {stmts : Stmts}
        → IsValue (functions c) s e (Made (ChanType d t) p)
        → may_receive d ≡ true
        → IsTarget (entered s) t target k m
        → IsBody (inside (Loop label) c) (entered m) body stmts n
        → IsStatement c s label (statements.For place (statements.Range target e) body) (then (Range place k p stmts) stop) (left (left n))
    select : {c : Context} {s n : Scope} {label : Option (List ℕ)} {place : Place} {clauses : Clauses} {cases : Cases}
        → at_most_one (defaults clauses) ≡ true
        → AreClauses (inside (Choice label) c) s clauses cases n
        → IsStatement c s label (statements.Select place clauses) (then (Select place cases) stop) n
    label : {c : Context} {s n : Scope} {label : Option (List ℕ)} {place : Place} {x : List ℕ} {statement : Statement}
        {stmts : Stmts}
        → IsStatement c s (Some x) statement stmts n
        → IsStatement c s label (statements.Label place x statement) stmts n
    empty_label : {c : Context} {s : Scope} {label : Option (List ℕ)} {place : Place} {x : List ℕ}
        → IsStatement c s label (statements.EmptyLabel place x) stop s

  pub data IsIfHead : Context → Scope → statements.IfHead → Option Opening → Expr → Scope → Type 0 where
    if_head : {c : Context} {s m : Scope} {init : Option statements.Heading} {condition : Tree}
        {first : Option Opening} {p : Expr}
        → IsOpening (functions c) s init first m
        → IsCondition (functions c) m condition p
        → IsIfHead c s (statements.Test init condition) first p m

  pub data IsBody : Context → Scope → Statements → Stmts → Scope → Type 0 where
    ends : {c : Context} {s : Scope} → IsBody c s statements.end stop s
    next : {c : Context} {s m n : Scope} {first : Statement} {others : Statements} {stmts rest : Stmts}
        → IsStatement c s None first stmts m
        → IsBody c m others rest n
        → IsBody c s (statements.then first others) (joined stmts rest) n

  pub data AreClauses : Context → Scope → Clauses → Cases → Scope → Type 0 where
    no_clause : {c : Context} {s : Scope} → AreClauses c s statements.closed no_case s
    default_clause : {c : Context} {s m n : Scope} {body : Statements} {others : Clauses} {stmts : Stmts}
        {rest : Cases}
        → IsBody c (entered s) body stmts m
        → AreClauses c (left m) others rest n
        → AreClauses c s (statements.default body others) (default_case stmts rest) n
    send_clause : {c : Context} {s m n : Scope} {channel value : Tree} {body : Statements} {others : Clauses}
        {p q : Expr} {stmts : Stmts} {rest : Cases}
        → IsSend (functions c) (entered s) channel value p q
        → IsBody c (entered s) body stmts m
        → AreClauses c (left m) others rest n
        → AreClauses c s (statements.case (statements.SendTo channel value) body others) (send_case p q stmts rest) n
    receive_clause : {c : Context} {s m n : Scope} {e : Tree} {body : Statements} {others : Clauses} {t : Ty}
        {p : Expr} {stmts : Stmts} {rest : Cases}
        → IsReceive (functions c) (entered s) e t p
        → IsBody c (entered s) body stmts m
        → AreClauses c (left m) others rest n
        → AreClauses c s (statements.case (statements.Receive e) body others) (receive_case [] p (zero_of t) stmts rest) n
    assign_clause : {c : Context} {s m n : Scope} {xs : List (List ℕ)} {e : Tree} {body : Statements}
        {others : Clauses} {t : Ty} {p : Expr} {ks : List (Option ℕ)} {stmts : Stmts} {rest : Cases}
        → IsReceive (functions c) (entered s) e t p
        → TakeAll (entered s) xs (t ∷ BoolType ∷ []) ks
        → IsBody c (entered s) body stmts m
        → AreClauses c (left m) others rest n
        → AreClauses c s (statements.case (statements.AssignTo xs e) body others) (receive_case ks p (zero_of t) stmts rest) n
    define_clause : {c : Context} {s m n o : Scope} {xs : List (List ℕ)} {e : Tree} {body : Statements}
        {others : Clauses} {t : Ty} {p : Expr} {ks : List (Option ℕ)} {stmts : Stmts} {rest : Cases}
        → IsReceive (functions c) (entered s) e t p
        → may_define (entered s) xs ≡ true
        → TakeAllNew (entered s) xs (t ∷ BoolType ∷ []) (entered s) ks m
        → IsBody c m body stmts n
        → AreClauses c (left n) others rest o
        → AreClauses c s (statements.case (statements.DefineAs xs e) body others) (receive_case ks p (zero_of t) stmts rest) o
