-- Bodies of functions whose operands have sorts. Of each statement it is said whether control may go on after it: it does not
-- after a terminating one.
use Rattle.std.proofs.Common.{◌≡◌, ℕ, Bool, true, false, List, [], ◌∷◌, ◌++◌, map, Option, Some, None}
use Rattle.gr_scan.specs.declared.token.Place.{Place}
use Rattle.gr_tree.specs.declared.expr.BinaryOp.{BinaryOp}
use Rattle.gr_causal.specs.Sequences.{In}
use Rattle.gr_program.specs.Types.{Ty}
use Rattle.gr_program.specs.Programs as program
use Rattle.gr_program.specs.Programs.{Literal, Expr, Exprs, Printed, Act, Assign, AssignReceive, Update, Eval, Close, Print, Send, Go, Return, Break, Continue, Opening, Opens, Stmt, Does, Block, If, For, Range, Select, Stmts, stop, then, Cases, no_case, default_case, send_case, receive_case, Declared, Parameter, Function, FunctionIs, Program, ProgramIs}
use Rattle.gr_typing.specs.Scopes.{Signature, Sign, signature}
use Rattle.gr_rules.specs.Operands.{Operand, Operands, nothing, also, value_of, operand_of, operands_of}
use Rattle.gr_rules.specs.Points.{Piece, OfText, OfValue, pieces_of, printed_operands, case_operands}
use Rattle.gr_rules.specs.Frames.{variable_of}
use Rattle.std.specs.Prelude.{slice_get}
use Rattle.type_safety.proofs.Sorts.{Sort, IntSort, BoolSort, ChanSort, sort_of, sort_at, Made, nothing_made, HasSort, is_arithmetic, Setting, SortedOperand, SortedOperands, AreTargets, numbers_of}

-- a for or a select statement around a place, and whether control may go on after it
pub data Nest : Type 0 where
  Loops : (goes_on : Bool) → Nest
  Chooses : (goes_on : Bool) → Nest

abbrev pub goes_on_after : Nest → Bool
goes_on_after (Loops z) = z
goes_on_after (Chooses z) = z

-- what `println` prints, a value of each of these sorts in its place
pub data ArePieces : List Piece → List Sort → Type 0 where
  no_piece : ArePieces [] []
  text_piece : {bytes : List ℕ} {ps : List Piece} {ks : List Sort} → ArePieces ps ks
      → ArePieces (OfText bytes ∷ ps) ks
  value_piece : {ps : List Piece} {k : Sort} {ks : List Sort} → ArePieces ps ks → ArePieces (OfValue ∷ ps) (k ∷ ks)

-- an act inside these nests, where the variables with these numbers hold values
pub data SortedAct (d : Setting) (nests : List Nest) (live : List ℕ) : Act → Bool → Type 0 where
  assigns : {xs : List (Option ℕ)} {ps : Exprs} {ks : List Sort}
      → AreTargets d.variables xs ks → SortedOperands d nothing_made live (operands_of ps) ks
      → SortedAct d nests live (Assign xs ps) true
  assigns_receive : {x y : Option ℕ} {c : Expr} {zero : Literal} {k : Sort}
      → SortedOperand d nothing_made live (operand_of c) (ChanSort k)
      → HasSort nothing_made (value_of zero) k
      → AreTargets d.variables (x ∷ y ∷ []) (k ∷ BoolSort ∷ [])
      → SortedAct d nests live (AssignReceive x y c zero) true
  updates : {x : ℕ} {op : BinaryOp} {p : Expr}
      → sort_at d.variables x ≡ Some IntSort → In x live → is_arithmetic op ≡ true
      → SortedOperand d nothing_made live (operand_of p) IntSort
      → SortedAct d nests live (Update x op p) true
  receives : {c : Expr} {zero : Literal} {k : Sort}
      → SortedOperand d nothing_made live (operand_of (program.Receive c zero)) k
      → SortedAct d nests live (Eval (program.Receive c zero)) true
  calls : {n : ℕ} {ps : Exprs} {k : Sort}
      → SortedOperand d nothing_made live (operand_of (program.Call n ps)) k
      → SortedAct d nests live (Eval (program.Call n ps)) true
  closes : {c : Expr} {k : Sort} → SortedOperand d nothing_made live (operand_of c) (ChanSort k)
      → SortedAct d nests live (Close c) true
  prints : {ps : List Printed} {ks : List Sort} → ArePieces (pieces_of ps) ks
      → SortedOperands d nothing_made live (printed_operands ps) ks → SortedAct d nests live (Print ps) true
  sends : {c p : Expr} {k : Sort}
      → SortedOperand d nothing_made live (operand_of c) (ChanSort k)
      → SortedOperand d nothing_made live (operand_of p) k
      → SortedAct d nests live (Send c p) true
  goes : {n : ℕ} {ps : Exprs} {name : List ℕ} {ts : List Ty} {r : Option Ty}
      → signature d.functions n ≡ Some (Sign name ts r)
      → SortedOperands d nothing_made live (operands_of ps) (map sort_of ts)
      → SortedAct d nests live (Go n ps) true
  returns : {z : Bool} → d.result ≡ None → SortedAct d nests live (Return None) z
  returns_value : {p : Expr} {t : Ty} {z : Bool}
      → d.result ≡ Some t → SortedOperand d nothing_made live (operand_of p) (sort_of t)
      → SortedAct d nests live (Return (Some p)) z
  breaks : {depth : ℕ} {n : Nest} {z : Bool}
      → slice_get nests depth ≡ Some n → goes_on_after n ≡ true → SortedAct d nests live (Break depth) z
  continues : {depth : ℕ} {b z : Bool} → slice_get nests depth ≡ Some (Loops b)
      → SortedAct d nests live (Continue depth) z

-- the variables that hold values after an act, a heading's statement and a statement
abbrev pub after_act : Act → List ℕ → List ℕ
after_act (Assign xs ps) live = numbers_of xs ++ live
after_act (AssignReceive x y c zero) live = numbers_of (x ∷ y ∷ []) ++ live
after_act _ live = live

abbrev pub after_opening : Option Opening → List ℕ → List ℕ
after_opening None live = live
after_opening (Some (Opens place act)) live = after_act act live

abbrev pub after_stmt : Stmt → List ℕ → List ℕ
after_stmt (Does place act) live = after_act act live
after_stmt _ live = live

pub data SortedOpening (d : Setting) (nests : List Nest) (live : List ℕ) : Option Opening → Type 0 where
  no_opening : SortedOpening d nests live None
  opening : {place : Place} {act : Act} → SortedAct d nests live act true
      → SortedOpening d nests live (Some (Opens place act))

-- Statements inside these nests, where the variables with these numbers hold values. Clauses of a select, whose channels and
-- values are these operands.
mutual
  pub data SortedStmt (d : Setting) : List Nest → List ℕ → Stmt → Bool → Type 0 where
    does : {nests : List Nest} {live : List ℕ} {place : Place} {act : Act} {z : Bool}
        → SortedAct d nests live act z → SortedStmt d nests live (Does place act) z
    block : {nests : List Nest} {live : List ℕ} {body : Stmts} {z : Bool}
        → SortedStmts d nests live body z → SortedStmt d nests live (Block body) z
    if : {nests : List Nest} {live : List ℕ} {place : Place} {init : Option Opening} {condition : Expr}
        {body otherwise : Stmts} {z : Bool}
        → SortedOpening d nests live init
        → SortedOperand d nothing_made (after_opening init live) (operand_of condition) BoolSort
        → SortedStmts d nests (after_opening init live) body z
        → SortedStmts d nests (after_opening init live) otherwise z
        → SortedStmt d nests live (If place init condition body otherwise) z
    endless : {nests : List Nest} {live : List ℕ} {place : Place} {init post : Option Opening} {body : Stmts}
        {z : Bool}
        → SortedOpening d nests live init
        → SortedOpening d nests (after_opening init live) post
        → SortedStmts d (Loops z ∷ nests) (after_opening init live) body true
        → SortedStmt d nests live (For place init None post body) z
    for : {nests : List Nest} {live : List ℕ} {place : Place} {init post : Option Opening} {condition : Expr}
        {body : Stmts}
        → SortedOpening d nests live init
        → SortedOperand d nothing_made (after_opening init live) (operand_of condition) BoolSort
        → SortedOpening d nests (after_opening init live) post
        → SortedStmts d (Loops true ∷ nests) (after_opening init live) body true
        → SortedStmt d nests live (For place init (Some condition) post body) true
    range : {nests : List Nest} {live : List ℕ} {place : Place} {target : Option ℕ} {c : Expr} {body : Stmts}
        {k : Sort}
        → SortedOperand d nothing_made live (operand_of c) (ChanSort k)
        → AreTargets d.variables (target ∷ []) (k ∷ [])
        → SortedStmts d (Loops true ∷ nests) (numbers_of (target ∷ []) ++ live) body true
        → SortedStmt d nests live (Range place target c body) true
    select : {nests : List Nest} {live : List ℕ} {place : Place} {cases : Cases} {z : Bool}
        → SortedClauses d nothing_made (Chooses z ∷ nests) live z cases (case_operands cases)
        → SortedStmt d nests live (Select place cases) z

  pub data SortedStmts (d : Setting) : List Nest → List ℕ → Stmts → Bool → Type 0 where
    no_stmt : {nests : List Nest} {live : List ℕ} → SortedStmts d nests live stop true
    one_stmt : {nests : List Nest} {live : List ℕ} {s : Stmt} {ss : Stmts} {z : Bool}
        → SortedStmt d nests live s true → SortedStmts d nests (after_stmt s live) ss z
        → SortedStmts d nests live (then s ss) z
    -- what stands after a terminating statement is not reached
    ends : {nests : List Nest} {live : List ℕ} {s : Stmt} {ss : Stmts} {z : Bool}
        → SortedStmt d nests live s false → SortedStmts d nests live (then s ss) z

  pub data SortedClauses (d : Setting) : Made → List Nest → List ℕ → Bool → Cases → Operands → Type 0 where
    no_clause : {made : Made} {nests : List Nest} {live : List ℕ} {z : Bool}
        → SortedClauses d made nests live z no_case nothing
    default_clause : {made : Made} {nests : List Nest} {live : List ℕ} {z : Bool} {body : Stmts} {others : Cases}
        {operands : Operands}
        → SortedStmts d nests live body z
        → SortedClauses d made nests live z others operands
        → SortedClauses d made nests live z (default_case body others) operands
    send_clause : {made : Made} {nests : List Nest} {live : List ℕ} {z : Bool} {p q : Expr} {body : Stmts}
        {others : Cases} {c e : Operand} {operands : Operands} {k : Sort}
        → SortedOperand d made live c (ChanSort k)
        → SortedOperand d made live e k
        → SortedStmts d nests live body z
        → SortedClauses d made nests live z others operands
        → SortedClauses d made nests live z (send_case p q body others) (also c (also e operands))
    receive_clause : {made : Made} {nests : List Nest} {live : List ℕ} {z : Bool} {xs : List (Option ℕ)} {p : Expr}
        {zero : Literal} {body : Stmts} {others : Cases} {c : Operand} {operands : Operands} {k : Sort}
        → SortedOperand d made live c (ChanSort k)
        → HasSort nothing_made (value_of zero) k
        → AreTargets d.variables xs (k ∷ BoolSort ∷ [])
        → SortedStmts d nests (numbers_of xs ++ live) body z
        → SortedClauses d made nests live z others operands
        → SortedClauses d made nests live z (receive_case xs p zero body others) (also c operands)

-- control comes to the end of a function's body only where it has no result
pub data SortedFunction (fs : List Signature) : Signature → Function → Type 0 where
  function : {y name : List ℕ} {ts : List Ty} {parameters : List Parameter} {result : Option Ty}
      {variables : List Declared} {body : Stmts} {last : Place} {z : Bool}
      → AreTargets variables (map variable_of parameters) (map sort_of ts)
      → SortedStmts (record { functions = fs; variables = variables; result = result }) [] (numbers_of (map variable_of parameters)) body z
      → (z ≡ true → result ≡ None)
      → SortedFunction fs (Sign y ts result) (FunctionIs name parameters result variables body last)

pub data SortedFunctions (fs : List Signature) : List Signature → List Function → Type 0 where
  no_function : SortedFunctions fs [] []
  one_function : {g : Signature} {gs : List Signature} {f : Function} {others : List Function}
      → SortedFunction fs g f → SortedFunctions fs gs others → SortedFunctions fs (g ∷ gs) (f ∷ others)

pub data SortedProgram (fs : List Signature) : Program → Type 0 where
  main : {functions : List Function} {k : ℕ} {y : List ℕ}
      → SortedFunctions fs fs functions → signature fs k ≡ Some (Sign y [] None)
      → SortedProgram fs (ProgramIs functions k)
