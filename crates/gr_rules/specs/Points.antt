-- Where a frame stands: the statement, with finished parts replaced by their values, and what remains after it.
use Rattle.std.specs.Prelude.{ℕ, zero, suc, true, List, [], ◌∷◌, Option, Some, None, unwrap_or}
use Rattle.std.specs.Option.{option_map_or, option_or}
use Rattle.gr_scan.specs.declared.token.Place.{Place}
use Rattle.gr_tree.specs.declared.expr.BinaryOp.{BinaryOp}
use Rattle.gr_base.specs.declared.values.Value.{Value}
use Rattle.gr_base.specs.declared.values.Value.TheVariants.{Bool as Truth}
use Rattle.gr_program.specs.Programs as program
use Rattle.gr_program.specs.Programs.{Expr, Printed, PrintExpr, PrintText, Act, Opening, Opens, Stmt, Does, Block, If, For, Stmts, stop, then, Cases, no_case, default_case, send_case, receive_case}
use Rattle.gr_rules.specs.Operands.{Operand, Done, Operands, nothing, also, one, two, value_of, operand_of, operands_of}

-- what remains of a function, from the inside out
pub data Rest : Type 0 where
  -- the closing brace, and where it stands
  closing : (place : Place) → Rest
  following : (statements : Stmts) (rest : Rest) → Rest
  -- the end of the body of a for, and the statements of the next turn
  looping : (again : Stmts) (rest : Rest) → Rest
  -- the end of the body of a for with range, whose channel is done
  ranging : (place : Place) (target : Option ℕ) (channel : Operand) (body : Stmts) (rest : Rest) → Rest
  -- the end of a clause of a select, by its number
  chosen : (clause : ℕ) (rest : Rest) → Rest

-- what `println` prints at a place
pub data Piece : Type 0 where
  OfText : (bytes : List ℕ) → Piece
  OfValue : Piece

-- what a statement does with its operands
pub data Work : Type 0 where
  Assign : (targets : List (Option ℕ)) → Work
  AssignReceive : (value ok : Option ℕ) (zero : Value) → Work
  Update : (variable : ℕ) (op : BinaryOp) → Work
  Eval : Work
  Close : Work
  Print : (pieces : List Piece) → Work
  Send : Work
  Go : (function : ℕ) → Work
  Return : Work
  -- nothing but to go on, as `break`, `continue` and the end of a range
  GoOn : Work
  -- a `break` or `continue` out of a statement that is not there, as in no checked program
  Astray : Work
  -- an if or a for: what follows where the condition holds; what remains of the point follows where it does not
  Test : (holds : Rest) → Work
  Range : (target : Option ℕ) (body : Stmts) → Work
  -- a turn of a range, whose channel is done
  Turn : (target : Option ℕ) (body : Stmts) → Work
  Select : (cases : Cases) → Work

-- A statement and where it begins, which tells it from the others of its function. Beside that, its operands in source
-- order, and what remains after it.
pub record Point : Type 0 where
  pub place : Place
  pub work : Work
  pub operands : Operands
  pub rest : Rest

abbrev pub at : Place → Work → Operands → Rest → Point
at place work operands rest = record { place = place; work = work; operands = operands; rest = rest }

-- statements before what remains
abbrev pub onto : Stmts → Rest → Rest
onto stop rest = rest
onto (then s ss) rest = following (then s ss) rest

-- what remains after a for or select statement around a place; this many more lie further inside
abbrev pub outside : ℕ → Rest → Option Rest
outside n (closing place) = None
outside n (following ss rest) = outside n rest
outside zero (looping again rest) = Some rest
outside (suc n) (looping again rest) = outside n rest
outside zero (ranging place target channel body rest) = Some rest
outside (suc n) (ranging place target channel body rest) = outside n rest
outside zero (chosen clause rest) = Some rest
outside (suc n) (chosen clause rest) = outside n rest

-- what remains from the end of its body on, where it is a for
abbrev pub next_turn : ℕ → Rest → Option Rest
next_turn n (closing place) = None
next_turn n (following ss rest) = next_turn n rest
next_turn zero (looping again rest) = Some (looping again rest)
next_turn (suc n) (looping again rest) = next_turn n rest
next_turn zero (ranging place target channel body rest) = Some (ranging place target channel body rest)
next_turn (suc n) (ranging place target channel body rest) = next_turn n rest
next_turn zero (chosen clause rest) = None
next_turn (suc n) (chosen clause rest) = next_turn n rest

-- a statement that does nothing but go on there
abbrev pub going_on : Place → Option Rest → Point
going_on place (Some rest) = at place GoOn nothing rest
going_on place None = at place Astray nothing (closing place)

abbrev pub pieces_of : List Printed → List Piece
pieces_of [] = []
pieces_of (PrintExpr value ∷ ps) = OfValue ∷ pieces_of ps
pieces_of (PrintText bytes ∷ ps) = OfText bytes ∷ pieces_of ps

abbrev pub printed_operands : List Printed → Operands
printed_operands [] = nothing
printed_operands (PrintExpr value ∷ ps) = also (operand_of value) (printed_operands ps)
printed_operands (PrintText bytes ∷ ps) = printed_operands ps

-- a `return` without a value is that of a function without a result (Go: Return statements, Break statements, Continue
-- statements)
abbrev pub act_at : Place → Act → Rest → Point
act_at place (program.Assign targets values) rest = at place (Assign targets) (operands_of values) rest
act_at place (program.AssignReceive value ok channel initial) rest = at place (AssignReceive value ok (value_of initial)) (one (operand_of channel)) rest
act_at place (program.Update variable op value) rest = at place (Update variable op) (one (operand_of value)) rest
act_at place (program.Eval value) rest = at place Eval (one (operand_of value)) rest
act_at place (program.Close channel) rest = at place Close (one (operand_of channel)) rest
act_at place (program.Print values) rest = at place (Print (pieces_of values)) (printed_operands values) rest
act_at place (program.Send channel value) rest = at place Send (two (operand_of channel) (operand_of value)) rest
act_at place (program.Go function arguments) rest = at place (Go function) (operands_of arguments) rest
act_at place (program.Return value) rest = at place Return (option_map_or (λ v. one (operand_of v)) value nothing) rest
act_at place (program.Break depth) rest = going_on place (outside depth rest)
act_at place (program.Continue depth) rest = going_on place (next_turn depth rest)

-- a statement that begins with another, if there is one before it
abbrev pub opened : Option Opening → Stmt → Point → Rest → Point
opened init s point rest = elim init [ Some (Opens place act) ↦ act_at place act (following (then s stop) rest) | None ↦ point ]

-- the statements of the next turn: the post statement, and the loop again
abbrev pub turn : Option Opening → Stmt → Stmts
turn post s = elim post [ Some (Opens place act) ↦ then (Does place act) (then s stop) | None ↦ then s stop ]

-- the channels and the values to send of a select, in source order (Go: Select statements)
abbrev pub case_operands : Cases → Operands
case_operands no_case = nothing
case_operands (default_case body others) = case_operands others
case_operands (send_case channel value body others) = also (operand_of channel) (also (operand_of value) (case_operands others))
case_operands (receive_case targets channel initial body others) = also (operand_of channel) (case_operands others)

-- the first point of a statement, and of statements; blocks, and statements that are empty, have none of their own. A
-- missing condition is `true` (Go: For statements).
abbrev mutual
  pub first_of : Stmt → Rest → Option Point
  first_of (Does place act) rest = Some (act_at place act rest)
  first_of (Block body) rest = first_in body rest
  first_of (If place init condition body otherwise) rest =
      let test = at place (Test (onto body rest)) (one (operand_of condition)) (onto otherwise rest) in
      Some (opened init (If place None condition body otherwise) test rest)
  first_of (For place init condition post body) rest =
      let again = For place None condition post body in
      let test = at place (Test (onto body (looping (turn post again) rest))) (one (option_map_or operand_of condition (Done (Truth true)))) rest in
      Some (opened init again test rest)
  first_of (program.Range place target channel body) rest = Some (at place (Range target body) (one (operand_of channel)) rest)
  first_of (program.Select place cases) rest = Some (at place (Select cases) (case_operands cases) rest)

  pub first_in : Stmts → Rest → Option Point
  first_in stop rest = None
  first_in (then s ss) rest = option_or (first_of s (onto ss rest)) (first_in ss rest)

-- where a frame stands next; after the statements of a function comes its closing brace, which returns
abbrev pub point_after : Rest → Point
point_after (closing place) = at place Return nothing (closing place)
point_after (following ss rest) = unwrap_or (first_in ss rest) (point_after rest)
point_after (looping again rest) = unwrap_or (first_in again rest) (point_after rest)
point_after (ranging place target channel body rest) = at place (Turn target body) (one channel) rest
point_after (chosen clause rest) = point_after rest
