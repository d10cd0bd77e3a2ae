-- Points of code: parts that are done stand in temporaries, which are variables of higher numbers. Filled with their values,
-- it is a point of the rules.
use Rattle.std.specs.Prelude.{◌≡◌, ℕ, nat_eq, true, Option, Some, None, if◌then◌else◌}
use Rattle.gr_tree.specs.declared.expr.BinaryOp.{BinaryOp}
use Rattle.gr_base.specs.declared.values.Value.{Value}
use Rattle.gr_rules.specs.Operators.{settles}
use Rattle.gr_rules.specs.Operands.{Operand, Done, Variable, Unary, Binary, Receive, Call, Len, Cap, Make, Decided, Operands, nothing, also}
use Rattle.gr_rules.specs.Parts.{Ask, Calls, Receives, Makes, CountsItems, CountsPlaces, Decides, Plain, next}
use Rattle.gr_rules.specs.Points.{Rest, closing, following, looping, ranging, chosen, Work, Assign, AssignReceive, Update, Eval, Close, Print, Send, Go, Return, GoOn, Astray, Test, Range, Turn, Select, Point, at}

-- the values of temporaries by their numbers
abbrev pub Temporaries : Type 0
Temporaries = ℕ → Option Value

abbrev pub with_value : Temporaries → ℕ → Value → Temporaries
with_value ts slot v = λ x. if nat_eq x slot then Some v else ts x

-- the value of a part that is a whole statement is kept nowhere
abbrev pub keeping : Temporaries → Option ℕ → Value → Temporaries
keeping ts slot v = elim slot [ Some d ↦ with_value ts d v | None ↦ ts ]

abbrev pub variable_filled : ℕ → Option Value → Operand
variable_filled x o = elim o [ Some v ↦ Done v | None ↦ Variable x ]

-- where the left operand settles `&&` or `||`, nothing is left of the right one
abbrev pub decided : BinaryOp → ℕ → Operand → Option Value → Operand
decided op x b o = elim o [ Some v ↦ if settles op v then Done v else b | None ↦ Decided op x b ]

abbrev mutual
  pub fill : Temporaries → Operand → Operand
  fill ts (Done v) = Done v
  fill ts (Variable x) = variable_filled x (ts x)
  fill ts (Unary op a) = Unary op (fill ts a)
  fill ts (Binary op a b) = Binary op (fill ts a) (fill ts b)
  fill ts (Receive c zero) = Receive (fill ts c) zero
  fill ts (Call f arguments) = Call f (fill_all ts arguments)
  fill ts (Len c) = Len (fill ts c)
  fill ts (Cap c) = Cap (fill ts c)
  fill ts (Make n) = Make (fill ts n)
  fill ts (Decided op x b) = decided op x (fill ts b) (ts x)

  pub fill_all : Temporaries → Operands → Operands
  fill_all ts nothing = nothing
  fill_all ts (also a others) = also (fill ts a) (fill_all ts others)

abbrev pub fill_rest : Temporaries → Rest → Rest
fill_rest ts (closing place) = closing place
fill_rest ts (following ss rest) = following ss (fill_rest ts rest)
fill_rest ts (looping again rest) = looping again (fill_rest ts rest)
fill_rest ts (ranging place target channel body rest) = ranging place target (fill ts channel) body (fill_rest ts rest)
fill_rest ts (chosen clause rest) = chosen clause (fill_rest ts rest)

abbrev pub fill_work : Temporaries → Work → Work
fill_work ts (Assign targets) = Assign targets
fill_work ts (AssignReceive value ok zero) = AssignReceive value ok zero
fill_work ts (Update x op) = Update x op
fill_work ts Eval = Eval
fill_work ts Close = Close
fill_work ts (Print pieces) = Print pieces
fill_work ts Send = Send
fill_work ts (Go f) = Go f
fill_work ts Return = Return
fill_work ts GoOn = GoOn
fill_work ts Astray = Astray
fill_work ts (Test holds) = Test (fill_rest ts holds)
fill_work ts (Range target body) = Range target body
fill_work ts (Turn target body) = Turn target body
fill_work ts (Select cases) = Select cases

abbrev pub fill_point : Temporaries → Point → Point
fill_point ts p = at p.place (fill_work ts p.work) (fill_all ts p.operands) (fill_rest ts p.rest)

abbrev pub fill_ask : Temporaries → Ask → Ask
fill_ask ts (Calls f arguments) = Calls f (fill_all ts arguments)
fill_ask ts (Receives c zero) = Receives (fill ts c) zero
fill_ask ts (Makes n) = Makes (fill ts n)
fill_ask ts (CountsItems c) = CountsItems (fill ts c)
fill_ask ts (CountsPlaces c) = CountsPlaces (fill ts c)
fill_ask ts (Decides op a) = Decides op (fill ts a)

-- a right operand whose left one settles has no part
abbrev pub Wanted : BinaryOp → Option Value → Operand → Type 0
Wanted op o b = elim o [ Some v ↦ settles op v ≡ true → next b ≡ Plain | None ↦ Unit {0} ]

-- each right operand that still has parts is wanted
abbrev mutual
  pub Clear : Temporaries → Operand → Type 0
  Clear ts (Done v) = Unit {0}
  Clear ts (Variable x) = Unit {0}
  Clear ts (Unary op a) = Clear ts a
  Clear ts (Binary op a b) = Clear ts a × Clear ts b
  Clear ts (Receive c zero) = Clear ts c
  Clear ts (Call f arguments) = ClearAll ts arguments
  Clear ts (Len c) = Clear ts c
  Clear ts (Cap c) = Clear ts c
  Clear ts (Make n) = Clear ts n
  Clear ts (Decided op x b) = Wanted op (ts x) b × Clear ts b

  pub ClearAll : Temporaries → Operands → Type 0
  ClearAll ts nothing = Unit {0}
  ClearAll ts (also a others) = Clear ts a × ClearAll ts others
