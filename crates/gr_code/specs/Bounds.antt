-- Variables of code below a number, from which on temporaries have their numbers.
use Rattle.std.specs.Prelude.{◌≡◌, ◌<◌, ℕ, Option, Some, None}
use Rattle.gr_scan.specs.declared.token.Place.{Place}
use Rattle.gr_program.specs.Programs as program
use Rattle.gr_program.specs.Programs.{Expr, Act, Opening, Opens, Stmt, Does, Block, If, For, Stmts, stop, then}
use Rattle.gr_rules.specs.Operands.{Operand, Done, Variable, Unary, Binary, Receive, Call, Len, Cap, Make, Decided, Operands, nothing, also, operand_of}
use Rattle.gr_rules.specs.Points.{Rest, closing, following, looping, ranging, chosen, act_at, case_operands}
use Rattle.gr_code.specs.Filling.{Temporaries}

abbrev mutual
  pub Below : ℕ → Operand → Type 0
  Below n (Done v) = Unit {0}
  Below n (Variable x) = x < n
  Below n (Unary op a) = Below n a
  Below n (Binary op a b) = Below n a × Below n b
  Below n (Receive c zero) = Below n c
  Below n (Call f arguments) = AllBelow n arguments
  Below n (Len c) = Below n c
  Below n (Cap c) = Below n c
  Below n (Make a) = Below n a
  Below n (Decided op x b) = (x < n) × Below n b

  pub AllBelow : ℕ → Operands → Type 0
  AllBelow n nothing = Unit {0}
  AllBelow n (also a others) = Below n a × AllBelow n others

-- the operands of an act are the same at each place
abbrev pub nowhere : Place
nowhere = record { start = 0; end = 0; line = 0 }

abbrev pub ActBelow : ℕ → Act → Type 0
ActBelow n act = AllBelow n (act_at nowhere act (closing nowhere)).operands

abbrev pub OpeningBelow : ℕ → Option Opening → Type 0
OpeningBelow n o = elim o [ Some (Opens place act) ↦ ActBelow n act | None ↦ Unit {0} ]

abbrev pub ConditionBelow : ℕ → Option Expr → Type 0
ConditionBelow n o = elim o [ Some e ↦ Below n (operand_of e) | None ↦ Unit {0} ]

-- what is done first in a statement
abbrev mutual
  pub FirstBelow : ℕ → Stmt → Type 0
  FirstBelow n (Does place act) = ActBelow n act
  FirstBelow n (Block body) = EachFirstBelow n body
  FirstBelow n (If place init condition body otherwise) = OpeningBelow n init × Below n (operand_of condition)
  FirstBelow n (For place init condition post body) = OpeningBelow n init × ConditionBelow n condition
  FirstBelow n (program.Range place target channel body) = Below n (operand_of channel)
  FirstBelow n (program.Select place cases) = AllBelow n (case_operands cases)

  pub EachFirstBelow : ℕ → Stmts → Type 0
  EachFirstBelow n stop = Unit {0}
  EachFirstBelow n (then s ss) = FirstBelow n s × EachFirstBelow n ss

-- the variables of what is done first in each statement that remains are below a number
abbrev pub RestBelow : ℕ → Rest → Type 0
RestBelow n (closing place) = Unit {0}
RestBelow n (following ss rest) = EachFirstBelow n ss × RestBelow n rest
RestBelow n (looping again rest) = EachFirstBelow n again × RestBelow n rest
RestBelow n (ranging place target channel body rest) = RestBelow n rest
RestBelow n (chosen clause rest) = RestBelow n rest

-- no temporary has such a number
abbrev pub NoneBelow : ℕ → Temporaries → Type 0
NoneBelow n ts = (x : ℕ) → x < n → ts x ≡ None
