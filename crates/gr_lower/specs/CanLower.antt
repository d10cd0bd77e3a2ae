-- What a program needs to have code. Its variables are those of its functions, and its expression statements are calls and
-- receives. Each checked program has this.
use Rattle.std.specs.Prelude.{ℕ, ◌<◌, List, [], ◌∷◌, map, length, Option, Some, None}
use Rattle.gr_program.specs.Programs as program
use Rattle.gr_program.specs.Programs.{Expr, Receive, Call, Act, Opening, Opens, Stmt, Does, Block, If, For, Stmts, stop, then, Cases, no_case, default_case, send_case, receive_case, Function, FunctionIs, Program, ProgramIs}
use Rattle.gr_rules.specs.Operands.{operand_of}
use Rattle.gr_rules.specs.Frames.{variable_of}
use Rattle.gr_code.specs.Bounds.{Below, ActBelow, ConditionBelow}
use Rattle.gr_code.specs.Vectors.{TargetsBelow}

-- a call or a receive (Go: Expression statements)
abbrev pub IsWhole : Expr → Type 0
IsWhole (Call f arguments) = Unit {0}
IsWhole (Receive c initial) = Unit {0}
IsWhole e = ⊥

-- what an act assigns to, and what it is where it is an expression
abbrev pub ActStands : ℕ → Act → Type 0
ActStands n (program.Assign targets values) = TargetsBelow n targets
ActStands n (program.AssignReceive value ok channel initial) = TargetsBelow n (value ∷ ok ∷ [])
ActStands n (program.Update x op value) = x < n
ActStands n (program.Eval value) = IsWhole value
ActStands n act = Unit {0}

abbrev pub CanAct : ℕ → Act → Type 0
CanAct n act = ActBelow n act × ActStands n act

abbrev pub CanOpen : ℕ → Option Opening → Type 0
CanOpen n o = elim o [ Some (Opens place act) ↦ CanAct n act | None ↦ Unit {0} ]

abbrev mutual
  pub CanDo : ℕ → Stmt → Type 0
  CanDo n (Does place act) = CanAct n act
  CanDo n (Block body) = CanDoAll n body
  CanDo n (If place init condition body otherwise) =
      CanOpen n init × Below n (operand_of condition) × CanDoAll n body × CanDoAll n otherwise
  CanDo n (For place init condition post body) = CanOpen n init × ConditionBelow n condition × CanOpen n post × CanDoAll n body
  CanDo n (program.Range place target channel body) = TargetsBelow n (target ∷ []) × Below n (operand_of channel) × CanDoAll n body
  CanDo n (program.Select place cases) = CanDoCases n cases

  pub CanDoAll : ℕ → Stmts → Type 0
  CanDoAll n stop = Unit {0}
  CanDoAll n (then s ss) = CanDo n s × CanDoAll n ss

  pub CanDoCases : ℕ → Cases → Type 0
  CanDoCases n no_case = Unit {0}
  CanDoCases n (default_case body others) = CanDoAll n body × CanDoCases n others
  CanDoCases n (send_case channel value body others) =
      Below n (operand_of channel) × Below n (operand_of value) × CanDoAll n body × CanDoCases n others
  CanDoCases n (receive_case targets channel initial body others) =
      TargetsBelow n targets × Below n (operand_of channel) × CanDoAll n body × CanDoCases n others

abbrev pub CanLowerFunction : Function → Type 0
CanLowerFunction (FunctionIs name parameters result variables body last) =
    TargetsBelow (length variables) (map variable_of parameters) × CanDoAll (length variables) body

abbrev pub CanLowerAll : List Function → Type 0
CanLowerAll [] = Unit {0}
CanLowerAll (f ∷ fs) = CanLowerFunction f × CanLowerAll fs

abbrev pub CanLower : Program → Type 0
CanLower (ProgramIs functions main) = CanLowerAll functions
