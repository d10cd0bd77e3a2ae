-- What code does with the channels that stand in its variables, and with those that it names. Each use has to be within the bounds,
-- and so has each use of a variable, a parameter or a result to which the channel is handed on.
use Rattle.std.specs.Prelude.{ℕ, List, [], ◌∷◌, map, slice_get, Option, Some, None}
use Rattle.gr_scan.specs.declared.token.Place.{Place}
use Rattle.gr_program.specs.Programs as program
use Rattle.gr_program.specs.Programs.{Expr, Act, Opening, Opens, Stmt, Does, Block, If, For, Stmts, stop, then, Cases, no_case, default_case, send_case, receive_case, Function, FunctionIs, Program, ProgramIs}
use Rattle.gr_rules.specs.Operands.{Operand, Done, Variable, Unary, Binary, Receive, Call, Len, Cap, Make, Decided, Operands, nothing, also, operand_of}
use Rattle.gr_rules.specs.Points.{Rest, closing, following, looping, ranging, chosen, Work, Assign, AssignReceive, Close, Send, Go, Return, Test, Range, Turn, Select, Point, act_at, case_operands}
use Rattle.gr_rules.specs.Frames.{variable_of}
use Rattle.gr_may.specs.Uses.{to_send, to_receive, to_close, to_count, to_share, Uses, no_use, only, Within, Usage, MayUse, Shared, target}

abbrev pub function_at : Program → ℕ → Option Function
function_at (ProgramIs functions main) k = slice_get functions k

abbrev pub uses_of_parameters : Usage → ℕ → Option Function → List Uses
uses_of_parameters usage k None = []
uses_of_parameters usage k (Some (FunctionIs name parameters result variables body last)) = map (target (usage.variables k)) (map variable_of parameters)

-- the uses of the parameters of the function with a number
abbrev pub parameter_uses : Program → Usage → ℕ → List Uses
parameter_uses p usage k = uses_of_parameters usage k (function_at p k)

-- the uses of the operands of a select, in source order
abbrev pub clause_uses : Cases → List Uses
clause_uses no_case = []
clause_uses (default_case body others) = clause_uses others
clause_uses (send_case channel value body others) = only to_send ∷ only to_share ∷ clause_uses others
clause_uses (receive_case targets channel zero body others) = only to_receive ∷ clause_uses others

-- code of the goroutine with a name, in the function with a number, whose variables are used so
module _ (p : Program) (usage : Usage) (n : List ℕ) (uses : ℕ → Uses) (function : ℕ) where
  -- operands, where what they give is used so. The right side of `&&` or `||` can stand in place of the whole. The values of
  -- operands beyond those that are listed are not used.
  abbrev mutual
    pub OperandFits : Uses → Operand → Type 0
    OperandFits b (Done v) = MayUse usage n b v
    OperandFits b (Variable x) = Within b (uses x)
    OperandFits b (Unary op a) = OperandFits no_use a
    OperandFits b (Binary op x y) = OperandFits no_use x × OperandFits b y
    OperandFits b (Receive c zero) = OperandFits (only to_receive) c × Shared usage zero
    OperandFits b (Call k arguments) = Within b (usage.results k) × OperandsFit (parameter_uses p usage k) arguments
    OperandFits b (Len c) = OperandFits (only to_count) c
    OperandFits b (Cap c) = OperandFits no_use c
    OperandFits b (Make size) = OperandFits no_use size
    OperandFits b (Decided op x y) = OperandFits b y

    pub OperandsFit : List Uses → Operands → Type 0
    OperandsFit bs nothing = Unit {0}
    OperandsFit [] (also a rest) = OperandFits no_use a × OperandsFit [] rest
    OperandsFit (b ∷ bs) (also a rest) = OperandFits b a × OperandsFit bs rest

  -- the uses of the operands of a statement. A goroutine that is started uses its parameters in its own name.
  abbrev pub work_uses : Work → List Uses
  work_uses (Assign targets) = map (target uses) targets
  work_uses (AssignReceive value ok zero) = only to_receive ∷ []
  work_uses Close = only to_close ∷ []
  work_uses Send = only to_send ∷ only to_share ∷ []
  work_uses (Go k) = parameter_uses p usage k
  work_uses Return = usage.results function ∷ []
  work_uses (Range target body) = only to_receive ∷ []
  work_uses (Turn target body) = only to_receive ∷ []
  work_uses (Select cases) = clause_uses cases
  work_uses _ = []

  abbrev pub OperandsFitAt : Point → Type 0
  OperandsFitAt here = OperandsFit (work_uses here.work) here.operands

  abbrev pub ActFits : Place → Act → Type 0
  ActFits place act = OperandsFitAt (act_at place act (closing place))

  abbrev pub OpeningFits : Option Opening → Type 0
  OpeningFits None = Unit {0}
  OpeningFits (Some (Opens place act)) = ActFits place act

  abbrev pub ConditionFits : Option Expr → Type 0
  ConditionFits None = Unit {0}
  ConditionFits (Some e) = OperandFits no_use (operand_of e)

  abbrev mutual
    pub StmtFits : Stmt → Type 0
    StmtFits (Does place act) = ActFits place act
    StmtFits (Block body) = StmtsFit body
    StmtFits (If place init condition body otherwise) = OpeningFits init × OperandFits no_use (operand_of condition) × StmtsFit body × StmtsFit otherwise
    StmtFits (For place init condition post body) = OpeningFits init × ConditionFits condition × OpeningFits post × StmtsFit body
    StmtFits (program.Range place target channel body) = OperandFits (only to_receive) (operand_of channel) × StmtsFit body
    StmtFits (program.Select place cases) = OperandsFit (clause_uses cases) (case_operands cases) × CasesFit cases

    pub StmtsFit : Stmts → Type 0
    StmtsFit stop = Unit {0}
    StmtsFit (then s ss) = StmtFits s × StmtsFit ss

    pub CasesFit : Cases → Type 0
    CasesFit no_case = Unit {0}
    CasesFit (default_case body others) = StmtsFit body × CasesFit others
    CasesFit (send_case channel value body others) = StmtsFit body × CasesFit others
    CasesFit (receive_case targets channel zero body others) = StmtsFit body × CasesFit others

  -- what remains of a function
  abbrev pub RestFits : Rest → Type 0
  RestFits (closing place) = Unit {0}
  RestFits (following ss rest) = StmtsFit ss × RestFits rest
  RestFits (looping again rest) = StmtsFit again × RestFits rest
  RestFits (ranging place target channel body rest) = OperandFits (only to_receive) channel × StmtsFit body × RestFits rest
  RestFits (chosen clause rest) = RestFits rest

  -- what lies inside a statement
  abbrev pub WorkFits : Work → Type 0
  WorkFits (AssignReceive value ok zero) = Shared usage zero
  WorkFits (Test holds) = RestFits holds
  WorkFits (Range target body) = StmtsFit body
  WorkFits (Turn target body) = StmtsFit body
  WorkFits (Select cases) = CasesFit cases
  WorkFits _ = Unit {0}

  -- all that a frame may still execute from a point on
  pub record PointFits (here : Point) : Type 0 where
    pub operands : OperandsFitAt here
    pub work : WorkFits here.work
    pub rest : RestFits here.rest
