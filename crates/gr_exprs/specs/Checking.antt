-- What the code's answers say of what an expression is.
use Rattle.std.specs.Prelude.{◌≡◌, List, [], ◌∷◌, Option, Some, None, Result, Ok, Err}
use Rattle.gr_tree.specs.declared.expr.Direction.{Direction}
use Rattle.gr_program.specs.declared.types.Type as code_type
use Rattle.gr_program.specs.declared.program.Expr as checked_expr
use Rattle.gr_exprs.specs.declared.operands.Operand as code_operand
use Rattle.gr_exprs.specs.declared.operands.Operand.TheVariants as code
use Rattle.gr_exprs.specs.declared.operands.Channel as code_channel
use Rattle.gr_exprs.specs.declared.calls.Called as code_called
use Rattle.gr_exprs.specs.declared.refusal.RuleError.{RuleError}
use Rattle.gr_exprs.specs.declared.refusal.RuleError.TheVariants as faults
use Rattle.gr_program.specs.Types.{Ty}
use Rattle.gr_program.specs.Programs.{Expr, Call}
use Rattle.gr_typing.specs.Values.{Value, Known, NilValue, Made}
use Rattle.gr_exprs.specs.Finding.{Typed}
use Rattle.gr_program.specs.TypeViews.{ty_of}
use Rattle.gr_tree.specs.Statements.{optional}
use Rattle.gr_program.specs.Views.{expr_of, exprs_of}

abbrev pub meaning_of : code_operand.Operand → Value
meaning_of (code.Constant c) = Known c
meaning_of code.Nil = NilValue
meaning_of (code.Made t p) = Made (ty_of t) (expr_of p)

abbrev pub meanings_of : List code_operand.Operand → List Value
meanings_of [] = []
meanings_of (v ∷ vs) = meaning_of v ∷ meanings_of vs

abbrev pub typed_of : code_type.Type × checked_expr.Expr → Typed
typed_of p = (ty_of p.0, expr_of p.1)

abbrev pub channel_of : code_channel.Channel → Direction × (Ty × Expr)
channel_of c = (c.direction, (ty_of c.element, expr_of c.term))

abbrev pub called_of : code_called.Called → Option Ty × Expr
called_of c = (optional ty_of c.result, Call c.function (exprs_of c.arguments.items))

-- a fault says that there is nothing; out of memory says nothing
abbrev pub Rejects : {B : Type 0} → RuleError → Option B → Type 0
Rejects (faults.Broken code) o = o ≡ None
Rejects faults.Memory o = Unit {0}

-- a result beside what it should be
abbrev pub Agrees : {A B : Type 0} → (A → B) → Result A RuleError → Option B → Type 0
Agrees view (Ok a) o = o ≡ Some (view a)
Agrees view (Err fault) o = Rejects fault o
