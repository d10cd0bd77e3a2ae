-- Checked programs of the code, without where they lie in memory.
use Rattle.std.specs.Prelude.{List, [], ◌∷◌, Box}
use Rattle.std.proofs.Common.{Global}
use Rattle.gr_tree.specs.Statements.{optional}
use Rattle.gr_program.specs.declared.program.Expr as code_expr
use Rattle.gr_program.specs.declared.program.Expr.TheVariants as exprs
use Rattle.gr_program.specs.declared.program.Printed as code_printed
use Rattle.gr_program.specs.declared.program.Printed.TheVariants as prints
use Rattle.gr_program.specs.declared.program.Act as code_act
use Rattle.gr_program.specs.declared.program.Act.TheVariants as acts
use Rattle.gr_program.specs.declared.program.Opening as code_opening
use Rattle.gr_program.specs.declared.program.Stmt as rows
use Rattle.gr_program.specs.declared.program.Stmt.TheVariants as stmts
use Rattle.gr_program.specs.declared.program.Case as code_case
use Rattle.gr_program.specs.declared.program.Case.TheVariants as cases
use Rattle.gr_program.specs.declared.program.Parameter as code_parameter
use Rattle.gr_program.specs.declared.program.Function as code_function
use Rattle.gr_program.specs.declared.program.Program as code_program
use Rattle.gr_program.specs.Programs as pure
use Rattle.gr_program.specs.Programs.{Expr, Exprs, none, more, Printed, Act, Opening, Stmt, Stmts, stop, then, Cases, no_case, Parameter, Function, Program}
use Rattle.gr_program.specs.TypeViews.{ty_of, literal_of, declared_of}

abbrev mutual
  pub expr_of : code_expr.Expr → Expr
  expr_of (exprs.Literal value) = pure.Literally (literal_of value)
  expr_of (exprs.Variable number) = pure.Variable number
  expr_of (exprs.Unary' op p operand) = pure.Unary op (expr_of operand)
  expr_of (exprs.Binary' op p left q right) = pure.Binary op (expr_of left) (expr_of right)
  expr_of (exprs.Receive' p channel zero) = pure.Receive (expr_of channel) (literal_of zero)
  expr_of (exprs.Call' function shape all) = pure.Call function (row_exprs all)
  expr_of (exprs.Len' p channel) = pure.Len (expr_of channel)
  expr_of (exprs.Cap' p channel) = pure.Cap (expr_of channel)
  expr_of exprs.Make = pure.Make
  expr_of (exprs.MakeSized' p size) = pure.MakeSized (expr_of size)

  pub row_exprs : {m : _} → code_expr.Row_of-Expr m → Exprs
  row_exprs code_expr.end_of-Expr = none
  row_exprs (code_expr.more_of-Expr t rest) = more (expr_of t) (row_exprs rest)

abbrev pub exprs_of : List code_expr.Expr → Exprs
exprs_of [] = none
exprs_of (t ∷ ts) = more (expr_of t) (exprs_of ts)

abbrev pub printed_of : code_printed.Printed → Printed
printed_of (prints.Value value) = pure.PrintExpr (expr_of value)
printed_of (prints.Text bytes) = pure.PrintText bytes.items

abbrev pub prints_of : List code_printed.Printed → List Printed
prints_of [] = []
prints_of (p ∷ ps) = printed_of p ∷ prints_of ps

abbrev pub act_of : code_act.Act → Act
act_of (acts.Assign targets values) = pure.Assign targets.items (exprs_of values.items)
act_of (acts.AssignReceive value ok channel zero) = pure.AssignReceive value ok (expr_of channel) (literal_of zero)
act_of (acts.Update variable op value) = pure.Update variable op (expr_of value)
act_of (acts.Eval value) = pure.Eval (expr_of value)
act_of (acts.Close channel) = pure.Close (expr_of channel)
act_of (acts.Print values) = pure.Print (prints_of values.items)
act_of (acts.Send channel value) = pure.Send (expr_of channel) (expr_of value)
act_of (acts.Go function arguments) = pure.Go function (exprs_of arguments.items)
act_of (acts.Return value) = pure.Return (optional expr_of value)
act_of (acts.Break depth) = pure.Break depth
act_of (acts.Continue depth) = pure.Continue depth

abbrev pub opening_of : Box code_opening.Opening Global → Opening
opening_of o = pure.Opens o.value.place (act_of o.value.act)

abbrev mutual
  pub stmt_of : rows.Stmt → Stmt
  stmt_of (stmts.Act place act) = pure.Does place (act_of act)
  stmt_of (stmts.Block' shape body) = pure.Block (row_stmts body)
  stmt_of (stmts.If' place init condition shape body s otherwise) = pure.If place (optional opening_of init) (expr_of condition) (row_stmts body) (row_stmts otherwise)
  stmt_of (stmts.For' place init condition post shape body) = pure.For place (optional opening_of init) (optional expr_of condition) (optional opening_of post) (row_stmts body)
  stmt_of (stmts.Range' place target channel shape body) = pure.Range place target (expr_of channel) (row_stmts body)
  stmt_of (stmts.Select' place shape all) = pure.Select place (row_cases all)

  pub row_stmts : {m : _} → rows.Row_of-Stmt m → Stmts
  row_stmts rows.end_of-Stmt = stop
  row_stmts (rows.more_of-Stmt s rest) = then (stmt_of s) (row_stmts rest)

  -- a clause before others
  pub case_on : code_case.Case → Cases → Cases
  case_on (cases.Default' shape body) others = pure.default_case (row_stmts body) others
  case_on (cases.Send' channel value shape body) others = pure.send_case (expr_of channel) (expr_of value) (row_stmts body) others
  case_on (cases.Receive' targets channel zero shape body) others =
      pure.receive_case targets.items (expr_of channel) (literal_of zero) (row_stmts body) others

  pub row_cases : {m : _} → rows.Row_of-Case m → Cases
  row_cases rows.end_of-Case = no_case
  row_cases (rows.more_of-Case c rest) = case_on c (row_cases rest)

abbrev pub stmts_of : List rows.Stmt → Stmts
stmts_of [] = stop
stmts_of (s ∷ ss) = then (stmt_of s) (stmts_of ss)

abbrev pub cases_of : List code_case.Case → Cases
cases_of [] = no_case
cases_of (c ∷ cs) = case_on c (cases_of cs)

abbrev pub parameter_of : code_parameter.Parameter → Parameter
parameter_of p = pure.Takes p.variable (ty_of p.value_type)

abbrev pub parameters_of : List code_parameter.Parameter → List Parameter
parameters_of [] = []
parameters_of (p ∷ ps) = parameter_of p ∷ parameters_of ps

abbrev pub function_of : code_function.Function → Function
function_of f =
    pure.FunctionIs f.name.items (parameters_of f.parameters.items) (optional ty_of f.result) (declared_of f.variables.items) (stmts_of f.body.items) f.closing

abbrev pub functions_of : List code_function.Function → List Function
functions_of [] = []
functions_of (f ∷ fs) = function_of f ∷ functions_of fs

abbrev pub program_of : code_program.Program → Program
program_of p = pure.ProgramIs (functions_of p.functions.items) p.main
