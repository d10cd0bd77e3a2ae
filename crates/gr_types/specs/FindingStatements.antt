-- What the checker finds of a statement, as functions, on which the law `found_programs` rests.
use Rattle.std.specs.Prelude.{ℕ, pos, List, [], ◌∷◌, map, Option, Some, None, codes}
use Rattle.std.proofs.Common.{cond}
use Rattle.gr_tree.specs.declared.expr.Direction.{Direction}
use Rattle.gr_tree.specs.declared.expr.UnaryOp.{UnaryOp}
use Rattle.gr_tree.specs.declared.expr.UnaryOp.TheVariants as unaries
use Rattle.gr_tree.specs.declared.expr.BinaryOp.{BinaryOp}
use Rattle.gr_tree.specs.declared.expr.BinaryOp.TheVariants as binaries
use Rattle.gr_tree.specs.Exprs as tree
use Rattle.gr_tree.specs.Exprs.{WrittenType, Tree, Trees}
use Rattle.gr_tree.specs.Statements as statements
use Rattle.gr_tree.specs.Statements.{Simple, Statement, Statements, Clauses}
use Rattle.gr_program.specs.Types.{Ty, IntType, BoolType, UnitType, ChanType}
use Rattle.gr_typing.specs.Types.{type_written, assignable, may_send, may_receive}
use Rattle.gr_program.specs.Programs.{Number, zero_of, Expr, Literally, Receive, Call, Exprs, none, more, Printed, PrintExpr, PrintText, Act, Assign, AssignReceive, Update, Eval, Close, Print, Send, Go, Return, Break, Continue, Opening, Opens, Stmt, Does, Block, If, For, Range, Select, Stmts, stop, then, joined, Cases, no_case, default_case, send_case, receive_case}
use Rattle.gr_typing.specs.Names.{is_blank}
use Rattle.gr_typing.specs.Scopes.{Scope, variable_named, type_of_variable, is_here, declare, declared, number_of, entered, left, first_where, Signature, function_in}
use Rattle.gr_typing.specs.Values.{Value, binary_type, may_stand_right}
use Rattle.gr_exprs.specs.Finding.{◌>>=◌, where_true, has_text, Typed, typed, given, of_kind, as_channel, if_unknown, call_in, value_in, arguments_in, only_in}
use Rattle.gr_typing.specs.Contexts.{Loop, Choice, Context, Within, functions, inside, is_left, is_continued}
use Rattle.gr_typing.specs.Assignments.{may_define, may_declare, all_declared, zeros}
use Rattle.gr_typing.specs.Statements.{declares, defaults, at_most_one}

-- a number and a type
abbrev pub Known : Type 0
Known = ℕ × Ty

abbrev pub unless_blank : {A : Type 0} → List ℕ → Option A → Option A
unless_blank x o = cond (is_blank x) None o

-- the variable that a name stands for
unfoldable pub variable_in : Scope → List ℕ → Option Known
variable_in s x = unless_blank x (variable_named s x >>= λ k. type_of_variable s k >>= λ t. Some (k, t))

-- a variable, or none for the blank identifier, and what it is given
abbrev pub Given : Type 0
Given = Option ℕ × Expr

abbrev pub to_variable : Value → Known → Option Given
to_variable v k = given k.1 v >>= λ p. Some (Some k.0, p)

abbrev pub to_blank : Value → Option Given
to_blank v = typed v >>= λ w. Some (None, w.1)

unfoldable pub given_to : Scope → List ℕ → Value → Option Given
given_to s x v = cond (is_blank x) (to_blank v) (variable_in s x >>= to_variable v)

abbrev pub with_given : Given → List (Option ℕ) × Exprs → List (Option ℕ) × Exprs
with_given g rest = (g.0 ∷ rest.0, more g.1 rest.1)

unfoldable pub all_given : List Signature → Scope → List (List ℕ) → Trees → Option (List (Option ℕ) × Exprs)
all_given fs s [] tree.none = Some ([], none)
all_given fs s [] (tree.more e es) = None
all_given fs s (x ∷ xs) tree.none = None
all_given fs s (x ∷ xs) (tree.more e es) = value_in fs s e >>= given_to s x >>= λ g. all_given fs s xs es >>= λ rest. Some (with_given g rest)

-- what a name on the left of `:=` is given, and the scope after it
abbrev pub Defined : Type 0
Defined = Given × Scope

abbrev pub newly : List ℕ → Scope → Typed → Option Defined
newly x m w = variable_named (declare m x w.0) x >>= λ k. Some ((Some k, w.1), declare m x w.0)

abbrev pub in_scope : {A : Type 0} → Scope → A → Option (A × Scope)
in_scope m a = Some (a, m)

unfoldable pub defined_by : Scope → List ℕ → Value → Scope → Option Defined
defined_by s x v m = cond (is_blank x) (to_blank v >>= in_scope m)
    (cond (is_here s x) (variable_in s x >>= to_variable v >>= in_scope m) (typed v >>= newly x m))

abbrev pub with_defined : Given → (List (Option ℕ) × Exprs) × Scope → (List (Option ℕ) × Exprs) × Scope
with_defined g rest = (with_given g rest.0, rest.1)

unfoldable pub all_defined : List Signature → Scope → List (List ℕ) → Trees → Scope → Option ((List (Option ℕ) × Exprs) × Scope)
all_defined fs s [] tree.none m = Some (([], none), m)
all_defined fs s [] (tree.more e es) m = None
all_defined fs s (x ∷ xs) tree.none m = None
all_defined fs s (x ∷ xs) (tree.more e es) m =
    value_in fs s e >>= λ v. defined_by s x v m >>= λ d. all_defined fs s xs es d.1 >>= λ rest. Some (with_defined d.0 rest)

-- the type and the term of a value for a `var`
unfoldable pub declared_as : Option Ty → Value → Option Typed
declared_as (Some t) v = given t v >>= λ p. Some (t, p)
declared_as None v = typed v

unfoldable pub all_declared_as : List Signature → Scope → Option Ty → List (List ℕ) → Trees → Scope → Option ((List (Option ℕ) × Exprs) × Scope)
all_declared_as fs s t [] tree.none m = Some (([], none), m)
all_declared_as fs s t [] (tree.more e es) m = None
all_declared_as fs s t (x ∷ xs) tree.none m = None
all_declared_as fs s t (x ∷ xs) (tree.more e es) m =
    value_in fs s e >>= declared_as t >>= λ w. all_declared_as fs s t xs es (declared m x w.0) >>= λ rest. Some (with_defined (number_of (declared m x w.0) x, w.1) rest)

-- a channel that values are received from: the type of its elements, and the term
abbrev pub receives : Direction × (Ty × Expr) → Option Typed
receives c = where_true (may_receive c.0) c.1

abbrev pub receive_by : UnaryOp → Option Value → Option Typed
receive_by unaries.Receive v = v >>= as_channel >>= receives
receive_by unaries.Plus v = None
receive_by unaries.Negate v = None
receive_by unaries.Not v = None
receive_by unaries.Complement v = None

unfoldable pub receive_in : List Signature → Scope → Tree → Option Typed
receive_in fs s (tree.Unary op e) = receive_by op (value_in fs s e)
receive_in fs s (tree.Paren e) = receive_in fs s e
receive_in fs s (tree.Number n) = None
receive_in fs s (tree.Text bytes) = None
receive_in fs s (tree.Name x) = None
receive_in fs s tree.UnitValue = None
receive_in fs s (tree.Call x es) = None
receive_in fs s (tree.Make w) = None
receive_in fs s (tree.MakeSized w e) = None
receive_in fs s (tree.Binary op a b) = None

-- a name that takes a value of a type
abbrev pub taken_by : Ty → Known → Option (Option ℕ)
taken_by t k = where_true (assignable t k.1) (Some k.0)

unfoldable pub takes : Scope → List ℕ → Ty → Option (Option ℕ)
takes s x t = cond (is_blank x) (Some None) (variable_in s x >>= taken_by t)

abbrev pub newly_taken : List ℕ → Ty → Scope → Option (Option ℕ × Scope)
newly_taken x t m = variable_named (declare m x t) x >>= λ k. Some (Some k, declare m x t)

unfoldable pub takes_new : Scope → List ℕ → Ty → Scope → Option (Option ℕ × Scope)
takes_new s x t m = cond (is_blank x) (Some (None, m)) (cond (is_here s x) (variable_in s x >>= taken_by t >>= in_scope m) (newly_taken x t m))

-- what `println` prints
abbrev pub as_text : Tree → Option (List ℕ)
as_text (tree.Text bytes) = Some bytes
as_text _ = None

abbrev pub printable : Typed → Option Printed
printable (IntType, p) = Some (PrintExpr p)
printable (BoolType, p) = Some (PrintExpr p)
printable (UnitType, p) = None
printable (ChanType d t, p) = None

abbrev pub printed_by : Option (List ℕ) → Option Value → Option Printed
printed_by (Some bytes) v = Some (PrintText bytes)
printed_by None v = v >>= typed >>= printable

unfoldable pub printed_in : List Signature → Scope → Trees → Option (List Printed)
printed_in fs s tree.none = Some []
printed_in fs s (tree.more e es) = printed_by (as_text e) (value_in fs s e) >>= λ p. printed_in fs s es >>= λ ps. Some (p ∷ ps)

-- an expression as a statement
abbrev pub closes : Direction × (Ty × Expr) → Option Act
closes c = where_true (may_send c.0) (Close c.1.1)

abbrev pub run_built_in : List Signature → Scope → List ℕ → Trees → Option Act
run_built_in fs s x es =
    cond (has_text x (codes "close")) (only_in fs s es >>= as_channel >>= closes)
    (cond (has_text x (codes "println")) (printed_in fs s es >>= λ ps. Some (Print ps)) None)

abbrev pub run_by : List Signature → Scope → List ℕ → Trees → Option ℕ → Option Act
run_by fs s x es (Some k) = call_in fs s x (arguments_in fs s es) >>= λ c. Some (Eval c.1)
run_by fs s x es None = if_unknown (variable_named s x) (run_built_in fs s x es)

unfoldable pub run_call : List Signature → Scope → List ℕ → Trees → Option Act
run_call fs s x es = run_by fs s x es (function_in fs x)

abbrev pub evaluated : Typed → Option Act
evaluated w = Some (Eval (Receive w.1 (zero_of w.0)))

unfoldable pub runs_in : List Signature → Scope → Tree → Option Act
runs_in fs s (tree.Paren e) = runs_in fs s e
runs_in fs s (tree.Unary op e) = receive_in fs s (tree.Unary op e) >>= evaluated
runs_in fs s (tree.Call x es) = run_call fs s x es
runs_in fs s (tree.Number n) = None
runs_in fs s (tree.Text bytes) = None
runs_in fs s (tree.Name x) = None
runs_in fs s tree.UnitValue = None
runs_in fs s (tree.Make w) = None
runs_in fs s (tree.MakeSized w e) = None
runs_in fs s (tree.Binary op a b) = None

abbrev pub sent_on : Option Value → Direction × (Ty × Expr) → Option (Expr × Expr)
sent_on v c = where_true (may_send c.0) c.1 >>= λ w. v >>= given w.0 >>= λ q. Some (w.1, q)

-- a send: the channel and the value
unfoldable pub send_in : List Signature → Scope → Tree → Tree → Option (Expr × Expr)
send_in fs s c e = value_in fs s c >>= as_channel >>= sent_on (value_in fs s e)

-- what an action does, and the scope after it
abbrev pub Done : Type 0
Done = Act × Scope

-- two names and one expression
abbrev pub pair_of : List (List ℕ) → Trees → Option (List ℕ × (List ℕ × Tree))
pair_of (x ∷ (y ∷ [])) (tree.more e tree.none) = Some (x, (y, e))
pair_of _ _ = None

abbrev pub assigned : List (Option ℕ) × Exprs → Act
assigned g = Assign g.0 g.1

abbrev pub assign_both : Scope → List ℕ × (List ℕ × Tree) → Typed → Option Done
assign_both s pair w = takes s pair.0 w.0 >>= λ k. takes s pair.1.0 BoolType >>= λ l. Some (AssignReceive k l w.1 (zero_of w.0), s)

abbrev pub assign_by : List Signature → Scope → List (List ℕ) → Trees → Option (List ℕ × (List ℕ × Tree)) → Option Done
assign_by fs s xs es (Some pair) = receive_in fs s pair.1.1 >>= assign_both s pair
assign_by fs s xs es None = all_given fs s xs es >>= λ g. Some (assigned g, s)

abbrev pub define_both : Scope → List ℕ × (List ℕ × Tree) → Typed → Option Done
define_both s pair w = takes_new s pair.0 w.0 s >>= λ k. takes_new s pair.1.0 BoolType k.1 >>= λ l. Some (AssignReceive k.0 l.0 w.1 (zero_of w.0), l.1)

abbrev pub define_by : List Signature → Scope → List (List ℕ) → Trees → Option (List ℕ × (List ℕ × Tree)) → Option Done
define_by fs s xs es (Some pair) = receive_in fs s pair.1.1 >>= define_both s pair
define_by fs s xs es None = all_defined fs s xs es s >>= λ g. Some (assigned g.0, g.1)

abbrev pub if_int : Ty → ℕ → Option ℕ
if_int IntType k = Some k
if_int BoolType k = None
if_int UnitType k = None
if_int (ChanType d t) k = None

-- a variable that is a whole number
unfoldable pub number_variable : Scope → List ℕ → Option ℕ
number_variable s x = variable_in s x >>= λ k. if_int k.1 k.0

-- a variable's value and another, joined by an operator that gives values of this type
abbrev pub updated_by : Option Ty → BinaryOp → ℕ → Value → Option Act
updated_by (Some IntType) op k v = where_true (may_stand_right op v) v >>= of_kind IntType >>= λ p. Some (Update k op p)
updated_by _ op k v = None

abbrev pub updated : BinaryOp → ℕ → Value → Option Act
updated op k v = updated_by (binary_type op IntType IntType) op k v

abbrev pub by_one : BinaryOp → ℕ → Act
by_one op k = Update k op (Literally (Number (pos 1)))

unfoldable pub simple_in : List Signature → Scope → Simple → Option Done
simple_in fs s (statements.Eval e) = runs_in fs s e >>= in_scope s
simple_in fs s (statements.Send c e) = send_in fs s c e >>= λ p. in_scope s (Send p.0 p.1)
simple_in fs s (statements.Assign xs es) = assign_by fs s xs es (pair_of xs es)
simple_in fs s (statements.Define xs es) = where_true (may_define s xs) xs >>= λ xs. define_by fs s xs es (pair_of xs es)
simple_in fs s (statements.Update x op e) = number_variable s x >>= λ k. value_in fs s e >>= updated op k >>= in_scope s
simple_in fs s (statements.Increment x) = number_variable s x >>= λ k. in_scope s (by_one binaries.Add k)
simple_in fs s (statements.Decrement x) = number_variable s x >>= λ k. in_scope s (by_one binaries.Subtract k)

unfoldable pub returned_in : List Signature → Scope → Option Ty → Option Tree → Option (Option Expr)
returned_in fs s None None = Some None
returned_in fs s None (Some e) = None
returned_in fs s (Some t) None = None
returned_in fs s (Some t) (Some e) = value_in fs s e >>= given t >>= λ p. Some (Some p)

-- the type of a `var`, if one is written
abbrev pub written_of : Option WrittenType → Option (Option Ty)
written_of None = Some None
written_of (Some w) = type_written w >>= λ t. Some (Some t)

abbrev pub var_pair : Scope → List ℕ × (List ℕ × Tree) → Option Ty → Typed → Option Done
var_pair s pair None w =
    let n = declared (declared s pair.0 w.0) pair.1.0 BoolType in
    Some (AssignReceive (number_of n pair.0) (number_of n pair.1.0) w.1 (zero_of w.0), n)
var_pair s pair (Some u) w =
    let n = all_declared s (pair.0 ∷ (pair.1.0 ∷ [])) u in
    where_true (assignable w.0 u) n >>= λ n. where_true (assignable BoolType u) n >>= λ n. Some (AssignReceive (number_of n pair.0) (number_of n pair.1.0) w.1 (zero_of w.0), n)

abbrev pub var_by : List Signature → Scope → List (List ℕ) → Option Ty → Trees → Option (List ℕ × (List ℕ × Tree)) → Option Done
var_by fs s xs t es (Some pair) = receive_in fs s pair.1.1 >>= var_pair s pair t
var_by fs s xs t es None = all_declared_as fs s t xs es s >>= λ g. Some (assigned g.0, g.1)

abbrev pub go_with : Option Ty × Expr → Option Act
go_with (r, Call k ps) = Some (Go k ps)
go_with _ = None

abbrev pub var_zero : Scope → List (List ℕ) → Ty → Option Done
var_zero s xs t = Some (Assign (map (number_of (all_declared s xs t)) xs) (zeros xs t), all_declared s xs t)

unfoldable pub act_in : Context → Scope → statements.Act → Option Done
act_in (Within fs result around) s (statements.Plain a) = simple_in fs s a
act_in (Within fs result around) s (statements.Var xs w) = where_true (may_declare s xs) xs >>= λ xs. type_written w >>= var_zero s xs
act_in (Within fs result around) s (statements.VarValues xs w es) = where_true (may_declare s xs) xs >>= λ xs. written_of w >>= λ t. var_by fs s xs t es (pair_of xs es)
act_in (Within fs result around) s (statements.Go x es) = call_in fs s x (arguments_in fs s es) >>= go_with >>= in_scope s
act_in (Within fs result around) s (statements.Return e) = returned_in fs s result e >>= λ p. in_scope s (Return p)
act_in (Within fs result around) s (statements.Break x) = first_where (is_left x) around >>= λ k. in_scope s (Break k)
act_in (Within fs result around) s (statements.Continue x) = first_where (is_continued x) around >>= λ k. in_scope s (Continue k)

unfoldable pub opening_in : List Signature → Scope → Option statements.Heading → Option (Option Opening × Scope)
opening_in fs s None = Some (None, s)
opening_in fs s (Some (statements.Heads place a)) = simple_in fs s a >>= λ d. Some (Some (Opens place d.0), d.1)

-- the post statement of a for, which may not be a definition
unfoldable pub post_in : List Signature → Scope → Option statements.Heading → Option (Option Opening × Scope)
post_in fs s post = cond (declares post) None (opening_in fs s post)

unfoldable pub condition_in : List Signature → Scope → Tree → Option Expr
condition_in fs s e = value_in fs s e >>= of_kind BoolType

unfoldable pub loop_condition_in : List Signature → Scope → Option Tree → Option (Option Expr)
loop_condition_in fs s None = Some None
loop_condition_in fs s (Some e) = condition_in fs s e >>= λ p. Some (Some p)

unfoldable pub target_in : Scope → Ty → statements.Target → Option (Option ℕ × Scope)
target_in s t statements.Nothing = Some (None, s)
target_in s t (statements.Old x) = takes s x t >>= in_scope s
target_in s t (statements.New x) = where_true (may_define s (x ∷ [])) x >>= λ x. takes_new s x t s

unfoldable pub all_take : Scope → List (List ℕ) → List Ty → Option (List (Option ℕ))
all_take s [] ts = Some []
all_take s (x ∷ xs) [] = None
all_take s (x ∷ xs) (t ∷ ts) = takes s x t >>= λ k. all_take s xs ts >>= λ ks. Some (k ∷ ks)

unfoldable pub all_take_new : Scope → List (List ℕ) → List Ty → Scope → Option (List (Option ℕ) × Scope)
all_take_new s [] ts m = Some ([], m)
all_take_new s (x ∷ xs) [] m = None
all_take_new s (x ∷ xs) (t ∷ ts) m = takes_new s x t m >>= λ k. all_take_new s xs ts k.1 >>= λ ks. Some (k.0 ∷ ks.0, ks.1)

-- a statement, and the scope after it
abbrev pub Checked : Type 0
Checked = Stmts × Scope

abbrev pub alone : Stmt → Scope → Option Checked
alone step n = Some ((then) step stop, n)

unfoldable pub if_head_in : List Signature → Scope → statements.IfHead → Option ((Option Opening × Expr) × Scope)
if_head_in fs s (statements.Test init condition) = opening_in fs s init >>= λ i. condition_in fs i.1 condition >>= λ p. Some ((i.0, p), i.1)

-- the three parts of a for: its init, its condition and its post statement, and the scope after them
abbrev pub Parts : Type 0
Parts = (Option Opening × (Option Expr × Option Opening)) × Scope

unfoldable pub for_parts : List Signature → Scope → Option statements.Heading → Option Tree → Option statements.Heading → Option Parts
for_parts fs s init condition post = opening_in fs s init >>= λ i. loop_condition_in fs i.1 condition >>= λ p. post_in fs i.1 post >>= λ o. Some ((i.0, (p, o.0)), o.1)

-- a range: its channel, the variable, and the scope after it
unfoldable pub range_parts : List Signature → Scope → statements.Target → Tree → Option ((Expr × Option ℕ) × Scope)
range_parts fs s target e = value_in fs s e >>= as_channel >>= receives >>= λ w. target_in (entered s) w.0 target >>= λ k. Some ((w.1, k.0), k.1)

-- what a clause waits for, as a case without its body, and the scope of that body
abbrev pub Opened : Type 0
Opened = (Stmts → Cases → Cases) × Scope

abbrev pub received_case : List (Option ℕ) → Typed → Scope → Opened
received_case ks w m = (receive_case ks w.1 (zero_of w.0), m)

unfoldable pub comm_in : List Signature → Scope → statements.Comm → Option Opened
comm_in fs s (statements.SendTo c e) = send_in fs s c e >>= λ p. Some (send_case p.0 p.1, s)
comm_in fs s (statements.Receive e) = receive_in fs s e >>= λ w. Some (received_case [] w s)
comm_in fs s (statements.AssignTo xs e) = receive_in fs s e >>= λ w. all_take s xs (w.0 ∷ (BoolType ∷ [])) >>= λ ks. Some (received_case ks w s)
comm_in fs s (statements.DefineAs xs e) = receive_in fs s e >>= λ w. where_true (may_define s xs) xs >>= λ xs. all_take_new s xs (w.0 ∷ (BoolType ∷ [])) s >>= λ ks. Some (received_case ks.0 w ks.1)

unfoldable mutual
  pub statement_in : Context → Scope → Option (List ℕ) → Statement → Option Checked
  statement_in c s label (statements.Does place a) = act_in c s a >>= λ d. alone (Does place d.0) d.1
  statement_in c s label (statements.Block place body) = body_in c (entered s) body >>= λ b. alone (Block b.0) (left b.1)
  statement_in c s label (statements.If place head body) =
      if_head_in (functions c) (entered s) head >>= λ h. body_in c (entered h.1) body >>= λ b. alone (If place h.0.0 h.0.1 b.0 stop) (left (left b.1))
  statement_in c s label (statements.IfElse place head body otherwise) =
      if_head_in (functions c) (entered s) head >>= λ h. body_in c (entered h.1) body >>= λ b. body_in c (entered (left b.1)) otherwise >>= λ o. alone (If place h.0.0 h.0.1 b.0 o.0) (left (left o.1))
  statement_in c s label (statements.IfElseIf place head body otherwise) =
      if_head_in (functions c) (entered s) head >>= λ h. body_in c (entered h.1) body >>= λ b. statement_in c (left b.1) None otherwise >>= λ o. alone (If place h.0.0 h.0.1 b.0 o.0) (left o.1)
  statement_in c s label (statements.For place (statements.Loop init condition post) body) =
      for_parts (functions c) (entered s) init condition post >>= λ h. body_in (inside (Loop label) c) (entered h.1) body >>= λ b. alone (For place h.0.0 h.0.1.0 h.0.1.1 b.0) (left (left b.1))
  statement_in c s label (statements.For place (statements.Range target e) body) =
      range_parts (functions c) s target e >>= λ h. body_in (inside (Loop label) c) (entered h.1) body >>= λ b. alone (Range place h.0.1 h.0.0 b.0) (left (left b.1))
  statement_in c s label (statements.Select place clauses) =
      where_true (at_most_one (defaults clauses)) s >>= λ s. clauses_in (inside (Choice label) c) s clauses >>= λ k. alone (Select place k.0) k.1
  statement_in c s label (statements.Label place x statement) = statement_in c s (Some x) statement
  statement_in c s label (statements.EmptyLabel place x) = Some (stop, s)

  pub body_in : Context → Scope → Statements → Option Checked
  body_in c s statements.end = Some (stop, s)
  body_in c s ((statements.then) first others) = statement_in c s None first >>= λ a. body_in c a.1 others >>= λ b. Some (joined a.0 b.0, b.1)

  pub clauses_in : Context → Scope → Clauses → Option (Cases × Scope)
  clauses_in c s statements.closed = Some (no_case, s)
  clauses_in c s (statements.default body others) = body_in c (entered s) body >>= λ b. clauses_in c (left b.1) others >>= λ k. Some (default_case b.0 k.0, k.1)
  clauses_in c s (statements.case communication body others) =
      comm_in (functions c) (entered s) communication >>= λ h. body_in c h.1 body >>= λ b. clauses_in c (left b.1) others >>= λ k. Some (h.0 b.0 k.0, k.1)
