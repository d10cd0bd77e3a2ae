-- Bodies and clauses, one statement and one clause at a time.
use Rattle.std.proofs.Common.{◌≡◌, ℕ, suc, ◌+◌, ◌<◌, ◌≤◌, Bool, true, false, List, [], ◌∷◌, ◌++◌, length, get_or, drop, refl, ap, sym, ◌∙◌, Global}
use Rattle.std.specs.Prelude.{Option, Some, None, Vec, Box}
use Rattle.std.proofs.lemmas.List.{drop_all}
use Rattle.gr_tree.specs.declared.stmt.Stmt.{Stmt}
use Rattle.gr_tree.specs.declared.stmt.Clause.{Clause}
use Rattle.gr_tree.specs.declared.stmt.Clause.TheVariants as clauses
use Rattle.gr_tree.specs.declared.stmt.Stmt.TheVariants as stmts
use Rattle.gr_tree.specs.declared.stmt.IfHead.{IfHead}
use Rattle.gr_tree.specs.declared.stmt.ForHead.{ForHead}
use Rattle.gr_tree.specs.declared.stmt.Communication.{Communication}
use Rattle.gr_scan.specs.declared.token.Place.{Place}
use Rattle.gr_tree.specs.Statements as statements
use Rattle.gr_tree.specs.Statements.{Statement, Statements, Clauses, comm_of, for_of, if_of, row_statements, statement_of, statements_of}
use Rattle.gr_program.specs.declared.program.Stmt as checked_stmt
use Rattle.gr_program.specs.declared.program.Case as code_case
use Rattle.gr_types.specs.declared.refusal.CheckError.{CheckError}
use Rattle.gr_types.specs.declared.refusal.CheckError.TheVariants as errors
use Rattle.gr_program.specs.Programs as pure
use Rattle.gr_program.specs.Programs.{Expr, Opening, Stmts, stop, then, joined, Cases, no_case}
use Rattle.gr_program.specs.Views.{stmt_of, stmts_of, case_on, cases_of}
use Rattle.gr_typing.specs.Scopes.{Scope, entered, left}
use Rattle.gr_types.specs.StatementViews.{clauses_of}
use Rattle.gr_typing.specs.Contexts.{Choice, Context, Within, functions, inside}
use Rattle.gr_typing.specs.Statements.{defaults, at_most_one}
use Rattle.gr_types.specs.Checking.{Denies}
use Rattle.gr_exprs.specs.Finding.{◌>>=◌, where_true}
use Rattle.gr_types.specs.FindingStatements.{Checked, alone, Opened, comm_in, if_head_in, statement_in, body_in, clauses_in}
use Rattle.gr_types.specs.StatementParts.{only_stmt, block_in, Tested, tested_in, if_in, else_in, else_if_in, for_in, select_in, Cased, default_in, case_in, clause_in, case_before, stmts_before, with_cases, cases_before}
use Rattle.gr_exprs.proofs.Basics.{bound_twice}
use Rattle.gr_types.proofs.TreeRows.{drop_first, drop_clause, held, block_is, if_is, else_is, else_if_is, for_is, select_is}

-- a body
stmts_push : (ss : List checked_stmt.Stmt) (s : checked_stmt.Stmt) (rest : Stmts) → joined (stmts_of (ss ++ (s ∷ []))) rest ≡ joined (stmts_of ss) (then (stmt_of s) rest)
stmts_push [] s rest = refl
stmts_push (t ∷ ss) s rest = ap ((then) (stmt_of t)) (stmts_push ss s rest)

after_step : (o : Option Checked) (ts : List checked_stmt.Stmt) (t : checked_stmt.Stmt) → stmts_before (ts ++ (t ∷ [])) o ≡ stmts_before ts (o >>= λ b. Some (joined (only_stmt t) b.0, b.1))
after_step (Some b) ts t = ap (λ ss. Some (ss, b.1)) (stmts_push ts t b.0)
after_step None ts t = refl

after_none : (o : Option Checked) (ts : List checked_stmt.Stmt) → stmts_before ts o ≡ stmts_before ts (o >>= λ b. Some (joined stop b.0, b.1))
after_none (Some b) ts = refl
after_none None ts = refl

joined_stop : (ts : List checked_stmt.Stmt) → joined (stmts_of ts) stop ≡ stmts_of ts
joined_stop [] = refl
joined_stop (t ∷ ts) = ap ((then) (stmt_of t)) (joined_stop ts)

nothing_before : (o : Option Checked) → stmts_before [] o ≡ o
nothing_before (Some b) = refl
nothing_before None = refl

pub no_steps : (ts : List checked_stmt.Stmt) (o : Option Checked) → ts ≡ [] → stmts_before ts o ≡ o
no_steps ts o e = ap (λ ts. stmts_before ts o) e ∙ nothing_before o

first_in : (c : Context) (s : Scope) (x : Statement) (others : Statements) → body_in c s ((statements.then) x others) ≡ (statement_in c s None x >>= λ a. body_in c a.1 others >>= λ b. Some (joined a.0 b.0, b.1))
unfolding body_in
first_in c s x others = refl

end_in : (c : Context) (s : Scope) → body_in c s statements.end ≡ Some (stop, s)
unfolding body_in
end_in c s = refl

module _ (c : Context) (body : List Stmt) (i : ℕ) (x : Stmt) (ts : List checked_stmt.Stmt) (s : Scope) (whole : Option Checked) (lt : i < length body) (is : x ≡ get_or body i x) (so_far : stmts_before ts (body_in c s (statements_of (drop i body))) ≡ whole) where
  turn : stmts_before ts (statement_in c s None (statement_of x) >>= λ a. body_in c a.1 (statements_of (drop (i + 1) body)) >>= λ b. Some (joined a.0 b.0, b.1)) ≡ whole
  turn =
      let others = statements_of (drop (i + 1) body) in
      sym (ap (λ l. stmts_before ts (body_in c s l)) (drop_first body i x lt ∙ ap (λ y. (statements.then) (statement_of y) others) (sym is)) ∙ ap (stmts_before ts) (first_in c s (statement_of x) others)) ∙ so_far

  turn_by : (o : Option Checked) → statement_in c s None (statement_of x) ≡ o → stmts_before ts (o >>= λ a. body_in c a.1 (statements_of (drop (i + 1) body)) >>= λ b. Some (joined a.0 b.0, b.1)) ≡ whole
  turn_by o e = sym (ap (λ o. stmts_before ts (o >>= λ a. body_in c a.1 (statements_of (drop (i + 1) body)) >>= λ b. Some (joined a.0 b.0, b.1))) e) ∙ turn

  pub step_on : (t : checked_stmt.Stmt) (new : List checked_stmt.Stmt) (u : Scope) → statement_in c s None (statement_of x) ≡ Some (only_stmt t, u) → new ≡ ts ++ (t ∷ []) → stmts_before new (body_in c u (statements_of (drop (i + 1) body))) ≡ whole
  step_on t new u did n =
      let rest = body_in c u (statements_of (drop (i + 1) body)) in
      ap (λ l. stmts_before l rest) n ∙ after_step rest ts t ∙ turn_by (Some (only_stmt t, u)) did

  pub none_on : (u : Scope) → statement_in c s None (statement_of x) ≡ Some (stop, u) → stmts_before ts (body_in c u (statements_of (drop (i + 1) body))) ≡ whole
  none_on u did = after_none (body_in c u (statements_of (drop (i + 1) body))) ts ∙ turn_by (Some (stop, u)) did

  pub stopped : (e : CheckError) → Denies e (statement_in c s None (statement_of x)) → Denies e whole
  stopped (errors.Refused code at) none = sym (turn_by None none)
  stopped errors.Memory none = tt

pub all_steps : (c : Context) (body : List Stmt) (i : ℕ) (ts : List checked_stmt.Stmt) (s : Scope) (whole : Option Checked) → length body ≤ i → stmts_before ts (body_in c s (statements_of (drop i body))) ≡ whole → whole ≡ Some (stmts_of ts, s)
all_steps c body i ts s whole le so_far =
    sym so_far ∙ ap (λ l. stmts_before ts (body_in c s (statements_of l))) (drop_all i body le) ∙ ap (stmts_before ts) (end_in c s) ∙ ap (λ ss. Some (ss, s)) (joined_stop ts)

-- clauses
cases_push : (ks : List code_case.Case) (k : code_case.Case) (rest : Cases) → with_cases (ks ++ (k ∷ [])) rest ≡ with_cases ks (case_on k rest)
cases_push [] k rest = refl
cases_push (j ∷ ks) k rest = ap (case_on j) (cases_push ks k rest)

after_case : (o : Option (Cases × Scope)) (ks : List code_case.Case) (k : code_case.Case) → cases_before (ks ++ (k ∷ [])) o ≡ cases_before ks (o >>= λ r. Some (case_on k r.0, r.1))
after_case (Some r) ks k = ap (λ cs. Some (cs, r.1)) (cases_push ks k r.0)
after_case None ks k = refl

no_case_before : (o : Option (Cases × Scope)) → cases_before [] o ≡ o
no_case_before (Some r) = refl
no_case_before None = refl

pub no_cases : (ks : List code_case.Case) (o : Option (Cases × Scope)) → ks ≡ [] → cases_before ks o ≡ o
no_cases ks o e = ap (λ ks. cases_before ks o) e ∙ no_case_before o

with_none : (ks : List code_case.Case) → with_cases ks no_case ≡ cases_of ks
with_none [] = refl
with_none (k ∷ ks) = ap (case_on k) (with_none ks)

opened_twice : {A : Type 0} (c : Context) (body : Statements) (o : Option Opened) (g : Cased → Option A) → ((o >>= λ h. body_in c h.1 body >>= λ b. Some (h.0 b.0, left b.1)) >>= g) ≡ (o >>= λ h. body_in c h.1 body >>= λ b. g (h.0 b.0, left b.1))
opened_twice c body (Some h) g = bound_twice (body_in c h.1 body) (λ b. Some (h.0 b.0, left b.1)) g
opened_twice c body None g = refl

first_case : (c : Context) (s : Scope) (k : Clause) (ks : List Clause) → clauses_in c s (clauses_of (k ∷ ks)) ≡ (clause_in c s k >>= case_before c (clauses_of ks))
unfolding clauses_in
first_case c s (clauses.Default' shape body) ks = sym (bound_twice (body_in c (entered s) (row_statements body)) (λ b. Some (pure.default_case b.0, left b.1)) (case_before c (clauses_of ks)))
first_case c s (clauses.Case' communication shape body) ks =
    sym (opened_twice c (row_statements body) (comm_in (functions c) (entered s) (comm_of communication)) (case_before c (clauses_of ks)))

no_clause : (c : Context) (s : Scope) → clauses_in c s statements.closed ≡ Some (no_case, s)
unfolding clauses_in
no_clause c s = refl

module _ (c : Context) (all : List Clause) (i : ℕ) (x : Clause) (ks : List code_case.Case) (s : Scope) (whole : Option (Cases × Scope)) (lt : i < length all) (is : x ≡ get_or all i x) (so_far : cases_before ks (clauses_in c s (clauses_of (drop i all))) ≡ whole) where
  clause_by : (o : Option Cased) → clause_in c s x ≡ o → cases_before ks (o >>= case_before c (clauses_of (drop (i + 1) all))) ≡ whole
  clause_by o e =
      let others = drop (i + 1) all in
      sym (ap (λ l. cases_before ks (clauses_in c s l)) (drop_clause all i x lt ∙ ap (λ y. clauses_of (y ∷ others)) (sym is)) ∙ ap (cases_before ks) (first_case c s x others)
      ∙ ap (λ o. cases_before ks (o >>= case_before c (clauses_of others))) e) ∙ so_far

  pub case_on_next : (k : code_case.Case) (new : List code_case.Case) (u : Scope) → clause_in c s x ≡ Some (case_on k, u) → new ≡ ks ++ (k ∷ []) → cases_before new (clauses_in c u (clauses_of (drop (i + 1) all))) ≡ whole
  case_on_next k new u did n =
      let rest = clauses_in c u (clauses_of (drop (i + 1) all)) in
      ap (λ l. cases_before l rest) n ∙ after_case rest ks k ∙ clause_by (Some (case_on k, u)) did

  pub case_stopped : (e : CheckError) → Denies e (clause_in c s x) → Denies e whole
  case_stopped (errors.Refused code at) none = sym (clause_by None none)
  case_stopped errors.Memory none = tt

pub all_cases : (c : Context) (all : List Clause) (i : ℕ) (ks : List code_case.Case) (s : Scope) (whole : Option (Cases × Scope)) → length all ≤ i → cases_before ks (clauses_in c s (clauses_of (drop i all))) ≡ whole → whole ≡ Some (cases_of ks, s)
all_cases c all i ks s whole le so_far =
    sym so_far ∙ ap (λ l. cases_before ks (clauses_in c s (clauses_of l))) (drop_all i all le) ∙ ap (cases_before ks) (no_clause c s) ∙ ap (λ cs. Some (cs, s)) (with_none ks)

-- a clause, by its block
pub default_as : (c : Context) (s : Scope) (x : Clause) (v : Vec Stmt Global) (l : List Stmt) → x ≡ clauses.Default v → l ≡ v.items → clause_in c s x ≡ default_in c s (statements_of l)
default_as c s x v l is same = ap (clause_in c s) is ∙ ap (default_in c s) (held v) ∙ ap (λ l. default_in c s (statements_of l)) (sym same)

pub case_as : (c : Context) (s : Scope) (x : Clause) (communication : Communication) (v : Vec Stmt Global) (l : List Stmt) → x ≡ clauses.Case communication v → l ≡ v.items → clause_in c s x ≡ case_in c s (comm_of communication) (statements_of l)
case_as c s x communication v l is same =
    ap (clause_in c s) is ∙ ap (case_in c s (comm_of communication)) (held v) ∙ ap (λ l. case_in c s (comm_of communication) (statements_of l)) (sym same)

pub default_done : (c : Context) (s m u n : Scope) (body : Statements) (ss : Stmts) (k : Cases → Cases) → m ≡ entered s → body_in c m body ≡ Some (ss, u) → k ≡ pure.default_case ss → n ≡ left u → default_in c s body ≡ Some (k, n)
default_done c s m u n body ss k inner gives made outer =
    sym (ap (λ m. body_in c m body >>= λ b. Some (pure.default_case b.0, left b.1)) inner) ∙ ap (λ o. o >>= λ b. Some (pure.default_case b.0, left b.1)) gives ∙ ap (λ k. Some (k, left u)) (sym made) ∙ ap (λ n. Some (k, n)) (sym outer)

-- the number of defaults, when there was one before
abbrev pub counted : Bool → ℕ → ℕ
counted true n = suc n
counted false n = n

-- what follows an if's block
tested_twice : {A : Type 0} (c : Context) (body : Statements) (o : Option ((Option Opening × Expr) × Scope)) (g : Tested × Scope → Option A) → ((o >>= λ h. body_in c (entered h.1) body >>= λ b. Some ((h.0, b.0), left b.1)) >>= g) ≡ (o >>= λ h. body_in c (entered h.1) body >>= λ b. g ((h.0, b.0), left b.1))
tested_twice c body (Some h) g = bound_twice (body_in c (entered h.1) body) (λ b. Some ((h.0, b.0), left b.1)) g
tested_twice c body None g = refl

after_test : {A : Type 0} (c : Context) (s : Scope) (head : statements.IfHead) (body : Statements) (g : Tested × Scope → Option A) → (tested_in c s head body >>= g) ≡ (if_head_in (functions c) (entered s) head >>= λ h. body_in c (entered h.1) body >>= λ b. g ((h.0, b.0), left b.1))
after_test c s head body g = tested_twice c body (if_head_in (functions c) (entered s) head) g

for_by : (c : Context) (s : Scope) (label : Option (List ℕ)) (p : Place) (h : statements.ForHead) (body : Statements) → statement_in c s label (statements.For p h body) ≡ for_in c s label p h body
unfolding statement_in
for_by (Within fs result around) s label p (statements.Loop init condition post) body = refl
for_by (Within fs result around) s label p (statements.Range target e) body = refl

-- a statement, by its form
module _ (c : Context) (s : Scope) (label : Option (List ℕ)) (x : Stmt) (p : Place) where
  told : (y : Stmt) (z : Statement) → x ≡ y → statement_of y ≡ z → statement_in c s label (statement_of x) ≡ statement_in c s label z
  told y z is same = ap (λ x. statement_in c s label (statement_of x)) is ∙ ap (statement_in c s label) same

  pub block_as : (v : Vec Stmt Global) (l : List Stmt) → x ≡ stmts.Block p v → l ≡ v.items → statement_in c s label (statement_of x) ≡ block_in c s (statements_of l)
  unfolding statement_in
  block_as v l is same = told (stmts.Block p v) (statements.Block p (statements_of v.items)) is (block_is p v) ∙ ap (λ l. block_in c s (statements_of l)) (sym same)

  pub if_as : (h : IfHead) (v : Vec Stmt Global) (l : List Stmt) → x ≡ stmts.If p h v → l ≡ v.items → statement_in c s label (statement_of x) ≡ if_in c s p (if_of h) (statements_of l)
  unfolding statement_in
  if_as h v l is same =
      told (stmts.If p h v) (statements.If p (if_of h) (statements_of v.items)) is (if_is p h v) ∙ ap (λ l. statement_in c s label (statements.If p (if_of h) (statements_of l))) (sym same)
      ∙ sym (after_test c s (if_of h) (statements_of l) (λ t. alone (pure.If p t.0.0.0 t.0.0.1 t.0.1 stop) (left t.1)))

  pub else_as : (h : IfHead) (v w : Vec Stmt Global) (l m : List Stmt) → x ≡ stmts.IfElse p h v w → l ≡ v.items → m ≡ w.items → statement_in c s label (statement_of x) ≡ (tested_in c s (if_of h) (statements_of l) >>= λ t. else_in c p (statements_of m) t.0 t.1)
  unfolding statement_in
  else_as h v w l m is same other =
      told (stmts.IfElse p h v w) (statements.IfElse p (if_of h) (statements_of v.items) (statements_of w.items)) is (else_is p h v w) ∙ ap (λ l. statement_in c s label (statements.IfElse p (if_of h) (statements_of l) (statements_of w.items))) (sym same)
      ∙ ap (λ m. statement_in c s label (statements.IfElse p (if_of h) (statements_of l) (statements_of m))) (sym other)
      ∙ sym (after_test c s (if_of h) (statements_of l) (λ t. else_in c p (statements_of m) t.0 t.1))

  pub else_if_as : (h : IfHead) (v : Vec Stmt Global) (y : Box Stmt Global) (l : List Stmt) (z : Stmt) → x ≡ stmts.IfElseIf p h v y → l ≡ v.items → z ≡ y.value → statement_in c s label (statement_of x) ≡ (tested_in c s (if_of h) (statements_of l) >>= λ t. else_if_in c p (statement_of z) t.0 t.1)
  unfolding statement_in
  else_if_as h v y l z is same other =
      told (stmts.IfElseIf p h v y) (statements.IfElseIf p (if_of h) (statements_of v.items) (statement_of y.value)) is (else_if_is p h v y) ∙ ap (λ l. statement_in c s label (statements.IfElseIf p (if_of h) (statements_of l) (statement_of y.value))) (sym same)
      ∙ ap (λ z. statement_in c s label (statements.IfElseIf p (if_of h) (statements_of l) (statement_of z))) (sym other)
      ∙ sym (after_test c s (if_of h) (statements_of l) (λ t. else_if_in c p (statement_of z) t.0 t.1))

  pub for_as : (h : ForHead) (v : Vec Stmt Global) (l : List Stmt) → x ≡ stmts.For p h v → l ≡ v.items → statement_in c s label (statement_of x) ≡ for_in c s label p (for_of h) (statements_of l)
  for_as h v l is same =
      told (stmts.For p h v) (statements.For p (for_of h) (statements_of v.items)) is (for_is p h v) ∙ for_by c s label p (for_of h) (statements_of v.items) ∙ ap (λ l. for_in c s label p (for_of h) (statements_of l)) (sym same)

  pub select_as : (v : Vec Clause Global) (l : List Clause) → x ≡ stmts.Select p v → l ≡ v.items → statement_in c s label (statement_of x) ≡ select_in c s label p (clauses_of l)
  unfolding statement_in
  select_as v l is same = told (stmts.Select p v) (statements.Select p (clauses_of v.items)) is (select_is p v) ∙ ap (λ l. select_in c s label p (clauses_of l)) (sym same)

-- refusals of what comes first, and of what comes then
pub denied : {B : Type 0} (e : CheckError) (o q : Option B) → o ≡ q → Denies e q → Denies e o
denied (errors.Refused code at) o q same none = same ∙ none
denied errors.Memory o q same none = tt

pub denied_first : {A B : Type 0} (e : CheckError) (o : Option B) (first : Option A) (f : A → Option B) → o ≡ (first >>= f) → Denies e first → Denies e o
denied_first (errors.Refused code at) o first f same none = same ∙ ap (λ q. q >>= f) none
denied_first errors.Memory o first f same none = tt

pub denied_then : {A B : Type 0} (e : CheckError) (o : Option B) (first : Option A) (f : A → Option B) (a : A) → o ≡ (first >>= f) → first ≡ Some a → Denies e (f a) → Denies e o
denied_then (errors.Refused code at) o first f a same gives none = same ∙ ap (λ q. q >>= f) gives ∙ none
denied_then errors.Memory o first f a same gives none = tt

-- one refusal in place of another
pub instead : {B : Type 0} (e r : CheckError) (o : Option B) → (e ≡ errors.Memory → r ≡ errors.Memory) → Denies e o → Denies r o
instead (errors.Refused code at) (errors.Refused other from) o kept none = none
instead (errors.Refused code at) errors.Memory o kept none = tt
instead errors.Memory r o kept none = rw (kept refl) tt

pub select_refused : (c d : Context) (s : Scope) (label : Option (List ℕ)) (p : Place) (all : Clauses) (e r : CheckError) → at_most_one (defaults all) ≡ true → d ≡ inside (Choice label) c → (e ≡ errors.Memory → r ≡ errors.Memory) → Denies e (clauses_in d s all) → Denies r (select_in c s label p all)
select_refused c d s label p all e r one within kept none =
    let o = select_in c s label p all in
    let same = ap (λ b. where_true b s >>= λ s. clauses_in (inside (Choice label) c) s all >>= λ k. alone (pure.Select p k.0) k.1) one ∙ sym (ap (λ d. clauses_in d s all >>= λ k. alone (pure.Select p k.0) k.1) within) in
    instead e r o kept (denied_first e o (clauses_in d s all) (λ k. alone (pure.Select p k.0) k.1) same none)
