-- Lists that are the same.
use Rattle.std.proofs.Common.{◌≡◌, ℕ, Bool, true, false, List, [], ◌∷◌, length, get_or, drop, ◌<◌, ◌+◌, refl, ap, sym, ◌∙◌, arith, add-one, drop-cons}
use Rattle.std.specs.Prelude.{◌&&◌, ◌||◌, not}
use Rattle.std.specs.Cmp.Lexicographic.{pointwise}
use Rattle.std.proofs.Math.Bool.{and-false}
use Rattle.gr_program.specs.declared.program.Expr as code_expr
use Rattle.gr_program.specs.declared.program.Printed as code_printed
use Rattle.gr_program.specs.declared.program.Stmt as rows
use Rattle.gr_program.specs.declared.program.Case as code_case
use Rattle.gr_program.specs.declared.program.Case.TheVariants as cases
use Rattle.gr_program.specs.Programs.{Cases, no_case}
use Rattle.gr_program.specs.declared.program.Parameter.{Parameter}
use Rattle.gr_program.specs.declared.program.Variable.{Variable}
use Rattle.gr_program.specs.declared.program.Function.{Function}
use Rattle.gr_program.specs.TypeViews.{variable_of, declared_of}
use Rattle.gr_program.specs.Views.{parameter_of, parameters_of, function_of, functions_of, expr_of, exprs_of, printed_of, prints_of, stmt_of, stmts_of, case_on, cases_of}
use Rattle.gr_program.specs.Sameness.{same_expr, same_exprs, same_printed, same_stmt, same_stmts, same_cases, same_first, same_parameter, same_declared, same_function}

and_nothing : (a b : Bool) → false ≡ b → false ≡ (a && b)
and_nothing a b e = sym (ap (λ b. a && b) (sym e) ∙ and-false a)

pub either_kind : (kind same : Bool) → ((kind && same) || (not kind && same)) ≡ same
either_kind true true = refl
either_kind true false = refl
either_kind false same = refl

pub other_exprs : (ts us : List code_expr.Expr) → (length ts ≡ length us → ⊥) → false ≡ same_exprs (exprs_of ts) (exprs_of us)
other_exprs [] [] other = absurd (other refl)
other_exprs [] (u ∷ us) other = refl
other_exprs (t ∷ ts) [] other = refl
other_exprs (t ∷ ts) (u ∷ us) other = and_nothing (same_expr (expr_of t) (expr_of u)) (same_exprs (exprs_of ts) (exprs_of us)) (other_exprs ts us (λ e. other (omega (arith, e))))

pub other_prints : (vs ws : List code_printed.Printed) → (length vs ≡ length ws → ⊥) → false ≡ pointwise same_printed (prints_of vs) (prints_of ws)
other_prints [] [] other = absurd (other refl)
other_prints [] (w ∷ ws) other = refl
other_prints (v ∷ vs) [] other = refl
other_prints (v ∷ vs) (w ∷ ws) other = and_nothing (same_printed (printed_of v) (printed_of w)) (pointwise same_printed (prints_of vs) (prints_of ws)) (other_prints vs ws (λ e. other (omega (arith, e))))

pub other_stmts : (ss ts : List rows.Stmt) → (length ss ≡ length ts → ⊥) → false ≡ same_stmts (stmts_of ss) (stmts_of ts)
other_stmts [] [] other = absurd (other refl)
other_stmts [] (t ∷ ts) other = refl
other_stmts (s ∷ ss) [] other = refl
other_stmts (s ∷ ss) (t ∷ ts) other = and_nothing (same_stmt (stmt_of s) (stmt_of t)) (same_stmts (stmts_of ss) (stmts_of ts)) (other_stmts ss ts (λ e. other (omega (arith, e))))

-- clauses go by the first ones
pub first_then : (k l : code_case.Case) (ks ls : Cases) → same_cases (case_on k ks) (case_on l ls) ≡ (same_first (case_on k no_case) (case_on l no_case) && same_cases ks ls)
first_then (cases.Default' m b) (cases.Default' n c) ks ls = refl
first_then (cases.Default' m b) (cases.Send' d w n c) ks ls = refl
first_then (cases.Default' m b) (cases.Receive' ys d w n c) ks ls = refl
first_then (cases.Send' t v m b) (cases.Default' n c) ks ls = refl
first_then (cases.Send' t v m b) (cases.Send' d w n c) ks ls = refl
first_then (cases.Send' t v m b) (cases.Receive' ys d w n c) ks ls = refl
first_then (cases.Receive' xs t v m b) (cases.Default' n c) ks ls = refl
first_then (cases.Receive' xs t v m b) (cases.Send' d w n c) ks ls = refl
first_then (cases.Receive' xs t v m b) (cases.Receive' ys d w n c) ks ls = refl

no_first : (k : code_case.Case) (ks : Cases) → (false ≡ same_cases no_case (case_on k ks)) × (false ≡ same_cases (case_on k ks) no_case)
no_first (cases.Default' m b) ks = (refl, refl)
no_first (cases.Send' t v m b) ks = (refl, refl)
no_first (cases.Receive' xs t v m b) ks = (refl, refl)

pub other_cases : (ks ls : List code_case.Case) → (length ks ≡ length ls → ⊥) → false ≡ same_cases (cases_of ks) (cases_of ls)
other_cases [] [] other = absurd (other refl)
other_cases [] (l ∷ ls) other = (no_first l (cases_of ls)).0
other_cases (k ∷ ks) [] other = (no_first k (cases_of ks)).1
other_cases (k ∷ ks) (l ∷ ls) other =
    and_nothing (same_first (case_on k no_case) (case_on l no_case)) (same_cases (cases_of ks) (cases_of ls)) (other_cases ks ls (λ e. other (omega (arith, e)))) ∙ sym (first_then k l (cases_of ks) (cases_of ls))

front_cases : (ks : List code_case.Case) (n : ℕ) (k : code_case.Case) → n < length ks → k ≡ get_or ks n k → cases_of (drop n ks) ≡ case_on k (cases_of (drop (n + 1) ks))
front_cases ks n k lt is =
    let f : drop n ks ≡ get_or ks n k ∷ drop (n + 1) ks = rw (add-one, drop-cons ks n k) in
    ap cases_of f ∙ ap (λ k. case_on k (cases_of (drop (n + 1) ks))) (sym is)

pub cases_turn : (ks ls : List code_case.Case) (n : ℕ) (k l : code_case.Case) (b : Bool) → n < length ks → length ks ≡ length ls → k ≡ get_or ks n k → l ≡ get_or ls n l → b ≡ same_first (case_on k no_case) (case_on l no_case)
    → same_cases (cases_of (drop n ks)) (cases_of (drop n ls)) ≡ (b && same_cases (cases_of (drop (n + 1) ks)) (cases_of (drop (n + 1) ls)))
cases_turn ks ls n k l b lt long is also e =
    let shorter : n < length ls = omega (arith, lt, long) in
    ap (λ x. same_cases x (cases_of (drop n ls))) (front_cases ks n k lt is) ∙ ap (λ x. same_cases (case_on k (cases_of (drop (n + 1) ks))) x) (front_cases ls n l shorter also)
    ∙ first_then k l (cases_of (drop (n + 1) ks)) (cases_of (drop (n + 1) ls)) ∙ ap (λ b. b && same_cases (cases_of (drop (n + 1) ks)) (cases_of (drop (n + 1) ls))) (sym e)

pub other_parameters : (xs bs : List Parameter) → (length xs ≡ length bs → ⊥) → false ≡ pointwise same_parameter (parameters_of xs) (parameters_of bs)
other_parameters [] [] other = absurd (other refl)
other_parameters [] (b ∷ bs) other = refl
other_parameters (a ∷ xs) [] other = refl
other_parameters (a ∷ xs) (b ∷ bs) other = and_nothing (same_parameter (parameter_of a) (parameter_of b)) (pointwise same_parameter (parameters_of xs) (parameters_of bs)) (other_parameters xs bs (λ e. other (omega (arith, e))))

pub other_variables : (xs bs : List Variable) → (length xs ≡ length bs → ⊥) → false ≡ pointwise same_declared (declared_of xs) (declared_of bs)
other_variables [] [] other = absurd (other refl)
other_variables [] (b ∷ bs) other = refl
other_variables (a ∷ xs) [] other = refl
other_variables (a ∷ xs) (b ∷ bs) other = and_nothing (same_declared (variable_of a) (variable_of b)) (pointwise same_declared (declared_of xs) (declared_of bs)) (other_variables xs bs (λ e. other (omega (arith, e))))

pub other_functions : (xs bs : List Function) → (length xs ≡ length bs → ⊥) → false ≡ pointwise same_function (functions_of xs) (functions_of bs)
other_functions [] [] other = absurd (other refl)
other_functions [] (b ∷ bs) other = refl
other_functions (a ∷ xs) [] other = refl
other_functions (a ∷ xs) (b ∷ bs) other = and_nothing (same_function (function_of a) (function_of b)) (pointwise same_function (functions_of xs) (functions_of bs)) (other_functions xs bs (λ e. other (omega (arith, e))))
