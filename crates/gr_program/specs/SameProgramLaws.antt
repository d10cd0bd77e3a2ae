-- Programs are the same exactly where they are equal.
use Rattle.std.proofs.Common.{◌≡◌, Bool, true, List, refl, ap, sym, ◌∙◌, true≢false, inl, inr}
use Rattle.std.specs.Prelude.{◌&&◌, nat_eq}
use Rattle.std.specs.Bool.{Decides}
use Rattle.std.proofs.lemmas.Bool.{cases_Bool}
use Rattle.std.specs.Option.{option_eq}
use Rattle.std.specs.Cmp.{IsPartialEquivalence}
use Rattle.std.specs.Cmp.Lexicographic.{pointwise, bytes_decides}
use Rattle.gr_program.specs.Types.{same_type}
use Rattle.gr_program.specs.Programs.{Stmt, Does, Block, If, For, Range, Select, Stmts, stop, then, Cases, no_case, default_case, send_case, receive_case, Parameter, Takes, Declared, Named, Function, FunctionIs, Program, ProgramIs}
use Rattle.gr_program.specs.Sameness.{same_place, same_literal, same_expr, same_target, same_targets, same_act, same_opening, same_stmt, same_stmts, same_cases, same_parameter, same_declared, same_function, same_program}
use Rattle.gr_program.specs.SamenessLaws.{both, together, decided, number, number_itself, place, place_itself, option_right, option_itself, list_decided, target, target_itself, targets, type_right, type_itself, literal_right, literal_itself, expr_right, expr_itself, act_right, act_itself, opening_right, opening_itself}

both_three : {P : Type 0} (a b c : Bool) → (a && (b && c)) ≡ true → (a ≡ true → b ≡ true → c ≡ true → P) → P
both_three a b c e k = both a (b && c) e (λ f g. both b c g (k f))

-- statements
mutual
  stmt_right : (s t : Stmt) → same_stmt s t ≡ true → s ≡ t
  stmt_right (Does m a) (Does n b) e = both (same_place m n) (same_act a b) e (λ f g. cc ((place m n).0 f, act_right a b g))
  stmt_right (Block body) (Block other) e = ap Block (stmts_right body other e)
  stmt_right (If m i c body otherwise) (If n j d other others) e =
      both_three (same_place m n && (option_eq same_opening i j && same_expr c d)) (same_stmts body other) (same_stmts otherwise others) e (λ e f g.
      both_three (same_place m n) (option_eq same_opening i j) (same_expr c d) e (λ h k l.
      cc ((place m n).0 h, option_right same_opening opening_right i j k, expr_right c d l, stmts_right body other f, stmts_right otherwise others g)))
  stmt_right (For m i c p body) (For n j d q other) e =
      both (same_place m n && (option_eq same_opening i j && (option_eq same_expr c d && option_eq same_opening p q))) (same_stmts body other) e (λ e f.
      both_three (same_place m n) (option_eq same_opening i j) (option_eq same_expr c d && option_eq same_opening p q) e (λ h k l.
      both (option_eq same_expr c d) (option_eq same_opening p q) l (λ l o.
      cc ((place m n).0 h, option_right same_opening opening_right i j k, option_right same_expr expr_right c d l, option_right same_opening opening_right p q o, stmts_right body other f))))
  stmt_right (Range m x t body) (Range n y u other) e =
      both (same_place m n && (same_target x y && same_expr t u)) (same_stmts body other) e (λ e f.
      both_three (same_place m n) (same_target x y) (same_expr t u) e (λ h k l.
      cc ((place m n).0 h, (target x y).0 k, expr_right t u l, stmts_right body other f)))
  stmt_right (Select m cases) (Select n others) e = both (same_place m n) (same_cases cases others) e (λ f g. cc ((place m n).0 f, cases_right cases others g))
  stmt_right _ _ e = absurd (true≢false (sym e))

  stmts_right : (s t : Stmts) → same_stmts s t ≡ true → s ≡ t
  stmts_right stop stop e = refl
  stmts_right (then s ss) (then t ts) e = both (same_stmt s t) (same_stmts ss ts) e (λ f g. cc (stmt_right s t f, stmts_right ss ts g))
  stmts_right _ _ e = absurd (true≢false (sym e))

  cases_right : (s t : Cases) → same_cases s t ≡ true → s ≡ t
  cases_right no_case no_case e = refl
  cases_right (default_case b ks) (default_case c ls) e = both (same_stmts b c) (same_cases ks ls) e (λ f g. cc (stmts_right b c f, cases_right ks ls g))
  cases_right (send_case t v b ks) (send_case u w c ls) e =
      both ((same_expr t u && same_expr v w) && same_stmts b c) (same_cases ks ls) e (λ e f.
      both (same_expr t u && same_expr v w) (same_stmts b c) e (λ g h.
      both (same_expr t u) (same_expr v w) g (λ g i. cc (expr_right t u g, expr_right v w i, stmts_right b c h, cases_right ks ls f))))
  cases_right (receive_case xs t v b ks) (receive_case ys u w c ls) e =
      both ((same_targets xs ys && (same_expr t u && same_literal v w)) && same_stmts b c) (same_cases ks ls) e (λ e f.
      both (same_targets xs ys && (same_expr t u && same_literal v w)) (same_stmts b c) e (λ g h.
      both_three (same_targets xs ys) (same_expr t u) (same_literal v w) g (λ g i k.
      cc ((targets xs ys).0 g, expr_right t u i, literal_right v w k, stmts_right b c h, cases_right ks ls f))))
  cases_right _ _ e = absurd (true≢false (sym e))

mutual
  stmt_itself : (s : Stmt) → same_stmt s s ≡ true
  stmt_itself (Does m a) = together (place_itself m) (act_itself a)
  stmt_itself (Block body) = stmts_itself body
  stmt_itself (If m i c body otherwise) = together (together (place_itself m) (together (option_itself same_opening opening_itself i) (expr_itself c))) (together (stmts_itself body) (stmts_itself otherwise))
  stmt_itself (For m i c p body) = together (together (place_itself m) (together (option_itself same_opening opening_itself i) (together (option_itself same_expr expr_itself c) (option_itself same_opening opening_itself p)))) (stmts_itself body)
  stmt_itself (Range m x t body) = together (together (place_itself m) (together (target_itself x) (expr_itself t))) (stmts_itself body)
  stmt_itself (Select m cases) = together (place_itself m) (cases_itself cases)

  stmts_itself : (s : Stmts) → same_stmts s s ≡ true
  stmts_itself stop = refl
  stmts_itself (then s ss) = together (stmt_itself s) (stmts_itself ss)

  cases_itself : (s : Cases) → same_cases s s ≡ true
  cases_itself no_case = refl
  cases_itself (default_case b ks) = together (stmts_itself b) (cases_itself ks)
  cases_itself (send_case t v b ks) = together (together (together (expr_itself t) (expr_itself v)) (stmts_itself b)) (cases_itself ks)
  cases_itself (receive_case xs t v b ks) = together (together (together ((targets xs xs).1 refl) (together (expr_itself t) (literal_itself v))) (stmts_itself b)) (cases_itself ks)

-- functions
parameter_right : (p q : Parameter) → same_parameter p q ≡ true → p ≡ q
parameter_right (Takes x t) (Takes y u) e = both (same_target x y) (same_type t u) e (λ f g. cc ((target x y).0 f, type_right t u g))

parameter_itself : (p : Parameter) → same_parameter p p ≡ true
parameter_itself (Takes x t) = together (target_itself x) (type_itself t)

parameters : (ps qs : List Parameter) → Decides (pointwise same_parameter ps qs) (ps ≡ qs)
parameters = list_decided same_parameter (decided same_parameter parameter_right parameter_itself)

declared_right : (v w : Declared) → same_declared v w ≡ true → v ≡ w
declared_right (Named x t) (Named y u) e = both (pointwise nat_eq x y) (same_type t u) e (λ f g. cc ((bytes_decides x y).0 f, type_right t u g))

declared_itself : (v : Declared) → same_declared v v ≡ true
declared_itself (Named x t) = together ((bytes_decides x x).1 refl) (type_itself t)

variables : (vs ws : List Declared) → Decides (pointwise same_declared vs ws) (vs ≡ ws)
variables = list_decided same_declared (decided same_declared declared_right declared_itself)

function_right : (f g : Function) → same_function f g ≡ true → f ≡ g
function_right (FunctionIs x ps r vs ss m) (FunctionIs y qs s ws ts n) e =
    both (pointwise nat_eq x y && (pointwise same_parameter ps qs && option_eq same_type r s)) (pointwise same_declared vs ws && (same_stmts ss ts && same_place m n)) e (λ e f.
    both_three (pointwise nat_eq x y) (pointwise same_parameter ps qs) (option_eq same_type r s) e (λ g h i.
    both_three (pointwise same_declared vs ws) (same_stmts ss ts) (same_place m n) f (λ j k l.
    cc ((bytes_decides x y).0 g, (parameters ps qs).0 h, option_right same_type type_right r s i, (variables vs ws).0 j, stmts_right ss ts k, (place m n).0 l))))

function_itself : (f : Function) → same_function f f ≡ true
function_itself (FunctionIs x ps r vs ss m) =
    together (together ((bytes_decides x x).1 refl) (together ((parameters ps ps).1 refl) (option_itself same_type type_itself r))) (together ((variables vs vs).1 refl) (together (stmts_itself ss) (place_itself m)))

functions : (fs gs : List Function) → Decides (pointwise same_function fs gs) (fs ≡ gs)
functions = list_decided same_function (decided same_function function_right function_itself)

program_right : (p q : Program) → same_program p q ≡ true → p ≡ q
program_right (ProgramIs fs m) (ProgramIs gs n) e = both (pointwise same_function fs gs) (nat_eq m n) e (λ f g. cc ((functions fs gs).0 f, (number m n).0 g))

program_itself : (p : Program) → same_program p p ≡ true
program_itself (ProgramIs fs m) = together ((functions fs fs).1 refl) (number_itself m)

pub program : (p q : Program) → Decides (same_program p q) (p ≡ q)
program = decided same_program program_right program_itself

-- a test of what values are seen as is symmetric and transitive
pub same_as_seen : {A B : Type 0} (view : A → B) (same : B → B → Bool) → ((a b : B) → Decides (same a b) (a ≡ b)) → IsPartialEquivalence (λ (x y : A). same (view x) (view y))
same_as_seen {A} {B} view same is = record { symm = symm; trans = trans }
  where
    turned : (x y : A) → same (view x) (view y) ≡ true → same (view y) (view x) ≡ true
    turned x y e = (is (view y) (view x)).1 (sym ((is (view x) (view y)).0 e))

    symm : (x y : A) → same (view x) (view y) ≡ same (view y) (view x)
    symm x y = elim (cases_Bool (same (view x) (view y))) [
      | inl t ↦ t ∙ sym (turned x y t)
      | inr f ↦ elim (cases_Bool (same (view y) (view x))) [
        | inl t ↦ absurd (true≢false (sym (turned y x t) ∙ f))
        | inr g ↦ f ∙ sym g
      ]
    ]

    trans : (x y z : A) → same (view x) (view y) ≡ true → same (view y) (view z) ≡ true → same (view x) (view z) ≡ true
    trans x y z e f = (is (view x) (view z)).1 ((is (view x) (view y)).0 e ∙ (is (view y) (view z)).0 f)
