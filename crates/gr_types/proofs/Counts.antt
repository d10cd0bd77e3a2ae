-- As many names as expressions.
use Rattle.std.proofs.Common.{◌≡◌, ℕ, true, false, List, [], ◌∷◌, length, refl, arith, Global}
use Rattle.std.specs.Prelude.{Vec, None}
use Rattle.gr_tree.specs.declared.expr.Expr.{Expr}
use Rattle.gr_tree.specs.Exprs.{names_of, trees_of}
use Rattle.gr_types.specs.FindingStatements.{pair_of}
use Rattle.gr_types.specs.Taking.{same_count}

pub counts_equal : (names : List (Vec ℕ Global)) (es : List Expr) → length names ≡ length es → same_count (names_of names) (trees_of es) ≡ true
counts_equal [] [] e = refl
counts_equal [] (f ∷ es) e = absurd (omega (arith, e))
counts_equal (x ∷ names) [] e = absurd (omega (arith, e))
counts_equal (x ∷ names) (f ∷ es) e = counts_equal names es (omega (arith, e))

pub counts_differ : (names : List (Vec ℕ Global)) (es : List Expr) → (length names ≡ length es → ⊥) → same_count (names_of names) (trees_of es) ≡ false
counts_differ [] [] n = absurd (n refl)
counts_differ [] (f ∷ es) n = refl
counts_differ (x ∷ names) [] n = refl
counts_differ (x ∷ names) (f ∷ es) n = counts_differ names es (λ e. n (omega (arith, e)))

-- other than two names and one expression
pub no_pair : (names : List (Vec ℕ Global)) (es : List Expr) → (length names ≡ 2 → length es ≡ 1 → ⊥) → None ≡ pair_of (names_of names) (trees_of es)
no_pair [] es n = refl
no_pair (x ∷ []) es n = refl
no_pair (x ∷ (y ∷ [])) [] n = refl
no_pair (x ∷ (y ∷ [])) (e ∷ []) n = absurd (n refl refl)
no_pair (x ∷ (y ∷ [])) (e ∷ (f ∷ es)) n = refl
no_pair (x ∷ (y ∷ (z ∷ names))) es n = refl
