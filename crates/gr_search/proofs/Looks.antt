-- A state whose key is known, and one whose key is new.
use Rattle.std.proofs.Common.{◌≡◌, ℕ, Bool, true, cond, nat_eq, List, ◌∷◌, drop, sym, subst, inl, inr}
use Rattle.std.specs.Cmp.Lexicographic.{pointwise}
use Rattle.gr_search.specs.System.{System, Leads}
use Rattle.gr_search.specs.Going.{Going, Arriving, HasAll, Known, tries}
use Rattle.gr_search.specs.declared.search.Task.{Task}
use Rattle.gr_search.specs.declared.search.Task.TheVariants.{TakeBack}
use Rattle.gr_search.proofs.Arrivals.{known_there, new_tries}
use Rattle.gr_search.proofs.Seen.{has, keeps, only, same}

-- what holds of two things holds of what they are equal to
pub of_same : {F S : Type 0} (P : F → S → Type 0) (f g : F) (s t : S) → f ≡ g → s ≡ t → P f s → P g t
of_same P f g s t e h x = subst (λ f. P f t) e (subst (P f) h x)

module _ {State Event Matter : Type 0} (Y : System State Event Matter) (means : List ℕ → Matter → Type 0) (seen more : List ℕ → Bool) (key : List ℕ)
    (adds : (k : List ℕ) → more k ≡ cond (pointwise nat_eq key k) true (seen k)) (u : State) (is_key : means key (Y.key u)) where
  pub look_known : (ts : List (Task Event)) (log new : List Event) → seen key ≡ true → new ≡ log → Arriving Y (Known means seen) ts log u → Going Y (Known means more) ts new
  look_known ts log new h d g =
      subst (λ x. Going Y (Known means x) ts new) (same seen more key adds h)
      (subst (Going Y (Known means seen) ts) (sym d) (known_there Y (Known means seen) ts log u (key, h, is_key) g))

  pub look_new : ((k : List ℕ) (a b : Matter) → means k a → means k b → a ≡ b) → (ts us : List (Task Event)) (count : ℕ) (far : List Event) (es : List Event)
      → us ≡ tries es (TakeBack count ∷ ts) → Leads Y far u → ¬ Y.bad u → HasAll Y u es
      → Arriving Y (Known means seen) ts (drop count far) u → Going Y (Known means more) us far
  look_new one ts us count far es t l b a g =
      subst (λ us. Going Y (Known means more) us far) (sym t)
      (new_tries Y (Known means seen) ts (drop count far) (Known means more) count far u es (key, has seen more key adds, is_key)
      (λ a w. (w.0, keeps seen more key adds w.0 w.1, w.2))
      (λ a w. elim (only seen more key adds w.0 w.1) [
        | inl same ↦ inl (one key a (Y.key u) (subst (λ k. means k a) same w.2) is_key)
        | inr v ↦ inr (w.0, v, w.2)
      ]) l b a (λ i. drop count far) g)
