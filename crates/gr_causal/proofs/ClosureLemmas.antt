-- The passes over the log collect what dependence reaches.
use Rattle.std.proofs.Common.{◌≡◌, ℕ, zero, suc, Bool, true, List, [], ◌∷◌, ◌++◌, ◌↔◌, refl, sym, ◌∙◌, subst, inl, inr}
use Rattle.gr_causal.specs.Sequences.{In, Distinct, Before, IsAt}
use Rattle.gr_causal.specs.Dependence.{hits, collect, dependents, causes, Depends}
use Rattle.gr_causal.specs.Closure.{Reaches}
use Rattle.gr_causal.specs.Closure.Reaches.{itself, further}
use Rattle.gr_causal.proofs.ListLemmas.{true_or_false, In-append_cases}
use Rattle.gr_causal.proofs.DependenceLemmas.{hits_by, dependents_are, causes_are}

pub reached_in : {A : Type 0} (R : A → A → Type 0) (x : A) (P : A → Type 0) → P x → ((a b : A) → R a b → P a → P b) → (r : A) → Reaches R x r → P r
reached_in R x P p c r itself = p
reached_in R x P p c r (further {a = a} {b = b} w h) = c a b h (reached_in R x P p c a w)

module _ {A : Type 0} (clash : A → A → Bool) (W : List A) (P : A → Type 0) where
  -- what holds of the steps collected, and goes on to each later step that conflicts, holds of what is collected
  collect_all : (ds L : List A) → ((a b : A) → Before W a b → clash a b ≡ true → P a → P b)
      → ((d : A) → In d ds → P d) → ((d r : A) → In d ds → In r L → Before W d r) → ((a b : A) → Before L a b → Before W a b)
      → (r : A) → In r (collect clash ds L) → P r
  collect_all ds [] c g m w r h = g r h
  collect_all ds (e ∷ L) c g m w r h = elim (true_or_false (hits clash ds e)) [
    | inl t ↦ collect_all (ds ++ e ∷ []) L c
        (λ d i. elim (In-append_cases d ds (e ∷ []) i) [
          | inl j ↦ g d j
          | inr j ↦ elim j [
            | inl q ↦ subst P (sym q) (let y = hits_by clash ds e t in c y.0 e (m y.0 e y.1 (inl refl)) y.2 (g y.0 y.1))
            | inr k ↦ absurd k
          ]
        ])
        (λ d r i j. elim (In-append_cases d ds (e ∷ []) i) [
          | inl k ↦ m d r k (inr j)
          | inr k ↦ elim k [ inl q ↦ w d r (inl (q, j)) | inr k ↦ absurd k ]
        ])
        (λ a b i. w a b (inr i)) r (rw t at h)
    | inr f ↦ collect_all ds L c g (λ d r i j. m d r i (inr j)) (λ a b i. w a b (inr i)) r (rw f at h)
  ]

  -- what goes on along dependence holds of all dependents
  pub dependents_all : ((a b : A) → Before W a b → clash a b ≡ true → P a → P b) → (L : List A) (i : ℕ) (x : A) → IsAt L i x → ((a b : A) → Before L a b → Before W a b) → P x → (r : A) → In r (dependents clash L i) → P r
  dependents_all c [] i x h w p r k = absurd h
  dependents_all c (e ∷ L) zero x h w p r k = collect_all (e ∷ []) L c
      (λ d i. elim i [ inl q ↦ subst P (h ∙ sym q) p | inr j ↦ absurd j ])
      (λ d f i j. elim i [ inl q ↦ w d f (inl (q, j)) | inr k ↦ absurd k ]) (λ a b i. w a b (inr i)) r k
  dependents_all c (e ∷ L) (suc i) x h w p r k = dependents_all c L i x h (λ a b j. w a b (inr j)) p r k

  causes_in : (L : List A) (i : ℕ) (e : A) → In e (causes clash L i) → In e L
  causes_in [] i e h = h
  causes_in (r ∷ L) zero e h = elim h [ inl q ↦ inl q | inr k ↦ absurd k ]
  causes_in (r ∷ L) (suc i) e h = elim (true_or_false (hits clash (causes clash L i) r)) [
    | inl t ↦ elim (let k : In e (r ∷ causes clash L i) = rw t at h in k) [ inl q ↦ inl q | inr k ↦ inr (causes_in L i e k) ]
    | inr f ↦ inr (causes_in L i e (rw f at h))
  ]

  -- what goes back along dependence holds of all causes
  pub causes_all : ((a b : A) → clash a b ≡ true → clash b a ≡ true) → ((a b : A) → Before W a b → clash a b ≡ true → P b → P a) → (L : List A) (i : ℕ) (x : A) → IsAt L i x → ((a b : A) → Before L a b → Before W a b) → P x → (r : A) → In r (causes clash L i) → P r
  causes_all back c [] i x h w p r k = absurd h
  causes_all back c (e ∷ L) zero x h w p r k = elim k [ inl q ↦ subst P (h ∙ sym q) p | inr k ↦ absurd k ]
  causes_all back c (e ∷ L) (suc i) x h w p r k =
      let ih = causes_all back c L i x h (λ a b j. w a b (inr j)) p in
      elim (true_or_false (hits clash (causes clash L i) e)) [
        | inl t ↦ elim (let k' : In r (e ∷ causes clash L i) = rw t at k in k') [
          | inl q ↦ let y = hits_by clash (causes clash L i) e t in
              subst P (sym q) (c e y.0 (w e y.0 (inl (refl, causes_in L i y.0 y.1))) (back y.0 e y.2) (ih y.0 y.1))
          | inr j ↦ ih r j
        ]
        | inr f ↦ ih r (rw f at k)
      ]

module _ {A : Type 0} (clash : A → A → Bool) where
  pub dependents_reached : (L : List A) (i : ℕ) (x : A) → Distinct L → IsAt L i x → (r : A) → In r (dependents clash L i) ↔ Reaches (λ a b. Depends clash L b a) x r
  dependents_reached L i x d h r =
      let l = dependents_are clash L i x d h in (
        dependents_all clash L (Reaches (λ a b. Depends clash L b a) x) (λ a b j c p. further p (j, c)) L i x h (λ a b j. j) itself r,
        reached_in (λ a b. Depends clash L b a) x (λ r. In r (dependents clash L i)) l.has l.part.closed r,
      )

  pub causes_reached : ((a b : A) → clash a b ≡ true → clash b a ≡ true) → (L : List A) (i : ℕ) (x : A) → Distinct L → IsAt L i x → (r : A) → In r (causes clash L i) ↔ Reaches (λ a b. Depends clash L a b) x r
  causes_reached back L i x d h r =
      let l = causes_are clash back L i x d h in (
        causes_all clash L (Reaches (λ a b. Depends clash L a b) x) back (λ a b j c p. further p (j, c)) L i x h (λ a b j. j) itself r,
        reached_in (λ a b. Depends clash L a b) x (λ r. In r (causes clash L i)) l.has l.part.closed r,
      )
