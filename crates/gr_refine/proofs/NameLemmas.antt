-- Names are equal exactly where the tests say so, and what a function updated at a name gives.
use Rattle.std.proofs.Common.{◌≡◌, ℕ, nat_eq, true, false, ◌==◌, if◌then◌else◌, List, [], ◌∷◌, refl, sym, ◌∙◌, ap, eqb-true, eq-eqb, inl, inr}
use Rattle.std.proofs.lemmas.Bool.{cases_Bool, and_parts, and_from, false_from_ne_true}
use Rattle.std.specs.Cmp.Lexicographic.{pointwise, same_text}
use Rattle.gr_base.specs.declared.names.ChName.{ChName}
use Rattle.gr_rules.specs.Operators.{same_channel}
use Rattle.gr_rules.specs.States.{same_go, updated}

pub go_is : (g h : List ℕ) → same_go g h ≡ true → g ≡ h
go_is g h e = same_text g h (sym e)

pub go_self : (g : List ℕ) → same_go g g ≡ true
go_self [] = refl
go_self (n ∷ ns) = and_from (nat_eq n n) (same_go ns ns) (eq-eqb n n refl) (go_self ns)

pub channel_is : (c d : ChName) → same_channel c d ≡ true → c ≡ d
channel_is c d e =
    let h = and_parts (pointwise nat_eq c.go d.go) (c.n == d.n) e in
    let p = go_is c.go d.go h.0 in
    let q = eqb-true c.n d.n h.1 in
    λ i. record { go = p i; n = q i }

pub channel_self : (c : ChName) → same_channel c c ≡ true
channel_self c = and_from (pointwise nat_eq c.go c.go) (c.n == c.n) (go_self c.go) (eq-eqb c.n c.n refl)

pub channel_other : (c d : ChName) → (c ≡ d → ⊥) → same_channel c d ≡ false
channel_other c d n = false_from_ne_true (same_channel c d) (λ e. n (channel_is c d e))

pub channel_sym : (c d : ChName) → same_channel c d ≡ same_channel d c
channel_sym c d = elim (cases_Bool (same_channel c d)) [
  | inl t ↦ let e = channel_is c d t in t ∙ sym (channel_self d) ∙ ap (same_channel d) (sym e)
  | inr f ↦ f ∙ sym (channel_other d c (λ e. let k : true ≡ false = sym (channel_self c) ∙ ap (same_channel c) (sym e) ∙ f in cc))
]

pub go_other : (g h : List ℕ) → (g ≡ h → ⊥) → same_go g h ≡ false
go_other g h n = false_from_ne_true (same_go g h) (λ e. n (go_is g h e))

pub go_sym : (g h : List ℕ) → same_go g h ≡ same_go h g
go_sym g h = elim (cases_Bool (same_go g h)) [
  | inl t ↦ t ∙ sym (go_self h) ∙ ap (same_go h) (sym (go_is g h t))
  | inr f ↦ f ∙ sym (go_other h g (λ e. let k : true ≡ false = sym (go_self g) ∙ ap (same_go g) (sym e) ∙ f in cc))
]

-- a function of what a changed one gives, where that stays as it was, and where it does not
module _ {X R : Type 0} (F : X → R) (f : ChName → X) (c : ChName) (y : X) where
  pub kept : F y ≡ F (f c) → (d : ChName) → F (updated same_channel f c y d) ≡ F (f d)
  kept e d = elim (cases_Bool (same_channel d c)) [
    | inl t ↦ ap (λ b. F (if b then y else f d)) t ∙ e ∙ ap (λ z. F (f z)) (sym (channel_is d c t))
    | inr n ↦ ap (λ b. F (if b then y else f d)) n
  ]

  pub changed : (r : R) → F y ≡ r → (d : ChName) → F (updated same_channel f c y d) ≡ updated same_channel (λ k. F (f k)) c r d
  changed r e d = elim (cases_Bool (same_channel d c)) [
    | inl t ↦ ap (λ b. F (if b then y else f d)) t ∙ e ∙ sym (ap (λ b. if b then r else F (f d)) t)
    | inr n ↦ ap (λ b. F (if b then y else f d)) n ∙ sym (ap (λ b. if b then r else F (f d)) n)
  ]
