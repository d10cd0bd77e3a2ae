-- Tests, by cases.
use Rattle.std.proofs.Common.{◌≡◌, ℕ, Bool, true, false, List, sym, ◌∙◌, true≢false, inl, inr, nat_eq}
use Rattle.std.proofs.lemmas.Bool.{cases_Bool}
use Rattle.std.specs.Cmp.Lexicographic.{pointwise, other_text}

pub both : {Z : Type 0} (t : Bool) → t ≡ true → t ≡ false → Z
both t a b = absurd (true≢false (sym a ∙ b))

pub equal_texts : (xs ys : List ℕ) → xs ≡ ys → pointwise nat_eq xs ys ≡ true
equal_texts xs ys e = elim (cases_Bool (pointwise nat_eq xs ys)) [
  | inl t ↦ t
  | inr f ↦ absurd (other_text xs ys (sym f) e)
]
