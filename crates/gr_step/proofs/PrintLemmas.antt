-- Whether a line was printed, by the goroutine before and after the change.
use Rattle.std.proofs.Common.{◌≡◌, ◌-◌, ◌<◌, ◌++◌, ℕ, suc, true, false, List, [], ◌∷◌, length, refl, sym, ap, ◌∙◌}
use Rattle.std.proofs.Common.{arith, length-append, length-take}
use Rattle.gr_code.specs.Goroutines.{CodeGoroutine}
use Rattle.gr_goros.specs.Undoing.{undone, front, Fits}
use Rattle.gr_goros.specs.declared.undo.GoUndo.{GoUndo}
use Rattle.gr_goros.specs.declared.undo.GoUndo.TheVariants as undos
use Rattle.gr_goros.specs.Before.{is_printed}

-- a printed line is one more
one_more : (xs ys : List (List ℕ)) → front ys ≡ xs → 0 < length ys → length ys ≡ suc (length xs)
one_more xs ys is some = omega (arith, ap length is, length-take (length ys - 1) ys)

module _ (a b : CodeGoroutine) where
  -- where the text stays, no line was printed
  pub not_printed : (u : GoUndo) → undone u b ≡ a → Fits u b → b.text ≡ a.text → is_printed u ≡ false
  not_printed (undos.Went f u) back fits text = refl
  not_printed (undos.Printed n) back fits text =
      absurd (let more = one_more a.text b.text (ap (λ g. g.text) back) fits.2 in omega (arith, more, ap length text))
  not_printed (undos.Entered x) back fits text = refl
  not_printed (undos.Left l) back fits text = refl
  not_printed (undos.Made f u) back fits text = refl
  not_printed (undos.Began n) back fits text = refl
  not_printed (undos.Met m) back fits text = refl
  not_printed (undos.Parked x) back fits text = refl
  not_printed (undos.Finished f) back fits text = refl
  not_printed (undos.Faulted x) back fits text = refl
  not_printed (undos.Retried s) back fits text = refl

  -- where a line came to the text, it was printed
  same : (line : List ℕ) → b.text ≡ a.text ++ line ∷ [] → b.text ≡ a.text → ⊥
  same line text is = let two = ap length (sym text ∙ is) in omega (arith, two, length-append a.text (line ∷ []))

  pub printed : (u : GoUndo) (line : List ℕ) → undone u b ≡ a → b.text ≡ a.text ++ line ∷ [] → is_printed u ≡ true
  printed (undos.Went f u) line back text = absurd (same line text (ap (λ g. g.text) back))
  printed (undos.Printed n) line back text = refl
  printed (undos.Entered x) line back text = absurd (same line text (ap (λ g. g.text) back))
  printed (undos.Left l) line back text = absurd (same line text (ap (λ g. g.text) back))
  printed (undos.Made f u) line back text = absurd (same line text (ap (λ g. g.text) back))
  printed (undos.Began n) line back text = absurd (same line text (ap (λ g. g.text) back))
  printed (undos.Met m) line back text = absurd (same line text (ap (λ g. g.text) back))
  printed (undos.Parked x) line back text = absurd (same line text (ap (λ g. g.text) back))
  printed (undos.Finished f) line back text = absurd (same line text (ap (λ g. g.text) back))
  printed (undos.Faulted x) line back text = absurd (same line text (ap (λ g. g.text) back))
  printed (undos.Retried s) line back text = absurd (same line text (ap (λ g. g.text) back))
