-- The example's code is that of its program.
use Rattle.std.proofs.Common.{◌≡◌, ◌<◌, ℕ, zero, suc, [], ◌∷◌, Some, refl, sym, ◌∙◌, subst, arith}
use Rattle.std.proofs.lemmas.Option.{same_Some, none-some}
use Rattle.std.specs.Prelude.{slice_get}
use Rattle.gr_program.specs.Programs.{Function, stop, then}
use Rattle.gr_rules.specs.Operands.{one}
use Rattle.gr_rules.specs.Points.{closing, following, Assign, at}
use Rattle.gr_code.specs.Filling.{variable_filled}
use Rattle.gr_code.specs.Instructions.{Instruction}
use Rattle.gr_code.specs.Code.{Fits, IsCode}
use Rattle.gr_code.specs.Code as code
use Rattle.gr_code.specs.CodeFrames.{FunctionCode}
use Rattle.gr_code.specs.Programs.{InBounds, FunctionFits, ProgramFits}
use Rattle.gr_code.specs.Examples.{begins_at, joining, joining_code}
use Rattle.gr_code.specs.ProgramExamples.{copies_value, main, copying, main_code, both, both_code, program_of_two, code_of_two, meaning_of_two}
use Rattle.gr_code.proofs.ExampleLemmas.{fits, joins}

pub copies : IsCode 2 copying (slice_get main_code.instructions)
copies zero i e = fits copying 0 _ i (code.assignment (begins_at 5) (Some 0 ∷ []) _ (following (then copies_value stop) (closing (begins_at 9))) 1 refl
    (λ ts none c. (λ k. at (begins_at 7) (Assign (Some 1 ∷ [])) (one (variable_filled 0 (none 0 (omega arith) k))) (closing (begins_at 9)), (tt, tt)))) e
copies (suc zero) i e = fits copying 1 _ i (code.assignment (begins_at 7) (Some 1 ∷ []) _ (closing (begins_at 9)) 2 refl (λ ts none c. (refl, tt))) e
copies (suc (suc zero)) i e = fits copying 2 _ i (code.returning (begins_at 9) _ (closing (begins_at 9)) refl) e
copies (suc (suc (suc n))) i e = absurd (none-some _ e)

bound : (n m count : ℕ) (i j : Instruction) → InBounds n m count i → Some i ≡ Some j → InBounds n m count j
bound n m count i j h e = subst {_, _} (InBounds n m count) (same_Some i j e) h

main_bounds : (k : ℕ) (i : Instruction) → slice_get main_code.instructions k ≡ Some i → InBounds 2 2 3 i
main_bounds zero i e = bound 2 2 3 _ i ((tt, tt), ((omega arith, tt), omega arith)) e
main_bounds (suc zero) i e = bound 2 2 3 _ i ((omega arith, tt), ((omega arith, tt), omega arith)) e
main_bounds (suc (suc zero)) i e = bound 2 2 3 _ i (tt, tt) e
main_bounds (suc (suc (suc n))) i e = absurd (none-some _ e)

main_lines : (k : ℕ) → k < 3 → slice_get main_code.lines k ≡ Some ((copying k).place.line)
main_lines zero h = refl
main_lines (suc zero) h = refl
main_lines (suc (suc zero)) h = refl
main_lines (suc (suc (suc n))) h = absurd (omega arith)

main_fits : FunctionFits copying main main_code
main_fits = record {
  parameters = refl;
  takes = tt;
  variables = refl;
  cells = omega arith;
  begins = refl;
  clear = λ ts none. (tt, tt);
  fits = copies;
  some = omega arith;
  bounds = main_bounds;
  each = refl;
  lines = main_lines;
}

same_code : (k : ℕ) → slice_get both_code.instructions k ≡ joining_code k
same_code zero = refl
same_code (suc zero) = refl
same_code (suc (suc zero)) = refl
same_code (suc (suc (suc zero))) = refl
same_code (suc (suc (suc (suc n)))) = refl

both_bounds : (k : ℕ) (i : Instruction) → slice_get both_code.instructions k ≡ Some i → InBounds 2 4 4 i
both_bounds zero i e = bound 2 4 4 _ i (omega arith, (omega arith, omega arith), omega arith, omega arith) e
both_bounds (suc zero) i e = bound 2 4 4 _ i (omega arith, (omega arith, omega arith), omega arith) e
both_bounds (suc (suc zero)) i e = bound 2 4 4 _ i (((omega arith, omega arith), tt), ((omega arith, tt), omega arith)) e
both_bounds (suc (suc (suc zero))) i e = bound 2 4 4 _ i (tt, tt) e
both_bounds (suc (suc (suc (suc n)))) i e = absurd (none-some _ e)

both_lines : (k : ℕ) → k < 4 → slice_get both_code.lines k ≡ Some ((joining k).place.line)
both_lines zero h = refl
both_lines (suc zero) h = refl
both_lines (suc (suc zero)) h = refl
both_lines (suc (suc (suc zero))) h = refl
both_lines (suc (suc (suc (suc n)))) h = absurd (omega arith)

both_fits : FunctionFits joining both both_code
both_fits = record {
  parameters = refl;
  takes = (omega arith, (omega arith, tt));
  variables = refl;
  cells = omega arith;
  begins = refl;
  clear = λ ts none. ((tt, tt), tt);
  fits = λ k i e. joins k i (sym (same_code k) ∙ e);
  some = omega arith;
  bounds = both_bounds;
  each = refl;
  lines = both_lines;
}

abbrev Fit : ℕ → Function → FunctionCode → Type 0
Fit number function c = FunctionFits (meaning_of_two number) function c

same_fit : (number : ℕ) (f g : Function) (c d : FunctionCode) → Fit number f c → Some f ≡ Some g → Some c ≡ Some d → Fit number g d
same_fit number f g c d h e k = subst {_, _} (Fit number g) (same_Some c d k) (subst {_, _} (λ g. Fit number g c) (same_Some f g e) h)

two_fit : (number : ℕ) (function : Function) (c : FunctionCode) → slice_get (main ∷ both ∷ []) number ≡ Some function
    → slice_get (main_code ∷ both_code ∷ []) number ≡ Some c → Fit number function c
two_fit zero function c e k = same_fit 0 main function main_code c main_fits e k
two_fit (suc zero) function c e k = same_fit 1 both function both_code c both_fits e k
two_fit (suc (suc n)) function c e k = absurd (none-some _ e)

pub fits_program : ProgramFits meaning_of_two program_of_two code_of_two
fits_program = record { main = refl; each = refl; functions = two_fit }
