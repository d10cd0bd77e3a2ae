-- The examples are code.
use Rattle.std.proofs.Common.{◌≡◌, ℕ, zero, suc, true, false, [], ◌∷◌, Option, Some, None, refl, sym, subst, true≢false}
use Rattle.std.proofs.lemmas.Option.{same_Some, none-some}
use Rattle.std.specs.Prelude.{if◌then◌else◌}
use Rattle.gr_tree.specs.declared.expr.BinaryOp.TheVariants.{LogicalAnd}
use Rattle.gr_base.specs.declared.values.Value.{Value}
use Rattle.gr_base.specs.declared.values.Value.TheVariants.{Int, Bool as Truth, Unit as Empty, Chan}
use Rattle.gr_program.specs.Programs.{stop, no_case}
use Rattle.gr_rules.specs.Operators.{settles}
use Rattle.gr_rules.specs.Operands.{Done, Variable, Receive, nothing, one}
use Rattle.gr_rules.specs.Parts.{Receives}
use Rattle.gr_rules.specs.Points.{closing, ranging, chosen, Assign}
use Rattle.gr_code.specs.Filling.{Temporaries, with_value, fill_all, fill_point, Wanted}
use Rattle.gr_code.specs.Instructions.{Instruction}
use Rattle.gr_code.specs.Code.{Meanings, Means, point_filled, Fits, IsCode}
use Rattle.gr_code.specs.Code as code
use Rattle.gr_code.specs.Examples.{begins_at, joining, joining_code, looping, looping_code, cases, choosing, choosing_code}

-- past the decision, either way
decides : (ts : Temporaries) (v : Value) → Means joining (with_value ts 2 v) (if settles LogicalAnd v then 2 else 1)
    (point_filled (fill_point ts (joining 0)) (fill_all ts (one (if settles LogicalAnd v then Done v else Receive (Variable 1) (Truth false)))))
decides ts (Truth true) = (refl, (((λ e. absurd (true≢false (sym e))), tt), tt))
decides ts (Truth false) = (refl, (((λ e. refl), tt), tt))
decides ts (Int n) = (refl, (((λ e. absurd (true≢false (sym e))), tt), tt))
decides ts Empty = (refl, (((λ e. absurd (true≢false (sym e))), tt), tt))
decides ts (Chan c) = (refl, (((λ e. absurd (true≢false (sym e))), tt), tt))

wanted : (o : Option Value) → Wanted LogicalAnd o (Variable 3)
wanted None = tt
wanted (Some v) = λ e. refl

pub fits : (means : Meanings) (n : ℕ) (i j : Instruction) → Fits 2 means (means n) i → Some i ≡ Some j → Fits 2 means (means n) j
fits means n i j f e = subst {_, _} (Fits 2 means (means n)) (same_Some i j e) f

pub joins : IsCode 2 joining joining_code
joins zero i e = fits joining 0 _ i (code.decision (begins_at 5) (Assign (Some 0 ∷ [])) _ (closing (begins_at 9)) LogicalAnd (Variable 0) _ 2 2 1 refl (λ ts v none c. decides ts v)) e
joins (suc zero) i e = fits joining 1 _ i (code.part (begins_at 5) (Assign (Some 0 ∷ [])) _ (closing (begins_at 9)) (Receives (Variable 1) (Truth false)) _ (Some 3) 2 refl refl (λ ts v none c. (refl, ((wanted (ts 2), tt), tt)))) e
joins (suc (suc zero)) i e = fits joining 2 _ i (code.assignment (begins_at 5) (Some 0 ∷ []) _ (closing (begins_at 9)) 3 refl (λ ts none c. (refl, tt))) e
joins (suc (suc (suc zero))) i e = fits joining 3 _ i (code.returning (begins_at 9) _ (closing (begins_at 9)) refl) e
joins (suc (suc (suc (suc n)))) i e = absurd (none-some _ e)

pub loops : IsCode 2 looping looping_code
loops zero i e = fits looping 0 _ i (code.range (begins_at 5) (Some 0) stop _ (closing (begins_at 9)) 2 1 refl (λ ts v none c. (refl, (tt, tt)))) e
loops (suc zero) i e = fits looping 1 _ i (code.range_turn (begins_at 5) (Some 0) stop (Variable 2) (closing (begins_at 9)) 3 2 3 refl (λ ts v none c. (refl, (tt, tt))) (λ ts none c. (refl, tt))) e
loops (suc (suc zero)) i e = fits looping 2 _ i (code.assignment (begins_at 5) (Some 0 ∷ []) _ (ranging (begins_at 5) (Some 0) (Variable 2) stop (closing (begins_at 9))) 1 refl (λ ts none c. (refl, (tt, tt)))) e
loops (suc (suc (suc zero))) i e = fits looping 3 _ i (code.going_on (begins_at 5) _ (closing (begins_at 9)) 4 refl (λ ts none c. (refl, tt))) e
loops (suc (suc (suc (suc zero)))) i e = fits looping 4 _ i (code.returning (begins_at 9) _ (closing (begins_at 9)) refl) e
loops (suc (suc (suc (suc (suc n))))) i e = absurd (none-some _ e)

pub chooses : IsCode 2 choosing choosing_code
chooses zero i e = fits choosing 0 _ i (code.select (begins_at 5) cases _ (closing (begins_at 9)) _ refl
    (code.send_arm 1 _ _ stop _ _ _ _ _ 2 (λ ts none c. (refl, tt))
    (code.receive_arm 2 _ _ _ stop _ _ _ _ (Some (2, 3)) 1 (λ ts got none c. (refl, (tt, (tt, tt))))
    (code.default_arm 3 stop no_case nothing [] 2 (λ ts none c. (refl, tt)) (code.no_arm 4))))) e
chooses (suc zero) i e = fits choosing 1 _ i (code.assignment (begins_at 5) (Some 0 ∷ None ∷ []) _ (chosen 2 (closing (begins_at 9))) 2 refl (λ ts none c. (refl, tt))) e
chooses (suc (suc zero)) i e = fits choosing 2 _ i (code.returning (begins_at 9) _ (closing (begins_at 9)) refl) e
chooses (suc (suc (suc n))) i e = absurd (none-some _ e)
