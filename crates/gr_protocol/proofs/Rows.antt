-- Rows of what is told.
use Rattle.std.proofs.Common.{◌≡◌, ◌≤◌, ◌+◌, ℕ, suc, List, [], ◌∷◌, ◌++◌, length, Option, Some, None, refl, subst, arith}
use Rattle.gr_facts.specs.Asked.{Tells, TellsOf}
use Rattle.gr_facts.specs.Views.{facts_in}
use Rattle.gr_facts.specs.declared.telling.Facts as told
use Rattle.gr_json.proofs.Plain.{IsPlain, neither, list_plain, perhaps_plain, facts_plain}
use Rattle.gr_json.specs.Facts.{facts_data}
use Rattle.gr_json.specs.Parts.{count}
use Rattle.gr_facts.specs.Facts.{Facts}
use Rattle.gr_laws.specs.Reached.{Logged}
use Rattle.gr_program.specs.Programs.{Program}
use Rattle.gr_protocol.specs.About.{TellAll, about_data}

-- one more row behind the others
pub tell_more : (p : Program) (log : List (Logged p)) (place : ℕ) (rows : List told.Facts) (row : told.Facts)
    → TellAll p log place rows → TellsOf p log (place + length rows) (facts_in row) → TellAll p log place (rows ++ row ∷ [])
tell_more p log place [] row all one = (subst {_, _} (λ n. TellsOf p log n (facts_in row)) (omega arith) one, tt)
tell_more p log place (first ∷ rows) row all one =
    (all.0, tell_more p log (suc place) rows row all.1 (subst {_, _} (λ n. TellsOf p log n (facts_in row)) (omega arith) one))

-- what is told of a place, by the place's number
pub told_one : (p : Program) (log : List (Logged p)) (n m : ℕ) (o : Option told.Facts) (row : told.Facts)
    → Tells p log n o → o ≡ Some row → n ≡ m → TellsOf p log m (facts_in row)
told_one p log n m o row tells is at =
    subst {_, _} (λ k. TellsOf p log k (facts_in row)) at (subst {_, _} (λ (x : Option told.Facts). Tells p log n x) is tells)

pub told_none : (p : Program) (log : List (Logged p)) (n m : ℕ) (o : Option told.Facts) → Tells p log n o → o ≡ None → n ≡ m → length log ≤ m
told_none p log n m o tells is at =
    subst {_, _} (λ k. length log ≤ k) at (subst {_, _} (λ (x : Option told.Facts). Tells p log n x) is tells)

pub about_plain : (rows : List Facts) (next : Option ℕ) → IsPlain (about_data rows next)
about_plain rows next =
    neither _ _ (list_plain facts_data facts_plain rows) (neither _ _ (perhaps_plain count (λ n. refl) next) refl)
