-- The clause of a select with a number.
use Rattle.std.proofs.Common.{◌≡◌, ℕ, zero, suc, ◌<◌, ◌≤◌, List, [], ◌∷◌, length, get_or, Some, None, refl, sym, ap, ◌∙◌, arith}
use Rattle.std.specs.Prelude.{slice_get}
use Rattle.gr_rules.specs.Actors.{clause_at}
use Rattle.gr_goros.specs.declared.needs.Clause.{Clause}
use Rattle.gr_goros.specs.Views.{communication_of, communications_of}

clause_here : (cs : List Clause) (place : ℕ) (c : Clause) → place < length cs → c ≡ get_or cs place c
    → slice_get (communications_of cs) place ≡ Some (communication_of c)
clause_here [] place c below is = absurd (omega (arith, below))
clause_here (x ∷ cs) zero c below is = ap (λ c. Some (communication_of c)) (sym is)
clause_here (x ∷ cs) (suc place) c below is = clause_here cs place c (omega (arith, below)) is

no_clause_here : (cs : List Clause) (place : ℕ) → length cs ≤ place → slice_get (communications_of cs) place ≡ None
no_clause_here [] place above = refl
no_clause_here (x ∷ cs) zero above = absurd (omega (arith, above))
no_clause_here (x ∷ cs) (suc place) above = no_clause_here cs place (omega (arith, above))

-- numbers count from 1, places from 0
module _ (cs : List Clause) (number place : ℕ) (is : number ≡ suc place) where
  pub clause_numbered : (c : Clause) → place < length cs → c ≡ get_or cs place c → Some (communication_of c) ≡ clause_at (communications_of cs) number
  clause_numbered c below at = sym (ap (clause_at (communications_of cs)) is ∙ clause_here cs place c below at)

  pub none_numbered : length cs ≤ place → None ≡ clause_at (communications_of cs) number
  none_numbered above = sym (ap (clause_at (communications_of cs)) is ∙ no_clause_here cs place above)
