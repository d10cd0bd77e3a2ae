-- The last step is taken back in one way.
use Rattle.std.proofs.Common.{◌≡◌, List, [], ◌∷◌, ◌++◌, sym, ◌∙◌}
use Rattle.std.proofs.lemmas.List.{same_from_push}
use Rattle.gr_program.specs.Programs.{Program}
use Rattle.gr_laws.specs.Reached.{Logged}
use Rattle.gr_rollback.specs.Backs.{LosesLast}
use Rattle.gr_rollback.specs.Pasts.{Past}
use Rattle.gr_session.proofs.OneMeaningPasts.{one_past}

-- what is left is one, and the last step is one
pub one_before : (p : Program) (w u v : Past p) (r q : Logged p) → LosesLast p w r u → LosesLast p w q v → (u ≡ v) × (r ≡ q)
one_before p w u v r q first second =
    let same = same_from_push u.log v.log r q (sym first.log ∙ second.log) in
    (one_past p u v first.run second.run same.0, same.1)

not_empty : {A : Type 0} (x : A) (xs : List A) → x ∷ xs ≡ [] → ⊥
not_empty x xs e = cc

-- where there is a last step, the log is not empty
pub has_last : {A : Type 0} (log before : List A) (r : A) → log ≡ before ++ r ∷ [] → log ≡ [] → ⊥
has_last log [] r is none = not_empty r [] (sym is ∙ none)
has_last log (x ∷ before) r is none = not_empty x (before ++ r ∷ []) (sym is ∙ none)
