-- One turn of the loop over names on the left of `=`.
use Rattle.std.proofs.Common.{◌≡◌, ℕ, ◌+◌, List, [], ◌∷◌, ◌++◌, length, get_or, drop, ◌<◌, ◌≤◌, refl, ap, sym, ◌∙◌, append-nil, append_assoc, Global}
use Rattle.std.specs.Prelude.{Option, Some, None, Vec}
use Rattle.std.proofs.lemmas.List.{drop_all}
use Rattle.gr_tree.specs.Exprs.{names_of}
use Rattle.gr_typing.specs.Scopes.{Scope}
use Rattle.gr_exprs.specs.Finding.{◌>>=◌}
use Rattle.gr_exprs.specs.Checking.{Rejects}
use Rattle.gr_exprs.specs.declared.refusal.RuleError.{RuleError}
use Rattle.gr_exprs.specs.declared.refusal.RuleError.TheVariants as faults
use Rattle.gr_types.specs.Taking.{target, targets}
use Rattle.gr_types.proofs.NameLists.{front_names}

after_target : (o : Option (List (Option ℕ))) (ks : List (Option ℕ)) (k : Option ℕ) → (o >>= λ ls. Some ((ks ++ (k ∷ [])) ++ ls)) ≡ ((o >>= λ ls. Some (k ∷ ls)) >>= λ ls. Some (ks ++ ls))
after_target (Some ls) ks k = ap Some (append_assoc ks (k ∷ []) ls)
after_target None ks k = refl

module _ (s : Scope) (names : List (Vec ℕ Global)) (i : ℕ) (ks : List (Option ℕ)) (o : Option (List (Option ℕ))) (so_far : (targets s (names_of (drop i names)) >>= λ ls. Some (ks ++ ls)) ≡ o) where
  pub targets_end : length names ≤ i → o ≡ Some ks
  targets_end le = sym so_far ∙ ap (λ l. targets s (names_of l) >>= λ ls. Some (ks ++ ls)) (drop_all i names le) ∙ ap Some (append-nil ks)

  module _ (x : Vec ℕ Global) (lt : i < length names) (is : x ≡ get_or names i x) where
    abbrev rest : Option (List (Option ℕ))
    rest = targets s (names_of (drop (i + 1) names))

    abbrev with_target : Option (Option ℕ) → Option (List (Option ℕ))
    with_target w = (w >>= λ k. rest >>= λ ls. Some (k ∷ ls)) >>= λ ls. Some (ks ++ ls)

    turn : with_target (target s x.items) ≡ o
    turn = sym (ap (λ l. targets s l >>= λ ls. Some (ks ++ ls)) (front_names names i x lt is)) ∙ so_far

    pub target_on : (k : Option ℕ) (new : List (Option ℕ)) → target s x.items ≡ Some k → new ≡ ks ++ (k ∷ []) → (rest >>= λ ls. Some (new ++ ls)) ≡ o
    target_on k new found pushed = ap (λ l. rest >>= λ ls. Some (l ++ ls)) pushed ∙ after_target rest ks k ∙ sym (ap with_target found) ∙ turn

    pub target_refused : (f : RuleError) → Rejects f (target s x.items) → Rejects f o
    target_refused faults.Memory none = tt
    target_refused (faults.Broken code) none = sym turn ∙ ap with_target none
