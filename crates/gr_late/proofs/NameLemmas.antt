-- Names in queues, each once, and who is ready with more in a queue.
use Rattle.std.proofs.Common.{◌≡◌, ℕ, Bool, true, false, ◌||◌, if◌then◌else◌, List, [], ◌∷◌, ◌++◌, map, refl, sym, ◌∙◌, ap, subst, inl, inr}
use Rattle.std.specs.List.{list_any}
use Rattle.gr_causal.specs.Sequences.{In}
use Rattle.gr_causal.proofs.ListLemmas.{true_or_false}
use Rattle.gr_channels.specs.declared.waiter.Waiter.{Waiter}
use Rattle.gr_channels.specs.Objects.{has_any}
use Rattle.gr_rules.specs.Communications.{once}
use Rattle.gr_rules.specs.States.{same_go}
use Rattle.gr_laws.proofs.CellLemmas.{no_truth, go_is}
use Rattle.gr_late.proofs.OffAttempts.{NoneOf}

pub in_once : (ns : List (List ℕ)) (n : List ℕ) → In n (once ns) → In n ns
in_once [] n i = i
in_once (m ∷ ns) n i = by (list_any (same_go m) ns) (in_once ns n) i
  where
    by : (b : Bool) → (In n (once ns) → In n ns) → In n (if b then once ns else m ∷ once ns) → In n (m ∷ ns)
    by true ih j = inr (ih j)
    by false ih (inl e) = inl e
    by false ih (inr j) = inr (ih j)

pub none_in : {X : Type 0} (name : List ℕ) (ws : List (Waiter X)) → NoneOf name ws → (b : List ℕ) → In b (map (λ w. w.go) ws) → b ≡ name → ⊥
none_in name [] h b i e = i
none_in name (w ∷ ws) h b i e = elim i [ inl q ↦ h.0 (sym q ∙ e) | inr j ↦ none_in name ws h.1 b j e ]

known : (ns : List (List ℕ)) (n : List ℕ) → list_any (same_go n) ns ≡ true → In n ns
known [] n e = absurd (no_truth e)
known (m ∷ ns) n e = elim (true_or_false (same_go n m)) [
  | inl t ↦ inl (go_is n m t)
  | inr f ↦ inr (known ns n (sym (ap (λ b. b || list_any (same_go n) ns) f) ∙ e))
]

pub to_once : (ns : List (List ℕ)) (n : List ℕ) → In n ns → In n (once ns)
to_once [] n i = i
to_once (m ∷ ns) n i = by (list_any (same_go m) ns) refl (to_once ns n) i
  where
    by : (b : Bool) → list_any (same_go m) ns ≡ b → (In n ns → In n (once ns)) → In n (m ∷ ns) → In n (if b then once ns else m ∷ once ns)
    by true e ih (inl q) = ih (subst (λ z. In z ns) (sym q) (known ns m e))
    by true e ih (inr j) = ih j
    by false e ih (inl q) = inl q
    by false e ih (inr j) = inr (ih j)

pub first_of : {X : Type 0} (name : List ℕ) (xs zs : List (Waiter X)) (z : Waiter X) → z.go ≡ name → In name (map (λ w. w.go) (xs ++ (z ∷ zs)))
first_of name [] zs z e = inl (sym e)
first_of name (x ∷ xs) zs z e = inr (first_of name xs zs z e)

-- what is ready where the goroutine has not yet come is ready where it waits
pub less_ready : {X : Type 0} (b d : Bool) (xs zs : List X) → (b || has_any (xs ++ zs) || d) ≡ false → (b || has_any xs || d) ≡ false
less_ready false d [] [] h = h
less_ready false d [] (z ∷ zs) h = absurd (no_truth (sym h))
less_ready false d (x ∷ xs) zs h = absurd (no_truth (sym h))
less_ready true d xs zs h = absurd (no_truth (sym h))
