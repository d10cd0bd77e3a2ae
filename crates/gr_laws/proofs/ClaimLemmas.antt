-- What goes with a step that is taken back, and what is left.
use Rattle.std.proofs.Common.{◌≡◌, ℕ, zero, suc, Bool, List, [], ◌∷◌, ◌++◌, length, refl, sym, ◌∙◌, ap, subst, inl, inr}
use Rattle.gr_causal.specs.Sequences.{In, Distinct, Before, IsAt}
use Rattle.gr_causal.specs.Dependence.{hits, collect, dependents, kept, AreTheOthers}
use Rattle.gr_causal.specs.Machine.{undo}
use Rattle.gr_causal.specs.Trips.{IsLogFrom}
use Rattle.gr_causal.proofs.BackwardLemmas.{must_go}
use Rattle.gr_causal.proofs.ClosureLemmas.{dependents_reached}
use Rattle.gr_causal.proofs.DependenceLemmas.{dependents_are, others_are}
use Rattle.gr_causal.proofs.ListLemmas.{true_or_false, cons_is, In-append_cases, In-append_right, Before-one_way}
use Rattle.gr_causal.proofs.MachineTripLemmas.{logs_of}
use Rattle.gr_causal.proofs.PartLemmas.{Before-append_across, last_dependents, part_goes_back}
use Rattle.gr_causal.proofs.PlaceLemmas.{In-at}
use Rattle.gr_causal.proofs.RollbackLemmas.{rolled_back}
use Rattle.gr_causal.proofs.SwapLemmas.{reordered}
use Rattle.gr_program.specs.Programs.{Program}
use Rattle.gr_rules.specs.States.{State, start, put}
use Rattle.gr_rules.specs.Steps.{machine}
use Rattle.gr_laws.specs.Reached.{Logged, IsRun}
use Rattle.gr_laws.specs.Dependence.{clash}
use Rattle.gr_laws.specs.Claim.{LeavesOthers, GoesWithAll, GoesInPart}
use Rattle.gr_laws.proofs.CellLemmas.{machine_laws}
use Rattle.gr_laws.proofs.RunLemmas.{distinct_log}

module _ {A : Type 0} (clash : A → A → Bool) where
  -- on the last step no other depends
  pub last_alone : (K : List A) (x : A) → dependents clash (K ++ x ∷ []) (length K) ≡ x ∷ []
  last_alone [] x = refl
  last_alone (y ∷ K) x = last_alone K x

  pub others_kept : (K : List A) (x : A) → kept clash (K ++ x ∷ []) (length K) ≡ K
  others_kept [] x = refl
  others_kept (y ∷ K) x = ap (λ ks. y ∷ ks) (others_kept K x)

  -- the dependents of a step begin with it
  collect_first : (x : A) (ds L : List A) → (rest : List A) × (collect clash (x ∷ ds) L ≡ x ∷ rest)
  collect_first x ds [] = (ds, refl)
  collect_first x ds (e ∷ L) = elim (true_or_false (hits clash (x ∷ ds) e)) [
    | inl t ↦ let w = collect_first x (ds ++ e ∷ []) L in (w.0, rw t w.1)
    | inr f ↦ let w = collect_first x ds L in (w.0, rw f w.1)
  ]

  dependents_first : (L : List A) (i : ℕ) (x : A) → IsAt L i x → (rest : List A) × (dependents clash L i ≡ x ∷ rest)
  dependents_first [] i x h = absurd h
  dependents_first (y ∷ L) zero x h = let w = collect_first y [] L in (w.0, w.1 ∙ ap (λ z. z ∷ w.0) (sym h))
  dependents_first (y ∷ L) (suc i) x h = dependents_first L i x h

module _ {A : Type 0} where
  pub at_last : (K : List A) (x : A) → IsAt (K ++ x ∷ []) (length K) x
  at_last [] x = refl
  at_last (y ∷ K) x = at_last K x

  Before-behind : (F G : List A) (a b : A) → Before G a b → Before (F ++ G) a b
  Before-behind [] G a b h = h
  Before-behind (y ∷ F) G a b h = inr (Before-behind F G a b h)

  first_in : (F G rest : List A) (x : A) → (F ≡ [] → ⊥) → F ++ G ≡ x ∷ rest → In x F
  first_in [] G rest x some e = absurd (some refl)
  first_in (y ∷ F) G rest x some e = inl (sym (cons_is y x (F ++ G) rest e).0)

module _ (p : Program) where
  pub leaves_others : (log gone left : List (Logged p)) (t : State) → AreTheOthers log gone left → IsRun p left t → LeavesOthers p log gone left t
  leaves_others log gone left t o l = record {
    others = o;
    run = l;
    orders = λ n order. reordered (machine p) (machine_laws p) (start p) left n t l (distinct_log p left t l) order;
  }

  module _ (t : State) (log : List (Logged p)) (l : IsRun p log t) where
    abbrev D : Distinct log
    D = distinct_log p log t l

    -- a step goes with all that depends on it
    pub with_all : (i : ℕ) (x : Logged p) (left : List (Logged p)) (u : State) → IsAt log i x → left ≡ kept (clash p) log i → IsRun p left u
        → GoesWithAll p log x (dependents (clash p) log i) left u
    with_all i x left u at e run =
        let d = distinct_log p log t l in record {
          there = In-at log i x at;
          each = dependents_reached (clash p) log i x d at;
          in_order = (dependents_are (clash p) log i x d at).part.in_order;
          leaves = leaves_others log (dependents (clash p) log i) left u
              (subst (AreTheOthers log (dependents (clash p) log i)) (sym e) (others_are (clash p) log i d)) run;
          least = λ back rest trip out.
              must_go (clash p) (IsLogFrom (machine p) (start p)) (logs_of (machine p) (machine_laws p) (start p)) log i x back rest d at trip out;
        }

    -- only the last of the steps that depend on it go
    pub in_part : (i : ℕ) (x : Logged p) (front gone left : List (Logged p)) (u : State) → IsAt log i x → dependents (clash p) log i ≡ front ++ gone
        → (front ≡ [] → ⊥) → AreTheOthers log gone left → IsRun p left u → GoesInPart p log x gone left u
    in_part i x front gone left u at e some o run =
        let d = distinct_log p log t l in
        let w = dependents_are (clash p) log i x d at in
        let reached = dependents_reached (clash p) log i x d at in
        let before : (a b : Logged p) → Before (front ++ gone) a b → Before log a b = λ a b h. w.part.in_order a b (subst (λ ds. Before ds a b) (sym e) h) in
        let first = dependents_first (clash p) log i x at in
        let in_front : In x front = first_in front gone first.0 x some (sym e ∙ first.1) in
        let not_gone : In x gone → ⊥ = λ h.
        let twice = before x x (Before-append_across front gone x x in_front h) in Before-one_way log x x d twice twice in record {
          stays = elim (o.each x (In-at log i x at)) [ inl h ↦ absurd (not_gone h) | inr h ↦ h ];
          each = λ r h. (reached r).0 (subst (In r) (sym e) (In-append_right r front gone h));
          in_order = λ a b h. before a b (Before-behind front gone a b h);
          leaves = leaves_others log gone left u o run;
          last = λ a b h k c.
              elim (In-append_cases b front gone (subst (In b) e ((reached b).1 c))) [
                | inl f ↦ before b a (Before-append_across front gone b a f h)
                | inr g ↦ absurd ((o.others b k).1 g)
              ];
        }

  -- the last step goes alone
  pub alone : (log : List (Logged p)) (x : Logged p) (t u : State) → IsRun p (log ++ x ∷ []) t → IsRun p log u
      → GoesWithAll p (log ++ x ∷ []) x (x ∷ []) log u
  alone log x t u l run =
      subst (λ gone. GoesWithAll p (log ++ x ∷ []) x gone log u) (last_alone (clash p) log x)
      (with_all t (log ++ x ∷ []) l (length log) x log u (at_last log x) (sym (others_kept (clash p) log x)) run)

  pub rolled_back_with_all : (t : State) (log : List (Logged p)) (i : ℕ) (x : Logged p) → IsRun p log t → IsAt log i x
      → GoesWithAll p log x (dependents (clash p) log i) (kept (clash p) log i) (undo put t (dependents (clash p) log i))
  rolled_back_with_all t log i x l at =
      with_all t log l i x (kept (clash p) log i) (undo put t (dependents (clash p) log i)) at refl (rolled_back (machine p) (machine_laws p) (start p) log t i l)

  pub rolled_back_in_part : (t : State) (log front gone left : List (Logged p)) (i : ℕ) (x : Logged p) → IsRun p log t → IsAt log i x
      → dependents (clash p) log i ≡ front ++ gone → (front ≡ [] → ⊥) → AreTheOthers log gone left → GoesInPart p log x gone left (undo put t gone)
  rolled_back_in_part t log front gone left i x l at e some o =
      let d = distinct_log p log t l in
      let run = (part_goes_back (machine p) (machine_laws p) (start p) t log gone left l d (last_dependents (clash p) log front gone i d e) o).0 in
      in_part t log l i x front gone left (undo put t gone) at e some o run
