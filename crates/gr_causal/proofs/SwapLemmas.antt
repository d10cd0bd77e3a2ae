-- Swaps of neighbours that do not conflict change neither the state nor what is noted of a step.
use Rattle.std.proofs.Common.{◌≡◌, false, List, [], ◌∷◌, ◌++◌, sym, ◌∙◌, ap, subst}
use Rattle.gr_causal.specs.Sequences.{Distinct}
use Rattle.gr_causal.specs.Orders.{IsOrder, Swaps}
use Rattle.gr_causal.specs.Orders.Swaps.{none, here, there, and}
use Rattle.gr_causal.specs.Machine.{Machine, Laws, StepOf, conflict, undo, IsLog}
use Rattle.gr_causal.proofs.StepLemmas.{swapped, free, unstep, restore}
use Rattle.gr_causal.proofs.PathLemmas.{Path, path_of, log_of, path-append}
use Rattle.gr_causal.proofs.OrderLemmas.{reached}

module _ (M : Machine) (laws : Laws M) where
  open M use {State, put}

  pub swaps_keep : (L N : List (StepOf M)) → Swaps (conflict M) L N → (s t : State) → Path M s L t → Path M s N t
  swaps_keep L N none s t p = p
  swaps_keep L N (here {a = a} {b = b} {L = K} c) s t p =
      let w = swapped M laws s a p.0 b p.2.0 p.1 p.2.1 (free M laws a b c) in
      (w.0, w.1, (p.2.0, w.2, p.2.2))
  swaps_keep L N (there {a = a} {L = L'} {N = N'} w) s t p = (p.0, p.1, swaps_keep L' N' w p.0 t p.2)
  swaps_keep L N (and {L = L'} {N = N'} {P = P'} v w) s t p = swaps_keep N' P' w s t (swaps_keep L' N' v s t p)

  -- a run in another order that respects dependence ends in the same state, and each step is what it was
  pub reordered : (s : State) (L N : List (StepOf M)) (t : State) → IsLog M s L t → Distinct L → IsOrder (conflict M) L N → IsLog M s N t
  reordered s L N t l d o = log_of M s N t (swaps_keep L N (reached (conflict M) L N d o) s t (path_of M s L t l))

  -- steps at the end are taken back, the last first
  pub undone : (L : List (StepOf M)) (s t : State) → Path M s L t → undo put t L ≡ s
  undone [] s t p = sym p
  undone (r ∷ L) s t p = ap (λ x. restore M x r.saved) (undone L p.0 t p.2) ∙ unstep M laws s r p.0 p.1

  pub under : (K L N : List (StepOf M)) → Swaps (conflict M) L N → Swaps (conflict M) (K ++ L) (K ++ N)
  under [] L N w = w
  under (r ∷ K) L N w = there (under K L N w)

  pub swapped_in_log : (s t : State) (front back : List (StepOf M)) (a b : StepOf M) → conflict M a b ≡ false → IsLog M s (front ++ a ∷ b ∷ back) t → IsLog M s (front ++ b ∷ a ∷ back) t
  swapped_in_log s t front back a b f l =
      log_of M s (front ++ b ∷ a ∷ back) t (swaps_keep (front ++ a ∷ b ∷ back) (front ++ b ∷ a ∷ back) (under front (a ∷ b ∷ back) (b ∷ a ∷ back) (here f)) s t (path_of M s (front ++ a ∷ b ∷ back) t l))

  pub last_undone : (s t : State) (L : List (StepOf M)) (r : StepOf M) → IsLog M s (L ++ r ∷ []) t → IsLog M s L (undo put t (r ∷ []))
  last_undone s t L r l =
      let q = path-append M s L (r ∷ []) t (path_of M s (L ++ r ∷ []) t l) in
      log_of M s L _ (subst (Path M s L) (sym (undone (r ∷ []) q.0 t q.2)) q.1)
