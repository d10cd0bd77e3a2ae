-- Doing again what was taken back, and taking back one step from the middle of a log.
use Rattle.std.proofs.Common.{◌≡◌, ℕ, false, List, [], ◌∷◌, ◌++◌, refl, sym, ◌∙◌, ap, subst, inl, inr, append_assoc}
use Rattle.gr_causal.specs.Sequences.{In}
use Rattle.gr_causal.specs.Dependence.{dependents, kept}
use Rattle.gr_causal.specs.Orders.{Swaps}
use Rattle.gr_causal.specs.Orders.Swaps.{none, here, there, and}
use Rattle.gr_causal.specs.Machine.{Machine, Laws, StepOf, conflict, undo, IsLog}
use Rattle.gr_causal.proofs.ListLemmas.{some_is}
use Rattle.gr_causal.proofs.StepLemmas.{Goes, restore, free, in_or_not, restored, untouched, moved}
use Rattle.gr_causal.proofs.PathLemmas.{Path, path_of, log_of, path-append}
use Rattle.gr_causal.proofs.AsideLemmas.{aside}
use Rattle.gr_causal.proofs.SwapLemmas.{swaps_keep, undone, under}

module _ (M : Machine) (laws : Laws M) where
  open M use {Object, State, look, put, touches, writes}
  open laws use {ext, within, only_writes}

  pub moved_to_end : (s t : State) (L : List (StepOf M)) (i : ℕ) → IsLog M s L t → IsLog M s (kept (conflict M) L i ++ dependents (conflict M) L i) t
  moved_to_end s t L i l = log_of M s _ t (swaps_keep M laws L _ (aside (conflict M) L i) s t (path_of M s L t l))

  -- the dependents go again from where they were taken back
  pub redone : (s t : State) (L : List (StepOf M)) (i : ℕ) → IsLog M s L t → IsLog M (undo put t (dependents (conflict M) L i)) (dependents (conflict M) L i) t
  redone s t L i l =
      let ds = dependents (conflict M) L i in
      let q = path-append M s (kept (conflict M) L i) ds t (path_of M s _ t (moved_to_end s t L i l)) in
      log_of M _ ds t (subst (λ x. Path M x ds t) (sym (undone M laws ds q.0 t q.2)) q.2)

  -- each of them, in its turn, ends where it is taken back
  pub each_ends : (s t : State) (L left gone : List (StepOf M)) (r : StepOf M) (i : ℕ) → IsLog M s L t → dependents (conflict M) L i ≡ left ++ r ∷ gone → IsLog M (undo put t (r ∷ gone)) (r ∷ []) (undo put t gone)
  each_ends s t L left gone r i l e =
      let p = path_of M _ (left ++ r ∷ gone) t (subst (λ ds. IsLog M (undo put t ds) ds t) e (redone s t L i l)) in
      let q = path-append M _ left (r ∷ gone) t p in
      let w = q.2 in
      let before = undone M laws (r ∷ gone) q.0 t w in
      let after = undone M laws gone w.0 t w.2 in
      log_of M _ (r ∷ []) _ (subst (λ x. Path M x (r ∷ []) (undo put t gone)) (sym before) (w.0, w.1, sym after))

  pub last_again : (s t : State) (L : List (StepOf M)) (r : StepOf M) → IsLog M s (L ++ r ∷ []) t → IsLog M (undo put t (r ∷ [])) (r ∷ []) t
  last_again s t L r l =
      let q = path-append M s L (r ∷ []) t (path_of M s (L ++ r ∷ []) t l) in
      log_of M _ (r ∷ []) t (subst (λ x. Path M x (r ∷ []) t) (sym (undone M laws (r ∷ []) q.0 t q.2)) q.2)

  -- putting back what a step saved gives back what it wrote over, and nothing else changes
  pub put_back : (s t u : State) (r : StepOf M) → IsLog M s (r ∷ []) t → (o : Object) → In o (writes r.note) → look (undo put u (r ∷ [])) o ≡ look s o
  put_back s t u r l o i =
      let g = (path_of M s (r ∷ []) t l).1 in
      ap (λ cs. look (restore M u cs) o) g.keeps ∙ restored M laws u s (writes r.note) o (inl i)

  pub left_as_is : (s t u : State) (r : StepOf M) → IsLog M s (r ∷ []) t → (o : Object) → (In o (writes r.note) → ⊥) → look (undo put u (r ∷ [])) o ≡ look u o
  left_as_is s t u r l o n =
      let g = (path_of M s (r ∷ []) t l).1 in
      ap (λ cs. look (restore M u cs) o) g.keeps ∙ untouched M laws u s (writes r.note) o n

  -- the step goes again to the state where it was taken back, if what it touched stood there as it had left it
  pub goes_again : (s t u : State) (r : StepOf M) → IsLog M s (r ∷ []) t → ((o : Object) → In o (touches r.note) → look u o ≡ look t o) → IsLog M (undo put u (r ∷ [])) (r ∷ []) u
  goes_again s t u r l h =
      let p = path_of M s (r ∷ []) t l in
      let g : Goes M s r t = subst (Goes M s r) p.2 p.1 in
      let v = undo put u (r ∷ []) in
      let agrees : (o : Object) → In o (touches r.note) → look v o ≡ look s o = λ o i. elim (in_or_not M laws o (writes r.note)) [
        | inl w ↦ put_back s t u r l o w
        | inr n ↦ left_as_is s t u r l o n ∙ h o i ∙ only_writes s t r.event r.note g.does o n
      ] in
      let m = moved M laws s r t v g agrees in
      let ends : m.0 ≡ u = ext m.0 u (λ o. elim (in_or_not M laws o (writes r.note)) [
        | inl w ↦ m.2 o w ∙ sym (h o (within s t r.event r.note g.does o w))
        | inr n ↦ only_writes v m.0 r.event r.note m.1.does o n ∙ left_as_is s t u r l o n
      ]) in
      log_of M v (r ∷ []) u (m.0, m.1, ends)

  abbrev pub FreeOf : StepOf M → List (StepOf M) → Type 0
  FreeOf r L = (b : StepOf M) → In b L → conflict M r b ≡ false

  to_back : (r : StepOf M) (L : List (StepOf M)) → FreeOf r L → Swaps (conflict M) (r ∷ L) (L ++ r ∷ [])
  to_back r [] f = none
  to_back r (b ∷ L) f = and (here (f b (inl refl))) (there (to_back r L (λ c i. f c (inr i))))

  pub from_middle : (s u : State) (front back : List (StepOf M)) (r : StepOf M) → IsLog M s (front ++ r ∷ back) u → FreeOf r back
      → IsLog M s (front ++ back) (undo put u (r ∷ [])) × IsLog M (undo put u (r ∷ [])) (r ∷ []) u
  from_middle s u front back r l f =
      let p = swaps_keep M laws (front ++ r ∷ back) (front ++ (back ++ r ∷ [])) (under M laws front _ _ (to_back r back f)) s u (path_of M s _ u l) in
      let q = path-append M s (front ++ back) (r ∷ []) u (subst (λ L. Path M s L u) (sym (append_assoc front back (r ∷ []))) p) in
      let e = undone M laws (r ∷ []) q.0 u q.2 in (
        log_of M s (front ++ back) _ (subst (Path M s (front ++ back)) (sym e) q.1),
        log_of M _ (r ∷ []) u (subst (λ x. Path M x (r ∷ []) u) (sym e) q.2),
      )

  stands : (r : StepOf M) (o : Object) → In o (touches r.note) → (L : List (StepOf M)) → FreeOf r L → (s t : State) → Path M s L t → look t o ≡ look s o
  stands r o i [] f s t p = ap (λ x. look x o) (sym p)
  stands r o i (b ∷ L) f s t p =
      let n = (free M laws r b (f b (inl refl))).second o in
      stands r o i L (λ c j. f c (inr j)) p.0 t p.2 ∙ only_writes s p.0 b.event b.note p.1.does o (λ w. n w i)

  -- what a step touched stands as it left it where no later step conflicts with it
  pub still_stands : (s t u : State) (front back : List (StepOf M)) (r : StepOf M) → IsLog M s (front ++ r ∷ []) t → IsLog M s (front ++ r ∷ back) u → FreeOf r back
      → (o : Object) → In o (touches r.note) → look u o ≡ look t o
  still_stands s t u front back r k l f o i =
      let split : front ++ r ∷ back ≡ (front ++ r ∷ []) ++ back = sym (append_assoc front (r ∷ []) back) in
      let q = path-append M s (front ++ r ∷ []) back u (subst (λ L. Path M s L u) split (path_of M s _ u l)) in
      let at : q.0 ≡ t = ap (λ (x : State × List (StepOf M)). x.0) (some_is _ _ (sym (log_of M s (front ++ r ∷ []) q.0 q.1) ∙ k)) in
      stands r o i back f q.0 u q.2 ∙ ap (λ x. look x o) at
