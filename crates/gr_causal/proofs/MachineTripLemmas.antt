-- The logs of a machine from one state, and what trips between them do to states.
use Rattle.std.proofs.Common.{◌≡◌, true, false, List, [], ◌∷◌, ◌++◌, ◌↔◌, refl, sym, ◌∙◌, subst, inl, inr}
use Rattle.gr_causal.specs.Orders.{Swaps}
use Rattle.gr_causal.specs.Machine.{Machine, Laws, StepOf, conflict, undo, IsLog}
use Rattle.gr_causal.specs.Trips.{Move, IsLogFrom, TripFrom, Changes}
use Rattle.gr_causal.specs.Trips.Move.{forth, back}
use Rattle.gr_causal.proofs.ListLemmas.{true_or_false}
use Rattle.gr_causal.proofs.StepLemmas.{free, moved, conflict_back}
use Rattle.gr_causal.proofs.PathLemmas.{Path, path_of, log_of, log_split, log_join, one_end}
use Rattle.gr_causal.proofs.SwapLemmas.{swaps_keep, last_undone}
use Rattle.gr_causal.proofs.TakeLemmas.{swaps_back}
use Rattle.gr_causal.proofs.MoveLemmas.{AreLogs, trip_possible}

module _ (M : Machine) where
  pub apart_back : (a b : StepOf M) → conflict M a b ≡ false → conflict M b a ≡ false
  apart_back a b f = elim (true_or_false (conflict M b a)) [
    | inl t ↦ let u = conflict_back M b a t in absurd (let q : true ≡ false = sym u ∙ f in cc)
    | inr g ↦ g
  ]

module _ (M : Machine) (laws : Laws M) where
  open M use {Object, State, look, put, touches, writes}
  open laws use {only_writes}

  pub log_swapped : (L N : List (StepOf M)) → Swaps (conflict M) L N → (s t : State) → IsLog M s L t → IsLog M s N t
  log_swapped L N w s t l = log_of M s N t (swaps_keep M laws L N w s t (path_of M s L t l))

  -- two steps that do not conflict and are both possible are possible one after the other
  both_possible : (s : State) (L : List (StepOf M)) (a b : StepOf M) → IsLogFrom M s (L ++ a ∷ []) → IsLogFrom M s (L ++ b ∷ []) → conflict M a b ≡ false → IsLogFrom M s ((L ++ a ∷ []) ++ b ∷ [])
  both_possible s L a b h k c =
      let x = log_split M s L (a ∷ []) h.0 h.1 in
      let y = log_split M s L (b ∷ []) k.0 k.1 in
      let e : y.0 ≡ x.0 = one_end M s y.0 x.0 L y.1 x.1 in
      let g = path_of M x.0 (a ∷ []) h.0 x.2 in
      let i = path_of M x.0 (b ∷ []) k.0 (subst (λ z. IsLog M z (b ∷ []) k.0) e y.2) in
      let f = free M laws a b c in
      let w = moved M laws x.0 b i.0 g.0 i.1 (λ o j. only_writes x.0 g.0 a.event a.note g.1.does o (λ v. f.first o v j)) in
      (w.0, log_join M s h.0 w.0 (L ++ a ∷ []) (b ∷ []) h.1 (log_of M h.0 (b ∷ []) w.0 (subst (λ z. Path M z (b ∷ []) w.0) g.2 (w.0, w.1, refl {a = w.0}))))

  pub logs_of : (s : State) → AreLogs (conflict M) (IsLogFrom M s)
  logs_of s = record {
    off = apart_back M;
    kept = λ L N w h. (h.0, log_swapped L N w s h.0 h.1);
    front = λ L N h. let x = log_split M s L N h.0 h.1 in (x.0, x.1);
    both = both_possible s;
  }

  -- the moves of a trip change the state of its first log into that of its last
  pub changes : (s t : State) (L : List (StepOf M)) (ms : List (Move (StepOf M))) (N : List (StepOf M)) (u : State) → IsLog M s L t → TripFrom M s L ms N → IsLog M s N u → Changes M t ms u
  changes s t L [] N u l h k = one_end M s t u N (log_swapped L N h s t l) k
  changes s t L (forth r ∷ ms) N u l h k =
      let q = h.1.0 in
      let w = log_swapped h.0 (L ++ r ∷ []) (swaps_back (conflict M) (apart_back M) (L ++ r ∷ []) h.0 h.1.1) s q.0 q.1 in
      let x = log_split M s L (r ∷ []) q.0 w in
      (q.0, subst (λ z. IsLog M z (r ∷ []) q.0) (one_end M s x.0 t L x.1 l) x.2, changes s q.0 h.0 ms N u q.1 h.2 k)
  changes s t L (back r ∷ ms) N u l h k =
      let w = log_swapped L (h.0 ++ r ∷ []) (swaps_back (conflict M) (apart_back M) (h.0 ++ r ∷ []) L h.1) s t l in
      changes s (undo put t (r ∷ [])) h.0 ms N u (last_undone M laws s t h.0 r w) h.2 k

  one_change : (ms : List (Move (StepOf M))) (t u v : State) → Changes M t ms u → Changes M t ms v → u ≡ v
  one_change [] t u v h k = sym h ∙ k
  one_change (forth r ∷ ms) t u v h k = one_change ms h.0 u v h.2 (subst (λ z. Changes M z ms v) (one_end M t k.0 h.0 (r ∷ []) k.1 h.1) k.2)
  one_change (back r ∷ ms) t u v h k = one_change ms (undo put t (r ∷ [])) u v h k

  pub changes_are : (s t : State) (L : List (StepOf M)) (ms : List (Move (StepOf M))) (N : List (StepOf M)) → IsLog M s L t → TripFrom M s L ms N → (u : State) → IsLog M s N u ↔ Changes M t ms u
  changes_are s t L ms N l h u = (
    changes s t L ms N u l h,
    λ c.
        let p = trip_possible (conflict M) (IsLogFrom M s) (logs_of s) L ms N (t, l) h in
        subst (IsLog M s N) (one_change ms t p.0 u (changes s t L ms N p.0 l h p.1) c) p.1,
  )
