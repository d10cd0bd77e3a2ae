-- Trips from one log that end in one configuration are causally equivalent, and each trip can go back first.
use Rattle.std.proofs.Common.{◌≡◌, Bool, List, [], ◌∷◌, ◌++◌, ◌↔◌, sym, subst, append_assoc, append-nil}
use Rattle.std.proofs.lemmas.List.{map-append}
use Rattle.gr_causal.specs.Orders.{Swaps}
use Rattle.gr_causal.specs.Orders.Swaps.{none, here, there, and}
use Rattle.gr_causal.specs.Trips.{Move, taking, Leads, Trip, Equivalent}
use Rattle.gr_causal.specs.Trips.Move.{forth, back}
use Rattle.gr_causal.specs.Trips.Equivalent.{same, swap, cancel, behind, other_way, onward}
use Rattle.gr_causal.proofs.TakeLemmas.{swaps_under}
use Rattle.gr_causal.proofs.MoveLemmas.{AreLogs, turned, leads_possible, trip_possible, trip_one}
use Rattle.gr_causal.proofs.TripLemmas.{returning, ends_alike, alike_append, alike_behind, way_back, back_and_forth}

module _ {A : Type 0} (clash : A → A → Bool) (Possible : List A → Type 0) (logs : AreLogs clash Possible) where
  open logs use {off, kept, front, both}

  abbrev Led : List A → Move A → List A → Type 0
  Led L m N = Leads clash Possible L m N

  abbrev Went : List A → List (Move A) → List A → Type 0
  Went L ms N = Trip clash Possible L ms N

  abbrev Alike : List A → List (Move A) → List (Move A) → Type 0
  Alike L ms ns = Equivalent clash Possible L ms ns

  one_more : (P : List A) (r : A) (L : List A) → Possible (P ++ r ∷ L) → Possible ((P ++ r ∷ []) ++ L)
  one_more P r L p = rw append_assoc p

  takes_one : (P : List A) (r : A) (L : List A) → Possible (P ++ r ∷ L) → Led P (forth r) (P ++ r ∷ [])
  takes_one P r L p = (front (P ++ r ∷ []) L (one_more P r L p), none)

  -- each log is reached by taking its steps
  pub takes_all : (P L : List A) → Possible (P ++ L) → Went P (taking L) (P ++ L)
  takes_all P [] p = rw append-nil none
  takes_all P (r ∷ L) p = (P ++ r ∷ [], takes_one P r L p, let w = takes_all (P ++ r ∷ []) L (one_more P r L p) in rw append_assoc at w)

  -- logs of one configuration are reached by equivalent trips
  pub taken_alike : (P L K : List A) → Swaps clash L K → Possible (P ++ L) → Alike P (taking L) (taking K)
  taken_alike P L K none p = same
  taken_alike P L K (here {a = a} {b = b} {L = L'} c) p =
      let q = kept (P ++ a ∷ b ∷ L') (P ++ b ∷ a ∷ L') (swaps_under clash P (a ∷ b ∷ L') (b ∷ a ∷ L') (here c)) p in
      swap (P ++ a ∷ []) (P ++ b ∷ []) (takes_one P a (b ∷ L') p) (takes_one P b (a ∷ L') q) c
  taken_alike P L K (there {a = a} {L = L'} {N = K'} w) p = behind (P ++ a ∷ []) (takes_one P a L' p) (taken_alike (P ++ a ∷ []) L' K' w (one_more P a L' p))
  taken_alike P L K (and {L = L'} {N = N'} {P = K'} v w) p =
      onward (taken_alike P L' N' v p) (taken_alike P N' K' w (kept (P ++ L') (P ++ N') (swaps_under clash P L' N' v) p))

  -- a move goes from the trip that takes a log to the one that takes the log where it leads
  pub move_alike : (L : List A) (m : Move A) (K : List A) → Possible L → Led L m K → Alike [] (taking L ++ m ∷ []) (taking K)
  move_alike L (forth r) K p h =
      let q = kept K (L ++ r ∷ []) (turned clash Possible logs (L ++ r ∷ []) K h.1) h.0 in
      let w = taken_alike [] (L ++ r ∷ []) K h.1 q in
      rw map-append at w
  move_alike L (back r) K p h =
      let w : Alike [] (taking L) (taking K ++ forth r ∷ []) = let v = taken_alike [] L (K ++ r ∷ []) (turned clash Possible logs (K ++ r ∷ []) L h) p in rw map-append at v in
      let there_and_back : Alike K (forth r ∷ back r ∷ []) [] = cancel L (p, h) in
      let q : Possible K = leads_possible clash Possible logs L (back r) K p h in
      let e : (taking K ++ forth r ∷ []) ++ back r ∷ [] ≡ taking K ++ forth r ∷ back r ∷ [] = append_assoc (taking K) (forth r ∷ []) (back r ∷ []) in
      onward (alike_append clash Possible logs [] _ _ (back r ∷ []) w)
      (subst (λ x. Alike [] x (taking K)) (sym e)
      (subst (Alike [] (taking K ++ forth r ∷ back r ∷ [])) (append-nil (taking K)) (alike_behind clash Possible logs [] (taking K) K (forth r ∷ back r ∷ []) [] (takes_all [] K q) there_and_back)))

  pub trip_alike : (L : List A) (ms : List (Move A)) (N : List A) → Possible L → Went L ms N → Alike [] (taking L ++ ms) (taking N)
  trip_alike L [] N p h = rw append-nil (taken_alike [] L N h p)
  trip_alike L (m ∷ ms) N p h =
      let q = leads_possible clash Possible logs L m h.0 p h.1 in
      let e : (taking L ++ m ∷ []) ++ ms ≡ taking L ++ m ∷ ms = append_assoc (taking L) (m ∷ []) ms in
      onward (subst (λ x. Alike [] x (taking h.0 ++ ms)) e (alike_append clash Possible logs [] (taking L ++ m ∷ []) (taking h.0) ms (move_alike L m h.0 p h.1)))
      (trip_alike h.0 ms N q h.2)

  -- causal consistency
  pub same_end : (L : List A) (ms ns : List (Move A)) (N P : List A) → Possible L → Went L ms N → Went L ns P → Swaps clash N P → Alike L ms ns
  same_end L ms ns N P p h k w =
      let start : Possible [] = front [] L p in
      let way = takes_all [] L p in
      let q = kept N P w (trip_possible clash Possible logs L ms N p h) in
      let e : Alike [] (taking L ++ ms) (taking L ++ ns) = onward (trip_alike L ms N p h) (onward (taken_alike [] N P w (trip_possible clash Possible logs L ms N p h)) (other_way (trip_alike L ns P p k))) in
      let f = alike_behind clash Possible logs L (returning (taking L)) [] _ _ (way_back clash Possible logs [] (taking L) L start way) e in
      onward (other_way (back_and_forth clash Possible logs [] (taking L) L start way ms)) (onward f (back_and_forth clash Possible logs [] (taking L) L start way ns))

  pub consistent : (L : List A) (ms ns : List (Move A)) (N P : List A) → Possible L → Went L ms N → Went L ns P → (Alike L ms ns ↔ Swaps clash N P)
  consistent L ms ns N P p h k = (
    λ e. trip_one clash Possible logs L ns N P ((ends_alike clash Possible logs L ms ns p e N).0 h) k,
    same_end L ms ns N P p h k,
  )
