-- Trips that are causally equivalent are those that end in one configuration, and each trip can go back first.
use Rattle.std.proofs.Common.{◌≡◌, Bool, List, [], ◌∷◌, ◌++◌, ◌↔◌, refl, sym, subst, subst₂, inl, inr, append_assoc}
use Rattle.gr_causal.specs.Orders.{Swaps}
use Rattle.gr_causal.specs.Orders.Swaps.{none}
use Rattle.gr_causal.specs.Trips.{Move, step_of, reversed, Leads, Trip, Independent, Equivalent}
use Rattle.gr_causal.specs.Trips.Move.{forth, back}
use Rattle.gr_causal.specs.Trips.Equivalent.{same, swap, cancel, behind, other_way, onward}
use Rattle.gr_causal.proofs.MoveLemmas.{AreLogs, turned, leads_from, leads_possible, leads_back, leads_one, square, trip_from, trip_append}

-- the way back of a trip
abbrev pub returning : {A : Type 0} → List (Move A) → List (Move A)
returning [] = []
returning (m ∷ ms) = returning ms ++ reversed m ∷ []

module _ {A : Type 0} (clash : A → A → Bool) (Possible : List A → Type 0) (logs : AreLogs clash Possible) where
  open logs use {off, kept, front, both}

  abbrev Led : List A → Move A → List A → Type 0
  Led L m N = Leads clash Possible L m N

  abbrev Went : List A → List (Move A) → List A → Type 0
  Went L ms N = Trip clash Possible L ms N

  abbrev Alike : List A → List (Move A) → List (Move A) → Type 0
  Alike L ms ns = Equivalent clash Possible L ms ns

  -- equivalent trips end in one configuration
  pub ends_alike : (L : List A) (ms ns : List (Move A)) → Possible L → Alike L ms ns → (N : List A) → Went L ms N ↔ Went L ns N
  ends_alike L ms ns p same N = (λ h. h, λ h. h)
  ends_alike L ms ns p (swap {m = m} {n = n} {ms = ms'} K P h k c) N = (
    λ w. swapped m n K P h k c ms' w,
    λ w. swapped n m P K k h (off (step_of m) (step_of n) c) ms' w,
  )
    where
      swapped : (m n : Move A) (K P : List A) → Led L m K → Led L n P → Independent clash m n → (ms : List (Move A)) → Went L (m ∷ n ∷ ms) N → Went L (n ∷ m ∷ ms) N
      swapped m n K P h k c ms w = elim (square clash Possible logs L m n K P h k c) [
        | inl e ↦ subst₂ (λ x y. Went L (x ∷ y ∷ ms) N) e.0 (sym e.0) w
        | inr q ↦
            let start = leads_one clash Possible logs L m w.0 K w.1 h in
            let n' = leads_from clash Possible logs w.0 K n w.2.0 start w.2.1 in
            (P, k, (q.0, q.2, trip_from clash Possible logs w.2.0 q.0 ms N (leads_one clash Possible logs K n w.2.0 q.0 n' q.1) w.2.2))
      ]
  ends_alike L ms ns p (cancel {m = m} {ms = ms'} K h) N = (
    λ w. trip_from clash Possible logs w.2.0 L ms' N (leads_one clash Possible logs w.0 (reversed m) w.2.0 L w.2.1 (leads_back clash Possible logs L m w.0 p w.1)) w.2.2,
    λ w. (K, h, (L, leads_back clash Possible logs L m K p h, w)),
  )
  ends_alike L ms ns p (behind {m = m} {ms = ms'} {ns = ns'} K h e) N =
      let ih = ends_alike K ms' ns' (leads_possible clash Possible logs L m K p h) e N in (
        λ w. (K, h, ih.0 (trip_from clash Possible logs w.0 K ms' N (leads_one clash Possible logs L m w.0 K w.1 h) w.2)),
        λ w. (K, h, ih.1 (trip_from clash Possible logs w.0 K ns' N (leads_one clash Possible logs L m w.0 K w.1 h) w.2)),
      )
  ends_alike L ms ns p (other_way e) N = let ih = ends_alike L ns ms p e N in (ih.1, ih.0)
  ends_alike L ms ns p (onward {ms = ms'} {ns = ns'} {ps = ps'} e f) N =
      let i = ends_alike L ms' ns' p e N in
      let j = ends_alike L ns' ps' p f N in
      (λ w. j.0 (i.0 w), λ w. i.1 (j.1 w))

  -- what follows, and what goes before
  pub alike_append : (L : List A) (ms ns ps : List (Move A)) → Alike L ms ns → Alike L (ms ++ ps) (ns ++ ps)
  alike_append L ms ns ps same = same
  alike_append L ms ns ps (swap K N h k c) = swap K N h k c
  alike_append L ms ns ps (cancel K h) = cancel K h
  alike_append L ms ns ps (behind {ms = ms'} {ns = ns'} K h e) = behind K h (alike_append K ms' ns' ps e)
  alike_append L ms ns ps (other_way e) = other_way (alike_append L ns ms ps e)
  alike_append L ms ns ps (onward {ms = ms'} {ns = ns'} {ps = ps'} e f) = onward (alike_append L ms' ns' ps e) (alike_append L ns' ps' ps f)

  pub alike_from : (L K : List A) (ms ns : List (Move A)) → Swaps clash L K → Alike L ms ns → Alike K ms ns
  alike_from L K ms ns w same = same
  alike_from L K ms ns w (swap {m = m} {n = n} X Y h k c) = swap X Y (leads_from clash Possible logs L K m X w h) (leads_from clash Possible logs L K n Y w k) c
  alike_from L K ms ns w (cancel {m = m} X h) = cancel X (leads_from clash Possible logs L K m X w h)
  alike_from L K ms ns w (behind {m = m} X h e) = behind X (leads_from clash Possible logs L K m X w h) e
  alike_from L K ms ns w (other_way e) = other_way (alike_from L K ns ms w e)
  alike_from L K ms ns w (onward {ms = ms'} {ns = ns'} {ps = ps'} e f) = onward (alike_from L K ms' ns' w e) (alike_from L K ns' ps' w f)

  pub alike_behind : (L : List A) (ps : List (Move A)) (K : List A) (ms ns : List (Move A)) → Went L ps K → Alike K ms ns → Alike L (ps ++ ms) (ps ++ ns)
  alike_behind L [] K ms ns h e = alike_from K L ms ns (turned clash Possible logs L K h) e
  alike_behind L (p ∷ ps) K ms ns h e = behind h.0 h.1 (alike_behind h.0 ps K ms ns h.2 e)

  -- the way back of a trip, and what it cancels
  pub way_back : (L : List A) (ms : List (Move A)) (N : List A) → Possible L → Went L ms N → Went N (returning ms) L
  way_back L [] N p h = turned clash Possible logs L N h
  way_back L (m ∷ ms) N p h =
      trip_append clash Possible logs N (returning ms) (reversed m ∷ []) h.0 L
      (way_back h.0 ms N (leads_possible clash Possible logs L m h.0 p h.1) h.2)
      (L, leads_back clash Possible logs L m h.0 p h.1, none)

  twice_reversed : (m : Move A) → reversed (reversed m) ≡ m
  twice_reversed (forth r) = refl
  twice_reversed (back r) = refl

  pub back_and_forth : (L : List A) (ms : List (Move A)) (N : List A) → Possible L → Went L ms N → (ns : List (Move A)) → Alike N (returning ms ++ (ms ++ ns)) ns
  back_and_forth L [] N p h ns = same
  back_and_forth L (m ∷ ms) N p h ns =
      let q = leads_possible clash Possible logs L m h.0 p h.1 in
      let turn : Alike h.0 (reversed m ∷ m ∷ (ms ++ ns)) (ms ++ ns) =
      subst (λ x. Alike h.0 (reversed m ∷ x ∷ (ms ++ ns)) (ms ++ ns)) (twice_reversed m) (cancel L (leads_back clash Possible logs L m h.0 p h.1)) in
      rw append_assoc (onward (alike_behind N (returning ms) h.0 _ _ (way_back h.0 ms N q h.2) turn) (back_and_forth h.0 ms N q h.2 ns))
