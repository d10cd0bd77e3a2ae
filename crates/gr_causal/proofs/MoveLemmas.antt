-- Moves between configurations: they do not see swaps, go both ways, and close squares.
use Rattle.std.proofs.Common.{◌≡◌, suc, Bool, false, List, [], ◌∷◌, ◌++◌, ◌⊎◌, ◌↔◌, sym, ap, subst, inl, inr, length, append_assoc, length-append, arith}
use Rattle.gr_causal.specs.Sequences.{In}
use Rattle.gr_causal.specs.Orders.{Swaps}
use Rattle.gr_causal.specs.Orders.Swaps.{none, here, and}
use Rattle.gr_causal.specs.Trips.{Move, step_of, reversed, Leads, Trip, Independent}
use Rattle.gr_causal.specs.Trips.Move.{forth, back}
use Rattle.gr_causal.proofs.TakeLemmas.{swaps_length, swaps_under, swaps_append, swaps_back, last_two, cancelled, takes_last, takes_along, takes_middle, takes_split, takes_swaps}

module _ {A : Type 0} (clash : A → A → Bool) (off : (a b : A) → clash a b ≡ false → clash b a ≡ false) where
  pub independent_back : (m n : Move A) → Independent clash m n → Independent clash n m × Independent clash (reversed m) n
  independent_back (forth a) n c = (off a (step_of n) c, c)
  independent_back (back a) n c = (off a (step_of n) c, c)

-- what the logs of a machine meet
pub record AreLogs {A : Type 0} (clash : A → A → Bool) (Possible : List A → Type 0) : Type 0 where
  pub off : (a b : A) → clash a b ≡ false → clash b a ≡ false
  pub kept : (L N : List A) → Swaps clash L N → Possible L → Possible N
  pub front : (L N : List A) → Possible (L ++ N) → Possible L
  pub both : (L : List A) (a b : A) → Possible (L ++ a ∷ []) → Possible (L ++ b ∷ []) → clash a b ≡ false → Possible ((L ++ a ∷ []) ++ b ∷ [])

module _ {A : Type 0} (clash : A → A → Bool) (Possible : List A → Type 0) (logs : AreLogs clash Possible) where
  open logs use {off, kept, front, both}

  abbrev Led : List A → Move A → List A → Type 0
  Led L m N = Leads clash Possible L m N

  abbrev Went : List A → List (Move A) → List A → Type 0
  Went L ms N = Trip clash Possible L ms N

  pub turned : (L N : List A) → Swaps clash L N → Swaps clash N L
  turned L N w = swaps_back clash off L N w

  -- the last two steps change places
  pub last_swapped : (L : List A) (a b : A) → clash a b ≡ false → Swaps clash ((L ++ a ∷ []) ++ b ∷ []) ((L ++ b ∷ []) ++ a ∷ [])
  last_swapped L a b c = rw (append_assoc L (a ∷ []) (b ∷ []), append_assoc L (b ∷ []) (a ∷ [])) (swaps_under clash L (a ∷ b ∷ []) (b ∷ a ∷ []) (here c))

  pub leads_from : (L K : List A) (m : Move A) (N : List A) → Swaps clash L K → Led L m N → Led K m N
  leads_from L K (forth r) N w h = (h.0, and (swaps_append clash K L (r ∷ []) (turned L K w)) h.1)
  leads_from L K (back r) N w h = and h w

  pub leads_to : (L : List A) (m : Move A) (K N : List A) → Swaps clash K N → Led L m K → Led L m N
  leads_to L (forth r) K N w h = (kept K N w h.0, and h.1 w)
  leads_to L (back r) K N w h = and (swaps_append clash N K (r ∷ []) (turned K N w)) h

  pub leads_possible : (L : List A) (m : Move A) (N : List A) → Possible L → Led L m N → Possible N
  leads_possible L (forth r) N p h = h.0
  leads_possible L (back r) N p h = front N (r ∷ []) (kept L (N ++ r ∷ []) (turned (N ++ r ∷ []) L h) p)

  -- each move has a way back
  pub leads_back : (L : List A) (m : Move A) (N : List A) → Possible L → Led L m N → Led N (reversed m) L
  leads_back L (forth r) N p h = h.1
  leads_back L (back r) N p h = (p, h)

  -- a move leads to one configuration
  pub leads_one : (L : List A) (m : Move A) (K N : List A) → Led L m K → Led L m N → Swaps clash K N
  leads_one L (forth r) K N h k = and (turned (L ++ r ∷ []) K h.1) k.1
  leads_one L (back r) K N h k = cancelled clash off r K N (and h (turned (N ++ r ∷ []) L k))

  -- back moves from one log are one move, or independent
  pub back_apart : (a b : A) (L K N : List A) → Led L (back a) K → Led L (back b) N → ((a ≡ b) × Swaps clash K N) ⊎ (clash a b ≡ false)
  back_apart a b L K N h k = elim (last_two clash off a b L K N h k) [ inl e ↦ inl e | inr u ↦ inr u.0 ]

  -- back moves make a log shorter
  pub back_shorter : (r : A) (L N : List A) → Led L (back r) N → length L ≡ suc (length N)
  back_shorter r L N h = let e = swaps_length clash (N ++ r ∷ []) L h in let f = length-append N (r ∷ []) in omega arith

  forth_back : (L : List A) (a b : A) (K N : List A) → Led L (forth a) K → Led L (back b) N → clash a b ≡ false → (P : List A) × Led K (back b) P × Led N (forth a) P
  forth_back L a b K N h k c =
      let w = and (last_swapped N a b c) (and (swaps_append clash (N ++ b ∷ []) L (a ∷ []) k) h.1) in
      (N ++ a ∷ [], w, (front (N ++ a ∷ []) (b ∷ []) (kept K _ (turned ((N ++ a ∷ []) ++ b ∷ []) K w) h.0), none))

  -- independent moves from one log are one move, or close to a square
  pub square : (L : List A) (m n : Move A) (K N : List A) → Led L m K → Led L n N → Independent clash m n
      → ((m ≡ n) × Swaps clash K N) ⊎ ((P : List A) × Led K n P × Led N m P)
  square L (forth a) (forth b) K N h k c =
      let p = both L a b (kept K _ (turned (L ++ a ∷ []) K h.1) h.0) (kept N _ (turned (L ++ b ∷ []) N k.1) k.0) c in
      let P = (L ++ a ∷ []) ++ b ∷ [] in
      inr (
        P,
        (p, swaps_append clash K (L ++ a ∷ []) (b ∷ []) (turned (L ++ a ∷ []) K h.1)),
        (p, and (swaps_append clash N (L ++ b ∷ []) (a ∷ []) (turned (L ++ b ∷ []) N k.1)) (last_swapped L b a (off a b c))),
      )
  square L (forth a) (back b) K N h k c = inr (forth_back L a b K N h k c)
  square L (back a) (forth b) K N h k c = let w = forth_back L b a N K k h (off a b c) in inr (w.0, w.2, w.1)
  square L (back a) (back b) K N h k c = elim (last_two clash off a b L K N h k) [
    | inl e ↦ inl (ap back e.0, e.1)
    | inr u ↦ inr (u.1, u.2, u.3)
  ]

  -- a square by its first side and the next
  pub neighbours : (L : List A) (m n : Move A) (K P : List A) → Possible L → Led L m K → Led K n P → Independent clash m n
      → ((n ≡ reversed m) × Swaps clash L P) ⊎ ((N : List A) × Led L n N × Led N m P)
  neighbours L (forth a) (forth b) K P p h k c =
      let w : Swaps clash ((L ++ b ∷ []) ++ a ∷ []) P = and (last_swapped L b a (off a b c)) (and (swaps_append clash (L ++ a ∷ []) K (b ∷ []) h.1) k.1) in
      inr (L ++ b ∷ [], (front (L ++ b ∷ []) (a ∷ []) (kept P _ (turned ((L ++ b ∷ []) ++ a ∷ []) P w) k.0), none), (k.0, w))
  neighbours L (back a) (back b) K P p h k c =
      let w : Swaps clash ((P ++ a ∷ []) ++ b ∷ []) L = and (last_swapped P a b c) (and (swaps_append clash (P ++ b ∷ []) K (a ∷ []) k) h) in
      inr (P ++ a ∷ [], w, none)
  neighbours L (forth a) (back b) K P p h k c = elim (last_two clash off a b K L P h.1 k) [
    | inl e ↦ inl (ap back (sym e.0), e.1)
    | inr u ↦ inr (u.1, u.2, (leads_possible K (back b) P h.0 k, u.3))
  ]
  neighbours L (back a) (forth b) K P p h k c =
      let q = kept L (K ++ a ∷ []) (turned (K ++ a ∷ []) L h) p in
      let z = kept P (K ++ b ∷ []) (turned (K ++ b ∷ []) P k.1) k.0 in
      let N = (K ++ a ∷ []) ++ b ∷ [] in
      inr (
        N,
        (both K a b q z c, swaps_append clash L (K ++ a ∷ []) (b ∷ []) (turned (K ++ a ∷ []) L h)),
        and (swaps_append clash P (K ++ b ∷ []) (a ∷ []) (turned (K ++ b ∷ []) P k.1)) (last_swapped K b a (off a b c)),
      )

  -- the sides of a square
  pub diamond : (L : List A) (m n : Move A) (K N P : List A) → Led L m K → Led L n N → Led K n P → Led N m P → (m ≡ n) ⊎ ((n ≡ reversed m) ⊎ Independent clash m n)
  diamond L (forth a) (forth b) K N P h k i j = elim (back_apart a b P N K j.1 i.1) [ inl e ↦ inl (ap forth e.0) | inr c ↦ inr (inr c) ]
  diamond L (back a) (back b) K N P h k i j = elim (back_apart a b L K N h k) [ inl e ↦ inl (ap back e.0) | inr c ↦ inr (inr c) ]
  diamond L (forth a) (back b) K N P h k i j = elim (back_apart a b K L P h.1 i) [ inl e ↦ inr (inl (ap back (sym e.0))) | inr c ↦ inr (inr c) ]
  diamond L (back a) (forth b) K N P h k i j = elim (back_apart b a N L P k.1 j) [ inl e ↦ inr (inl (ap forth e.0)) | inr c ↦ inr (inr (off b a c)) ]

  -- a step goes back where no later step conflicts with it
  pub back_free : (L N : List A) (r : A) → Led L (back r) N ↔ ((before : List A) × (after : List A) × (L ≡ before ++ r ∷ after) × ((b : A) → In b after → clash r b ≡ false) × Swaps clash (before ++ after) N)
  back_free L N r = (
    λ h.
        let w = takes_along clash off r (N ++ r ∷ []) L N h (takes_last clash N r) in
        let x = takes_split clash r L w.0 w.1 in
        (x.0, x.1, x.2, x.3, turned N (x.0 ++ x.1) (subst (Swaps clash N) x.4 w.2)),
    λ x. subst (λ l. Swaps clash (N ++ r ∷ []) l) (sym x.2)
        (and (swaps_append clash N (x.0 ++ x.1) (r ∷ []) (turned (x.0 ++ x.1) N x.4)) (takes_swaps clash off r (x.0 ++ r ∷ x.1) (x.0 ++ x.1) (takes_middle clash x.0 x.1 r x.3))),
  )

  pub trip_from : (L K : List A) (ms : List (Move A)) (N : List A) → Swaps clash L K → Went L ms N → Went K ms N
  trip_from L K [] N w h = and (turned L K w) h
  trip_from L K (m ∷ ms) N w h = (h.0, leads_from L K m h.0 w h.1, h.2)

  pub trip_to : (L : List A) (ms : List (Move A)) (K N : List A) → Swaps clash K N → Went L ms K → Went L ms N
  trip_to L [] K N w h = and h w
  trip_to L (m ∷ ms) K N w h = (h.0, h.1, trip_to h.0 ms K N w h.2)

  pub trip_possible : (L : List A) (ms : List (Move A)) (N : List A) → Possible L → Went L ms N → Possible N
  trip_possible L [] N p h = kept L N h p
  trip_possible L (m ∷ ms) N p h = trip_possible h.0 ms N (leads_possible L m h.0 p h.1) h.2

  pub trip_one : (L : List A) (ms : List (Move A)) (K N : List A) → Went L ms K → Went L ms N → Swaps clash K N
  trip_one L [] K N h k = and (turned L K h) k
  trip_one L (m ∷ ms) K N h k = trip_one k.0 ms K N (trip_from h.0 k.0 ms K (leads_one L m h.0 k.0 h.1 k.1) h.2) k.2

  pub trip_append : (L : List A) (ms ns : List (Move A)) (K N : List A) → Went L ms K → Went K ns N → Went L (ms ++ ns) N
  trip_append L [] ns K N h k = trip_from K L ns N (turned L K h) k
  trip_append L (m ∷ ms) ns K N h k = (h.0, h.1, trip_append h.0 ms ns K N h.2 k)

  pub trip_split : (L : List A) (ms ns : List (Move A)) (N : List A) → Went L (ms ++ ns) N → (K : List A) × Went L ms K × Went K ns N
  trip_split L [] ns N h = (L, none, h)
  trip_split L (m ∷ ms) ns N h = let w = trip_split h.0 ms ns N h.2 in (w.0, (h.0, h.1, w.1), w.2)
