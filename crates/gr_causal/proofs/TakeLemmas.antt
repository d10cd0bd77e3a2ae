-- Taking one step out of a list, up to swaps of neighbours that do not conflict.
use Rattle.std.proofs.Common.{◌≡◌, suc, Bool, false, List, [], ◌∷◌, ◌++◌, ◌⊎◌, refl, sym, ◌∙◌, ap, subst, inl, inr, length}
use Rattle.gr_causal.specs.Sequences.{In}
use Rattle.gr_causal.specs.Orders.{Swaps}
use Rattle.gr_causal.specs.Orders.Swaps.{none, here, there, and}

module _ {A : Type 0} (clash : A → A → Bool) where
  -- the step conflicts with none of these
  abbrev pub Clear : A → List A → Type 0
  Clear r L = (b : A) → In b L → clash r b ≡ false

  -- taking r out of the first list, where it conflicts with nothing behind it, leaves the second
  pub data Takes (r : A) : List A → List A → Type 0 where
    top : {L : List A} → Clear r L → Takes r (r ∷ L) L
    deeper : {a : A} {L N : List A} → Takes r L N → Takes r (a ∷ L) (a ∷ N)

  pub swaps_in : (L N : List A) (r : A) → Swaps clash L N → In r L → In r N
  swaps_in L N r none h = h
  swaps_in L N r (here w) h = elim h [ inl e ↦ inr (inl e) | inr h ↦ elim h [ inl e ↦ inl e | inr h ↦ inr (inr h) ] ]
  swaps_in L N r (there {L = L'} {N = N'} w) h = elim h [ inl e ↦ inl e | inr h ↦ inr (swaps_in L' N' r w h) ]
  swaps_in L N r (and {L = L'} {N = N'} {P = P'} v w) h = swaps_in N' P' r w (swaps_in L' N' r v h)

  pub swaps_length : (L N : List A) → Swaps clash L N → length L ≡ length N
  swaps_length L N none = refl
  swaps_length L N (here w) = refl
  swaps_length L N (there {L = L'} {N = N'} w) = ap suc (swaps_length L' N' w)
  swaps_length L N (and {L = L'} {N = N'} {P = P'} v w) = swaps_length L' N' v ∙ swaps_length N' P' w

  pub swaps_under : (P L N : List A) → Swaps clash L N → Swaps clash (P ++ L) (P ++ N)
  swaps_under [] L N w = w
  swaps_under (r ∷ P) L N w = there (swaps_under P L N w)

  pub swaps_append : (L N P : List A) → Swaps clash L N → Swaps clash (L ++ P) (N ++ P)
  swaps_append L N P none = none
  swaps_append L N P (here c) = here c
  swaps_append L N P (there {L = L'} {N = N'} w) = there (swaps_append L' N' P w)
  swaps_append L N P (and {L = L'} {N = N'} {P = P'} v w) = and (swaps_append L' N' P v) (swaps_append N' P' P w)

  pub takes_last : (N : List A) (r : A) → Takes r (N ++ r ∷ []) N
  takes_last [] r = top (λ b h. absurd h)
  takes_last (a ∷ N) r = deeper (takes_last N r)

  pub takes_in : (r : A) (L N : List A) → Takes r L N → In r L
  takes_in r L N (top f) = inl refl
  takes_in r L N (deeper {L = L'} {N = N'} p) = inr (takes_in r L' N' p)

  pub left_in : (r b : A) (L N : List A) → Takes r L N → In b N → In b L
  left_in r b L N (top f) h = inr h
  left_in r b L N (deeper {L = L'} {N = N'} p) h = elim h [ inl e ↦ inl e | inr h ↦ inr (left_in r b L' N' p h) ]

  pub takes_middle : (front later : List A) (r : A) → Clear r later → Takes r (front ++ r ∷ later) (front ++ later)
  takes_middle [] later r f = top f
  takes_middle (a ∷ front) later r f = deeper (takes_middle front later r f)

  pub takes_split : (r : A) (L N : List A) → Takes r L N → (front : List A) × (later : List A) × (L ≡ front ++ r ∷ later) × Clear r later × (N ≡ front ++ later)
  takes_split r L N (top {L = L'} f) = ([], L', refl, f, refl)
  takes_split r L N (deeper {a = a} {L = L'} {N = N'} p) = let w = takes_split r L' N' p in (a ∷ w.0, w.1, ap (λ l. a ∷ l) w.2, w.3, ap (λ l. a ∷ l) w.4)

module _ {A : Type 0} (clash : A → A → Bool) (off : (a b : A) → clash a b ≡ false → clash b a ≡ false) where
  pub swaps_back : (L N : List A) → Swaps clash L N → Swaps clash N L
  swaps_back L N none = none
  swaps_back L N (here {a = a} {b = b} c) = here (off a b c)
  swaps_back L N (there {L = L'} {N = N'} w) = there (swaps_back L' N' w)
  swaps_back L N (and {L = L'} {N = N'} {P = P'} v w) = and (swaps_back N' P' w) (swaps_back L' N' v)

  -- a step that conflicts with none of these comes to the front
  to_front : (r : A) (L : List A) → Clear clash r L → Swaps clash (L ++ r ∷ []) (r ∷ L)
  to_front r [] f = none
  to_front r (b ∷ L) f = and (there (to_front r L (λ c i. f c (inr i)))) (here (off r b (f b (inl refl))))

  pub takes_swaps : (r : A) (L N : List A) → Takes clash r L N → Swaps clash (N ++ r ∷ []) L
  takes_swaps r L N (top {L = L'} f) = to_front r L' f
  takes_swaps r L N (deeper {L = L'} {N = N'} p) = there (takes_swaps r L' N' p)

  -- a step can be taken out wherever swaps lead
  pub takes_along : (r : A) (L K N : List A) → Swaps clash L K → Takes clash r L N → (P : List A) × Takes clash r K P × Swaps clash N P
  takes_along r L K N none p = (N, p, none)
  takes_along r L K N (here {a = a} {b = b} {L = L'} c) (top f) = (b ∷ L', deeper (top (λ d h. f d (inr h))), none)
  takes_along r L K N (here {a = a} {b = b} {L = L'} c) (deeper (top f)) = (a ∷ L', top (λ d h. elim h [ inl e ↦ subst (λ z. clash r z ≡ false) (sym e) (off a b c) | inr h ↦ f d h ]), none)
  takes_along r L K N (here {a = a} {b = b} {L = L'} c) (deeper (deeper {N = N'} p)) = (b ∷ a ∷ N', deeper (deeper p), here c)
  takes_along r L K N (there {a = a} {L = L'} {N = K'} w) (top f) = (K', top (λ d h. f d (swaps_in clash K' L' d (swaps_back L' K' w) h)), w)
  takes_along r L K N (there {a = a} {L = L'} {N = K'} w) (deeper {N = N'} p) = let x = takes_along r L' K' N' w p in (a ∷ x.0, deeper x.1, there x.2)
  takes_along r L K N (and {L = L'} {N = K'} {P = P'} v w) p =
      let x = takes_along r L' K' N v p in
      let y = takes_along r K' P' x.0 w x.1 in
      (y.0, y.1, and x.2 y.2)

  -- two steps that can be taken out are one, or do not conflict, and then either can be taken out after the other
  pub takes_twice : (a b : A) (L N P : List A) → Takes clash a L N → Takes clash b L P
      → ((a ≡ b) × (N ≡ P)) ⊎ ((clash a b ≡ false) × (Q : List A) × Takes clash b N Q × Takes clash a P Q)
  takes_twice a b L N P (top f) (top g) = inl (refl, refl)
  takes_twice a b L N P (top f) (deeper {L = L'} {N = P'} q) = inr (f b (takes_in clash b L' P' q), P', q, top (λ d h. f d (left_in clash b d L' P' q h)))
  takes_twice a b L N P (deeper {L = L'} {N = N'} p) (top g) = inr (off b a (g a (takes_in clash a L' N' p)), N', top (λ d h. g d (left_in clash a d L' N' p h)), p)
  takes_twice a b L N P (deeper {a = c} {L = L'} {N = N'} p) (deeper {N = P'} q) = elim (takes_twice a b L' N' P' p q) [
    | inl e ↦ inl (e.0, ap (λ l. c ∷ l) e.1)
    | inr w ↦ inr (w.0, c ∷ w.1, deeper w.2, deeper w.3)
  ]

  -- the last steps of one configuration
  pub last_two : (a b : A) (L N P : List A) → Swaps clash (N ++ a ∷ []) L → Swaps clash (P ++ b ∷ []) L
      → ((a ≡ b) × Swaps clash N P) ⊎ ((clash a b ≡ false) × (Q : List A) × Swaps clash (Q ++ b ∷ []) N × Swaps clash (Q ++ a ∷ []) P)
  last_two a b L N P v w =
      let x = takes_along a (N ++ a ∷ []) L N v (takes_last clash N a) in
      let y = takes_along b (P ++ b ∷ []) L P w (takes_last clash P b) in
      elim (takes_twice a b L x.0 y.0 x.1 y.1) [
        | inl e ↦ inl (e.0, and x.2 (subst (λ z. Swaps clash z P) (sym e.1) (swaps_back P y.0 y.2)))
        | inr u ↦ inr (
          u.0,
          u.1,
          and (takes_swaps b x.0 u.1 u.2) (swaps_back N x.0 x.2),
          and (takes_swaps a y.0 u.1 u.3) (swaps_back P y.0 y.2),
        )
      ]

  -- what swaps lead to by the same last step is one configuration
  pub cancelled : (r : A) (N P : List A) → Swaps clash (N ++ r ∷ []) (P ++ r ∷ []) → Swaps clash N P
  cancelled r N P w = elim (last_two r r (P ++ r ∷ []) N P w none) [
    | inl e ↦ e.1
    | inr u ↦ and (swaps_back (u.1 ++ r ∷ []) N u.2) u.3
  ]
