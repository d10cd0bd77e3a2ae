-- Trips that only go back: what they take, what they leave, and which step can go back next.
use Rattle.std.proofs.Common.{◌≡◌, ℕ, suc, ◌≤◌, Bool, true, false, List, [], ◌∷◌, ◌++◌, ◌⊎◌, ◌↔◌, reverse, length, refl, sym, ◌∙◌, ap, subst, inl, inr, arith}
use Rattle.std.proofs.lemmas.List.{map-append, reverse-append}
use Rattle.gr_causal.specs.Sequences.{In, Distinct, Before, IsAt}
use Rattle.gr_causal.specs.Dependence.{Depends, dependents, kept, IsClosedPart}
use Rattle.gr_causal.specs.Orders.{Swaps}
use Rattle.gr_causal.specs.Orders.Swaps.{none}
use Rattle.gr_causal.specs.Trips.{taking, taking_back, Leads, Trip}
use Rattle.gr_causal.specs.Trips.Move.{back}
use Rattle.gr_causal.proofs.ListLemmas.{true_or_false, In-append_cases, In-append_left, In-append_right, Before-left, Before-right, Before-one_way, Picks, picked, picked_cases}
use Rattle.gr_causal.proofs.ListLemmas.Picks.{first, later}
use Rattle.gr_causal.proofs.AsideLemmas.{aside}
use Rattle.gr_causal.proofs.OrderLemmas.{swaps_order}
use Rattle.gr_causal.proofs.PartLemmas.{Distinct-in_order}
use Rattle.gr_causal.proofs.DependenceLemmas.{dependents_are, others_are}
use Rattle.gr_causal.proofs.ClosureLemmas.{dependents_all}
use Rattle.gr_causal.proofs.TakeLemmas.{swaps_in}
use Rattle.gr_causal.proofs.MoveLemmas.{AreLogs, turned, trip_from, back_free}
use Rattle.gr_causal.proofs.TripLemmas.{returning, way_back}
use Rattle.gr_causal.proofs.ConsistencyLemmas.{takes_all}

module _ {A : Type 0} where
  Distinct-split : (K : List A) (r : A) → Distinct (K ++ r ∷ []) → Distinct K × (In r K → ⊥)
  Distinct-split [] r d = (tt, λ h. h)
  Distinct-split (x ∷ K) r d =
      let ih = Distinct-split K r d.1 in (
        (λ h. d.0 (In-append_left x K (r ∷ []) h), ih.0),
        λ h. elim h [ inl e ↦ d.0 (In-append_right x K (r ∷ []) (inl (sym e))) | inr i ↦ ih.1 i ],
      )

  Before-longer : (K G : List A) (a b : A) → Before K a b → Before (K ++ G) a b
  Before-longer [] G a b h = absurd h
  Before-longer (x ∷ K) G a b (inl h) = inl (h.0, In-append_left b K G h.1)
  Before-longer (x ∷ K) G a b (inr h) = inr (Before-longer K G a b h)

  Before-shorter : (K : List A) (r a b : A) → Distinct (K ++ r ∷ []) → In b K → Before (K ++ r ∷ []) a b → Before K a b
  Before-shorter [] r a b d i h = absurd i
  Before-shorter (x ∷ K) r a b d (inl e) (inl h) = absurd (d.0 (subst (λ z. In z (K ++ r ∷ [])) e h.1))
  Before-shorter (x ∷ K) r a b d (inr i) (inl h) = inl (h.0, i)
  Before-shorter (x ∷ K) r a b d (inl e) (inr h) = absurd (d.0 (subst (λ z. In z (K ++ r ∷ [])) e (Before-right (K ++ r ∷ []) a b h)))
  Before-shorter (x ∷ K) r a b d (inr i) (inr h) = inr (Before-shorter K r a b d.1 i h)

  split_at : (r : A) (L : List A) → In r L → (front : List A) × (behind : List A) × (L ≡ front ++ r ∷ behind)
  split_at r [] h = absurd h
  split_at r (x ∷ L) (inl e) = ([], L, ap (λ z. z ∷ L) (sym e))
  split_at r (x ∷ L) (inr h) = let w = split_at r L h in (x ∷ w.0, w.1, ap (λ l. x ∷ l) w.2)

  behind_it : (front behind : List A) (r b : A) → Distinct (front ++ r ∷ behind) → Before (front ++ r ∷ behind) r b → In b behind
  behind_it [] behind r b d (inl h) = h.1
  behind_it [] behind r b d (inr h) = absurd (d.0 (Before-left behind r b h))
  behind_it (x ∷ front) behind r b d (inl h) = absurd (d.0 (subst (λ z. In z (front ++ r ∷ behind)) h.0 (In-append_right r front (r ∷ behind) (inl refl))))
  behind_it (x ∷ front) behind r b d (inr h) = behind_it front behind r b d.1 h

  is_before : (front behind : List A) (r b : A) → In b behind → Before (front ++ r ∷ behind) r b
  is_before [] behind r b h = inl (refl, h)
  is_before (x ∷ front) behind r b h = inr (is_before front behind r b h)

  -- each element of a list without repetition is in the other, which then is as long
  picks_length : (x : A) (L R : List A) → Picks x L R → length L ≡ suc (length R)
  picks_length x L R first = refl
  picks_length x L R (later {L = L'} {R = R'} p) = ap suc (picks_length x L' R' p)

  pub as_long : (ds es : List A) → Distinct ds → ((r : A) → In r ds → In r es) → length ds ≤ length es
  as_long [] es d h = omega arith
  as_long (x ∷ ds) es d h =
      let p = picked x es (h x (inl refl)) in
      let l = picks_length x es p.0 p.1 in
      let ih = as_long ds p.0 d.1 (λ r i. elim (picked_cases x r es p.0 p.1 (h r (inr i))) [ inl e ↦ absurd (d.0 (subst (λ z. In z ds) e i)) | inr j ↦ j ]) in
      omega arith

  -- the way back of taking steps is taking them back from the last
  pub returning_is : (L : List A) → returning (taking L) ≡ taking_back (reverse L)
  returning_is [] = refl
  returning_is (r ∷ L) = ap (λ ms. ms ++ back r ∷ []) (returning_is L) ∙ sym (map-append back (reverse L) (r ∷ [])) ∙ ap taking_back (sym (reverse-append (r ∷ []) L))

module _ {A : Type 0} (clash : A → A → Bool) (Possible : List A → Type 0) (logs : AreLogs clash Possible) where
  abbrev Back : List A → List A → List A → Type 0
  Back L gone N = Trip clash Possible L (taking_back gone) N

  to_log : (K L : List A) → Swaps clash K L → Swaps clash L K
  to_log K L w = turned clash Possible logs K L w

  pub was_in : (L gone N : List A) (b : A) → Back L gone N → In b N → In b L
  was_in L [] N b h i = swaps_in clash N L b (to_log L N h) i
  was_in L (r ∷ gone) N b h i = swaps_in clash (h.0 ++ r ∷ []) L b h.1 (In-append_left b h.0 (r ∷ []) (was_in h.0 gone N b h.2 i))

  pub gone_or_left : (L gone N : List A) (b : A) → Back L gone N → In b L → In b gone ⊎ In b N
  gone_or_left L [] N b h i = inr (swaps_in clash L N b h i)
  gone_or_left L (r ∷ gone) N b h i = elim (In-append_cases b h.0 (r ∷ []) (swaps_in clash L (h.0 ++ r ∷ []) b (to_log (h.0 ++ r ∷ []) L h.1) i)) [
    | inl j ↦ elim (gone_or_left h.0 gone N b h.2 j) [ inl k ↦ inl (inr k) | inr k ↦ inr k ]
    | inr j ↦ elim j [ inl e ↦ inl (inl e) | inr k ↦ absurd k ]
  ]

  first_back : (L K : List A) (r : A) → Distinct L → Swaps clash (K ++ r ∷ []) L → Distinct (K ++ r ∷ [])
  first_back L K r d w = (swaps_order clash L (K ++ r ∷ []) (to_log (K ++ r ∷ []) L w) d).steps.once

  pub gone_apart : (L gone N : List A) (b : A) → Distinct L → Back L gone N → In b gone → In b N → ⊥
  gone_apart L [] N b d h i j = i
  gone_apart L (r ∷ gone) N b d h i j =
      let e = Distinct-split h.0 r (first_back L h.0 r d h.1) in
      elim i [
        | inl q ↦ e.1 (subst (λ z. In z h.0) q (was_in h.0 gone N b h.2 j))
        | inr k ↦ gone_apart h.0 gone N b e.0 h.2 k j
      ]

  pub left_distinct : (L gone N : List A) → Distinct L → Back L gone N → Distinct N
  left_distinct L [] N d h = (swaps_order clash L N h d).steps.once
  left_distinct L (r ∷ gone) N d h = left_distinct h.0 gone N (Distinct-split h.0 r (first_back L h.0 r d h.1)).0 h.2

  -- what is left depends on what it depended on
  pub depended : (L gone N : List A) (a b : A) → Distinct L → Back L gone N → Depends clash N b a → Depends clash L b a
  depended L [] N a b d h k = ((swaps_order clash N L (to_log L N h) (left_distinct L [] N d h)).keeps a b k.0 k.1, k.1)
  depended L (r ∷ gone) N a b d h k =
      let e = first_back L h.0 r d h.1 in
      let ih = depended h.0 gone N a b (Distinct-split h.0 r e).0 h.2 k in
      ((swaps_order clash (h.0 ++ r ∷ []) L h.1 e).keeps a b (Before-longer h.0 (r ∷ []) a b ih.0) k.1, k.1)

  pub depends_still : (L gone N : List A) (a b : A) → Distinct L → Back L gone N → Depends clash L b a → In b N → Depends clash N b a
  depends_still L [] N a b d h k i = ((swaps_order clash L N h d).keeps a b k.0 k.1, k.1)
  depends_still L (r ∷ gone) N a b d h k i =
      let e = first_back L h.0 r d h.1 in
      let w = (swaps_order clash L (h.0 ++ r ∷ []) (to_log (h.0 ++ r ∷ []) L h.1) d).keeps a b k.0 k.1 in
      depends_still h.0 gone N a b (Distinct-split h.0 r e).0 h.2 (Before-shorter h.0 r a b e (was_in h.0 gone N b h.2 i) w, k.1) i

  -- a step can go back exactly where none depends on it
  pub free_goes_back : (L : List A) (r : A) → Distinct L → In r L → ((N : List A) × Leads clash Possible L (back r) N) ↔ ((b : A) → Depends clash L b r → ⊥)
  free_goes_back L r d i = (
    λ h b k.
        let w = (back_free clash Possible logs L h.0 r).0 h.1 in
        let j = behind_it w.0 w.1 r b (subst Distinct w.2 d) (subst (λ l. Before l r b) w.2 k.0) in
        absurd (let q : true ≡ false = sym k.1 ∙ w.3 b j in cc),
    λ f.
        let w = split_at r L i in
        let clear : (b : A) → In b w.1 → clash r b ≡ false = λ b j. elim (true_or_false (clash r b)) [
          | inl t ↦ absurd (f b (subst (λ l. Before l r b) (sym w.2) (is_before w.0 w.1 r b j), t))
          | inr g ↦ g
        ] in
        (w.0 ++ w.1, (back_free clash Possible logs L (w.0 ++ w.1) r).1 (w.0, w.1, w.2, clear, none)),
  )

  pub free_once_gone : (L gone N : List A) (r : A) → Distinct L → Back L gone N → In r N → ((K : List A) × Leads clash Possible N (back r) K) ↔ ((b : A) → Depends clash L b r → In b gone)
  free_once_gone L gone N r d h i =
      let f = free_goes_back N r (left_distinct L gone N d h) i in (
        λ w b k. elim (gone_or_left L gone N b h (Before-right L r b k.0)) [
          | inl j ↦ j
          | inr j ↦ absurd (f.0 w b (depends_still L gone N r b d h k j))
        ],
        λ g. f.1 (λ b k. gone_apart L gone N b d h (g b (depended L gone N r b d h k)) (Before-right N r b k.0)),
      )

  -- what depends on what is gone is gone
  pub gone_after : (L gone N : List A) (a b : A) → Distinct L → Back L gone N → Depends clash L b a → In a gone → In b gone
  gone_after L gone N a b d h k i = elim (gone_or_left L gone N b h (Before-right L a b k.0)) [
    | inl j ↦ j
    | inr j ↦ absurd (gone_apart L gone N a d h i (Before-left N a b (depends_still L gone N a b d h k j).0))
  ]

  -- the step itself stays, and all that depends on it goes
  pub free_once_all_gone : (L : List A) (i : ℕ) (r : A) (gone N : List A) → Distinct L → IsAt L i r → Back L gone N → In r N
      → ((K : List A) × Leads clash Possible N (back r) K) ↔ ((b : A) → In b (dependents clash L i) → (b ≡ r) ⊎ In b gone)
  free_once_all_gone L i r gone N d at h j =
      let f = free_once_gone L gone N r d h j in
      let l = dependents_are clash L i r d at in (
        λ w. dependents_all clash L (λ b. (b ≡ r) ⊎ In b gone)
            (λ a b k c m. elim m [
              | inl e ↦ inr (f.0 w b (subst (λ z. Before L z b) e k, subst (λ z. clash z b ≡ true) e c))
              | inr g ↦ inr (gone_after L gone N a b d h (k, c) g)
            ]) L i r at (λ a b k. k) (inl refl),
        λ g. f.1 (λ b k. elim (g b (l.part.closed r b k l.has)) [
          | inl e ↦ let w : Before L r r = subst (λ z. Before L r z) e k.0 in absurd (Before-one_way L r r d w w)
          | inr m ↦ m
        ]),
      )

  -- who takes a step back takes its dependents back
  pub must_go : (L : List A) (i : ℕ) (x : A) (gone N : List A) → Distinct L → IsAt L i x → Back L gone N → (In x N → ⊥) → (r : A) → In r (dependents clash L i) → In r gone
  must_go L i x gone N d at h n r k =
      let out = dependents_all clash L (λ r. In r N → ⊥) (λ a b j c m l. m (Before-left N a b (depends_still L gone N a b d h (j, c) l).0)) L i x at (λ a b j. j) n r k in
      elim (gone_or_left L gone N r h ((dependents_are clash L i x d at).part.within_log r k)) [ inl j ↦ j | inr j ↦ absurd (out j) ]

  pub no_fewer : (L : List A) (i : ℕ) (x : A) (gone N : List A) → Distinct L → IsAt L i x → Back L gone N → (In x N → ⊥) → length (dependents clash L i) ≤ length gone
  no_fewer L i x gone N d at h n =
      as_long (dependents clash L i) gone (Distinct-in_order (dependents clash L i) L d (dependents_are clash L i x d at).part.in_order) (must_go L i x gone N d at h n)

  -- the trip of a rollback
  pub rollback_trip : (L : List A) (i : ℕ) → Possible L → Back L (reverse (dependents clash L i)) (kept clash L i)
  rollback_trip L i p =
      let K = kept clash L i in
      let D = dependents clash L i in
      let w = aside clash L i in
      let q = logs.kept L (K ++ D) w p in
      let h = way_back clash Possible logs K (taking D) (K ++ D) (logs.front K D q) (takes_all clash Possible logs K D q) in
      subst (λ ms. Trip clash Possible L ms K) (returning_is D) (trip_from clash Possible logs (K ++ D) L (returning (taking D)) K (to_log L (K ++ D) w) h)

module _ {A : Type 0} (clash : A → A → Bool) where
  -- what is kept is closed under causes, and has each such part that is without the step
  pub kept_part : (L : List A) (i : ℕ) (x : A) → Distinct L → IsAt L i x → IsClosedPart (λ a b. Depends clash L a b) L (kept clash L i) × (In x (kept clash L i) → ⊥)
  kept_part L i x d at =
      let l = dependents_are clash L i x d at in
      let o = others_are clash L i d in (
        record {
          within_log = λ r h. (o.others r h).0;
          in_order = o.in_order;
          closed = λ b a k h. elim (o.each a (Before-left L a b k.0)) [
            | inl j ↦ absurd ((o.others b h).1 (l.part.closed a b k j))
            | inr j ↦ j
          ];
        },
        λ h. (o.others x h).1 l.has,
      )

  pub kept_most : (L : List A) (i : ℕ) (x : A) → Distinct L → IsAt L i x → (K : List A) → IsClosedPart (λ a b. Depends clash L a b) L K → (In x K → ⊥) → (r : A) → In r K → In r (kept clash L i)
  kept_most L i x d at K c n r h =
      elim ((others_are clash L i d).each r (c.within_log r h)) [
        | inl j ↦ absurd (dependents_all clash L (λ r. In r K → ⊥) (λ a b j k m l. m (c.closed b a (j, k) l)) L i x at (λ a b j. j) n r j h)
        | inr j ↦ j
      ]
