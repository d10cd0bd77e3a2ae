-- The passes over the log collect the least closed sets, and leave the others.
use Rattle.std.proofs.Common.{◌≡◌, ℕ, zero, suc, Bool, true, false, List, [], ◌∷◌, ◌++◌, ◌⊎◌, refl, sym, ◌∙◌, subst, inl, inr, append_assoc, append-nil}
use Rattle.gr_causal.specs.Sequences.{In, Distinct, Before, IsAt}
use Rattle.gr_causal.specs.Dependence.{hits, collect, left_by, dependents, kept, causes, Depends, IsClosedPart, IsLeastClosed, AreTheOthers}
use Rattle.gr_causal.proofs.ListLemmas.{or_true, or_left, or_right, true_or_false, In-append_cases, In-append_left, In-append_right, Before-right}
use Rattle.gr_causal.proofs.AsideLemmas.{In-kept, kept_in_order}

module _ {A : Type 0} (clash : A → A → Bool) where
  -- each later step of the log that conflicts with a member is a member
  abbrev IsClosed : List A → (A → Type 0) → Type 0
  IsClosed L P = (a b : A) → Before L a b → clash a b ≡ true → P a → P b

  pub hits_true : (ds : List A) (d r : A) → In d ds → clash d r ≡ true → hits clash ds r ≡ true
  hits_true [] d r h c = elim h [ ]
  hits_true (e ∷ ds) d r (inl q) c = or_left (clash e r) (hits clash ds r) (subst (λ x. clash x r ≡ true) q c)
  hits_true (e ∷ ds) d r (inr h) c = or_right (clash e r) (hits clash ds r) (hits_true ds d r h c)

  pub hits_by : (ds : List A) (r : A) → hits clash ds r ≡ true → (d : A) × In d ds × (clash d r ≡ true)
  hits_by [] r h = absurd (let e : false ≡ true = h in cc)
  hits_by (e ∷ ds) r h = elim (or_true (clash e r) (hits clash ds r) h) [
    | inl c ↦ (e, inl refl, c)
    | inr k ↦ let w = hits_by ds r k in (w.0, inr w.1, w.2)
  ]

  -- collecting, with or without the step at hand
  pub collect_has : (ds L : List A) (d : A) → In d ds → In d (collect clash ds L)
  collect_has ds [] d h = h
  collect_has ds (r ∷ L) d h = elim (true_or_false (hits clash ds r)) [
    | inl t ↦ rw t (collect_has (ds ++ r ∷ []) L d (In-append_left d ds (r ∷ []) h))
    | inr f ↦ rw f (collect_has ds L d h)
  ]

  pub collect_hit : (ds L : List A) (d b : A) → In d ds → In b L → clash d b ≡ true → In b (collect clash ds L)
  collect_hit ds [] d b h i c = elim i [ ]
  collect_hit ds (r ∷ L) d b h (inl e) c =
      let t : hits clash ds r ≡ true = hits_true ds d r h (subst (λ x. clash d x ≡ true) e c) in
      rw t (collect_has (ds ++ r ∷ []) L b (In-append_right b ds (r ∷ []) (inl e)))
  collect_hit ds (r ∷ L) d b h (inr i) c = elim (true_or_false (hits clash ds r)) [
    | inl t ↦ rw t (collect_hit (ds ++ r ∷ []) L d b (In-append_left d ds (r ∷ []) h) i c)
    | inr f ↦ rw f (collect_hit ds L d b h i c)
  ]

  pub collect_of : (ds L : List A) (r : A) → In r (collect clash ds L) → In r ds ⊎ In r L
  collect_of ds [] r h = inl h
  collect_of ds (e ∷ L) r h = elim (true_or_false (hits clash ds e)) [
    | inl t ↦ elim (collect_of (ds ++ e ∷ []) L r (rw t at h)) [
      | inl i ↦ elim (In-append_cases r ds (e ∷ []) i) [ inl j ↦ inl j | inr j ↦ elim j [ inl q ↦ inr (inl q) | inr k ↦ absurd k ] ]
      | inr i ↦ inr (inr i)
    ]
    | inr f ↦ elim (collect_of ds L r (rw f at h)) [ inl i ↦ inl i | inr i ↦ inr (inr i) ]
  ]

  -- none of the steps collected comes again
  abbrev pub Apart : List A → List A → Type 0
  Apart ds L = (r : A) → In r ds → In r L → ⊥

  pub Apart-push : (ds L : List A) (r : A) → Distinct (r ∷ L) → Apart ds (r ∷ L) → Apart (ds ++ r ∷ []) L
  Apart-push ds L r d n e h i = elim (In-append_cases e ds (r ∷ []) h) [
    | inl j ↦ n e j (inr i)
    | inr j ↦ elim j [ inl q ↦ d.0 (subst (λ x. In x L) q i) | inr k ↦ k ]
  ]

  pub collect_closed : (ds L : List A) → Distinct L → Apart ds L → IsClosed L (λ r. In r (collect clash ds L))
  collect_closed ds [] d n a b h c i = elim h [ ]
  collect_closed ds (r ∷ L) d n a b (inl h) c i = elim (true_or_false (hits clash ds r)) [
    | inl t ↦ rw t (collect_hit (ds ++ r ∷ []) L r b (In-append_right r ds (r ∷ []) (inl refl)) h.1 (subst (λ x. clash x b ≡ true) h.0 c))
    | inr f ↦ absurd (elim (collect_of ds L a (rw f at i)) [
      | inl j ↦ n a j (inl h.0)
      | inr j ↦ d.0 (subst (λ x. In x L) h.0 j)
    ])
  ]
  collect_closed ds (r ∷ L) d n a b (inr h) c i = elim (true_or_false (hits clash ds r)) [
    | inl t ↦ rw t (collect_closed (ds ++ r ∷ []) L d.1 (Apart-push ds L r d n) a b h c (rw t at i))
    | inr f ↦ rw f (collect_closed ds L d.1 (λ e j k. n e j (inr k)) a b h c (rw f at i))
  ]

  pub collect_least : (W ds L : List A) (p : A → Bool) → IsClosed W (λ r. p r ≡ true)
      → ((d : A) → In d ds → p d ≡ true) → ((d r : A) → In d ds → In r L → Before W d r) → ((a b : A) → Before L a b → Before W a b)
      → (r : A) → In r (collect clash ds L) → p r ≡ true
  collect_least W ds [] p c g m w r h = g r h
  collect_least W ds (e ∷ L) p c g m w r h = elim (true_or_false (hits clash ds e)) [
    | inl t ↦ collect_least W (ds ++ e ∷ []) L p c
        (λ d i. elim (In-append_cases d ds (e ∷ []) i) [
          | inl j ↦ g d j
          | inr j ↦ elim j [
            | inl q ↦ subst (λ x. p x ≡ true) (sym q) (let y = hits_by ds e t in c y.0 e (m y.0 e y.1 (inl refl)) y.2 (g y.0 y.1))
            | inr k ↦ absurd k
          ]
        ])
        (λ d r i j. elim (In-append_cases d ds (e ∷ []) i) [
          | inl k ↦ m d r k (inr j)
          | inr k ↦ elim k [ inl q ↦ w d r (inl (q, j)) | inr k ↦ absurd k ]
        ])
        (λ a b i. w a b (inr i)) r (rw t at h)
    | inr f ↦ collect_least W ds L p c g (λ d r i j. m d r i (inr j)) (λ a b i. w a b (inr i)) r (rw f at h)
  ]

  Before-insert : (ds L : List A) (r a b : A) → Before (ds ++ L) a b → Before (ds ++ r ∷ L) a b
  Before-insert [] L r a b h = inr h
  Before-insert (d ∷ ds) L r a b (inl h) = inl (h.0, elim (In-append_cases b ds L h.1) [ inl i ↦ In-append_left b ds (r ∷ L) i | inr i ↦ In-append_right b ds (r ∷ L) (inr i) ])
  Before-insert (d ∷ ds) L r a b (inr h) = inr (Before-insert ds L r a b h)

  collect_in_order : (ds L : List A) (a b : A) → Before (collect clash ds L) a b → Before (ds ++ L) a b
  collect_in_order ds [] a b h = rw append-nil h
  collect_in_order ds (r ∷ L) a b h = elim (true_or_false (hits clash ds r)) [
    | inl t ↦ rw append_assoc at (collect_in_order (ds ++ r ∷ []) L a b (rw t at h))
    | inr f ↦ Before-insert ds L r a b (collect_in_order ds L a b (rw f at h))
  ]

  left_apart : (ds L : List A) (a : A) → Distinct L → Apart ds L → In a (left_by clash ds L) → In a (collect clash ds L) → ⊥
  left_apart ds [] a d n h i = elim h [ ]
  left_apart ds (r ∷ L) a d n h i = elim (true_or_false (hits clash ds r)) [
    | inl t ↦ left_apart (ds ++ r ∷ []) L a d.1 (Apart-push ds L r d n) (rw t at h) (rw t at i)
    | inr f ↦ elim (let k : In a (r ∷ left_by clash ds L) = rw f at h in k) [
      | inl q ↦ elim (collect_of ds L a (rw f at i)) [ inl j ↦ n a j (inl q) | inr j ↦ d.0 (subst (λ x. In x L) q j) ]
      | inr k ↦ left_apart ds L a d.1 (λ e j k. n e j (inr k)) k (rw f at i)
    ]
  ]

  left_rest : (ds L : List A) (a : A) → In a L → In a (collect clash ds L) ⊎ In a (left_by clash ds L)
  left_rest ds [] a h = elim h [ ]
  left_rest ds (r ∷ L) a (inl e) = elim (true_or_false (hits clash ds r)) [
    | inl t ↦ rw t (inl (collect_has (ds ++ r ∷ []) L a (In-append_right a ds (r ∷ []) (inl e))))
    | inr f ↦ rw f (inr (inl e))
  ]
  left_rest ds (r ∷ L) a (inr h) = elim (true_or_false (hits clash ds r)) [
    | inl t ↦ rw t (left_rest (ds ++ r ∷ []) L a h)
    | inr f ↦ rw f (elim (left_rest ds L a h) [ inl i ↦ inl i | inr i ↦ inr (inr i) ])
  ]

  -- the pass from left to right
  pub dependents_are : (L : List A) (i : ℕ) (x : A) → Distinct L → IsAt L i x → IsLeastClosed (λ a b. Depends clash L b a) L x (dependents clash L i)
  dependents_are [] i x d h = elim h [ ]
  dependents_are (r ∷ L) zero x d h =
      let n : Apart (r ∷ []) L = λ e i j. elim i [ inl q ↦ d.0 (subst (λ x. In x L) q j) | inr k ↦ k ] in
      record {
        has = collect_has (r ∷ []) L x (inl h);
        part = record {
          within_log = λ e i. elim (collect_of (r ∷ []) L e i) [ inl j ↦ elim j [ inl q ↦ inl q | inr k ↦ absurd k ] | inr j ↦ inr j ];
          in_order = λ a b j. collect_in_order (r ∷ []) L a b j;
          closed = λ a b k i. elim k.0 [
            | inl q ↦ collect_hit (r ∷ []) L r b (inl refl) q.1 (subst (λ x. clash x b ≡ true) q.0 k.1)
            | inr j ↦ collect_closed (r ∷ []) L d.1 n a b j k.1 i
          ];
        };
        least = λ p g c. collect_least (r ∷ L) (r ∷ []) L p (λ a b j k. c a b (j, k))
            (λ e i. elim i [ inl q ↦ subst (λ y. p y ≡ true) (h ∙ sym q) g | inr k ↦ absurd k ])
            (λ e f i j. elim i [ inl q ↦ inl (q, j) | inr k ↦ absurd k ]) (λ a b i. inr i);
      }
  dependents_are (r ∷ L) (suc i) x d h =
      let ih = dependents_are L i x d.1 h in
      record {
        has = ih.has;
        part = record {
          within_log = λ e k. inr (ih.part.within_log e k);
          in_order = λ a b j. inr (ih.part.in_order a b j);
          closed = λ a b h k. elim h.0 [
            | inl q ↦ absurd (d.0 (subst (λ y. In y L) q.0 (ih.part.within_log a k)))
            | inr j ↦ ih.part.closed a b (j, h.1) k
          ];
        };
        least = λ p g c. ih.least p g (λ a b j. c a b (inr j.0, j.1));
      }

  dependents_within : (L : List A) (i : ℕ) (a : A) → In a (dependents clash L i) → In a L
  dependents_within [] i a h = h
  dependents_within (r ∷ L) zero a h = elim (collect_of (r ∷ []) L a h) [ inl j ↦ elim j [ inl q ↦ inl q | inr k ↦ absurd k ] | inr j ↦ inr j ]
  dependents_within (r ∷ L) (suc i) a h = inr (dependents_within L i a h)

  kept_apart : (L : List A) (i : ℕ) → Distinct L → (a : A) → In a (kept clash L i) → In a (dependents clash L i) → ⊥
  kept_apart [] i d a h k = elim h [ ]
  kept_apart (r ∷ L) zero d a h k = left_apart (r ∷ []) L a d.1 (λ e i j. elim i [ inl q ↦ d.0 (subst (λ x. In x L) q j) | inr k ↦ k ]) h k
  kept_apart (r ∷ L) (suc i) d a (inl q) k = d.0 (subst (λ x. In x L) q (dependents_within L i a k))
  kept_apart (r ∷ L) (suc i) d a (inr h) k = kept_apart L i d.1 a h k

  kept_rest : (L : List A) (i : ℕ) (a : A) → In a L → In a (dependents clash L i) ⊎ In a (kept clash L i)
  kept_rest [] i a h = inl h
  kept_rest (r ∷ L) zero a (inl q) = inl (collect_has (r ∷ []) L a (inl q))
  kept_rest (r ∷ L) zero a (inr h) = left_rest (r ∷ []) L a h
  kept_rest (r ∷ L) (suc i) a (inl q) = inr (inl q)
  kept_rest (r ∷ L) (suc i) a (inr h) = elim (kept_rest L i a h) [ inl j ↦ inl j | inr j ↦ inr (inr j) ]

  -- the steps that stay
  pub others_are : (L : List A) (i : ℕ) → Distinct L → AreTheOthers L (dependents clash L i) (kept clash L i)
  others_are L i d = record { others = λ r h. (In-kept clash L i r h, kept_apart L i d r h); each = λ r h. kept_rest L i r h; in_order = λ a b h. kept_in_order clash L i a b h }

module _ {A : Type 0} (clash : A → A → Bool) where
  -- the dependents of any place are a closed part
  pub dependents_part : (L : List A) (i : ℕ) → Distinct L → IsClosedPart (λ a b. Depends clash L b a) L (dependents clash L i)
  dependents_part [] i d = record { within_log = λ r h. h; in_order = λ a b h. h; closed = λ a b h k. k }
  dependents_part (r ∷ L) zero d = (dependents_are clash (r ∷ L) zero r d refl).part
  dependents_part (r ∷ L) (suc i) d =
      let ih = dependents_part L i d.1 in
      record {
        within_log = λ e k. inr (ih.within_log e k);
        in_order = λ a b j. inr (ih.in_order a b j);
        closed = λ a b h k. elim h.0 [
          | inl q ↦ absurd (d.0 (subst (λ y. In y L) q.0 (ih.within_log a k)))
          | inr j ↦ ih.closed a b (j, h.1) k
        ];
      }

module _ {A : Type 0} (clash : A → A → Bool) (back : (a b : A) → clash a b ≡ true → clash b a ≡ true) where
  -- the pass from right to left
  causes_more : (r : A) (L : List A) (i : ℕ) (e : A) → In e (causes clash L i) → In e (causes clash (r ∷ L) (suc i))
  causes_more r L i e h = elim (true_or_false (hits clash (causes clash L i) r)) [ inl t ↦ rw t (inr h) | inr f ↦ rw f h ]

  causes_cases : (r : A) (L : List A) (i : ℕ) (e : A) → In e (causes clash (r ∷ L) (suc i)) → ((e ≡ r) × (hits clash (causes clash L i) r ≡ true)) ⊎ In e (causes clash L i)
  causes_cases r L i e h = elim (true_or_false (hits clash (causes clash L i) r)) [
    | inl t ↦ elim (let k : In e (r ∷ causes clash L i) = rw t at h in k) [ inl q ↦ inl (q, t) | inr j ↦ inr j ]
    | inr f ↦ inr (rw f at h)
  ]

  pub causes_are : (L : List A) (i : ℕ) (x : A) → Distinct L → IsAt L i x → IsLeastClosed (λ a b. Depends clash L a b) L x (causes clash L i)
  causes_are [] i x d h = elim h [ ]
  causes_are (r ∷ L) zero x d h =
      let none : (b : A) → In b L → In b (r ∷ []) → ⊥ = λ b j. elim [ inl q ↦ d.0 (subst (λ y. In y L) q j) | inr k ↦ k ] in
      record {
        has = inl h;
        part = record {
          within_log = λ e. elim [ inl q ↦ inl q | inr k ↦ absurd k ];
          in_order = λ a b. elim [ inl q ↦ elim q.1 [ ] | inr k ↦ elim k [ ] ];
          closed = λ b a h k. absurd (none b (elim h.0 [ inl q ↦ q.1 | inr j ↦ Before-right L a b j ]) k);
        };
        least = λ p g c e. elim [ inl q ↦ subst (λ y. p y ≡ true) (h ∙ sym q) g | inr k ↦ absurd k ];
      }
  causes_are (r ∷ L) (suc i) x d h =
      let ih = causes_are L i x d.1 h in
      record {
        has = causes_more r L i x ih.has;
        part = record {
          within_log = λ e k. elim (causes_cases r L i e k) [ inl q ↦ inl q.0 | inr j ↦ inr (ih.part.within_log e j) ];
          in_order = λ a b j. elim (true_or_false (hits clash (causes clash L i) r)) [
            | inl t ↦ elim (let k : Before (r ∷ causes clash L i) a b = rw t at j in k) [ inl q ↦ inl (q.0, ih.part.within_log b q.1) | inr k ↦ inr (ih.part.in_order a b k) ]
            | inr f ↦ inr (ih.part.in_order a b (rw f at j))
          ];
          closed = λ b a h k.
              let later : In b L = elim h.0 [ inl q ↦ q.1 | inr j ↦ Before-right L a b j ] in
              elim (causes_cases r L i b k) [
                | inl q ↦ absurd (d.0 (subst (λ y. In y L) q.0 later))
                | inr m ↦ elim h.0 [
                  | inl q ↦ let t = hits_true clash (causes clash L i) b r m (back r b (subst (λ y. clash y b ≡ true) q.0 h.1)) in rw t (inl q.0)
                  | inr j ↦ causes_more r L i a (ih.part.closed b a (j, h.1) m)
                ]
              ];
        };
        least = λ p g c e k.
            let ahead = ih.least p g (λ b a j. c b a (inr j.0, j.1)) in
            elim (causes_cases r L i e k) [
              | inl q ↦ let y = hits_by clash (causes clash L i) r q.1 in
                  subst (λ z. p z ≡ true) (sym q.0) (c y.0 r (inl (refl, ih.part.within_log y.0 y.1), back y.0 r y.2) (ahead y.0 y.1))
              | inr j ↦ ahead e j
            ];
      }
