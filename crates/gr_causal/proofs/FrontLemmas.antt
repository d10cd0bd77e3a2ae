-- Whether a step can be the first of a configuration, and what is left without it.
use Rattle.std.proofs.Common.{◌≡◌, ℕ, zero, suc, ◌<◌, ◌≤◌, Bool, true, false, List, [], ◌∷◌, ◌++◌, ◌↔◌, reverse, take, drop, get_or, length, refl, sym, ◌∙◌, subst, subst₂, inl, inr, arith}
use Rattle.std.proofs.lemmas.List.{reverse-append, reverse-reverse, take_all}
use Rattle.gr_causal.specs.Sequences.{In}
use Rattle.gr_causal.specs.Orders.{Swaps}
use Rattle.gr_causal.specs.Orders.Swaps.{none, here, there, and}
use Rattle.gr_causal.specs.declared.mailboxes.Event.{Event}
use Rattle.gr_causal.specs.Mailboxes.{mailboxes, logged_as, clash as events_clash}
use Rattle.gr_causal.proofs.MachineTripLemmas.{apart_back}
use Rattle.gr_causal.proofs.TakeLemmas.{swaps_append, swaps_under, swaps_back, swaps_length, cancelled}

module _ {A : Type 0} (clash : A → A → Bool) where
  -- e stands in the list, and conflicts with none before it
  pub data Fronts (e : A) : List A → Type 0 where
    now : {L : List A} → Fronts e (e ∷ L)
    later : {a : A} {L : List A} → clash a e ≡ false → Fronts e L → Fronts e (a ∷ L)

  -- where e is not, and where something stands before it that conflicts
  abbrev pub Clears : A → List A → Type 0
  Clears e L = (b : A) → In b L → (clash b e ≡ false) × (b ≡ e → ⊥)

  absent : (e : A) (L : List A) → Clears e L → Fronts e L → ⊥
  absent e L c now = (c e (inl refl)).1 refl
  absent e L c (later {a = a} {L = L'} f q) = absent e L' (λ b h. c b (inr h)) q

  -- a step before it conflicts
  pub blocked_at : (L : List A) (i : ℕ) (e other : A) → i < length L → Clears e (take i L) → (get_or L i other ≡ e → ⊥) → clash (get_or L i other) e ≡ true → Fronts e L → ⊥
  blocked_at [] i e other l c n t q = absurd (omega arith)
  blocked_at (x ∷ L) zero e other l c n t now = n refl
  blocked_at (x ∷ L) zero e other l c n t (later f q) = let y : true ≡ false = sym t ∙ f in cc
  blocked_at (x ∷ L) (suc i) e other l c n t now = (c e (inl refl)).1 refl
  blocked_at (x ∷ L) (suc i) e other l c n t (later f q) = blocked_at L i e other (omega arith) (λ b h. c b (inr h)) n t q

  pub clears_more : (L : List A) (i : ℕ) (e other : A) → i < length L → Clears e (take i L) → (get_or L i other ≡ e → ⊥) → clash (get_or L i other) e ≡ false → Clears e (take (suc i) L)
  clears_more [] i e other l c n f = absurd (omega arith)
  clears_more (x ∷ L) zero e other l c n f = λ b h. elim h [ inl q ↦ subst (λ z. (clash z e ≡ false) × (z ≡ e → ⊥)) (sym q) (f, n) | inr k ↦ absurd k ]
  clears_more (x ∷ L) (suc i) e other l c n f = λ b h. elim h [
    | inl q ↦ c b (inl q)
    | inr k ↦ clears_more L i e other (omega arith) (λ b h. c b (inr h)) n f b k
  ]

  pub never_there : (L : List A) (i : ℕ) (e : A) → length L ≤ i → Clears e (take i L) → Fronts e L → ⊥
  never_there L i e l c q = absent e L (subst (Clears e) (take_all i L l) c) q

module _ {A : Type 0} (clash : A → A → Bool) (off : (a b : A) → clash a b ≡ false → clash b a ≡ false) where
  pub fronts_along : (e : A) (L N : List A) → Swaps clash L N → Fronts clash e L → Fronts clash e N
  fronts_along e L N none q = q
  fronts_along e L N (here {a = a} {b = b} {L = L'} c) now = later (off e b c) now
  fronts_along e L N (here {a = a} {b = b} {L = L'} c) (later f now) = now
  fronts_along e L N (here {a = a} {b = b} {L = L'} c) (later f (later g q)) = later g (later f q)
  fronts_along e L N (there {a = a} {L = L'} {N = N'} w) now = now
  fronts_along e L N (there {a = a} {L = L'} {N = N'} w) (later f q) = later f (fronts_along e L' N' w q)
  fronts_along e L N (and {L = L'} {N = N'} {P = P'} v w) q = fronts_along e N' P' w (fronts_along e L' N' v q)

  -- a step that conflicts with none before it comes to the front
  pub front_at : (L : List A) (i : ℕ) (e other : A) → i < length L → Clears clash e (take i L) → get_or L i other ≡ e → Swaps clash (e ∷ (take i L ++ drop (suc i) L)) L
  front_at [] i e other l c q = absurd (omega arith)
  front_at (x ∷ L) zero e other l c q = subst (λ z. Swaps clash (z ∷ L) (x ∷ L)) q none
  front_at (x ∷ L) (suc i) e other l c q = and (here (off x e (c x (inl refl)).0)) (there (front_at L i e other (omega arith) (λ b h. c b (inr h)) q))

  mirrored : (L N : List A) → Swaps clash L N → Swaps clash (reverse L) (reverse N)
  mirrored L N none = none
  mirrored L N (here {a = a} {b = b} {L = L'} c) = subst₂ (λ x y. Swaps clash x y) (sym (reverse-append (a ∷ b ∷ []) L')) (sym (reverse-append (b ∷ a ∷ []) L')) (swaps_under clash (reverse L') (b ∷ a ∷ []) (a ∷ b ∷ []) (here (off a b c)))
  mirrored L N (there {a = a} {L = L'} {N = N'} w) = subst₂ (λ x y. Swaps clash x y) (sym (reverse-append (a ∷ []) L')) (sym (reverse-append (a ∷ []) N')) (swaps_append clash (reverse L') (reverse N') (a ∷ []) (mirrored L' N' w))
  mirrored L N (and {L = L'} {N = N'} {P = P'} v w) = and (mirrored L' N' v) (mirrored N' P' w)

  front_cancelled : (e : A) (L N : List A) → Swaps clash (e ∷ L) (e ∷ N) → Swaps clash L N
  front_cancelled e L N w =
      let v = subst₂ (λ x y. Swaps clash x y) (reverse-append (e ∷ []) L) (reverse-append (e ∷ []) N) (mirrored (e ∷ L) (e ∷ N) w) in
      subst₂ (λ x y. Swaps clash x y) (reverse-reverse L) (reverse-reverse N) (mirrored (reverse L) (reverse N) (cancelled clash off e (reverse L) (reverse N) v))

  -- the first step is found, and the others are left
  pub after_front : (e : A) (R N P : List A) → Swaps clash (e ∷ P) N → Swaps clash (e ∷ R) N ↔ Swaps clash R P
  after_front e R N P w = (λ v. front_cancelled e R P (and v (swaps_back clash off (e ∷ P) N w)), λ v. and (there v) w)

  pub none_left : (N : List A) → Swaps clash [] N → N ≡ []
  none_left [] w = refl
  none_left (x ∷ N) w = let l = swaps_length clash [] (x ∷ N) w in absurd (omega arith)

-- steps of mailboxes do not conflict either way round
pub apart_events : (a b : Event) → events_clash a b ≡ false → events_clash b a ≡ false
apart_events a b f = apart_back mailboxes (logged_as a 0 []) (logged_as b 0 []) f
