-- No bad state is reached where a closed set of keys has none.
use Rattle.std.proofs.Common.{◌≡◌, ◌⊎◌, ℕ, zero, suc, Bool, true, false, List, [], ◌∷◌, Some, None, refl, sym, ◌∙◌, ap, subst, inl, inr}
use Rattle.gr_search.specs.System.{System, Runs, IsSafe, Reached, Laws, Follows, stays, goes, Reaches, Expands, Closed}

pub not_both : (b : Bool) → b ≡ true → b ≡ false → ⊥
not_both b h g = cc

pub some_is : {A : Type 0} (a b : A) → Some a ≡ Some b → a ≡ b
some_is a b e = cc

pub none_not : {A : Type 0} (a : A) → None ≡ Some a → ⊥
none_not a e = cc

module _ {State Event Key : Type 0} (Y : System State Event Key) where
  open Y use {start, next, bad, alone, key}

  -- at most so many steps lead to a bad state
  abbrev BadWithin : ℕ → State → Type 0
  BadWithin zero s = bad s
  BadWithin (suc n) s = bad s ⊎ ((e : Event) × (t : State) × (next s e ≡ Some t) × BadWithin n t)

  bad_now : (n : ℕ) (s : State) → bad s → BadWithin n s
  bad_now zero s h = h
  bad_now (suc n) s h = inl h

  one_more : (n : ℕ) (s : State) → BadWithin n s → BadWithin (suc n) s
  one_more zero s h = inl h
  one_more (suc n) s (inl h) = inl h
  one_more (suc n) s (inr w) = inr (w.0, w.1, w.2, one_more n w.1 w.3)

  bad_at_end : (n : ℕ) (s : State) → ((f : Event) → next s f ≡ None) → BadWithin n s → bad s
  bad_at_end zero s none h = h
  bad_at_end (suc n) s none (inl h) = h
  bad_at_end (suc n) s none (inr w) = absurd (none_not w.1 (sym (none w.0) ∙ w.2))

  pub reached_next : (s t : State) (e : Event) → Reached Y s → next s e ≡ Some t → Reached Y t
  reached_next s t e r h = record { log = e ∷ r.log; leads = (s, r.leads, h) }

  within : (s : State) (es : List Event) (t : State) → Runs Y s es t → bad t → (n : ℕ) × BadWithin n s
  within s [] t h b = (zero, subst bad (sym h) b)
  within s (e ∷ es) t h b = let w = within h.0 es t h.2 b in (suc w.0, inr (e, h.0, h.1, w.1))

module _ {State Event Key : Type 0} (Y : System State Event Key) (laws : Laws Y) where
  open Y use {start, next, bad, alone, key}
  open laws use {alone_goes, alone_fine, alone_apart, like_next, like_bad}

  -- an event that may be taken alone may be taken first
  alone_first : (n : ℕ) (s t : State) (a : Event) → Reached Y s → alone s a ≡ true → next s a ≡ Some t → BadWithin Y n s → BadWithin Y n t
  alone_first zero s t a r h g b = absurd (alone_fine s a r h b)
  alone_first (suc n) s t a r h g (inl b) = absurd (alone_fine s a r h b)
  alone_first (suc n) s t a r h g (inr w) = elim (alone_apart s t w.1 a w.0 r h g w.2) [
    | inl same ↦ one_more Y n t (subst (BadWithin Y n) (some_is w.1 t (sym w.2 ∙ ap (next s) same ∙ g)) w.3)
    | inr (inl p) ↦ inr (w.0, p.both, p.e_last, alone_first n w.1 p.both a (reached_next Y s w.1 w.0 r w.2) p.still p.a_last w.3)
    | inr (inr p) ↦ let v = p.also (bad_at_end Y n w.1 p.none w.3) in inr (w.0, v.0, v.1, bad_now Y n v.0 v.2)
  ]

  follow_first : (n : ℕ) (s t : State) → Follows Y s t → Reached Y s → BadWithin Y n s → Reached Y t × BadWithin Y n t
  follow_first n s t stays r b = (r, b)
  follow_first n s t (goes {t = m} {a = a} h g f) r b = follow_first n m t f (reached_next Y s m a r g) (alone_first n s m a r h g b)

  like : (n : ℕ) (s r : State) → Reached Y s → Reached Y r → key s ≡ key r → BadWithin Y n s → BadWithin Y n r
  like zero s r i j k b = like_bad s r i j k b
  like (suc n) s r i j k (inl b) = inl (like_bad s r i j k b)
  like (suc n) s r i j k (inr w) =
      let u = like_next s r w.1 w.0 i j k w.2 in
      inr (w.0, u.0, u.1, like n w.1 u.0 (reached_next Y s w.1 w.0 i w.2) (reached_next Y r u.0 w.0 j u.1) u.2 w.3)

  module _ (V : Key → Type 0) (closed : Closed Y V) where
    -- the state to which the steps lead that are taken alone, and what is known of its key
    opened : (n : ℕ) (s : State) → Reached Y s → (v : Reaches Y V s) → BadWithin Y n s → (x : Expands Y (λ s e t. Reaches Y V t) (key v.at)) × BadWithin Y n x.at
    opened n s r v b =
        let f = follow_first n s v.at v.by r b in
        let x = closed.known (key v.at) v.known in
        (x, like n v.at x.at f.0 x.reached (sym x.is_key) f.1)

    never : (n : ℕ) (s : State) → Reached Y s → Reaches Y V s → BadWithin Y n s → ⊥
    never zero s r v b = let x = opened zero s r v b in x.0.fine x.1
    never (suc n) s r v b =
        let x = opened (suc n) s r v b in
        elim x.1 [
          | inl c ↦ x.0.fine c
          | inr w ↦ never n w.1 (reached_next Y x.0.at w.1 w.0 x.0.reached w.2) (x.0.each w.0 w.1 w.2) w.3
        ]

    pub safe : IsSafe Y
    safe es t h b = let w = within Y start es t h b in never w.0 start (record { log = []; leads = refl }) closed.begins w.1
