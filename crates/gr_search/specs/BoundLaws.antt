-- The runs of at most so many steps meet the laws of systems that are searched.
use Rattle.std.proofs.Common.{◌≡◌, ◌≤◌, ◌+◌, ◌-◌, ℕ, zero, suc, true, false, List, [], ◌∷◌, ◌++◌, length, Option, Some, None, option_map, refl, sym, ◌∙◌, ap, subst, arith, length-append}
use Rattle.std.specs.Int.{from_le_bytes, to_le_bytes, w64}
use Rattle.std.proofs.lemmas.Nat.{from_le_bytes-to_le_bytes_8}
use Rattle.gr_search.specs.System.{System, Laws, Leads, Reached}
use Rattle.gr_search.specs.Bounds.{next_within, bounded, MeansWithin}

some_is : {A : Type 0} (a b : A) → Some a ≡ Some b → a ≡ b
some_is a b e = cc

none_not : {A : Type 0} (a : A) → None ≡ Some a → ⊥
none_not a e = cc

no_truth : false ≡ true → ⊥
no_truth e = cc

-- a step, and what is left before and after it
pub record Steps {State Event : Type 0} (next : State → Event → Option State) (s : State × ℕ) (e : Event) (t : State × ℕ) : Type 0 where
  pub goes : next s.0 e ≡ Some t.0
  pub one_fewer : s.1 ≡ suc t.1

module _ {State Event : Type 0} (next : State → Event → Option State) where
  -- a step of the bounded system is one of the other
  pub steps : (s t : State × ℕ) (e : Event) → next_within next s e ≡ Some t → Steps next s e t
  steps s t e h = by_left s.1 refl (h)
    where
      by_step : (left : ℕ) → s.1 ≡ suc left → (o : Option State) → next s.0 e ≡ o → option_map (λ t. (t, left)) o ≡ Some t → Steps next s e t
      by_step left l None o h = absurd (none_not t h)
      by_step left l (Some m) o h =
          let is : (m, left) ≡ t = some_is (m, left) t h in
          record { goes = o ∙ ap (λ x. Some x.0) is; one_fewer = l ∙ ap (λ x. suc x.1) is }

      by_left : (left : ℕ) → s.1 ≡ left → (elim left [ zero ↦ None | suc k ↦ option_map (λ t. (t, k)) (next s.0 e) ]) ≡ Some t → Steps next s e t
      by_left zero l h = absurd (none_not t h)
      by_left (suc k) l h = by_step k l (next s.0 e) refl h

  -- and the other way round
  pub steps_within : (s m : State) (e : Event) (n left : ℕ) → n ≡ suc left → next s e ≡ Some m → next_within next (s, n) e ≡ Some (m, left)
  steps_within s m e n left l h = ap (λ k. next_within next (s, k) e) l ∙ ap (option_map (λ t. (t, left))) h

module _ {State Event Key : Type 0} (Y : System State Event Key) (n : ℕ) where
  -- a log of the bounded system is one of the other
  pub leads_on : (log : List Event) (s : State × ℕ) → Leads (bounded n Y) log s → Leads Y log s.0 × (s.1 + length log ≡ n)
  leads_on [] s h = (ap (λ x. x.0) h, let l : s.1 ≡ n = ap (λ x. x.1) h in omega (arith, l))
  leads_on (e ∷ log) s h =
      let before = leads_on log h.0 h.1 in
      let step = steps Y.next h.0 s e h.2 in
      let count = before.1 in
      let fewer = step.one_fewer in
      ((h.0.0, before.0, step.goes), omega (arith, count, fewer))

  pub reached_on : (s : State × ℕ) → Reached (bounded n Y) s → Reached Y s.0
  reached_on s r = record { log = r.log; leads = (leads_on r.log s r.leads).0 }

  pub leads_within : (log : List Event) (s : State) (left : ℕ) → Leads Y log s → left + length log ≡ n → Leads (bounded n Y) log (s, left)
  leads_within [] s left h l = let is : left ≡ n = omega (arith, l) in λ i. (h i, is i)
  leads_within (e ∷ log) s left h l =
      ((h.0, suc left), leads_within log h.0 (suc left) h.1 (omega (arith, l)), steps_within Y.next h.0 s e (suc left) left refl h.2)

  module _ (laws : Laws Y) where
    like : (s r t : State × ℕ) (e : Event) → Reached (bounded n Y) s → Reached (bounded n Y) r → (bounded n Y).key s ≡ (bounded n Y).key r → next_within Y.next s e ≡ Some t
        → (u : State × ℕ) × (next_within Y.next r e ≡ Some u) × ((bounded n Y).key t ≡ (bounded n Y).key u)
    like s r t e i j k h =
        let step = steps Y.next s t e h in
        let u = laws.like_next s.0 r.0 t.0 e (reached_on s i) (reached_on r j) (ap (λ x. x.0) k) step.goes in
        let left : r.1 ≡ suc t.1 = sym (ap (λ x. x.1) k) ∙ step.one_fewer in
        ((u.0, t.1), steps_within Y.next r.0 u.0 e r.1 t.1 left u.1, λ i. (u.2 i, t.1))

    pub bounded_laws : Laws (bounded n Y)
    bounded_laws = record {
      alone_goes = λ s a r h. absurd (no_truth h);
      alone_fine = λ s a r h. absurd (no_truth h);
      alone_apart = λ s t u a e r h. absurd (no_truth h);
      like_next = like;
      like_bad = λ s r i j k b. laws.like_bad s.0 r.0 (reached_on s i) (reached_on r j) (ap (λ x. x.0) k) b;
    }

pub left_and_taken : (taken most : ℕ) → taken ≤ most → (most - taken) + taken ≡ most
left_and_taken taken most h = omega (arith, h)

same_length : (a b xs ys : List ℕ) → length a ≡ length b → a ++ xs ≡ b ++ ys → (a ≡ b) × (xs ≡ ys)
same_length [] [] xs ys l e = (refl, e)
same_length [] (y ∷ b) xs ys l e = absurd (omega (arith, l))
same_length (x ∷ a) [] xs ys l e = absurd (omega (arith, l))
same_length (x ∷ a) (y ∷ b) xs ys l e =
    let head : x ≡ y = cc in
    let tail : a ++ xs ≡ b ++ ys = cc in
    let w = same_length a b xs ys (omega (arith, l)) tail in
    (λ i. head i ∷ w.0 i, w.1)

-- bytes are a key of one thing
pub one_within : {Matter : Type 0} (means : List ℕ → Matter → Type 0) → ((key : List ℕ) (a b : Matter) → means key a → means key b → a ≡ b)
    → (key : List ℕ) (a b : Matter × ℕ) → MeansWithin means key a → MeansWithin means key b → a ≡ b
one_within means one key a b x y =
    let e : x.first ++ to_le_bytes w64 a.1 ≡ y.first ++ to_le_bytes w64 b.1 = sym x.bytes ∙ y.bytes in
    let l : length x.first + 8 ≡ length y.first + 8 = sym (length-append x.first (to_le_bytes w64 a.1)) ∙ ap length e ∙ length-append y.first (to_le_bytes w64 b.1) in
    let same = same_length x.first y.first (to_le_bytes w64 a.1) (to_le_bytes w64 b.1) (omega (arith, l)) e in
    let key_is : a.0 ≡ b.0 = one y.first a.0 b.0 (subst (λ k. means k a.0) same.0 x.is_key) y.is_key in
    let left_is : a.1 ≡ b.1 = sym (from_le_bytes-to_le_bytes_8 a.1 x.fits) ∙ ap (from_le_bytes w64) same.1 ∙ from_le_bytes-to_le_bytes_8 b.1 y.fits in
    λ i. (key_is i, left_is i)
