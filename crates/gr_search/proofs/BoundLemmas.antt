-- Runs of at most so many steps, and logs of bad states.
use Rattle.std.proofs.Common.{◌≡◌, ◌⊎◌, ◌<◌, ◌≤◌, ◌+◌, ℕ, zero, suc, List, [], ◌∷◌, ◌++◌, length, Some, refl, sym, ◌∙◌, subst, arith, inl, inr, length-append}
use Rattle.gr_search.specs.System.{System, Runs, IsSafe, Leads}
use Rattle.gr_search.specs.Bounds.{IsSafeWithin, IsFewest, HasBad, bounded}
use Rattle.gr_search.specs.BoundLaws.{steps_within}

module _ {State Event Key : Type 0} (Y : System State Event Key) where
  runs_within : (n : ℕ) (s : State) (es : List Event) (t : State) (left : ℕ) → Runs Y s es t → length es ≤ left
      → (u : State × ℕ) × Runs (bounded n Y) (s, left) es u × (u.0 ≡ t)
  runs_within n s [] t left h l = ((s, left), refl, h)
  runs_within n s (e ∷ es) t zero h l = absurd (omega (arith, l))
  runs_within n s (e ∷ es) t (suc left) h l =
      let rest = runs_within n h.0 es t left h.2 (omega (arith, l)) in
      (rest.0, ((h.0, left), steps_within Y.next s h.0 e (suc left) left refl h.1, rest.1), rest.2)

  pub safe_within : (n : ℕ) → IsSafe (bounded n Y) → IsSafeWithin Y n
  safe_within n safe es t h l b =
      let w = runs_within n Y.start es t n h l in
      safe es w.0 w.1 (subst Y.bad (sym w.2) b)

  runs_push : (s : State) (es : List Event) (m t : State) (e : Event) → Runs Y s es m → Y.next m e ≡ Some t → Runs Y s (es ++ e ∷ []) t
  runs_push s [] m t e h n = (t, subst (λ x. Y.next x e ≡ Some t) (sym h) n, refl)
  runs_push s (d ∷ es) m t e h n = (h.0, h.1, runs_push h.0 es m t e h.2 n)

  -- a log is a run, the other way round
  run_of : (log : List Event) (t : State) → Leads Y log t → (es : List Event) × Runs Y Y.start es t × (length es ≡ length log)
  run_of [] t h = ([], sym h, refl)
  run_of (e ∷ log) t h =
      let before = run_of log h.0 h.1 in
      let count = before.2 in
      (before.0 ++ e ∷ [], runs_push Y.start before.0 h.0 t e before.1 h.2, let l = length-append before.0 (e ∷ []) in omega (arith, l, count))

  -- a bad state has more steps than are safe
  pub above : (n m : ℕ) → IsSafeWithin Y n → HasBad Y m → n < m
  above n m safe bad = elim (le_or_lt m n) [ inl l ↦ absurd (unsafe l) | inr l ↦ l ]
    where
      le_or_lt : (a b : ℕ) → (a ≤ b) ⊎ (b < a)
      le_or_lt zero b = inl (omega arith)
      le_or_lt (suc a) zero = inr (omega arith)
      le_or_lt (suc a) (suc b) = elim (le_or_lt a b) [ inl l ↦ inl (omega (arith, l)) | inr l ↦ inr (omega (arith, l)) ]

      unsafe : m ≤ n → ⊥
      unsafe l =
          let run = run_of bad.log bad.at bad.leads in
          let count = run.2 in
          let long = bad.long in
          safe run.0 bad.at run.1 (omega (arith, l, count, long)) bad.bad

  pub fewer : (n m : ℕ) → m ≤ n → IsSafeWithin Y n → IsSafeWithin Y m
  fewer n m l safe es t h k = safe es t h (omega (arith, l, k))

  -- no fewer steps lead to a bad state than one more than are safe
  pub is_fewest : (n : ℕ) (log : List Event) → length log ≤ n + 1 → IsSafeWithin Y n → IsFewest Y log
  is_fewest n log l safe m k = fewer n m (omega (arith, l, k)) safe

  -- nothing leads to a bad state in no step from a start that is not bad
  pub safe_at_start : (log : List Event) (s : State) → Leads Y log s → log ≡ [] → ¬ Y.bad s → IsSafeWithin Y 0
  safe_at_start log s h e fine [] t r l b = let at : s ≡ Y.start = subst (λ x. Leads Y x s) e h in fine (subst Y.bad (sym (at ∙ r)) b)
  safe_at_start log s h e fine (d ∷ es) t r l b = absurd (omega (arith, l))
