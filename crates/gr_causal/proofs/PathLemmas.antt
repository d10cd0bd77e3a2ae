-- A run as a chain of steps, and the same run as `replay` computes it.
use Rattle.std.proofs.Common.{◌≡◌, List, [], ◌∷◌, ◌++◌, map, Option, Some, None, refl, sym, ◌∙◌, ap, ap₂, subst, option_and_then}
use Rattle.gr_causal.specs.Machine.{Machine, StepOf, saved_of, IsLog, replay, logged}
use Rattle.gr_causal.proofs.ListLemmas.{some_is, none_not, cons_is}
use Rattle.gr_causal.proofs.StepLemmas.{Goes}

module _ (M : Machine) where
  open M use {State, Event, Note, step, writes}

  abbrev pub Path : State → List (StepOf M) → State → Type 0
  Path s [] t = s ≡ t
  Path s (r ∷ rs) t = (m : State) × Goes M s r m × Path m rs t

  abbrev pub events : List (StepOf M) → List Event
  events L = map (λ r. r.event) L

  pub path_of : (s : State) (L : List (StepOf M)) (t : State) → IsLog M s L t → Path s L t
  path_of s [] t e = ap (λ (p : State × List (StepOf M)). p.0) (some_is _ _ e)
  path_of s (r ∷ rs) t e = by_step (λ m. path_of m rs t) (step s r.event) refl e
    where
      by_rest : ((m : State) → IsLog M m rs t → Path m rs t) → (q : State × Note) → step s r.event ≡ Some q → (o : Option (State × List (StepOf M))) → replay M q.0 (events rs) ≡ o
          → logged M s r.event o q.1 ≡ Some (t, r ∷ rs) → Path s (r ∷ rs) t
      by_rest ih q d None f g = absurd (none_not _ g)
      by_rest ih q d (Some x) f g =
          let p = some_is _ _ g in
          let list = cons_is _ _ _ _ (ap (λ (p : State × List (StepOf M)). p.1) p) in
          let note : q.1 ≡ r.note = ap (λ (r : StepOf M). r.note) list.0 in
          let is : x ≡ (t, rs) = ap₂ (λ (a : State) (b : List (StepOf M)). (a, b)) (ap (λ (p : State × List (StepOf M)). p.0) p) list.1 in (
            q.0,
            record { does = d ∙ ap (λ n. Some (q.0, n)) note; keeps = sym (ap (λ (r : StepOf M). r.saved) list.0) ∙ ap (λ n. saved_of M s (writes n)) note },
            ih q.0 (f ∙ ap Some is),
          )

      by_step : ((m : State) → IsLog M m rs t → Path m rs t) → (o : Option (State × Note)) → step s r.event ≡ o → option_and_then (λ q. logged M s r.event (replay M q.0 (events rs)) q.1) o ≡ Some (t, r ∷ rs) → Path s (r ∷ rs) t
      by_step ih None d g = absurd (none_not _ g)
      by_step ih (Some q) d g = by_rest ih q d (replay M q.0 (events rs)) refl g

  pub log_of : (s : State) (L : List (StepOf M)) (t : State) → Path s L t → IsLog M s L t
  log_of s [] t e = ap (λ t. Some (t, [])) e
  log_of s (r ∷ rs) t w =
      ap (λ o. option_and_then (λ q. logged M s r.event (replay M q.0 (events rs)) q.1) o) w.1.does
      ∙ ap (λ o. logged M s r.event o r.note) (log_of w.0 rs t w.2)
      ∙ ap (λ x. Some (t, record { event = r.event; note = r.note; saved = x } ∷ rs)) (sym w.1.keeps)

  pub path-append : (s : State) (L N : List (StepOf M)) (t : State) → Path s (L ++ N) t → (m : State) × Path s L m × Path m N t
  path-append s [] N t p = (s, refl, p)
  path-append s (r ∷ L) N t p = let q = path-append p.0 L N t p.2 in (q.0, (p.0, p.1, q.1), q.2)

  append-path : (s : State) (L N : List (StepOf M)) (m t : State) → Path s L m → Path m N t → Path s (L ++ N) t
  append-path s [] N m t p q = subst (λ x. Path x N t) (sym p) q
  append-path s (r ∷ L) N m t p q = (p.0, p.1, append-path p.0 L N m t p.2 q)

  -- a log goes on by one step
  pub log_push : (s : State) (L : List (StepOf M)) (m : State) (r : StepOf M) (t : State) → IsLog M s L m → IsLog M m (r ∷ []) t → IsLog M s (L ++ r ∷ []) t
  log_push s L m r t p q = log_of s (L ++ r ∷ []) t (append-path s L (r ∷ []) m t (path_of s L m p) (path_of m (r ∷ []) t q))

  -- a log of two parts is a log up to where the second begins
  pub log_split : (s : State) (L N : List (StepOf M)) (t : State) → IsLog M s (L ++ N) t → (m : State) × IsLog M s L m × IsLog M m N t
  log_split s L N t l = let q = path-append s L N t (path_of s (L ++ N) t l) in (q.0, log_of s L q.0 q.1, log_of q.0 N t q.2)

  pub log_join : (s m t : State) (L N : List (StepOf M)) → IsLog M s L m → IsLog M m N t → IsLog M s (L ++ N) t
  log_join s m t L N p q = log_of s (L ++ N) t (append-path s L N m t (path_of s L m p) (path_of m N t q))

  -- a log has but one end
  pub one_end : (s t u : State) (L : List (StepOf M)) → IsLog M s L t → IsLog M s L u → t ≡ u
  one_end s t u L p q = ap (λ (x : State × List (StepOf M)). x.0) (some_is _ _ (sym p ∙ q))

  -- the log of one possible step
  pub step_log : (s t : State) (e : Event) (n : Note) → step s e ≡ Some (t, n) → IsLog M s (record { event = e; note = n; saved = saved_of M s (writes n) } ∷ []) t
  step_log s t e n h = log_of s _ t (t, record { does = h; keeps = refl }, refl)
