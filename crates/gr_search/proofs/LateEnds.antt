-- Where the reduction in which nobody waits too early ends.
use Rattle.std.proofs.Common.{◌≡◌, ◌⊎◌, ◌<◌, ℕ, zero, suc, Bool, true, false, List, [], ◌∷◌, Option, Some, None, refl, sym, ◌∙◌, ap, subst, inl, inr, arith}
use Rattle.gr_search.specs.System.{System, Reached}
use Rattle.gr_search.specs.Going.{In}
use Rattle.gr_search.specs.Late.{IsWait, Waits, WaitsForBad, CanPutOff, CanGo, EndLaws, Listed, WaitsToEnd}
use Rattle.gr_search.proofs.Safe.{none_not, reached_next}
use Rattle.gr_search.proofs.LateSteps.{Takes, takes, goes_late}

module _ {State Event Key : Type 0} (Y : System State Event Key) (waits : State → Event → Bool) where
  open Y use {start, next, bad, alone, key}

  no_goes : (s t : State) (es : List Event) → ((e : Event) → next s e ≡ None) → Takes Y waits s es t → ⊥
  no_goes s t [] none g = g
  no_goes s t (e ∷ []) none g = none_not t (sym (none e) ∙ g.goes)
  no_goes s t (w ∷ e ∷ []) none g = none_not g.middle (sym (none w) ∙ g.wait.goes)
  no_goes s t (w ∷ e ∷ f ∷ es) none g = g

  -- where waits lead to what is bad nothing of the reduction is possible
  pub bad_stops : EndLaws Y waits → (s : State) → Reached Y s → WaitsForBad Y waits s → CanGo Y waits s → ⊥
  bad_stops laws s r b g = by s b.events r b.by g
    where
      by : (s : State) (ws : List Event) → Reached Y s → Waits Y waits s ws b.at → CanGo Y waits s → ⊥
      by s [] r h g = no_goes s g.to g.events (λ e. laws.bad_ends s e r (subst bad (sym h) b.is_bad)) (takes Y waits s g.to g.events g.goes)
      by s (w ∷ ws) r h g = by h.0 ws (reached_next Y s h.0 w r h.1.goes) h.2 (laws.goes_still s h.0 w r h.1 g)

  -- nothing becomes possible by a wait
  could_go : CanPutOff Y waits → (s m : State) (w : Event) → Reached Y s → IsWait Y waits s w m → CanGo Y waits m → CanGo Y waits s
  could_go puts_off s m w r i g =
      let p = puts_off s m g.to w g.events r i g.goes in
      record { events = p.first; to = p.by.0; goes = p.by.1 }

  module _ (puts_off : CanPutOff Y waits) (list : Listed Y waits) where
    -- a possible event, or none
    abbrev Looked : State → Type 0
    Looked s = ((e : Event) × (t : State) × (next s e ≡ Some t)) ⊎ ((e : Event) → next s e ≡ None)

    among : (s : State) (es : List Event) → ((e : Event) × (t : State) × (next s e ≡ Some t)) ⊎ ((e : Event) → In e es → next s e ≡ None)
    among s [] = inr (λ e i. absurd i)
    among s (x ∷ es) = by (next s x) refl (among s es)
      where
        by : (o : Option State) → next s x ≡ o → ((e : Event) × (t : State) × (next s e ≡ Some t)) ⊎ ((e : Event) → In e es → next s e ≡ None)
            → ((e : Event) × (t : State) × (next s e ≡ Some t)) ⊎ ((e : Event) → In e (x ∷ es) → next s e ≡ None)
        by (Some t) q rest = inl (x, t, q)
        by None q (inl found) = inl found
        by None q (inr none) = inr (λ e i. elim i [ inl same ↦ ap (next s) same ∙ q | inr j ↦ none e j ])

    look : (s : State) → Reached Y s → Looked s
    look s r = elim (among s (list.events s)) [
      | inl found ↦ inl found
      | inr none ↦ inr (λ e. by e none (next s e) refl)
    ]
      where
        by : (e : Event) → ((e : Event) → In e (list.events s) → next s e ≡ None) → (o : Option State) → next s e ≡ o → next s e ≡ None
        by e none None q = q
        by e none (Some t) q = absurd (none_not t (sym (none e (list.all s r e t q)) ∙ q))

    ends_within : (n : ℕ) (s : State) → list.left s < n → Reached Y s → (CanGo Y waits s → ⊥) → WaitsToEnd Y waits s
    ends_within zero s h r stops = absurd (omega (arith, h))
    ends_within (suc n) s h r stops = by (λ m k. ends_within n m k) (look s r)
      where
        by_wait : ((m : State) → list.left m < n → Reached Y m → (CanGo Y waits m → ⊥) → WaitsToEnd Y waits m) → (e : Event) (m : State) → next s e ≡ Some m → (b : Bool) → waits m e ≡ b
            → WaitsToEnd Y waits s
        by_wait again e m g false q = absurd (stops (record { events = e ∷ []; to = m; goes = goes_late Y waits s m e (record { goes = g; up = q }) }))
        by_wait again e m g true q =
            let i : IsWait Y waits s e m = record { goes = g; then_waits = q } in
            let f = list.fewer s m e r i in
            let w = again m (omega (arith, h, f)) (reached_next Y s m e r g) (λ k. stops (could_go puts_off s m e r i k)) in
            record { events = e ∷ w.events; at = w.at; by = (m, i, w.by); none = w.none }

        by : ((m : State) → list.left m < n → Reached Y m → (CanGo Y waits m → ⊥) → WaitsToEnd Y waits m) → Looked s → WaitsToEnd Y waits s
        by again (inl found) = by_wait again found.0 found.1 found.2 (waits found.1 found.0) refl
        by again (inr none) = record { events = []; at = s; by = refl; none = none }

    -- where nothing of the reduction is possible, waits lead to where nothing is
    pub stops_ends : (s : State) → Reached Y s → (CanGo Y waits s → ⊥) → WaitsToEnd Y waits s
    stops_ends s r stops = ends_within (suc (list.left s)) s (omega arith) r stops
