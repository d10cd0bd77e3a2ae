-- What the reduction in which nobody waits too early does not find is nowhere.
use Rattle.std.proofs.Common.{◌≡◌, ◌⊎◌, Bool, true, false, List, [], ◌∷◌, ◌++◌, Option, Some, None, refl, sym, ◌∙◌, ap, subst, inl, inr}
use Rattle.std.specs.List.{flat_map}
use Rattle.gr_search.specs.System.{System, Reached, Runs, Laws, IsSafe}
use Rattle.gr_search.specs.Late.{IsWait, Waits, late_next, late, WaitsForBad, WaitLaws, After, comes, undone, over, PutsOff, CanPutOff}
use Rattle.gr_search.proofs.Safe.{none_not, reached_next}
use Rattle.gr_search.proofs.LateSteps.{goes_late, bad_now, bad_here, none_late, reached_late, reached_by, runs_join, late_runs, wait_runs, waits_like, late_runs_like, bad_like}

module _ {State Event Key : Type 0} (Y : System State Event Key) (waits : State → Event → Bool) where
  open Y use {start, next, bad, alone, key}

  waits_join : (s m t : State) (ws : List Event) (w : Event) → Waits Y waits s ws m → IsWait Y waits m w t → Waits Y waits s (ws ++ w ∷ []) t
  waits_join s m t [] w h i = (t, subst (λ x. IsWait Y waits x w t) (sym h) i, refl)
  waits_join s m t (x ∷ ws) w h i = (h.0, h.1, waits_join h.0 m t ws w h.2 i)

  -- Runs of the reduction lead to where waits lead on, to what goes on as t does.
  record Follows (s t : State) : Type 0 where
    pub events : List (List Event)
    pub at : State
    pub by : Runs (late Y waits) s events at
    pub waiting : List Event
    pub on : State
    pub waited : Waits Y waits at waiting on
    pub like : key on ≡ key t

  -- nothing is possible in t, and where it is bad, runs of the reduction lead to what is bad
  record IsOver (s t : State) : Type 0 where
    pub events : List (List Event)
    pub at : State
    pub by : Runs (late Y waits) s events at
    pub none : (f : Event) → next t f ≡ None
    pub also : bad t → WaitsForBad Y waits at

  -- what runs of the reduction are to a run from s to t
  abbrev StandsFor : State → State → Type 0
  StandsFor s t = Follows s t ⊎ IsOver s t

  -- a wait that is put off, maybe until nothing
  record Off (s : State) (w : Event) (t : State) : Type 0 where
    pub events : List (List Event)
    pub at : State
    pub by : Runs (late Y waits) s events at
    pub after : After Y waits at w t

  late_reached_by : (s t : State) (ess : List (List Event)) → Reached Y s → Runs (late Y waits) s ess t → Reached Y t
  late_reached_by s t [] r h = subst (Reached Y) h r
  late_reached_by s t (es ∷ ess) r h = late_reached_by h.0 t ess (reached_late Y waits s h.0 es r h.1) h.2

  waits_reached : (s t : State) (ws : List Event) → Reached Y s → Waits Y waits s ws t → Reached Y t
  waits_reached s t ws r h = reached_by Y waits s t ws r (wait_runs Y waits s t ws h)

  follows_after : (s m t : State) (front : List (List Event)) → Runs (late Y waits) s front m → StandsFor m t → StandsFor s t
  follows_after s m t front h (inl f) = inl (record { events = front ++ f.events; at = f.at; by = runs_join (late Y waits) s m f.at front f.events h f.by; waiting = f.waiting; on = f.on; waited = f.waited; like = f.like })
  follows_after s m t front h (inr f) = inr (record { events = front ++ f.events; at = f.at; by = runs_join (late Y waits) s m f.at front f.events h f.by; none = f.none; also = f.also })

  off_after : (s m t : State) (w : Event) (front : List (List Event)) → Runs (late Y waits) s front m → Off m w t → Off s w t
  off_after s m t w front h p = record { events = front ++ p.events; at = p.at; by = runs_join (late Y waits) s m p.at front p.events h p.by; after = p.after }

  late_none : (u t : State) (ess : List (List Event)) → ((f : Event) → next u f ≡ None) → Runs (late Y waits) u ess t → u ≡ t
  late_none u t [] none h = h
  late_none u t (es ∷ ess) none h = absurd (none_not h.0 (sym (none_late Y waits u none es) ∙ h.1))

  waits_none : (u t : State) (ws : List Event) → ((f : Event) → next u f ≡ None) → Waits Y waits u ws t → u ≡ t
  waits_none u t [] none h = h
  waits_none u t (w ∷ ws) none h = absurd (none_not h.0 (sym (none w) ∙ h.1.goes))

  module _ (laws : Laws Y) (waiting : WaitLaws Y waits) (puts_off : CanPutOff Y waits) where
    open laws use {like_next, like_bad}

    none_like : (s t : State) → Reached Y s → Reached Y t → key s ≡ key t → ((f : Event) → next s f ≡ None) → (f : Event) → next t f ≡ None
    none_like s t i j k none f = by (next t f) refl
      where
        by : (o : Option State) → next t f ≡ o → next t f ≡ None
        by None q = q
        by (Some u) q = let v = like_next t s u f j i (sym k) q in absurd (none_not v.0 (sym (none f) ∙ v.1))

    stands_like : (s t u : State) → Reached Y t → Reached Y u → key t ≡ key u → StandsFor s t → StandsFor s u
    stands_like s t u i j k (inl f) = inl (record { events = f.events; at = f.at; by = f.by; waiting = f.waiting; on = f.on; waited = f.waited; like = f.like ∙ k })
    stands_like s t u i j k (inr f) = inr (record { events = f.events; at = f.at; by = f.by; none = none_like t u i j k f.none; also = λ b. f.also (like_bad u t j i (sym k) b) })

    off_like : (s t u : State) (w : Event) → Reached Y t → Reached Y u → key t ≡ key u → Off s w t → Off s w u
    off_like s t u w i j k p = record { events = p.events; at = p.at; by = p.by; after = by p.after }
      where
        by : After Y waits p.at w t → After Y waits p.at w u
        by (comes v h l) = comes v h (l ∙ k)
        by (undone l) = undone (l ∙ k)
        by (over none also) = over (none_like t u i j k none) (λ b. also (like_bad u t j i (sym k) b))

    -- a wait can be put off until after a run of the reduction
    past : (s m t : State) (w : Event) (ess : List (List Event)) → Reached Y s → IsWait Y waits s w m → Runs (late Y waits) m ess t → Off s w t
    past s m t w [] r i h = record { events = []; at = s; by = refl; after = comes m i (ap key h) }
    past s m t w (es ∷ ess) r i h = off_after s p.at t w (p.first ∷ p.others) p.by (by (λ v u j g. past p.at v u w ess before j g) p.after)
      where
        p : PutsOff Y waits s w h.0
        p = puts_off s m h.0 w es r i h.1

        before : Reached Y p.at
        before = late_reached_by s p.at (p.first ∷ p.others) r p.by

        here : Reached Y h.0
        here = reached_late Y waits m h.0 es (reached_next Y s m w r i.goes) h.1

        there : Reached Y t
        there = late_reached_by h.0 t ess here h.2

        by : ((v u : State) → IsWait Y waits p.at w v → Runs (late Y waits) v ess u → Off p.at w u) → After Y waits p.at w h.0 → Off p.at w t
        by again (comes v j k) =
            let at_v = reached_next Y p.at v w before j.goes in
            let u = late_runs_like Y waits laws waiting h.0 v t ess here at_v (sym k) h.2 in
            off_like p.at u.0 t w (late_reached_by v u.0 ess at_v u.1) there (sym u.2) (again v u.0 j u.1)
        by again (undone k) =
            let u = late_runs_like Y waits laws waiting h.0 p.at t ess here before (sym k) h.2 in
            record { events = ess; at = u.0; by = u.1; after = undone (sym u.2) }
        by again (over none also) =
            let one = late_none h.0 t ess none h.2 in
            record { events = []; at = p.at; by = refl; after = over (subst (λ x. (f : Event) → next x f ≡ None) one none) (λ b. also (subst bad (sym one) b)) }

    -- one more wait before
    wait_first : (s m t : State) (w : Event) → Reached Y s → Reached Y t → IsWait Y waits s w m → StandsFor m t → StandsFor s t
    wait_first s m t w r there i (inl f) = by p.after
      where
        p : Off s w f.at
        p = past s m f.at w f.events r i f.by

        before : Reached Y p.at
        before = late_reached_by s p.at p.events r p.by

        here : Reached Y f.at
        here = late_reached_by m f.at f.events (reached_next Y s m w r i.goes) f.by

        by : After Y waits p.at w f.at → StandsFor s t
        by (comes v j k) =
            let u = waits_like Y waits laws waiting f.at v f.on f.waiting here (reached_next Y p.at v w before j.goes) (sym k) f.waited in
            inl (record { events = p.events; at = p.at; by = p.by; waiting = w ∷ f.waiting; on = u.0; waited = (v, j, u.1); like = sym u.2 ∙ f.like })
        by (undone k) =
            let u = waits_like Y waits laws waiting f.at p.at f.on f.waiting here before (sym k) f.waited in
            inl (record { events = p.events; at = p.at; by = p.by; waiting = f.waiting; on = u.0; waited = u.1; like = sym u.2 ∙ f.like })
        by (over none also) =
            let same : key f.at ≡ key t = ap key (waits_none f.at f.on f.waiting none f.waited) ∙ f.like in
            inr (record {
              events = p.events;
              at = p.at;
              by = p.by;
              none = none_like f.at t here there same none;
              also = λ b. bad_here Y waits p.at (also (like_bad t f.at there here (sym same) b));
            })
    wait_first s m t w r there i (inr o) = inr (record { events = p.events; at = p.at; by = p.by; none = o.none; also = λ b. by p.after (o.also b) })
      where
        p : Off s w o.at
        p = past s m o.at w o.events r i o.by

        before : Reached Y p.at
        before = late_reached_by s p.at p.events r p.by

        here : Reached Y o.at
        here = late_reached_by m o.at o.events (reached_next Y s m w r i.goes) o.by

        by : After Y waits p.at w o.at → WaitsForBad Y waits o.at → WaitsForBad Y waits p.at
        by (comes v j k) b =
            let c = bad_like Y waits laws waiting o.at v here (reached_next Y p.at v w before j.goes) (sym k) b in
            record { events = w ∷ c.events; at = c.at; by = (v, j, c.by); is_bad = c.is_bad }
        by (undone k) b = bad_like Y waits laws waiting o.at p.at here before (sym k) b
        by (over none also) b = bad_here Y waits p.at (also (bad_now Y waits o.at none b.events b.at b.by b.is_bad))

    -- an event of the reduction after waits
    through : (s q t : State) (ws es : List Event) → Reached Y s → Reached Y t → Waits Y waits s ws q → late_next Y waits q es ≡ Some t → StandsFor s t
    through s q t [] es r there h g = inl (record { events = es ∷ []; at = t; by = (t, ap (λ x. late_next Y waits x es) h ∙ g, refl); waiting = []; on = t; waited = refl; like = refl })
    through s q t (w ∷ ws) es r there h g = wait_first s h.0 t w r there h.1 (through h.0 q t ws es (reached_next Y s h.0 w r h.1.goes) there h.2 g)

    -- one event more
    step : (s m t : State) (e : Event) → Reached Y s → Reached Y m → StandsFor s m → next m e ≡ Some t → StandsFor s t
    step s m t e r here (inr o) h = absurd (none_not t (sym (o.none e) ∙ h))
    step s m t e r here (inl f) h = by (waits u.0 e) refl
      where
        at_f : Reached Y f.at
        at_f = late_reached_by s f.at f.events r f.by

        on_f : Reached Y f.on
        on_f = waits_reached f.at f.on f.waiting at_f f.waited

        u : (u : State) × (next f.on e ≡ Some u) × (key t ≡ key u)
        u = like_next m f.on t e here on_f (sym f.like) h

        there : Reached Y u.0
        there = reached_next Y f.on u.0 e on_f u.1

        by : (b : Bool) → waits u.0 e ≡ b → StandsFor s t
        by true q = inl (record { events = f.events; at = f.at; by = f.by; waiting = f.waiting ++ e ∷ []; on = u.0; waited = waits_join f.at f.on u.0 f.waiting e f.waited (record { goes = u.1; then_waits = q }); like = sym u.2 })
        by false q =
            stands_like s u.0 t there (reached_next Y m t e here h) (sym u.2)
            (follows_after s f.at u.0 f.events f.by (through f.at f.on u.0 f.waiting (e ∷ []) at_f there f.waited (goes_late Y waits f.on u.0 e (record { goes = u.1; up = q }))))

    steps : (s m t : State) (es : List Event) → Reached Y s → Reached Y m → StandsFor s m → Runs Y m es t → StandsFor s t
    steps s m t [] r here w h = subst (StandsFor s) h w
    steps s m t (e ∷ es) r here w h = steps s h.0 t es r (reached_next Y m h.0 e here h.1) (step s m h.0 e r here w h.1) h.2

    pub late_safe : IsSafe (late Y waits) → IsSafe Y
    late_safe safe es t h b = by (steps start start t es first first (inl none_yet) h)
      where
        first : Reached Y start
        first = record { log = []; leads = refl }

        none_yet : Follows start start
        none_yet = record { events = []; at = start; by = refl; waiting = []; on = start; waited = refl; like = refl }

        by : StandsFor start t → ⊥
        by (inl f) =
            let on_f = waits_reached f.at f.on f.waiting (late_reached_by start f.at f.events first f.by) f.waited in
            let bad_on = like_bad t f.on (reached_by Y waits start t es first h) on_f (sym f.like) b in
            safe f.events f.at f.by (record { events = f.waiting; at = f.on; by = f.waited; is_bad = bad_on })
        by (inr o) = safe o.events o.at o.by (o.also b)

  -- what the reduction finds is there
  pub late_sound : IsSafe Y → IsSafe (late Y waits)
  late_sound safe ess t h b =
      safe (flat_map (λ es. es) ess ++ b.events) b.at
      (runs_join Y start t b.at (flat_map (λ es. es) ess) b.events (late_runs Y waits start t ess h) (wait_runs Y waits t b.at b.events b.by)) b.is_bad
