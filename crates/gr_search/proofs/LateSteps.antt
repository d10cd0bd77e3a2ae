-- The events of the reduction in which nobody waits before the event comes that ends the wait.
use Rattle.std.proofs.Common.{◌≡◌, Bool, true, false, ◌||◌, if◌then◌else◌, List, [], ◌∷◌, ◌++◌, Option, Some, None, option_and_then, refl, sym, ◌∙◌, ap, subst}
use Rattle.std.specs.List.{flat_map}
use Rattle.gr_search.specs.System.{System, Reached, Runs, Leads, Laws}
use Rattle.gr_search.specs.Late.{unless, IsWait, Waits, after_two, late_next, late, WaitsForBad, WaitLaws}
use Rattle.gr_search.proofs.Safe.{some_is, none_not, not_both, reached_next}

-- runs, one after the other
pub runs_join : {State Event Key : Type 0} (Y : System State Event Key) (s m t : State) (front behind : List Event) → Runs Y s front m → Runs Y m behind t → Runs Y s (front ++ behind) t
runs_join Y s m t [] behind f b = subst (λ x. Runs Y x behind t) (sym f) b
runs_join Y s m t (e ∷ front) behind f b = (f.0, f.1, runs_join Y f.0 m t front behind f.2 b)

module _ {State Event Key : Type 0} (Y : System State Event Key) (waits : State → Event → Bool) where
  open Y use {start, next, bad, alone, key}

  -- an event after which the one who takes it does not wait
  pub record Goes (s : State) (e : Event) (t : State) : Type 0 where
    pub goes : next s e ≡ Some t
    pub up : waits t e ≡ false

  -- a wait, and an event after which neither of the two waits
  pub record Meets (s : State) (w e : Event) (t : State) : Type 0 where
    pub middle : State
    pub wait : IsWait Y waits s w middle
    pub goes : next middle e ≡ Some t
    pub first_up : waits t w ≡ false
    pub last_up : waits t e ≡ false

  -- what it means that events are taken as one
  abbrev pub Takes : State → List Event → State → Type 0
  Takes s [] t = ⊥
  Takes s (e ∷ []) t = Goes s e t
  Takes s (w ∷ e ∷ []) t = Meets s w e t
  Takes s (w ∷ e ∷ f ∷ es) t = ⊥

  unless_is : (b : Bool) (u t : State) → unless b u ≡ Some t → (b ≡ false) × (u ≡ t)
  unless_is true u t h = absurd (none_not t h)
  unless_is false u t h = (refl, some_is u t h)

  goes_of : (s t : State) (e : Event) → late_next Y waits s (e ∷ []) ≡ Some t → Goes s e t
  goes_of s t e h = by (next s e) refl h
    where
      by : (o : Option State) → next s e ≡ o → option_and_then (λ u. unless (waits u e) u) o ≡ Some t → Goes s e t
      by None q g = absurd (none_not t g)
      by (Some u) q g =
          let x = unless_is (waits u e) u t g in
          record { goes = q ∙ ap Some x.1; up = ap (λ v. waits v e) (sym x.1) ∙ x.0 }

  neither : (a b : Bool) → (a || b) ≡ false → (a ≡ false) × (b ≡ false)
  neither false false h = (refl, refl)
  neither false true h = (refl, h)
  neither true b h = absurd (not_both true refl h)

  meets_of : (s t : State) (w e : Event) → after_two Y waits s w e ≡ Some t → Meets s w e t
  meets_of s t w e h = by (next s w) refl h
    where
      last : (m : State) → IsWait Y waits s w m → (o : Option State) → next m e ≡ o → option_and_then (λ u. unless (waits u w || waits u e) u) o ≡ Some t → Meets s w e t
      last m i None q g = absurd (none_not t g)
      last m i (Some u) q g =
          let x = unless_is (waits u w || waits u e) u t g in
          let n = neither (waits u w) (waits u e) x.0 in
          record { middle = m; wait = i; goes = q ∙ ap Some x.1; first_up = ap (λ v. waits v w) (sym x.1) ∙ n.0; last_up = ap (λ v. waits v e) (sym x.1) ∙ n.1 }

      first : (m : State) → next s w ≡ Some m → (b : Bool) → waits m w ≡ b → (if b then option_and_then (λ u. unless (waits u w || waits u e) u) (next m e) else None) ≡ Some t → Meets s w e t
      first m q true i g = last m (record { goes = q; then_waits = i }) (next m e) refl g
      first m q false i g = absurd (none_not t g)

      by : (o : Option State) → next s w ≡ o → option_and_then (λ m. if waits m w then option_and_then (λ u. unless (waits u w || waits u e) u) (next m e) else None) o ≡ Some t → Meets s w e t
      by None q g = absurd (none_not t g)
      by (Some m) q g = first m q (waits m w) refl g

  pub takes : (s t : State) (es : List Event) → late_next Y waits s es ≡ Some t → Takes s es t
  takes s t [] h = absurd (none_not t h)
  takes s t (e ∷ []) h = goes_of s t e h
  takes s t (w ∷ e ∷ []) h = meets_of s t w e h
  takes s t (w ∷ e ∷ f ∷ es) h = absurd (none_not t h)

  pub goes_late : (s t : State) (e : Event) → Goes s e t → late_next Y waits s (e ∷ []) ≡ Some t
  goes_late s t e g = ap (option_and_then (λ u. unless (waits u e) u)) g.goes ∙ ap (λ b. unless b t) g.up

  pub meets_late : (s t : State) (w e : Event) → Meets s w e t → late_next Y waits s (w ∷ e ∷ []) ≡ Some t
  meets_late s t w e g =
      ap (option_and_then (λ m. if waits m w then option_and_then (λ u. unless (waits u w || waits u e) u) (next m e) else None)) g.wait.goes
      ∙ ap (λ b. if b then option_and_then (λ u. unless (waits u w || waits u e) u) (next g.middle e) else None) g.wait.then_waits
      ∙ ap (option_and_then (λ u. unless (waits u w || waits u e) u)) g.goes
      ∙ ap (λ b. unless (b || waits t e) t) g.first_up
      ∙ ap (λ b. unless b t) g.last_up

  pub taken : (s t : State) (es : List Event) → Takes s es t → late_next Y waits s es ≡ Some t
  taken s t [] g = absurd g
  taken s t (e ∷ []) g = goes_late s t e g
  taken s t (w ∷ e ∷ []) g = meets_late s t w e g
  taken s t (w ∷ e ∷ f ∷ es) g = absurd g

  -- the events of the reduction are runs
  runs_of : (s t : State) (es : List Event) → Takes s es t → Runs Y s es t
  runs_of s t [] g = absurd g
  runs_of s t (e ∷ []) g = (t, g.goes, refl)
  runs_of s t (w ∷ e ∷ []) g = (g.middle, g.wait.goes, (t, g.goes, refl))
  runs_of s t (w ∷ e ∷ f ∷ es) g = absurd g

  pub reached_by : (s t : State) (es : List Event) → Reached Y s → Runs Y s es t → Reached Y t
  reached_by s t [] r h = subst (Reached Y) h r
  reached_by s t (e ∷ es) r h = reached_by h.0 t es (reached_next Y s h.0 e r h.1) h.2

  pub reached_late : (s t : State) (es : List Event) → Reached Y s → late_next Y waits s es ≡ Some t → Reached Y t
  reached_late s t es r h = reached_by s t es r (runs_of s t es (takes s t es h))

  -- each run of the reduction is a run
  pub late_runs : (s t : State) (ess : List (List Event)) → Runs (late Y waits) s ess t → Runs Y s (flat_map (λ es. es) ess) t
  late_runs s t [] h = h
  late_runs s t (es ∷ ess) h = runs_join Y s h.0 t es (flat_map (λ x. x) ess) (runs_of s h.0 es (takes s h.0 es h.1)) (late_runs h.0 t ess h.2)

  pub wait_runs : (s t : State) (ws : List Event) → Waits Y waits s ws t → Runs Y s ws t
  wait_runs s t [] h = h
  wait_runs s t (w ∷ ws) h = (h.0, h.1.goes, wait_runs h.0 t ws h.2)

  -- what the reduction reaches is reached
  leads_reached : (log : List (List Event)) (s : State) → Leads (late Y waits) log s → Reached Y s
  leads_reached [] s h = record { log = []; leads = h }
  leads_reached (es ∷ log) s h = reached_late h.0 s es (leads_reached log h.0 h.1) h.2

  pub late_reached : (s : State) → Reached (late Y waits) s → Reached Y s
  late_reached s r = leads_reached r.log s r.leads

  -- where nothing is possible, nobody can wait
  pub bad_now : (u : State) → ((f : Event) → next u f ≡ None) → (ws : List Event) (t : State) → Waits Y waits u ws t → bad t → bad u
  bad_now u none [] t w b = subst bad (sym w) b
  bad_now u none (x ∷ ws) t w b = absurd (none_not w.0 (sym (none x) ∙ w.1.goes))

  -- what is bad now
  pub bad_here : (v : State) → bad v → WaitsForBad Y waits v
  bad_here v b = record { events = []; at = v; by = refl; is_bad = b }

  pub none_late : (u : State) → ((f : Event) → next u f ≡ None) → (es : List Event) → late_next Y waits u es ≡ None
  none_late u none es = by es (late_next Y waits u es) refl
    where
      never : (es : List Event) (t : State) → Takes u es t → ⊥
      never [] t g = g
      never (e ∷ []) t g = none_not t (sym (none e) ∙ g.goes)
      never (w ∷ e ∷ []) t g = none_not g.middle (sym (none w) ∙ g.wait.goes)
      never (w ∷ e ∷ f ∷ es) t g = g

      by : (es : List Event) (o : Option State) → late_next Y waits u es ≡ o → late_next Y waits u es ≡ None
      by es None q = q
      by es (Some t) q = absurd (never es t (takes u t es q))

  -- States with one key go on alike: by waits, by events of the reduction, and by runs of it.
  module _ (laws : Laws Y) (waiting : WaitLaws Y waits) where
    open laws use {like_next, like_bad}
    open waiting use {like_waits}

    abbrev pub Like : State → (State → Type 0) → Type 0
    Like t P = (u : State) × P u × (key t ≡ key u)

    pub wait_like : (s r t : State) (w : Event) → Reached Y s → Reached Y r → key s ≡ key r → IsWait Y waits s w t → Like t (IsWait Y waits r w)
    wait_like s r t w i j k h =
        let u = like_next s r t w i j k h.goes in
        (u.0, record { goes = u.1; then_waits = sym (like_waits t u.0 w (reached_next Y s t w i h.goes) (reached_next Y r u.0 w j u.1) u.2) ∙ h.then_waits }, u.2)

    pub waits_like : (s r t : State) (ws : List Event) → Reached Y s → Reached Y r → key s ≡ key r → Waits Y waits s ws t → Like t (Waits Y waits r ws)
    waits_like s r t [] i j k h = (r, refl, ap key (sym h) ∙ k)
    waits_like s r t (w ∷ ws) i j k h =
        let m = wait_like s r h.0 w i j k h.1 in
        let u = waits_like h.0 m.0 t ws (reached_next Y s h.0 w i h.1.goes) (reached_next Y r m.0 w j m.1.goes) m.2 h.2 in
        (u.0, (m.0, m.1, u.1), u.2)

    takes_like : (s r t : State) (es : List Event) → Reached Y s → Reached Y r → key s ≡ key r → Takes s es t → Like t (Takes r es)
    takes_like s r t [] i j k h = absurd h
    takes_like s r t (e ∷ []) i j k h =
        let u = like_next s r t e i j k h.goes in
        (u.0, record { goes = u.1; up = sym (like_waits t u.0 e (reached_next Y s t e i h.goes) (reached_next Y r u.0 e j u.1) u.2) ∙ h.up }, u.2)
    takes_like s r t (w ∷ e ∷ []) i j k h =
        let m = wait_like s r h.middle w i j k h.wait in
        let x = reached_next Y s h.middle w i h.wait.goes in
        let y = reached_next Y r m.0 w j m.1.goes in
        let u = like_next h.middle m.0 t e x y m.2 h.goes in
        let same : (f : Event) → waits u.0 f ≡ waits t f = λ f. sym (like_waits t u.0 f (reached_next Y h.middle t e x h.goes) (reached_next Y m.0 u.0 e y u.1) u.2) in
        (u.0, record { middle = m.0; wait = m.1; goes = u.1; first_up = same w ∙ h.first_up; last_up = same e ∙ h.last_up }, u.2)
    takes_like s r t (w ∷ e ∷ f ∷ es) i j k h = absurd h

    pub late_like : (s r t : State) (es : List Event) → Reached Y s → Reached Y r → key s ≡ key r → late_next Y waits s es ≡ Some t → Like t (λ u. late_next Y waits r es ≡ Some u)
    late_like s r t es i j k h =
        let u = takes_like s r t es i j k (takes s t es h) in
        (u.0, taken r u.0 es u.1, u.2)

    pub late_runs_like : (s r t : State) (ess : List (List Event)) → Reached Y s → Reached Y r → key s ≡ key r → Runs (late Y waits) s ess t → Like t (Runs (late Y waits) r ess)
    late_runs_like s r t [] i j k h = (r, refl, ap key (sym h) ∙ k)
    late_runs_like s r t (es ∷ ess) i j k h =
        let m = late_like s r h.0 es i j k h.1 in
        let u = late_runs_like h.0 m.0 t ess (reached_late s h.0 es i h.1) (reached_late r m.0 es j m.1) m.2 h.2 in
        (u.0, (m.0, m.1, u.1), u.2)

    pub bad_like : (s r : State) → Reached Y s → Reached Y r → key s ≡ key r → WaitsForBad Y waits s → WaitsForBad Y waits r
    bad_like s r i j k b =
        let u = waits_like s r b.at b.events i j k b.by in
        let x = reached_by s b.at b.events i (wait_runs s b.at b.events b.by) in
        let y = reached_by r u.0 b.events j (wait_runs r u.0 b.events u.1) in
        record { events = b.events; at = u.0; by = u.1; is_bad = like_bad b.at u.0 x y u.2 b.is_bad }
