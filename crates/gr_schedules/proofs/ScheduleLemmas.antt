-- The schedules of a program as a system. The crates above use these lemmas too.
use Rattle.std.proofs.Common.{◌≡◌, List, [], ◌∷◌, ◌++◌, map, Option, Some, None, option_map, refl, sym, ◌∙◌, ap, subst}
use Rattle.std.proofs.lemmas.List.{map-append}
use Rattle.gr_base.specs.declared.events.Event.{Event}
use Rattle.gr_causal.specs.Machine.{IsLog}
use Rattle.gr_causal.proofs.PathLemmas.{Path, path_of, log_push, log_split, step_log}
use Rattle.gr_program.specs.Programs.{Program}
use Rattle.gr_rules.specs.States.{State, start}
use Rattle.gr_rules.specs.Steps.{machine}
use Rattle.gr_laws.specs.Reached.{Logged, IsRun}
use Rattle.gr_search.specs.System.{IsSafe, Leads, Runs}
use Rattle.gr_schedules.specs.Schedules.{Origin, NoneEndsBadly, next_state, schedules, state_after, newest_first}

some_is : {A : Type 0} (a b : A) → Some a ≡ Some b → a ≡ b
some_is a b e = cc

none_not : {A : Type 0} (a : A) → None ≡ Some a → ⊥
none_not a e = cc

module _ (p : Program) where
  abbrev events_of : List (Logged p) → List Event
  events_of steps = map (λ r. r.event) steps

  -- a step of the log is one of the system
  goes_on : (s t : State) (e : Event) (n : (machine p).Note) → (machine p).step s e ≡ Some (t, n) → next_state p s e ≡ Some t
  goes_on s t e n h = ap (option_map (λ r. r.0)) h

  -- a possible event has a note
  pub noted : (s t : State) (e : Event) → next_state p s e ≡ Some t → (n : (machine p).Note) × ((machine p).step s e ≡ Some (t, n))
  noted s t e h = by ((machine p).step s e) refl h
    where
      by : (o : Option (State × (machine p).Note)) → (machine p).step s e ≡ o → option_map (λ r. r.0) o ≡ Some t → (n : (machine p).Note) × ((machine p).step s e ≡ Some (t, n))
      by None d g = absurd (none_not _ g)
      by (Some r) d g = (r.1, d ∙ ap (λ x. Some (x, r.1)) (some_is _ _ g))

  runs_by : (o : Origin) → o.program ≡ p → (s t : State) (steps : List (Logged p)) → Path (machine p) s steps t → Runs (schedules o) s (events_of steps) t
  runs_by o q s t [] e = e
  runs_by o q s t (r ∷ rs) w =
      (w.0, subst (λ x. next_state x s r.event ≡ Some w.0) (sym q) (goes_on s w.0 r.event r.note w.1.does), runs_by o q w.0 t rs w.2)

  -- where a run leads
  pub state_led : (log : List (Logged p)) (s : State) → IsRun p log s → state_after p (events_of log) ≡ s
  state_led log s l = ap (λ (r : Option (State × List (Logged p))). elim r [ Some x ↦ x.0 | None ↦ start p ]) l

  -- the events of a path, after those that lead to where it begins
  leads_on : (o : Origin) → o.program ≡ p → (s t : State) (steps : List (Logged p)) (done : List Event) → Path (machine p) s steps t → Leads (schedules o) done s
      → Leads (schedules o) (newest_first (events_of steps) done) t
  leads_on o q s t [] done e l = subst (Leads (schedules o) done) e l
  leads_on o q s t (r ∷ rs) done w l =
      leads_on o q w.0 t rs (r.event ∷ done) w.2 (s, l, subst (λ x. next_state x s r.event ≡ Some w.0) (sym q) (goes_on s w.0 r.event r.note w.1.does))

  -- the events of a run after its first ones lead to where it leads
  pub run_leads : (front behind : List (Logged p)) (t : State) → IsRun p (front ++ behind) t
      → Leads (schedules (record { program = p; before = events_of front })) (newest_first (events_of behind) []) t
  run_leads front behind t l =
      let m = log_split (machine p) (start p) front behind t l in
      leads_on (record { program = p; before = events_of front }) refl m.0 t behind [] (path_of (machine p) m.0 behind t m.2) (sym (state_led front m.0 m.1))

-- the events of a log lead by a run
pub record Led (o : Origin) (events : List Event) (s : State) : Type 0 where
  pub steps : List (Logged o.program)
  pub leads : IsLog (machine o.program) (state_after o.program o.before) steps s
  pub events_are : newest_first (map (λ (r : Logged o.program). r.event) steps) [] ≡ events

newest_last : {A : Type 0} (xs done : List A) (x : A) → newest_first (xs ++ x ∷ []) done ≡ x ∷ newest_first xs done
newest_last [] done x = refl
newest_last (y ∷ xs) done x = newest_last xs (y ∷ done) x

pub led_by : (o : Origin) (events : List Event) (s : State) → Leads (schedules o) events s → Led o events s
led_by o [] s l = record { steps = []; leads = ap (λ x. Some (x, [])) (sym l); events_are = refl }
led_by o (e ∷ es) s l =
    let before = led_by o es l.0 l.1 in
    let n = noted o.program l.0 s e l.2 in
    let step : Logged o.program = record { event = e; note = n.0; saved = _ } in
    record {
      steps = before.steps ++ step ∷ [];
      leads = log_push (machine o.program) _ before.steps l.0 step s before.leads (step_log (machine o.program) l.0 s e n.0 n.1);
      events_are = ap (λ xs. newest_first xs []) (map-append (λ (r : Logged o.program). r.event) before.steps (step ∷ [])) ∙ newest_last (map (λ (r : Logged o.program). r.event) before.steps) [] e ∙ ap (λ xs. e ∷ xs) before.events_are;
    }

pub newest_push : {A : Type 0} (xs : List A) (x : A) → newest_first (xs ++ x ∷ []) [] ≡ x ∷ newest_first xs []
newest_push xs x = newest_last xs [] x

abbrev pub newest_rest : {A : Type 0} → List A → List A
newest_rest [] = []
newest_rest (x ∷ xs) = xs

-- the last item is gone
pub newest_drop : {A : Type 0} (xs : List A) (x : A) (all : List A) → all ≡ xs ++ x ∷ [] → newest_first xs [] ≡ newest_rest (newest_first all [])
newest_drop xs x all e = sym (ap newest_rest (ap (λ ys. newest_first ys []) e ∙ newest_push xs x))

pub safe_runs : (o : Origin) → IsSafe (schedules o) → NoneEndsBadly o.program (state_after o.program o.before)
safe_runs o safe steps t l b =
    let s = state_after o.program o.before in
    safe (map (λ (r : Logged o.program). r.event) steps) t (runs_by o.program o refl s t steps (path_of (machine o.program) s steps t l)) b
