-- The schedules of a program with an aim. The crates above use these lemmas too.
use Rattle.std.proofs.Common.{◌≡◌, ◌+◌, ℕ, List, [], ◌∷◌, ◌++◌, length, map, option_map, refl, sym, ◌∙◌, ap, arith, inl, inr, true}
use Rattle.gr_base.specs.declared.events.Event.{Event}
use Rattle.gr_base.specs.declared.objects.Object.TheVariants.{Run, Go}
use Rattle.gr_causal.specs.Machine.{IsLog}
use Rattle.gr_causal.proofs.PathLemmas.{Path, path_of, log_join}
use Rattle.gr_program.specs.Programs.{Program}
use Rattle.gr_rules.specs.States.{State, live, ended, look}
use Rattle.gr_rules.specs.Steps.{machine}
use Rattle.gr_rules.specs.Turns.{IsReady}
use Rattle.gr_laws.specs.Reached.{Logged}
use Rattle.gr_laws.proofs.CellLemmas.{goroutine_is, machine_laws, run_is}
use Rattle.gr_record.specs.Running.{IsChecked}
use Rattle.gr_search.specs.System.{Laws, IsSafe, Leads, Reached, Runs}
use Rattle.gr_search.specs.Bounds.{HasBad, IsSafeWithin}
use Rattle.gr_schedules.specs.declared.Aim.{Aim}
use Rattle.gr_schedules.specs.declared.Aim.TheVariants.{EndsBadly, EndsWell, EndsBadlyOrLeaks}
use Rattle.gr_schedules.specs.Matters.{Matter, matter}
use Rattle.gr_schedules.specs.Schedules.{Origin, is_alone, schedules, state_after, newest_first}
use Rattle.gr_schedules.specs.Aims.{IsAim, NoneComes, NoneComesWithin, SomeComesBy, schedules_to}
use Rattle.gr_schedules.proofs.ScheduleLemmas.{Led, led_by}
use Rattle.gr_schedules.proofs.AloneLemmas.{stands_alone}
use Rattle.gr_schedules.proofs.LikeStates.{bad_like, goes_like, leaks_like}
use Rattle.gr_schedules.proofs.LocalSteps.{Locals, local_laws}
use Rattle.gr_schedules.proofs.SystemLaws.{bad_by_run, locals, reached_by, schedule_laws}

-- what leads by the schedules with an aim leads by the schedules, and the other way round
module _ (aim : Aim) (o : Origin) where
  pub same_leads : (log : List Event) (t : State) → Leads (schedules_to aim o) log t → Leads (schedules o) log t
  same_leads [] t h = h
  same_leads (e ∷ log) t h = (h.0, same_leads log h.0 h.1, h.2)

  pub leads_to : (log : List Event) (t : State) → Leads (schedules o) log t → Leads (schedules_to aim o) log t
  leads_to [] t h = h
  leads_to (e ∷ log) t h = (h.0, leads_to log h.0 h.1, h.2)

  same_reached : (t : State) → Reached (schedules_to aim o) t → Reached (schedules o) t
  same_reached t r = record { log = r.log; leads = same_leads r.log t r.leads }

module _ (o : Origin) (checked : IsChecked o.program) where
  -- local steps may be taken alone, too, where a good end is looked for
  well_locals : Locals (machine o.program) (state_after o.program o.before) (IsAim EndsWell) is_alone matter Run (λ e. Go e.go)
  well_locals = let l = locals o checked in record {
    goes = λ s a r h. l.goes s a (same_reached EndsWell o s r) h;
    fine = λ s a r h w. let k : ended ≡ live = sym w ∙ (stands_alone s a h).runs in cc;
    by_looks = l.by_looks;
    alone_there = λ s t n a e r h se. l.alone_there s t n a e (same_reached EndsWell o s r) h se;
    apart = λ s t n a e r h se. l.apart s t n a e (same_reached EndsWell o s r) h se;
    ends = λ s t n e f r se i. l.ends s t n e f (same_reached EndsWell o s r) se i;
    bad_by_run = λ s t r n a e reached local mine se i b same. run_is r.run t.run same ∙ b;
  }

  well_laws : Laws (schedules_to EndsWell o)
  well_laws = local_laws (machine o.program) (machine_laws o.program) (state_after o.program o.before) (IsAim EndsWell) is_alone matter Run (λ e. Go e.go) well_locals (record {
    next = λ s r t e i j same h. goes_like o.program s r t e (reached_by o s (same_reached EndsWell o s i)) (reached_by o r (same_reached EndsWell o r j)) same h;
    same_bad = λ s r i j same b. sym (ap (λ (m : Matter). m.run) same) ∙ b;
  })

  -- where a goroutine is ready, nothing leaks
  up : (s t : State) (a : Event) → is_alone s a ≡ true → look t (Go a.go) ≡ look s (Go a.go) → IsReady t a.go
  up s t a h mine =
      let w = stands_alone s a h in
      (w.goroutine, goroutine_is a.go (t.goroutines a.go) (s.goroutines a.go) mine ∙ w.there, w.is_up)

  -- nor does it where a local step may be taken alone, before it and after a step that ends all
  leak_locals : Locals (machine o.program) (state_after o.program o.before) (IsAim EndsBadlyOrLeaks) is_alone matter Run (λ e. Go e.go)
  leak_locals = let l = locals o checked in record {
    goes = λ s a r h. l.goes s a (same_reached EndsBadlyOrLeaks o s r) h;
    fine = λ s a r h b. elim b [
      | inl q ↦ l.fine s a (same_reached EndsBadlyOrLeaks o s r) h q
      | inr k ↦ k.none_ready a.go (up s s a h refl)
    ];
    by_looks = l.by_looks;
    alone_there = λ s t n a e r h se. l.alone_there s t n a e (same_reached EndsBadlyOrLeaks o s r) h se;
    apart = λ s t n a e r h se. l.apart s t n a e (same_reached EndsBadlyOrLeaks o s r) h se;
    ends = λ s t n e f r se i. l.ends s t n e f (same_reached EndsBadlyOrLeaks o s r) se i;
    bad_by_run = λ s t r n a e reached h mine se i b same. elim b [
      | inl q ↦ inl (bad_by_run o checked s t r n e (same_reached EndsBadlyOrLeaks o s reached) se i q same)
      | inr k ↦ absurd (k.none_ready a.go (up s t a h mine))
    ];
  }

  leak_laws : Laws (schedules_to EndsBadlyOrLeaks o)
  leak_laws = local_laws (machine o.program) (machine_laws o.program) (state_after o.program o.before) (IsAim EndsBadlyOrLeaks) is_alone matter Run (λ e. Go e.go) leak_locals (record {
    next = λ s r t e i j same h. goes_like o.program s r t e (reached_by o s (same_reached EndsBadlyOrLeaks o s i)) (reached_by o r (same_reached EndsBadlyOrLeaks o r j)) same h;
    same_bad = λ s r i j same b. elim b [
      | inl q ↦ inl (bad_like s r same q)
      | inr k ↦ inr (leaks_like s r same k)
    ];
  })

pub aim_laws : (aim : Aim) (o : Origin) → IsChecked o.program → Laws (schedules_to aim o)
aim_laws EndsBadly o checked = schedule_laws o checked
aim_laws EndsWell o checked = well_laws o checked
aim_laws EndsBadlyOrLeaks o checked = leak_laws o checked

module _ (aim : Aim) (o : Origin) where
  abbrev p : Program
  p = o.program

  abbrev s : State
  s = state_after o.program o.before

  runs_on : (m t : State) (steps : List (Logged p)) → Path (machine p) m steps t → Runs (schedules_to aim o) m (map (λ (r : Logged p). r.event) steps) t
  runs_on m t [] e = e
  runs_on m t (r ∷ rs) w = (w.0, ap (option_map (λ (x : State × (machine p).Note). x.0)) w.1.does, runs_on w.0 t rs w.2)

  runs : (steps : List (Logged p)) (t : State) → IsLog (machine p) s steps t → Runs (schedules_to aim o) s (map (λ (r : Logged p). r.event) steps) t
  runs steps t l = runs_on s t steps (path_of (machine p) s steps t l)

  pub none_comes : IsSafe (schedules_to aim o) → NoneComes aim p s
  none_comes safe steps t l b = safe (map (λ (r : Logged p). r.event) steps) t (runs steps t l) b

  as_long : (steps : List (Logged p)) → length (map (λ (r : Logged p). r.event) steps) ≡ length steps
  as_long [] = refl
  as_long (r ∷ rs) = let h = as_long rs in omega (arith, h)

  pub none_comes_within : (n : ℕ) → IsSafeWithin (schedules_to aim o) n → NoneComesWithin aim p n s
  none_comes_within n safe steps t l k b = safe (map (λ (r : Logged p). r.event) steps) t (runs steps t l) (let h = as_long steps in omega (arith, k, h)) b

  pub led_to : (log : List Event) (t : State) → Leads (schedules_to aim o) log t → Led o log t
  led_to log t h = led_by o log t (same_leads aim o log t h)

  newest_long : (xs done : List Event) → length (newest_first xs done) ≡ length xs + length done
  newest_long [] done = omega arith
  newest_long (x ∷ xs) done = let h = newest_long xs (x ∷ done) in omega (arith, h)

  pub led_long : (log : List Event) (t : State) (led : Led o log t) → length led.steps ≡ length log
  led_long log t led =
      let events = map (λ (r : Logged p). r.event) led.steps in
      let a = as_long led.steps in
      let b = newest_long events [] in
      let c : length (newest_first events []) ≡ length log = ap length led.events_are in
      omega (arith, a, b, c)

  pub some_comes : (n : ℕ) → HasBad (schedules_to aim o) n → SomeComesBy aim p n s
  some_comes n h =
      let led = led_to h.log h.at h.leads in
      record {
        some = record { steps = led.steps; state = h.at; leads = led.leads; comes = h.bad };
        long = led_long h.log h.at led ∙ h.long;
      }

-- where none comes to the aim, none does later
pub none_later : (aim : Aim) (p : Program) (s t : State) (steps : List (Logged p)) → IsLog (machine p) s steps t → NoneComes aim p s → NoneComes aim p t
none_later aim p s t steps l none more u k = none (steps ++ more) u (log_join (machine p) s t u steps more l k)
