-- The schedules of a checked program meet the laws of systems that are searched. The crates above use these lemmas too.
use Rattle.std.proofs.Common.{◌≡◌, List, [], ◌∷◌, map, Option, Some, None, refl, sym, ◌∙◌, ap, inl, inr, option_and_then}
use Rattle.gr_base.specs.declared.events.Event.{Event}
use Rattle.gr_base.specs.declared.objects.Object.TheVariants.{Run, Go}
use Rattle.gr_causal.specs.Machine.{replay, logged}
use Rattle.gr_causal.proofs.ListLemmas.{some_is, none_not}
use Rattle.gr_causal.proofs.PathLemmas.{log_join}
use Rattle.gr_causal.specs.Sequences.{In}
use Rattle.gr_program.specs.Programs.{Program}
use Rattle.gr_rules.specs.States.{State, start}
use Rattle.gr_rules.specs.Steps.{machine}
use Rattle.gr_laws.specs.Reached.{Logged, Reached}
use Rattle.gr_laws.proofs.CellLemmas.{machine_laws, run_is}
use Rattle.gr_record.specs.Running.{IsChecked}
use Rattle.gr_search.specs.System as system
use Rattle.gr_search.specs.System.{Laws}
use Rattle.gr_schedules.specs.Matters.{matter}
use Rattle.gr_schedules.specs.Schedules.{Origin, IsBad, is_alone, schedules, state_after}
use Rattle.gr_schedules.proofs.ScheduleLemmas.{led_by}
use Rattle.gr_schedules.proofs.LikeStates.{goes_like, bad_like}
use Rattle.gr_schedules.proofs.LocalSteps.{Locals, local_laws}
use Rattle.gr_schedules.proofs.AloneLemmas.{alone_by_looks, alone_is_fine, alone_is_plain, alone_keeps, alone_untouched, run_written, over}

module _ (p : Program) where
  -- replaying events gives a log of them
  replayed : (es : List Event) (s t : State) (log : List (Logged p)) → replay (machine p) s es ≡ Some (t, log) → map (λ (r : Logged p). r.event) log ≡ es
  replayed [] s t log h = ap (λ (x : State × List (Logged p)). map (λ (r : Logged p). r.event) x.1) (sym (some_is _ _ h))
  replayed (e ∷ es) s t log h = by_step (λ m u rest. replayed es m u rest) ((machine p).step s e) h
    where
      by_rest : ((m u : State) (rest : List (Logged p)) → replay (machine p) m es ≡ Some (u, rest) → map (λ (r : Logged p). r.event) rest ≡ es) → (m : State) (n : (machine p).Note)
          → (o : Option (State × List (Logged p))) → replay (machine p) m es ≡ o → logged (machine p) s e o n ≡ Some (t, log) → map (λ (r : Logged p). r.event) log ≡ e ∷ es
      by_rest ih m n None q h = absurd (none_not _ h)
      by_rest ih m n (Some x) q h =
          ap (λ (x : State × List (Logged p)). map (λ (r : Logged p). r.event) x.1) (sym (some_is _ _ h))
          ∙ ap (λ xs. e ∷ xs) (ih m x.0 x.1 q)

      by_step : ((m u : State) (rest : List (Logged p)) → replay (machine p) m es ≡ Some (u, rest) → map (λ (r : Logged p). r.event) rest ≡ es)
          → (o : Option (State × (machine p).Note)) → option_and_then (λ r. logged (machine p) s e (replay (machine p) r.0 es) r.1) o ≡ Some (t, log)
          → map (λ (r : Logged p). r.event) log ≡ e ∷ es
      by_step ih None h = absurd (none_not _ h)
      by_step ih (Some r) h = by_rest ih r.0 r.1 (replay (machine p) r.0 es) refl h

  -- where a search begins is reached
  begins : (es : List Event) → Reached p (state_after p es)
  begins es = by (replay (machine p) (start p) es) refl
    where
      by : (o : Option (State × List (Logged p))) → replay (machine p) (start p) es ≡ o → Reached p (elim o [ Some r ↦ r.0 | None ↦ start p ])
      by None q = record { log = []; leads = refl }
      by (Some r) q = record { log = r.1; leads = ap (replay (machine p) (start p)) (replayed es (start p) r.0 r.1 q) ∙ q }

-- what the system reaches, the program reaches
pub reached_by : (o : Origin) (s : State) → system.Reached (schedules o) s → Reached o.program s
reached_by o s r =
    let first = begins o.program o.before in
    let l = led_by o r.log s r.leads in
    record { log = _; leads = log_join (machine o.program) (start o.program) (state_after o.program o.before) s first.log l.steps first.leads l.leads }

module _ (o : Origin) (checked : IsChecked o.program) where
  pub bad_by_run : (s t r : State) (n : (machine o.program).Note) (e : Event) → system.Reached (schedules o) s → (machine o.program).step s e ≡ Some (t, n) → In Run n.writes → IsBad t
      → (machine o.program).look r Run ≡ (machine o.program).look t Run → IsBad r
  bad_by_run s t r n e reached h i b same = elim b [
    | inl f ↦ inl (f.0, run_is r.run t.run same ∙ f.1)
    | inr q ↦ absurd (run_written o.program s t n e (reached_by o s reached) h i q.0)
  ]

  pub locals : Locals (machine o.program) (state_after o.program o.before) IsBad is_alone matter Run (λ e. Go e.go)
  locals = record {
    goes = λ s a r h. alone_keeps o.program checked s a (reached_by o s r) h;
    fine = λ s a r h. alone_is_fine s a h;
    by_looks = alone_by_looks;
    alone_there = λ s t n a e r h se. alone_is_plain o.program s t n a e h se;
    apart = λ s t n a e r h se. alone_untouched o.program checked s t n a e (reached_by o s r) h se;
    ends = λ s t n e f r se i. over o.program t f (run_written o.program s t n e (reached_by o s r) se i);
    bad_by_run = λ s t r n a e reached local mine h i b same. bad_by_run s t r n e reached h i b same;
  }

  pub schedule_laws : Laws (schedules o)
  schedule_laws = local_laws (machine o.program) (machine_laws o.program) (state_after o.program o.before) IsBad is_alone matter Run (λ e. Go e.go) locals (record {
    next = λ s r t e i j same h. goes_like o.program s r t e (reached_by o s i) (reached_by o r j) same h;
    same_bad = λ s r i j same b. bad_like s r same b;
  })
