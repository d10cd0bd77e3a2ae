-- A step that a goroutine takes by itself on a copy is the step of the store that has it.
use Rattle.std.proofs.Common.{◌≡◌, ℕ, ◌+◌, ◌++◌, Bool, true, false, if◌then◌else◌, List, [], ◌∷◌, length, Option, Some, None, refl, sym, ap, subst, ◌∙◌, inl, inr}
use Rattle.std.proofs.lemmas.Bool.{cases_Bool}
use Rattle.gr_base.specs.declared.events.Choice.TheVariants.{Plain}
use Rattle.gr_base.specs.declared.events.Event.{Event}
use Rattle.gr_base.specs.declared.names.StepId.{StepId}
use Rattle.gr_program.specs.Programs.{Program}
use Rattle.gr_program.specs.Views.{program_of}
use Rattle.gr_rules.specs.Goroutines.{ready}
use Rattle.gr_rules.specs.Outcomes.{wrong}
use Rattle.gr_rules.specs.States.{live, same_go, updated}
use Rattle.gr_rules.specs.Steps.{attempt, count}
use Rattle.gr_code.specs.CodeViews.{program_code_of}
use Rattle.gr_code.specs.Goroutines.{CodeGoroutine, is_local, local, task_of}
use Rattle.gr_refine.specs.Contents.{Contents, with_goroutine, goroutine_of}
use Rattle.gr_refine.specs.Local.{after_local, local_report, printed_by}
use Rattle.gr_refine.specs.Partners.{AreChannels}
use Rattle.gr_refine.specs.Performing.{StepsTo}
use Rattle.gr_refine.proofs.LocalLemmas.{local_step_is_a_step}
use Rattle.gr_refine.proofs.NameLemmas.{go_self, go_is}
use Rattle.gr_refine.proofs.StandingLemmas.{local_step_keeps_standing}
use Rattle.gr_refine.proofs.WithinLemmas.{local_step_is_there, local_stays_within}
use Rattle.std.specs.Prelude.{slice_get}
use Rattle.gr_goros.specs.Alone.{stays_alone}
use Rattle.gr_goros.specs.Views.{Seen}
use Rattle.gr_tables.specs.NamedChannels.{contents_of}
use Rattle.gr_tables.specs.NamedGoroutines.{name_at, Sets}
use Rattle.gr_tables.specs.declared.goroutines.Goroutines.{Goroutines}
use Rattle.gr_lower.specs.Lowered.{lowered, meaning}
use Rattle.gr_step.specs.declared.leasing.LentCopy.{LentCopy}
use Rattle.gr_step.specs.declared.objects.Objects.{Objects}
use Rattle.gr_record.specs.Effects.{Effect}
use Rattle.gr_record.specs.declared.record.Record.{Record}
use Rattle.gr_step.specs.declared.store.Store.{Store}
use Rattle.gr_step.specs.Leasing.{AreRecords, no_record, one_more_record, GoesAlone, IsOwnRecord, CanBe, Walk, no_step, one_more, IsLease, IsLoanOf, loan_of, program_lent, name_lent, goroutine_lent, goroutine_led_to, records_led}
use Rattle.gr_record.specs.Listings.{frame_in, state_in}
use Rattle.gr_step.specs.Objects.{contents_in, run_of}
use Rattle.gr_record.specs.Running.{Running}
use Rattle.gr_step.specs.Stores.{IsRun, contents_at, program_at}
use Rattle.gr_record.specs.Taking.{Takes, IsRecord}
use Rattle.gr_step.proofs.AloneStepLemmas.{alone_takes}
use Rattle.gr_step.proofs.ChoiceLemmas.{are_channels, task_there}
use Rattle.gr_step.proofs.LocalStepLemmas.{locally_is, plain_kind}
use Rattle.gr_step.proofs.LocalLemmas.{printed_as}
use Rattle.gr_step.proofs.MayLemmas.{acts_at, chosen_by}
use Rattle.gr_step.proofs.ObjectLemmas.{set_goroutines}
use Rattle.gr_step.proofs.OwnStepLemmas.{stays_is}
use Rattle.gr_step.proofs.OwnTakesLemmas.{count_is}
use Rattle.gr_step.proofs.RunningLemmas.{never_unsound, code_fits}
use Rattle.gr_step.proofs.StoreLemmas.{runs_on}

-- contents in which a goroutine is ready, while the program runs
module _ (p : Program) (s : Contents) (run : Running p s) (valid : AreChannels s) (runs : s.run ≡ live) (n : List ℕ) (g : CodeGoroutine)
    (there : s.goroutines n ≡ Some g) (is_ready : g.status ≡ ready) where
  -- its next instruction has a task, and one that asks for nothing has a step
  pub has_task : ¬ (task_of (lowered p) g ≡ wrong)
  has_task = task_there p s run n g runs there is_ready

  pub has_step : is_local (lowered p) g ≡ true → ¬ (local (lowered p) g ≡ wrong)
  has_step here =
      let e = chosen_by n Plain in
      let up = acts_at p s run e g runs there is_ready in
      local_step_is_there (meaning p) p (lowered p) s e g up.f up.below up.acts refl (never_unsound p s run e)
      (local_stays_within (lowered p) g up.f up.below up.acts.up.frames here)

  -- the step is that of the rules
  module _ (c : Effect) (h : CodeGoroutine) (goes : GoesAlone (lowered p) g c h) where
    pub still_ready : h.status ≡ ready
    still_ready =
        let e = chosen_by n Plain in
        let up = acts_at p s run e g runs there is_ready in
        (locally_is (meaning p) p (lowered p) s e g up.f up.below c.kind h up.acts goes.step).status ∙ is_ready

    alone_by_rules : Takes p (chosen_by n Plain) (attempt p (chosen_by n Plain)) s (record { kind = c.kind; own = c.own; beyond = None })
        (with_goroutine s n (Some h))
    alone_by_rules =
        let e = chosen_by n Plain in
        let up = acts_at p s run e g runs there is_ready in
        let line = printed_by (task_of (lowered p) g) in
        let what = locally_is (meaning p) p (lowered p) s e g up.f up.below c.kind h up.acts goes.step in
        let kinds_are = plain_kind g h line c.kind goes.no_fault what.kind_is in
        let step : StepsTo (frame_in p) (attempt p e) s (after_local s n c.kind h) (local_report c.kind g line) =
        local_step_is_a_step (meaning p) p (lowered p) s e g up.f up.below h c.kind up.acts refl goes.step in
        alone_takes p e s g there run.stand valid (attempt p e) h c.kind c.own line (with_goroutine s n (Some h)) goes.back goes.fits refl
        (local_step_keeps_standing (meaning p) (lowered p) p g h c.kind (code_fits p s run) (run.stand n g there) goes.step)
        (subst {_, _} (λ t. StepsTo (frame_in p) (attempt p e) s t (local_report c.kind g line)) (kinds_are.1 s n) step)
        (printed_as g h c.own line goes.back goes.fits what.text)
        (kinds_are.0 (state_in p s) e (goroutine_of (frame_in p) g))

    pub taken_alone : Takes p (chosen_by n Plain) (attempt p (chosen_by n Plain)) s c (with_goroutine s n (Some h))
    taken_alone = subst {_, _} (λ (c : Effect). Takes p (chosen_by n Plain) (attempt p (chosen_by n Plain)) s c (with_goroutine s n (Some h)))
        (λ i. record { kind = c.kind; own = c.own; beyond = sym goes.beyond i }) alone_by_rules

  -- the record of a step of one's own is a record of the store
  pub own_record : (r : Record) (h : CodeGoroutine) → IsOwnRecord (lowered p) n g r h → IsRecord p s r (with_goroutine s n (Some h))
  own_record r h is =
      let event : chosen_by n Plain ≡ record { go = r.id.go; choice = r.choice } =
      λ i. record { go = sym (ap (λ (id : StepId). id.go) is.name) i; choice = sym is.plain i } in
      record {
        takes = subst (λ (e : Event). Takes p e (attempt p e) s r.change (with_goroutine s n (Some h))) event (taken_alone r.change h is.goes);
        named = ap (λ (id : StepId). id.n) is.name ∙ ap (λ k. k + 1) (sym (count_is p s n g there))
            ∙ ap (λ q. count (state_in p s) q + 1) (sym (ap (λ (id : StepId). id.go) is.name));
      }

-- the step goes on, and another may follow
pub lease_goes : (p : Program) (n : List ℕ) (from g h : CodeGoroutine) (records : List Record) (r : Record)
    → Walk (lowered p) n from records g → CanBe p n g → IsOwnRecord (lowered p) n g r h
    → Walk (lowered p) n from (records ++ r ∷ []) h × CanBe p n h
lease_goes p n from g h records r walk can is =
    let s = can.contents in
    let takes = taken_alone p s can.running can.channels can.runs n g can.there can.is_ready r.change h is.goes in (
      one_more r h walk is,
      record {
        contents = with_goroutine s n (Some h);
        running = runs_on p (chosen_by n Plain) s (with_goroutine s n (Some h)) r.change can.running takes;
        channels = can.channels;
        runs = can.runs;
        there = ap (λ t. if t then Some h else s.goroutines n) (go_self n);
        is_ready = still_ready p s can.running can.channels can.runs n g can.there can.is_ready r.change h is.goes;
      },
    )

-- a copy of a goroutine that is ready is a lease with no step
pub loan_is_lease : (s : Store) (l : LentCopy) (go : List ℕ) (g : CodeGoroutine) → IsRun s → AreChannels (contents_at s)
    → l.batch.lent.value.listing.program.value ≡ s.listing.program.value → l.batch.lent.value.listing.code.value ≡ s.listing.code.value → name_lent l ≡ go
    → goroutine_lent l ≡ g → goroutine_led_to l ≡ g → records_led l ≡ []
    → (loan_of l).steps ≡ 0 → (contents_at s).run ≡ live → (contents_at s).goroutines go ≡ Some g → g.status ≡ ready → IsLease l × IsLoanOf s go l
loan_is_lease s l go g run channels program code name lent reached records steps runs there is_ready =
    let same : program_lent l ≡ program_at s = ap program_of program in (
      record {
        coded = ap program_code_of code ∙ run.coded ∙ ap lowered (sym same);
        walk = subst {_, _} (λ (rs : List Record). Walk (lowered (program_lent l)) (name_lent l) (goroutine_lent l) rs (goroutine_led_to l)) (sym records)
            (subst {_, _} (λ (h : CodeGoroutine). Walk (lowered (program_lent l)) (name_lent l) (goroutine_lent l) [] h) (lent ∙ sym reached) no_step);
        can_be = record {
          contents = contents_at s;
          running = subst {_, _} (λ (q : Program). Running q (contents_at s)) (sym same) run.running;
          channels = channels;
          runs = runs;
          there = ap (contents_at s).goroutines name ∙ there ∙ ap Some (sym reached);
          is_ready = ap (λ (x : CodeGoroutine). x.status) reached ∙ is_ready;
        };
        was_ready = ap (λ (x : CodeGoroutine). x.status) lent ∙ is_ready;
        counted = steps ∙ sym (ap length records);
      },
      record {
        name = name;
        as_lent = record { program = same; runs = runs; there = ap (contents_at s).goroutines name ∙ there ∙ ap Some (sym lent) };
        steps = steps;
        records = records;
        reached = reached ∙ sym lent;
        alone = (λ i. stays_alone (lowered (same i)) (reached i))
            ∙ stays_is (program_at s) (contents_at s) go run.running runs g there is_ready;
      },
    )

put_again : (s : Contents) (n : List ℕ) (g : Option CodeGoroutine) (h : CodeGoroutine)
    → with_goroutine (with_goroutine s n g) n (Some h) ≡ with_goroutine s n (Some h)
put_again s n g h = λ i. record { run = s.run; goroutines = λ q. by_name q (same_go q n) i; channels = s.channels }
  where
    by_name : (q : List ℕ) (b : Bool) → (if b then Some h else (if b then g else s.goroutines q)) ≡ (if b then Some h else s.goroutines q)
    by_name q true = refl
    by_name q false = refl

put_there : (s : Contents) (n : List ℕ) (g : CodeGoroutine) → s.goroutines n ≡ Some g → with_goroutine s n (Some g) ≡ s
put_there s n g there = λ i. record { run = s.run; goroutines = λ q. by_name q i; channels = s.channels }
  where
    by_name : (q : List ℕ) → (if same_go q n then Some g else s.goroutines q) ≡ s.goroutines q
    by_name q = elim (cases_Bool (same_go q n)) [
      | inl t ↦ ap (λ b. if b then Some g else s.goroutines q) t ∙ sym there ∙ ap s.goroutines (sym (go_is q n t))
      | inr f ↦ ap (λ b. if b then Some g else s.goroutines q) f
    ]

-- the steps of a lease, taken where its goroutine is as it was lent
pub record Led (p : Program) (s : Contents) (n : List ℕ) (records : List Record) (h : CodeGoroutine) : Type 0 where
  pub leads : AreRecords p s records (with_goroutine s n (Some h))
  pub running : Running p (with_goroutine s n (Some h))
  pub is_ready : h.status ≡ ready

pub walk_leads : (p : Program) (s : Contents) → Running p s → AreChannels s → s.run ≡ live → (n : List ℕ) (from : CodeGoroutine)
    → s.goroutines n ≡ Some from → from.status ≡ ready → (records : List Record) (h : CodeGoroutine) → Walk (lowered p) n from records h
    → Led p s n records h
walk_leads p s run channels runs n from there is_ready [] h no_step = record {
  leads = subst {_, _} (AreRecords p s []) (sym (put_there s n from there)) no_record;
  running = subst {_, _} (Running p) (sym (put_there s n from there)) run;
  is_ready = is_ready;
}
walk_leads p s run channels runs n from there is_ready _ _ (one_more {records} {g} r h walk is) =
    let before = walk_leads p s run channels runs n from there is_ready records g walk in
    let t = with_goroutine s n (Some g) in
    let here : t.goroutines n ≡ Some g = ap (λ b. if b then Some g else s.goroutines n) (go_self n) in
    let takes = taken_alone p t before.running channels runs n g here before.is_ready r.change h is.goes in
    let step = own_record p t before.running channels runs n g here before.is_ready r h is in
    record {
      leads = subst {_, _} (AreRecords p s (records ++ r ∷ [])) (put_again s n (Some g) h)
          (one_more_record r (with_goroutine t n (Some h)) before.leads before.running step);
      running = subst {_, _} (Running p) (put_again s n (Some g) h)
          (runs_on p (chosen_by n Plain) t (with_goroutine t n (Some h)) r.change before.running takes);
      is_ready = still_ready p t before.running channels runs n g here before.is_ready r.change h is.goes;
    }

-- the goroutine that a lease is of, put in the place of the one that was there
pub exchanged : (o : Objects) (number : ℕ) (n : List ℕ) (x : Seen) (without put : Goroutines) → name_at o.goroutines number ≡ Some n
    → Sets number None o.goroutines without → Sets number (Some x) without put
    → contents_in (record o { goroutines = put }) ≡ with_goroutine (contents_in o) n (Some x.content)
exchanged o number n x without put named removed sets =
    let name : name_at without number ≡ Some n = ap (λ names. slice_get names number) removed.names ∙ named in
    let gone = set_goroutines number n None o.goroutines without named removed in
    let set = set_goroutines number n (Some x) without put name sets in
    (λ i. record {
      run = run_of o.run;
      goroutines = (set ∙ ap (λ f. updated same_go f n (Some x.content)) gone) i;
      channels = contents_of o.channels;
    }) ∙ put_again (contents_in o) n None x.content

-- the channels of a store are some
pub store_has_channels : (s : Store) → AreChannels (contents_at s)
store_has_channels s = are_channels s.objects
