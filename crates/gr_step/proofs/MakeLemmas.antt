-- The step that makes a channel.
use Rattle.std.proofs.Common.{◌≡◌, ◌≤◌, ◌<◌, ◌+◌, ◌^◌, ℕ, ℤ, pos, negsuc, Bool, true, false, if◌then◌else◌, [], ◌∷◌, ◌++◌, Option, Some, None}
use Rattle.std.proofs.Common.{refl, sym, ap, subst, ◌∙◌, arith}
use Rattle.std.specs.Prelude.{option_map}
use Rattle.gr_base.specs.declared.names.ChName.{ChName}
use Rattle.gr_base.specs.declared.events.Choice.TheVariants.{Plain}
use Rattle.gr_base.specs.declared.events.Event.{Event}
use Rattle.gr_base.specs.declared.kinds.Fault.TheVariants.{BadSize, NameCount}
use Rattle.gr_base.specs.declared.kinds.Kind.TheVariants as kinds
use Rattle.gr_base.specs.declared.objects.Object.TheVariants as objects
use Rattle.gr_base.specs.declared.values.Value.TheVariants.{Chan}
use Rattle.gr_channels.specs.Channels.{Content, IsChannel}
use Rattle.gr_channels.specs.Objects.{gate_of}
use Rattle.gr_program.specs.Programs.{Program}
use Rattle.gr_rules.specs.Deeds.{Makes}
use Rattle.gr_rules.specs.Limits.{most_places, greatest_count}
use Rattle.gr_rules.specs.Operators.{same_channel}
use Rattle.gr_rules.specs.Outcomes.{gives}
use Rattle.gr_rules.specs.States.{live, updated}
use Rattle.gr_rules.specs.Steps.{attempt}
use Rattle.gr_rules.specs.Touches.{Touches, touches, row}
use Rattle.gr_laws.specs.Soundness as laws
use Rattle.gr_laws.specs.Touched.{each_once}
use Rattle.gr_code.specs.CodeFrames.{Wants}
use Rattle.gr_code.specs.Goroutines.{CodeGoroutine, Channel, task_of}
use Rattle.gr_goros.specs.declared.undo.GoUndo.{GoUndo}
use Rattle.gr_tables.specs.NamedChannels.{contents_of, fresh, chan_back, ChansFit}
use Rattle.gr_tables.specs.NamedGoroutines.{At, CanArrive, seen_at}
use Rattle.gr_tables.specs.declared.channels.Channels.{Channels}
use Rattle.gr_tables.specs.declared.goroutines.Goroutines.{Goroutines}
use Rattle.gr_refine.specs.CodeFaults.{FaultsAt}
use Rattle.gr_refine.specs.CodeSteps.{code_report, next_channel}
use Rattle.gr_refine.specs.Contents.{Contents, goroutine_of, with_goroutine, with_channel}
use Rattle.gr_refine.specs.Tasks.{chooses}
use Rattle.gr_refine.proofs.CodeFaultLemmas.{make_of_negative, make_of_great, make_of_too_many}
use Rattle.gr_refine.proofs.CodeStepLemmas.{make_of_code, make_can_arrive}
use Rattle.gr_refine.proofs.NameLemmas.{channel_is, channel_self}
use Rattle.gr_refine.proofs.StandingLemmas.{change_keeps_standing}
use Rattle.gr_lower.specs.Lowered.{lowered, meaning}
use Rattle.gr_step.specs.Beyonds.{ReachesChannel, IsBadSize, Stops}
use Rattle.gr_step.specs.declared.objects.Objects.{Objects}
use Rattle.gr_record.specs.declared.record.Beyond.{Beyond}
use Rattle.gr_record.specs.Effects.{Effect}
use Rattle.gr_record.specs.Listings.{frame_in, state_in}
use Rattle.gr_step.specs.Objects.{contents_in, run_of}
use Rattle.gr_step.specs.Premises.{Acting}
use Rattle.gr_record.specs.Parts.{reads_in}
use Rattle.gr_record.specs.Records.{operation_of, go_back, goroutines_changed, channels_changed, is_go, is_channel, writes_of, reads_of}
use Rattle.gr_record.specs.Records.{taken_back, GoesFit, NeedNoFrame, CanGoBack}
use Rattle.gr_record.specs.Within.{IsAmong, EachIsAmong, PartsAreAmong, IsUnused, ChangesWithin}
use Rattle.gr_record.specs.Taking.{Takes}
use Rattle.gr_step.proofs.ArrivalLemmas.{Arrived, can_arrive}
use Rattle.gr_step.proofs.FaultLemmas.{task_faults}
use Rattle.gr_tables.proofs.Validity.{fresh_valid}
use Rattle.gr_step.proofs.WithinLemmas.{some_is, own_is_written, gate_first}
use Rattle.gr_step.proofs.ChoiceLemmas.{are_channels}
use Rattle.gr_step.proofs.OwnTakesLemmas.{own_back, own_fits, count_is}
use Rattle.gr_step.proofs.RunningLemmas.{acts_here, never_unsound, channels_sound}

no_gate : (o : Option Content) → option_map gate_of o ≡ None → o ≡ None
no_gate None is = refl
no_gate (Some x) is = absurd (let none : Some (gate_of x) ≡ None = is in cc)

module _ (p : Program) (e : Event) (number : ℕ) (o : Objects) (acting : Acting p e number o) (plain : e.choice ≡ Plain) where
  abbrev s : Contents
  s = contents_in o

  abbrev g : CodeGoroutine
  g = acting.goroutine

  abbrev next : ChName
  next = next_channel e g

  -- a size that no channel can have, and one channel too many
  bad_size : (size : ℤ) → task_of (lowered p) g ≡ gives (Wants (Makes size)) → IsBadSize size
      → FaultsAt (meaning p) p (lowered p) s e g (acts_here p e number o acting).f (acts_here p e number o acting).below None BadSize
  bad_size (pos n) task great =
      let here = acts_here p e number o acting in make_of_great (meaning p) p (lowered p) s e g here.f here.below n here.acts task plain great
  bad_size (negsuc n) task great =
      let here = acts_here p e number o acting in make_of_negative (meaning p) p (lowered p) s e g here.f here.below n here.acts task plain

  pub size_takes : (size : ℤ) (c : Effect) (t : Contents) → task_of (lowered p) g ≡ gives (Wants (Makes size)) → IsBadSize size
      → Stops e.go BadSize None [] s g c t → Takes p e (attempt p e) s c t
  size_takes size c t task bad is = task_faults p e number o acting BadSize c t plain (ap chooses task) (bad_size size task bad) is

  pub many_takes : (n : ℕ) (c : Effect) (t : Contents) → task_of (lowered p) g ≡ gives (Wants (Makes (pos n))) → n < most_places + 1
      → greatest_count ≤ g.channels → Stops e.go NameCount None [] s g c t → Takes p e (attempt p e) s c t
  many_takes n c t task small many is =
      let here = acts_here p e number o acting in
      task_faults p e number o acting NameCount c t plain (ap chooses task)
      (make_of_too_many (meaning p) p (lowered p) s e g here.f here.below n here.acts task plain small many) is

  -- its next channel is new
  pub next_is_new : s.channels next ≡ None
  next_is_new =
      no_gate (s.channels next) ((channels_sound p s acting.running).named next
      (let made : laws.made_by ((state_in p s).goroutines e.go) ≡ g.channels = ap (λ o. laws.made_by (option_map (goroutine_of (frame_in p)) o))
      acting.there in
      omega (arith, made)))

  module _ (n : ℕ) (task : task_of (lowered p) g ≡ gives (Wants (Makes (pos n)))) (small : n < most_places + 1)
      (few : g.channels < greatest_count) where
    pub make_arrives : g.channels + 1 < 2 ^ 32 → At (CanArrive (lowered p) (Channel (Chan (Some next)))) (seen_at o.goroutines number)
    make_arrives fits =
        let here = acts_here p e number o acting in
        can_arrive p e number o acting (Channel (Chan (Some next)))
        (make_can_arrive (meaning p) p (lowered p) s e g here.f here.below n here.acts task plain (never_unsound p s acting.running e) small few)
        (acting.counted.steps e.go g acting.there, fits)

    -- the channel is made, and the goroutine goes on with it
    module _ (u : GoUndo) (b : Beyond) (reach : ReachesChannel next b) (gos : Goroutines)
        (on : Arrived p e.go (Channel (Chan (Some next))) g u o.goroutines gos) where
      abbrev c : Effect
      c = record { kind = kinds.Make; own = u; beyond = Some b }

      abbrev t : Contents
      t = with_channel (with_goroutine s e.go (Some on.after)) next (Some (fresh n))

      row_is : row (state_in p s) e (code_report g None kinds.Make) ((state_in p s).goroutines e.go) None ≡ touches [] (objects.Gate next ∷ [])
      row_is = ap (λ o. row (state_in p s) e (code_report g None kinds.Make) (option_map (goroutine_of (frame_in p)) o) None) acting.there

      unmade : (q : ChName) (is : Bool) → same_channel q next ≡ is
          → (if is then None else (if is then Some (fresh n) else s.channels q)) ≡ s.channels q
      unmade q true e = sym (ap s.channels (channel_is q next e) ∙ next_is_new)
      unmade q false e = refl

      goes_back : taken_back e.go c t ≡ s
      goes_back = λ j. record {
        run = (ap (λ b. if b then live else s.run) reach.stops) j;
        goroutines = λ q. (ap (λ o. if is_go q o then None else go_back (goroutines_changed e.go c) q (t.goroutines q)) reach.begins
            ∙ ap (λ met. go_back ((e.go, u) ∷ met) q (t.goroutines q)) reach.met
            ∙ own_back e.go s.goroutines g on.after u acting.there on.own.back on.own.fits q) j;
        channels = λ q. (ap (λ o. if is_channel q o then None else chan_back (channels_changed c) q (t.channels q)) reach.makes
            ∙ ap (λ us. if is_channel q (Some next) then None else chan_back us q (t.channels q)) reach.channels
            ∙ unmade q (same_channel q next) refl) j;
      }

      can_go_back : CanGoBack e.go c t
      can_go_back = record {
        goroutines = subst {_, _} (λ met. GoesFit ((e.go, u) ∷ met) t.goroutines) (sym reach.met)
            (own_fits e.go s.goroutines g on.after u acting.there on.own.back on.own.fits);
        channels = subst {_, _} (λ us. ChansFit us t.channels) (sym reach.channels) tt;
        frames = (on.none, subst {_, _} NeedNoFrame (sym reach.met) tt);
      }

      valid_after : (k : Bool) (old : Option Content) → ((x : Content) → old ≡ Some x → IsChannel x) → (x : Content)
          → (if k then Some (fresh n) else old) ≡ Some x → IsChannel x
      valid_after true old valid x is = subst {_, _} IsChannel (some_is is) (fresh_valid n)
      valid_after false old valid x is = valid x is

      stays_within : ChangesWithin e.go c t
      stays_within = record {
        goroutines = subst {_, _} (λ met. EachIsAmong objects.Go ((e.go, u) ∷ met) (writes_of e.go c)) (sym reach.met) (own_is_written e.go c, tt);
        begun = λ q is. absurd (let no : None ≡ Some q = sym reach.begins ∙ is in cc);
        made = λ q is. subst {_, _} (λ k. IsAmong (objects.Gate k) (writes_of e.go c) × IsUnused (t.channels k)) (some_is (sym reach.makes ∙ is)) (
          subst {_, _} (λ os. IsAmong (objects.Gate next) (objects.Go e.go ∷ os)) (sym reach.writes) (gate_first next []),
          (fresh n, ap (λ b. if b then Some (fresh n) else s.channels next) (channel_self next), refl, refl),
        );
        gates = subst {_, _} (λ us. EachIsAmong objects.Gate us (reads_of c ++ writes_of e.go c)) (sym reach.channels) tt;
        parts = subst {_, _} (λ us. PartsAreAmong us t.channels (writes_of e.go c)) (sym reach.channels)
            (λ d x q is w. absurd (let no : false ≡ true = w in cc));
        valid = λ d x is. valid_after (same_channel d next) (s.channels d) (are_channels o d) x is;
      }

      made_takes : Takes p e (attempt p e) s c t
      made_takes =
          let here = acts_here p e number o acting in
          record {
            report = code_report g None kinds.Make;
            steps = make_of_code (meaning p) p (lowered p) s e g here.f here.below n on.after here.acts task plain small few next_is_new on.is;
            ordinal = ap (λ n. n + 1) (sym (count_is p s e.go g acting.there));
            kind = refl;
            printed = on.silent;
            operation = ap (option_map operation_of) reach.operation;
            writes = ap (λ os. objects.Go e.go ∷ os) reach.writes ∙ ap (λ (r : Touches). objects.Go e.go ∷ r.writes) (sym row_is);
            reads = ap (λ s. if s then reads_in b else objects.Run ∷ reads_in b) reach.stops
                ∙ ap (λ os. objects.Run ∷ os) reach.reads
                ∙ ap (λ (r : Touches). each_once (objects.Go e.go ∷ r.writes) (objects.Run ∷ r.reads)) (sym row_is);
            back = goes_back;
            fits = can_go_back;
            stand = change_keeps_standing (meaning p) (lowered p) s e.go on.after acting.running.stand on.stand;
            within = stays_within;
          }

      pub make_takes : (chans : Channels) → contents_of chans ≡ updated same_channel (contents_of o.channels) next (Some (fresh n))
          → Takes p e (attempt p e) s c (contents_in (record o { goroutines = gos; channels = chans }))
      make_takes chans is =
          subst {_, _} (Takes p e (attempt p e) s c)
          (λ j. record { run = run_of o.run; goroutines = sym on.own.is j; channels = sym is j }) made_takes
