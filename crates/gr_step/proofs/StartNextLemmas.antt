-- The step that starts a goroutine.
use Rattle.std.proofs.Common.{◌≡◌, ◌≤◌, ◌<◌, ◌+◌, ◌^◌, ◌++◌, ℕ, zero, suc, Bool, true, false, if◌then◌else◌, List, [], ◌∷◌, length, slice_get, Option}
use Rattle.std.proofs.Common.{Some, None, refl, sym, ap, subst, ◌∙◌, arith}
use Rattle.std.specs.Prelude.{option_map}
use Rattle.std.specs.List.{list_any}
use Rattle.gr_base.specs.declared.events.Choice.TheVariants.{Plain}
use Rattle.gr_base.specs.declared.events.Event.{Event}
use Rattle.gr_base.specs.declared.kinds.Fault.TheVariants.{NameDepth, NameCount}
use Rattle.gr_base.specs.declared.kinds.Kind.TheVariants as kinds
use Rattle.gr_base.specs.declared.objects.Object.TheVariants as objects
use Rattle.gr_base.specs.declared.values.Value.{Value}
use Rattle.gr_program.specs.Programs.{Program}
use Rattle.gr_rules.specs.Deeds.{Starts}
use Rattle.gr_rules.specs.Limits.{most_counts, greatest_count}
use Rattle.gr_rules.specs.Outcomes.{gives, wrong}
use Rattle.gr_rules.specs.States.{live, same_go, updated}
use Rattle.gr_rules.specs.Steps.{attempt}
use Rattle.gr_rules.specs.Touches.{Touches, touches, row}
use Rattle.gr_laws.specs.Touched.{each_once}
use Rattle.gr_code.specs.CodeFrames.{Wants, entered}
use Rattle.gr_code.specs.Goroutines.{CodeGoroutine, CanCount, Child, started, arrived, task_of}
use Rattle.gr_goros.specs.Views.{Seen, IsStarted}
use Rattle.gr_goros.specs.declared.undo.GoUndo.{GoUndo}
use Rattle.gr_tables.specs.NamedChannels.{contents_of, chan_back, ChansFit}
use Rattle.gr_tables.specs.NamedGoroutines.{At, CanArrive, ChangesBy, Arrives, Sets, goroutines_of, names_of, name_at, seen_at}
use Rattle.gr_tables.specs.NamedGoroutines.{seen_of}
use Rattle.gr_tables.specs.declared.goroutines.Goroutines.{Goroutines}
use Rattle.gr_refine.specs.CodeSteps.{code_report, next_child}
use Rattle.gr_refine.specs.Contents.{Contents, goroutine_of, with_goroutine}
use Rattle.gr_refine.specs.Tasks.{chooses}
use Rattle.gr_refine.proofs.CodeFaultLemmas.{go_too_deep, go_too_many}
use Rattle.gr_refine.proofs.CodeStepLemmas.{go_of_code, go_is_new}
use Rattle.gr_refine.proofs.NameLemmas.{go_is}
use Rattle.gr_refine.proofs.StandingLemmas.{change_keeps_standing}
use Rattle.gr_refine.proofs.StartingLemmas.{entered_is_ruled}
use Rattle.gr_lower.specs.Lowered.{lowered, meaning}
use Rattle.gr_step.specs.Beyonds.{ReachesChild, Stops}
use Rattle.gr_step.specs.declared.objects.Objects.{Objects}
use Rattle.gr_record.specs.declared.record.Beyond.{Beyond}
use Rattle.gr_record.specs.Effects.{Effect}
use Rattle.gr_record.specs.Listings.{frame_in, state_in}
use Rattle.gr_step.specs.Objects.{contents_in, run_of}
use Rattle.gr_step.specs.Premises.{Acting}
use Rattle.gr_record.specs.Parts.{reads_in}
use Rattle.gr_record.specs.Records.{operation_of, go_back, goroutines_changed, channels_changed, is_go, writes_of, reads_of}
use Rattle.gr_record.specs.Records.{is_channel, taken_back, GoFitsAt, GoesFit, NeedNoFrame, CanGoBack}
use Rattle.gr_record.specs.Within.{IsAmong, EachIsAmong, PartsAreAmong, ChangesWithin}
use Rattle.gr_record.specs.Taking.{Takes}
use Rattle.gr_step.proofs.ArrivalLemmas.{Arrived, arrived_from}
use Rattle.gr_step.proofs.FaultLemmas.{task_faults}
use Rattle.gr_step.proofs.WithinLemmas.{some_is, own_is_written, first_among, more_before}
use Rattle.gr_step.proofs.ChoiceLemmas.{are_channels}
use Rattle.gr_step.proofs.ObjectLemmas.{set_goroutines}
use Rattle.gr_step.proofs.OwnTakesLemmas.{own_back, same_name, count_is}
use Rattle.gr_step.proofs.PlaceLemmas.{at_named, same_seen}
use Rattle.gr_step.proofs.RunningLemmas.{acts_here, never_unsound, code_fits}

-- a name keeps its number where another comes last, and its number is one of as many
kept_at : (ks : List (List ℕ)) (i : ℕ) (n x : List ℕ) → slice_get ks i ≡ Some n → slice_get (ks ++ x ∷ []) i ≡ Some n
kept_at [] i n x is = absurd (let none : None ≡ Some n = is in cc)
kept_at (k ∷ ks) zero n x is = is
kept_at (k ∷ ks) (suc i) n x is = kept_at ks i n x is

pub within_names : (ks : List (List ℕ)) (i : ℕ) (n : List ℕ) → slice_get ks i ≡ Some n → i < length ks
within_names [] i n is = absurd (let none : None ≡ Some n = is in cc)
within_names (k ∷ ks) zero n is = omega arith
within_names (k ∷ ks) (suc i) n is = let rest = within_names ks i n is in omega (arith, rest)

kept_by : (b : Bool) (ks : List (List ℕ)) (i : ℕ) (n x : List ℕ) → slice_get ks i ≡ Some n → slice_get (if b then ks else ks ++ x ∷ []) i ≡ Some n
kept_by true ks i n x is = is
kept_by false ks i n x is = kept_at ks i n x is

-- the names, with one more where it is not among them
abbrev pub with_name : List (List ℕ) → List ℕ → List (List ℕ)
with_name ks x = if list_any (same_go x) ks then ks else ks ++ x ∷ []

pub kept_name : (old new : Goroutines) (i : ℕ) (n x : List ℕ) → names_of new ≡ with_name (names_of old) x → name_at old i ≡ Some n
    → name_at new i ≡ Some n
kept_name old new i n x names is = ap (λ ks. slice_get ks i) names ∙ kept_by (list_any (same_go x) (names_of old)) (names_of old) i n x is

module _ (p : Program) (e : Event) (number : ℕ) (o : Objects) (acting : Acting p e number o) (plain : e.choice ≡ Plain) (function : ℕ)
    (vs : List Value) (task : task_of (lowered p) acting.goroutine ≡ gives (Wants (Starts function vs))) where
  abbrev s : Contents
  s = contents_in o

  abbrev g : CodeGoroutine
  g = acting.goroutine

  abbrev next : List ℕ
  next = next_child e g

  -- a name that is too long, and one goroutine too many
  pub deep_takes : (c : Effect) (t : Contents) → most_counts ≤ length e.go → Stops e.go NameDepth None [] s g c t → Takes p e (attempt p e) s c t
  deep_takes c t long is =
      let here = acts_here p e number o acting in
      task_faults p e number o acting NameDepth c t plain (ap chooses task)
      (go_too_deep (meaning p) p (lowered p) s e g here.f here.below function vs here.acts task plain long) is

  pub many_takes : (c : Effect) (t : Contents) → length e.go < most_counts → greatest_count ≤ g.children → Stops e.go NameCount None [] s g c t
      → Takes p e (attempt p e) s c t
  many_takes c t short many is =
      let here = acts_here p e number o acting in
      task_faults p e number o acting NameCount c t plain (ap chooses task)
      (go_too_many (meaning p) p (lowered p) s e g here.f here.below function vs here.acts task plain short many) is

  module _ (short : length e.go < most_counts) (few : g.children < greatest_count) where
    -- its next child is new, and can be entered
    can : (s.goroutines next ≡ None) × (¬ (entered (lowered p) function vs ≡ wrong)) × (¬ (arrived (lowered p) Child g ≡ wrong))
    can =
        let here = acts_here p e number o acting in
        go_is_new (meaning p) p (lowered p) s e g here.f here.below function vs here.acts task plain (never_unsound p s acting.running e) short few

    pub can_enter : ¬ (entered (lowered p) function vs ≡ wrong)
    can_enter = can.1

    -- a name became known
    module _ (known : Goroutines) (names : names_of known ≡ with_name (names_of o.goroutines) next)
        (sees : seen_of known ≡ seen_of o.goroutines) where
      named : name_at known number ≡ Some e.go
      named = kept_name o.goroutines known number e.go next names acting.named

      same_goroutines : goroutines_of known ≡ goroutines_of o.goroutines
      same_goroutines = same_seen o.goroutines known sees

      there : goroutines_of known e.go ≡ Some g
      there = (λ j. same_goroutines j e.go) ∙ acting.there

      pub known_arrives : g.children + 1 < 2 ^ 32 → At (CanArrive (lowered p) Child) (seen_at known number)
      known_arrives fits =
          at_named known number e.go g named there
          (λ g. (¬ (arrived (lowered p) Child g ≡ wrong)) × CanCount Child g) (can.2, (acting.counted.steps e.go g acting.there, fits))

      -- the goroutine goes past its statement
      module _ (u : GoUndo) (went : Goroutines) (change : ChangesBy number (Arrives (lowered p) Child u) known went) where
        on : Arrived p e.go Child g u known went
        on = arrived_from p e number o acting Child u known went named there change

        -- the goroutine went past its statement, and the child is put under its name
        module _ (place : ℕ) (child : Seen) (new : Goroutines) (here_known : name_at known place ≡ Some next)
            (begins : IsStarted (entered (lowered p) function vs) child.content) (b : Beyond) (reach : ReachesChild next b) where
          place_named : name_at went place ≡ Some next
          place_named = ap (λ l. slice_get l place) change.2.sets.names ∙ here_known

          abbrev c : Effect
          c = record { kind = kinds.Go; own = u; beyond = Some b }

          abbrev t : Contents
          t = with_goroutine (with_goroutine s e.go (Some on.after)) next (Some (started begins.0))

          row_is : row (state_in p s) e (code_report g None kinds.Go) ((state_in p s).goroutines e.go) None ≡ touches [] (objects.Go next ∷ [])
          row_is = ap (λ o. row (state_in p s) e (code_report g None kinds.Go) (option_map (goroutine_of (frame_in p)) o) None) acting.there

          -- it is another than its parent
          other : (is : Bool) → same_go e.go next ≡ is → is ≡ false
          other true same = absurd (let no : Some g ≡ None = sym acting.there ∙ ap s.goroutines (go_is e.go next same) ∙ can.0 in cc)
          other false same = refl

          unstarted : (q : List ℕ) (is : Bool) → same_go q next ≡ is → (x : Option CodeGoroutine) → go_back ((e.go, u) ∷ []) q x ≡ s.goroutines q
              → (if is then None else go_back ((e.go, u) ∷ []) q (if is then Some (started begins.0) else x)) ≡ s.goroutines q
          unstarted q true same x back = sym (ap s.goroutines (go_is q next same) ∙ can.0)
          unstarted q false same x back = back

          goes_back : taken_back e.go c t ≡ s
          goes_back = λ j. record {
            run = (ap (λ b. if b then live else s.run) reach.stops) j;
            goroutines = λ q. (ap (λ o. if is_go q o then None else go_back (goroutines_changed e.go c) q (t.goroutines q)) reach.begins
                ∙ ap (λ met. if is_go q (Some next) then None else go_back ((e.go, u) ∷ met) q (t.goroutines q)) reach.met
                ∙ unstarted q (same_go q next) refl (updated same_go s.goroutines e.go (Some on.after) q)
                (own_back e.go s.goroutines g on.after u acting.there on.own.back on.own.fits q)) j;
            channels = λ q. (ap (λ o. if is_channel q o then None else chan_back (channels_changed c) q (t.channels q)) reach.makes
                ∙ ap (λ us. chan_back us q (t.channels q)) reach.channels) j;
          }

          own_there : t.goroutines e.go ≡ Some on.after
          own_there =
              ap (λ b. if b then Some (started begins.0) else updated same_go s.goroutines e.go (Some on.after) e.go) (other (same_go e.go next) refl)
              ∙ ap (λ b. if b then Some on.after else s.goroutines e.go) (same_name e.go)

          can_go_back : CanGoBack e.go c t
          can_go_back = record {
            goroutines = subst {_, _} (λ met. GoesFit ((e.go, u) ∷ met) t.goroutines) (sym reach.met)
                (subst {_, _} (GoFitsAt u) (sym own_there) on.own.fits, tt);
            channels = subst {_, _} (λ us. ChansFit us t.channels) (sym reach.channels) tt;
            frames = (on.none, subst {_, _} NeedNoFrame (sym reach.met) tt);
          }

          stays_within : ChangesWithin e.go c t
          stays_within = record {
            goroutines = subst {_, _} (λ met. EachIsAmong objects.Go ((e.go, u) ∷ met) (writes_of e.go c)) (sym reach.met) (own_is_written e.go c, tt);
            begun = λ q is. subst {_, _} (λ n. IsAmong (objects.Go n) (writes_of e.go c)) (some_is (sym reach.begins ∙ is))
                (subst {_, _} (λ os. IsAmong (objects.Go next) (objects.Go e.go ∷ os)) (sym reach.writes)
                (more_before (objects.Go next) (objects.Go e.go ∷ []) (objects.Go next ∷ []) (first_among next [])));
            made = λ q is. absurd (let no : None ≡ Some q = sym reach.makes ∙ is in cc);
            gates = subst {_, _} (λ us. EachIsAmong objects.Gate us (reads_of c ++ writes_of e.go c)) (sym reach.channels) tt;
            parts = subst {_, _} (λ us. PartsAreAmong us s.channels (writes_of e.go c)) (sym reach.channels)
                (λ d x q is w. absurd (let no : false ≡ true = w in cc));
            valid = are_channels o;
          }

          started_takes : Takes p e (attempt p e) s c t
          started_takes =
              let here = acts_here p e number o acting in
              let enters = entered_is_ruled (meaning p) p (lowered p) function vs begins.0 (code_fits p s acting.running) begins.1 in
              record {
                report = code_report g None kinds.Go;
                steps = go_of_code (meaning p) p (lowered p) s e g here.f here.below function vs begins.0 on.after here.acts task plain short few
                    can.0
                    begins.1 on.is;
                ordinal = ap (λ n. n + 1) (sym (count_is p s e.go g acting.there));
                kind = refl;
                printed = on.silent;
                operation = ap (option_map operation_of) reach.operation;
                writes = ap (λ os. objects.Go e.go ∷ os) reach.writes ∙ ap (λ (r : Touches). objects.Go e.go ∷ r.writes) (sym row_is);
                reads = ap (λ s. if s then reads_in b else objects.Run ∷ reads_in b) reach.stops
                    ∙ ap (λ os. objects.Run ∷ os) reach.reads
                    ∙ ap (λ (r : Touches). each_once (objects.Go e.go ∷ r.writes) (objects.Run ∷ r.reads)) (sym row_is);
                back = goes_back;
                fits = can_go_back;
                stand = change_keeps_standing (meaning p) (lowered p) (with_goroutine s e.go (Some on.after)) next (started begins.0)
                    (change_keeps_standing (meaning p) (lowered p) s e.go on.after acting.running.stand on.stand) (enters.1, tt);
                within = stays_within;
              }

          pub start_takes : Sets place (Some child) went new → Takes p e (attempt p e) s c (contents_in (record o { goroutines = new }))
          start_takes sets =
              let is : goroutines_of new ≡ t.goroutines =
              set_goroutines place next (Some child) went new place_named sets
              ∙ ap (λ f. updated same_go f next (Some child.content)) (on.own.is ∙ ap (λ f. updated same_go f e.go (Some on.after)) same_goroutines)
              ∙ ap (λ x. updated same_go (updated same_go s.goroutines e.go (Some on.after)) next (Some x)) begins.2 in
              subst {_, _} (Takes p e (attempt p e) s c)
              (λ j. record { run = run_of o.run; goroutines = sym is j; channels = contents_of o.channels }) started_takes
