-- A step that reached beyond its goroutine, put together from what it did to goroutines and to channels.
use Rattle.std.proofs.Common.{◌≡◌, ℕ, ◌+◌, false, if◌then◌else◌, List, ◌∷◌, ◌++◌, Option, Some, None, sym, ap, subst, ◌∙◌}
use Rattle.std.specs.Prelude.{is_some, option_map}
use Rattle.gr_base.specs.declared.names.ChName.{ChName}
use Rattle.gr_base.specs.declared.events.Event.{Event}
use Rattle.gr_base.specs.declared.objects.Object.{Object}
use Rattle.gr_base.specs.declared.objects.Object.TheVariants as objects
use Rattle.gr_channels.specs.declared.changes.ChanUndo.{ChanUndo}
use Rattle.gr_program.specs.Programs.{Program}
use Rattle.gr_rules.specs.Attempts.{Attempt, Report, kind_of}
use Rattle.gr_rules.specs.States.{live}
use Rattle.gr_rules.specs.Steps.{count, steps_of}
use Rattle.gr_rules.specs.Touches.{table}
use Rattle.gr_laws.specs.Touched.{each_once}
use Rattle.gr_code.specs.Goroutines.{CodeGoroutine}
use Rattle.gr_refine.specs.Contents.{Contents, goroutine_of}
use Rattle.gr_refine.specs.Performing.{StepsTo}
use Rattle.gr_refine.specs.Standing.{ContentsStand}
use Rattle.gr_goros.specs.declared.undo.GoUndo.{GoUndo}
use Rattle.gr_lower.specs.Lowered.{lowered, meaning}
use Rattle.gr_tables.specs.NamedChannels.{chan_back, ChansFit}
use Rattle.gr_record.specs.Effects.{Effect}
use Rattle.gr_record.specs.Listings.{frame_in, state_in}
use Rattle.gr_goros.specs.Before.{is_printed}
use Rattle.gr_record.specs.Records.{reads_of, is_go, is_channel, go_back, GoesFit, goroutines_changed, channels_changed, taken_back, CanGoBack}
use Rattle.gr_record.specs.Within.{EachIsAmong, PartsAreAmong, ChangesWithin}
use Rattle.gr_record.specs.Taking.{Takes}
use Rattle.gr_step.specs.Passing.{Tells}
use Rattle.gr_step.proofs.WithinLemmas.{Inside, first_among}
use Rattle.gr_step.proofs.PassLemmas.{GoesOver}

-- what a step is, by the rules and in what the store contains
pub record Reaches (p : Program) (e : Event) (attempt : Attempt) (s t : Contents) (report : Report) (reads writes : List Object) (own : GoUndo)
    (met : List (List ℕ × GoUndo)) (us : List (ChName × ChanUndo)) : Type 0 where
  pub steps : StepsTo (frame_in p) attempt s t report
  pub ordinal : report.ordinal ≡ count (state_in p s) e.go + 1
  pub silent : report.printed ≡ None
  pub prints_nothing : is_printed own ≡ false
  pub writes_are : objects.Go e.go ∷ writes ≡ (table (state_in p s) e report).writes
  pub reads_are : objects.Run ∷ reads ≡ each_once (table (state_in p s) e report).writes (table (state_in p s) e report).reads
  pub goroutines : GoesOver ((e.go, own) ∷ met) s.goroutines t.goroutines
  pub channels : (q : ChName) → chan_back us q (t.channels q) ≡ s.channels q
  pub fits : ChansFit us t.channels
  pub run : t.run ≡ s.run
  pub stand : ContentsStand (meaning p) (lowered p) t
  pub inside : Inside e.go reads writes met us t

module _ (p : Program) (e : Event) (attempt : Attempt) (s t : Contents) (report : Report) (reads writes : List Object) (own : GoUndo)
    (met : List (List ℕ × GoUndo)) (us : List (ChName × ChanUndo)) (r : Reaches p e attempt s t report reads writes own met us)
    (c : Effect) (tells : Tells c (kind_of report) report.operation reads writes own met us) where
  goes_back : taken_back e.go c t ≡ s
  goes_back =
      let run = ap (λ b. if b then live else t.run) tells.runs_on ∙ r.run in
      let gos = λ (q : List ℕ).
      ap (λ o. if is_go q o then None else go_back (goroutines_changed e.go c) q (t.goroutines q)) tells.begins_none
      ∙ ap (λ es. go_back es q (t.goroutines q)) (tells.goroutines_are e.go) ∙ r.goroutines.back q in
      let chans = λ (q : ChName).
      ap (λ o. if is_channel q o then None else chan_back (channels_changed c) q (t.channels q)) tells.makes_none
      ∙ ap (λ es. chan_back es q (t.channels q)) tells.channels_are ∙ r.channels q in
      λ i. record { run = run i; goroutines = λ q. gos q i; channels = λ q. chans q i }

  can_go_back : CanGoBack e.go c t
  can_go_back = record {
    goroutines = subst {_, _} (λ es. GoesFit es t.goroutines) (sym (tells.goroutines_are e.go)) r.goroutines.fits;
    channels = subst {_, _} (λ es. ChansFit es t.channels) (sym tells.channels_are) r.fits;
    frames = tells.frames e.go r.goroutines.frames;
  }

  none_given : {X : Type 0} {x : X} → None ≡ Some x → ⊥
  none_given e = cc

  stays_within : ChangesWithin e.go c t
  stays_within = record {
    goroutines = subst {_, _} (λ os. EachIsAmong objects.Go (goroutines_changed e.go c) os) (sym (tells.writes_are e.go))
        (subst {_, _} (λ es. EachIsAmong objects.Go es (objects.Go e.go ∷ writes)) (sym (tells.goroutines_are e.go))
        (first_among e.go writes, r.inside.goroutines));
    begun = λ q is. absurd (none_given (sym tells.begins_none ∙ is));
    made = λ q is. absurd (none_given (sym tells.makes_none ∙ is));
    gates = subst {_, _} (λ os. EachIsAmong objects.Gate (channels_changed c) (reads_of c ++ os)) (sym (tells.writes_are e.go))
        (subst {_, _} (λ os. EachIsAmong objects.Gate (channels_changed c) (os ++ (objects.Go e.go ∷ writes))) (sym tells.reads_are)
        (subst {_, _} (λ es. EachIsAmong objects.Gate es ((objects.Run ∷ reads) ++ (objects.Go e.go ∷ writes))) (sym tells.channels_are) r.inside.gates));
    parts = subst {_, _} (λ os. PartsAreAmong (channels_changed c) t.channels os) (sym (tells.writes_are e.go))
        (subst {_, _} (λ es. PartsAreAmong es t.channels (objects.Go e.go ∷ writes)) (sym tells.channels_are) r.inside.parts);
    valid = r.inside.valid;
  }

  pub takes : Takes p e attempt s c t
  takes = record {
    report = report;
    steps = r.steps;
    ordinal = r.ordinal;
    kind = tells.kind_is;
    printed = ap is_printed tells.own_is ∙ r.prints_nothing ∙ ap (λ (o : Option (List ℕ)). is_some o) (sym r.silent);
    operation = tells.operation_is;
    writes = tells.writes_are e.go ∙ r.writes_are;
    reads = tells.reads_are ∙ r.reads_are;
    back = goes_back;
    fits = can_go_back;
    stand = r.stand;
    within = stays_within;
  }

-- how many steps the goroutine took
pub counted : (p : Program) (s : Contents) (n : List ℕ) (g : CodeGoroutine) → s.goroutines n ≡ Some g → count (state_in p s) n ≡ g.steps
counted p s n g there = ap (λ o. steps_of (option_map (goroutine_of (frame_in p)) o)) there
