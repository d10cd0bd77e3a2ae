-- A step that changes its own goroutine, and perhaps whether the program runs.
use Rattle.std.proofs.Common.{◌≡◌, ◌+◌, ℕ, Bool, true, false, if◌then◌else◌, List, [], ◌∷◌, ◌++◌, Option, Some, None, refl, sym, ap, subst, ◌∙◌}
use Rattle.std.specs.Prelude.{option_map, is_some}
use Rattle.std.specs.Cmp.Lexicographic.{same_text}
use Rattle.std.proofs.lemmas.Cmp.{nat_list_eq_equiv}
use Rattle.gr_base.specs.declared.events.Event.{Event}
use Rattle.gr_base.specs.declared.objects.Object.TheVariants.{Gate, Go}
use Rattle.gr_program.specs.Programs.{Program}
use Rattle.gr_rules.specs.Attempts.{Attempt, Report, kind_of}
use Rattle.gr_rules.specs.States.{Run, live, same_go, updated}
use Rattle.gr_rules.specs.Steps.{count, steps_of}
use Rattle.gr_rules.specs.Touches.{table}
use Rattle.gr_laws.specs.Touched.{each_once}
use Rattle.gr_code.specs.Goroutines.{CodeGoroutine}
use Rattle.gr_goros.specs.Undoing.{undone, Fits}
use Rattle.gr_goros.specs.declared.undo.GoUndo.{GoUndo}
use Rattle.gr_tables.specs.NamedChannels.{chan_back, ChansFit}
use Rattle.gr_refine.specs.Contents.{Contents, goroutine_of, with_goroutine}
use Rattle.gr_refine.specs.Performing.{StepsTo}
use Rattle.gr_refine.specs.Partners.{AreChannels}
use Rattle.gr_refine.specs.Standing.{AllStand, ContentsStand}
use Rattle.gr_refine.proofs.StandingLemmas.{change_keeps_standing}
use Rattle.gr_lower.specs.Lowered.{lowered, meaning}
use Rattle.gr_record.specs.Effects.{Effect}
use Rattle.gr_record.specs.Listings.{frame_in, state_in}
use Rattle.gr_goros.specs.Before.{is_printed}
use Rattle.gr_record.specs.Records.{operation_in, stops, writes_of, reads_of, goroutines_changed, channels_changed, begun_by}
use Rattle.gr_record.specs.Records.{made_by}
use Rattle.gr_record.specs.Records.{go_back, go_undone, GoesFit, is_go, is_channel, taken_back, FramesStay, CanGoBack}
use Rattle.gr_record.specs.Within.{EachIsAmong, PartsAreAmong, ChangesWithin}
use Rattle.gr_record.specs.Taking.{Takes}
use Rattle.gr_step.proofs.WithinLemmas.{own_is_written}

-- a name is itself
pub same_name : (n : List ℕ) → same_go n n ≡ true
same_name n = nat_list_eq_equiv.refl n

module _ (n : List ℕ) (f : List ℕ → Option CodeGoroutine) (g after : CodeGoroutine) (u : GoUndo) (there : f n ≡ Some g)
    (back : undone u after ≡ g) (fits : Fits u after) where
  -- a change of one goroutine is taken back
  pub own_back : (q : List ℕ) → go_back ((n, u) ∷ []) q (updated same_go f n (Some after) q) ≡ f q
  own_back q = by (same_go q n) refl
    where
      by : (b : Bool) → same_go q n ≡ b
          → (if b then go_undone u (if b then Some after else f q) else (if b then Some after else f q)) ≡ f q
      by true e = ap Some back ∙ sym there ∙ sym (ap f (same_text q n (sym e)))
      by false e = refl

  pub own_fits : GoesFit ((n, u) ∷ []) (updated same_go f n (Some after))
  own_fits = rw (same_name n) (fits, tt)

-- the change reaches no other goroutine and no channel
pub record IsOwn (n : List ℕ) (c : Effect) : Type 0 where
  pub goroutines : goroutines_changed n c ≡ (n, c.own) ∷ []
  pub channels : channels_changed c ≡ []
  pub begins : begun_by c ≡ None
  pub makes : made_by c ≡ None
  pub frames : FramesStay n c

-- the contents after it
abbrev pub after_own : Contents → List ℕ → CodeGoroutine → Run → Contents
after_own s n after r = record (with_goroutine s n (Some after)) { run = r }

module _ (s : Contents) (n : List ℕ) (g after : CodeGoroutine) (c : Effect) (r : Run) (there : s.goroutines n ≡ Some g)
    (back : undone c.own after ≡ g) (fits : Fits c.own after) (own : IsOwn n c) (run : (if stops c then live else r) ≡ s.run) where
  abbrev t : Contents
  t = after_own s n after r

  pub own_taken_back : taken_back n c t ≡ s
  own_taken_back = λ j. record {
    run = run j;
    goroutines = λ q. (ap (λ o. if is_go q o then None else go_back (goroutines_changed n c) q (t.goroutines q)) own.begins
        ∙ ap (λ us. go_back us q (t.goroutines q)) own.goroutines
        ∙ own_back n s.goroutines g after c.own there back fits q) j;
    channels = λ q. (ap (λ o. if is_channel q o then None else chan_back (channels_changed c) q (s.channels q)) own.makes
        ∙ ap (λ us. chan_back us q (s.channels q)) own.channels) j;
  }

  pub own_goes_back : CanGoBack n c t
  own_goes_back = record {
    goroutines = subst {_, _} (λ us. GoesFit us t.goroutines) (sym own.goroutines) (own_fits n s.goroutines g after c.own there back fits);
    channels = subst {_, _} (λ us. ChansFit us s.channels) (sym own.channels) tt;
    frames = own.frames;
  }

-- it stays within what the step touched
own_within : (s : Contents) (n : List ℕ) (after : CodeGoroutine) (c : Effect) (r : Run) → IsOwn n c → AreChannels s → ChangesWithin n c (after_own s n after r)
own_within s n after c r own valid = record {
  goroutines = subst {_, _} (λ us. EachIsAmong Go us (writes_of n c)) (sym own.goroutines) (own_is_written n c, tt);
  begun = λ q is. absurd (let no : None ≡ Some q = sym own.begins ∙ is in cc);
  made = λ q is. absurd (let no : None ≡ Some q = sym own.makes ∙ is in cc);
  gates = subst {_, _} (λ us. EachIsAmong Gate us (reads_of c ++ writes_of n c)) (sym own.channels) tt;
  parts = subst {_, _} (λ us. PartsAreAmong us s.channels (writes_of n c)) (sym own.channels) (λ d b q is w. absurd (let no : false ≡ true = w in cc));
  valid = valid;
}

-- what the change of a step tells is what the rules note of it
pub record IsTold (p : Program) (e : Event) (s : Contents) (report : Report) (c : Effect) : Type 0 where
  pub ordinal : report.ordinal ≡ count (state_in p s) e.go + 1
  pub kind : c.kind ≡ kind_of report
  pub printed : is_printed c.own ≡ is_some report.printed
  pub operation : operation_in c ≡ report.operation
  pub writes : writes_of e.go c ≡ (table (state_in p s) e report).writes
  pub reads : reads_of c ≡ each_once (table (state_in p s) e report).writes (table (state_in p s) e report).reads

-- where the step is that of the rules, it is taken
pub own_takes : (p : Program) (e : Event) (attempt : Attempt) (s t : Contents) (g after : CodeGoroutine) (c : Effect) (r : Run) (report : Report)
    → s.goroutines e.go ≡ Some g → undone c.own after ≡ g → Fits c.own after → IsOwn e.go c → (if stops c then live else r) ≡ s.run
    → StepsTo (frame_in p) attempt s (after_own s e.go after r) report → IsTold p e s report c → ContentsStand (meaning p) (lowered p) s
    → AreChannels s → AllStand (meaning p) (lowered p) after.frames → t ≡ after_own s e.go after r → Takes p e attempt s c t
own_takes p e attempt s t g after c r report there back fits own run steps told stand valid frames is =
    subst {_, _} (Takes p e attempt s c) (sym is)
    (record {
      report = report;
      steps = steps;
      ordinal = told.ordinal;
      kind = told.kind;
      printed = told.printed;
      operation = told.operation;
      writes = told.writes;
      reads = told.reads;
      back = own_taken_back s e.go g after c r there back fits own run;
      fits = own_goes_back s e.go g after c r there back fits own run;
      stand = change_keeps_standing (meaning p) (lowered p) s e.go after stand frames;
      within = own_within s e.go after c r own valid;
    })

-- how many steps the goroutine has taken
pub count_is : (p : Program) (s : Contents) (n : List ℕ) (g : CodeGoroutine) → s.goroutines n ≡ Some g → count (state_in p s) n ≡ g.steps
count_is p s n g there = ap (λ o. steps_of (option_map (goroutine_of (frame_in p)) o)) there
