-- The step of a close, from what it leaves.
use Rattle.std.proofs.Common.{◌≡◌, ℕ, ◌+◌, ◌≤◌, true, false, not, ◌||◌, if◌then◌else◌, List, [], ◌∷◌, ◌++◌, map, Option, Some, None, option_map, refl, sym, ap, subst, ◌∙◌, inl, inr, zero-le}
use Rattle.std.specs.List.{list_any, list_all}
use Rattle.std.proofs.lemmas.Bool.{cases_Bool, and_parts, and_from}
use Rattle.gr_base.specs.declared.names.ChName.{ChName}
use Rattle.gr_base.specs.declared.events.Event.{Event}
use Rattle.gr_base.specs.declared.events.Choice.TheVariants.{Plain}
use Rattle.gr_base.specs.declared.kinds.Fault.TheVariants.{CloseOfNil, CloseOfClosed}
use Rattle.gr_base.specs.declared.kinds.Kind.TheVariants as kinds
use Rattle.gr_base.specs.declared.objects.Object.{Object}
use Rattle.gr_base.specs.declared.objects.Object.TheVariants.{Run, Go, Gate}
use Rattle.gr_channels.specs.Channels as channels
use Rattle.gr_channels.specs.Channels.{Content}
use Rattle.gr_channels.specs.Objects.{gate_of}
use Rattle.gr_program.specs.Programs.{Program}
use Rattle.gr_rules.specs.Operators.{same_channel}
use Rattle.gr_rules.specs.Outcomes.{Outcome, gives, faults, wrong, ◌>>=◌}
use Rattle.gr_rules.specs.Attempts.{closes}
use Rattle.gr_rules.specs.Actors.{Actor, channels_but, fault}
use Rattle.gr_rules.specs.Communications.{once, close_open}
use Rattle.gr_rules.specs.Deeds.{Closes}
use Rattle.gr_rules.specs.Goroutines.{waiting}
use Rattle.gr_rules.specs.States.{same, same_go, updated}
use Rattle.gr_rules.specs.Steps.{attempt}
use Rattle.gr_rules.specs.Touches.{Touches, table, touches, woken, senders_at, receivers_at}
use Rattle.gr_laws.specs.Touched.{each_once}
use Rattle.gr_code.specs.CodeFrames.{CodeFrame, ProgramCode, Wants}
use Rattle.gr_code.specs.Goroutines.{CodeGoroutine, Arrival, Completion, arrived, frames_past, with_frames, task_of}
use Rattle.gr_refine.specs.Contents.{Contents, with_goroutine}
use Rattle.gr_refine.specs.CodeSteps.{code_report}
use Rattle.gr_refine.specs.Closing.{waiting_on, shut}
use Rattle.gr_refine.specs.Looks.{actor_of}
use Rattle.gr_refine.specs.Tasks.{chooses}
use Rattle.gr_refine.proofs.CodeFaultLemmas.{close_nil, close_twice}
use Rattle.gr_refine.proofs.PresenceLemmas.{gate_is_there}
use Rattle.gr_refine.proofs.TaskLemmas.{rule_is_sound}
use Rattle.gr_refine.specs.Meetings.{closed_in, with_woken, all_waits_in}
use Rattle.gr_refine.specs.Partners.{is_waiting, all_made}
use Rattle.gr_refine.specs.Performing.{StepsTo}
use Rattle.gr_refine.specs.Standing.{ContentsStand}
use Rattle.gr_refine.proofs.CodeStepLemmas.{close_of_code, close_finds_waiters}
use Rattle.gr_refine.proofs.NameLemmas.{go_is}
use Rattle.gr_refine.proofs.StandingLemmas.{arrival_keeps_standing, change_keeps_standing, waking_keeps_standing, same_goroutines_stand}
use Rattle.gr_goros.specs.Views.{is_finished}
use Rattle.gr_goros.specs.declared.undo.GoUndo.{GoUndo}
use Rattle.gr_lower.specs.Lowered.{lowered, meaning}
use Rattle.gr_tables.specs.NamedChannels.{contents_of, seen_of, rooms_of, HasRooms}
use Rattle.gr_tables.specs.NamedGoroutines.{At, Arrives, CanArrive, ChangesBy, goroutines_of, go_rooms_of, name_at, seen_at}
use Rattle.gr_tables.specs.declared.channels.Channels.{Channels}
use Rattle.gr_tables.specs.declared.goroutines.Goroutines.{Goroutines}
use Rattle.gr_step.specs.declared.objects.Objects.{Objects}
use Rattle.gr_record.specs.Effects.{Effect}
use Rattle.gr_record.specs.declared.record.Operation.TheVariants as operations
use Rattle.gr_step.specs.Beyonds.{Stops}
use Rattle.gr_record.specs.Listings.{frame_in, state_in}
use Rattle.gr_step.specs.Objects.{contents_in, run_of}
use Rattle.gr_step.specs.Passing.{ArrivesAt}
use Rattle.gr_step.specs.Premises.{Acting, OfGoroutine}
use Rattle.gr_step.specs.Room.{HasRoom}
use Rattle.gr_record.specs.Taking.{Takes}
use Rattle.gr_record.specs.Within.{IsAmong}
use Rattle.gr_step.specs.Wakes.{all_waits_known, without_each, is_live_there, with_each_woken, written_by_close, left_by_close, Closing}
use Rattle.gr_step.proofs.ArrivalLemmas.{can_arrive}
use Rattle.gr_step.proofs.FaultLemmas.{fault_takes, task_faults}
use Rattle.gr_step.proofs.WithinLemmas.{Inside, met_among, go_of_name, gate_of_name, gates_named, gates_inside, more_before, more_after}
use Rattle.gr_step.proofs.ChoiceLemmas.{are_channels}
use Rattle.gr_step.proofs.ObjectLemmas.{change_was, change_is}
use Rattle.gr_step.proofs.PassLemmas.{one_first, prints_nothing, needs_no_frame}
use Rattle.gr_step.proofs.RunningLemmas.{ActsHere, acts_here, code_fits, never_unsound}
use Rattle.gr_step.proofs.ShutLemmas.{closed_is, not_among, all_known_in_state, all_live, woken_at_once}
use Rattle.gr_step.proofs.TakesLemmas.{takes, counted}

some_is : {X : Type 0} {x y : X} → Some x ≡ Some y → x ≡ y
some_is {X} {x} h = ap (λ o. elim o [ Some z ↦ z | None ↦ x ]) h

-- what arrives at the goroutine with a number arrives at that of the name
pub arrives_at_name : (code : ProgramCode) (number : ℕ) (n : List ℕ) (arrival : Arrival) (u : GoUndo) (old new : Goroutines)
    → name_at old number ≡ Some n → ChangesBy number (Arrives code arrival u) old new → ArrivesAt code n arrival u (goroutines_of old) (goroutines_of new)
arrives_at_name code number n arrival u old new named changes = record {
  before = changes.0.content;
  after = changes.1.content;
  was = change_was number n changes.0 changes.1 old new named changes.2;
  is = change_is number n changes.0 changes.1 old new named changes.2;
  arrives = changes.3.0;
  back = changes.3.1.back;
  fits = changes.3.1.fits;
}

-- a goroutine past its close is ready or not as it was
same_status : (g after : CodeGoroutine) (o : Outcome (List CodeFrame)) → (o >>= λ fs. gives (with_frames g fs)) ≡ gives after → after.status ≡ g.status
same_status g after (gives fs) is = sym (ap (λ (o : Outcome CodeGoroutine). elim o [ gives h ↦ h.status | _ ↦ g.status ]) is)
same_status g after (faults x) is = absurd (subst {0, 0} (λ (o : Outcome CodeGoroutine). elim o [ faults _ ↦ Unit {0} | _ ↦ ⊥ ]) is tt)
same_status g after wrong is = absurd (subst {0, 0} (λ (o : Outcome CodeGoroutine). elim o [ wrong ↦ Unit {0} | _ ↦ ⊥ ]) is tt)

-- all goroutines that had frames have them still
module _ (code : ProgramCode) (n : List ℕ) (u : GoUndo) (f h : List ℕ → Option CodeGoroutine) (k : ArrivesAt code n Completion u f h) where
  live_at : (q : List ℕ) → is_live_there (f q) ≡ true → is_live_there (h q) ≡ true
  live_at q live = ap (λ (g : List ℕ → Option CodeGoroutine). is_live_there (g q)) k.is ∙ elim (cases_Bool (same_go q n)) [
    | inl t ↦
        let was : is_live_there (Some k.before) ≡ true = ap is_live_there (sym (ap f (go_is q n t) ∙ k.was)) ∙ live in
        ap (λ b. is_live_there (if b then Some k.after else f q)) t
        ∙ ap (λ st. not (is_finished st)) (same_status k.before k.after (frames_past code Completion k.before.frames) k.arrives) ∙ was
    | inr e ↦ ap (λ b. is_live_there (if b then Some k.after else f q)) e ∙ live
  ]

  pub all_live_after : (names : List (List ℕ)) → list_all (λ q. is_live_there (f q)) names ≡ true → list_all (λ q. is_live_there (h q)) names ≡ true
  all_live_after [] live = refl
  all_live_after (q ∷ qs) live =
      let parts = and_parts (is_live_there (f q)) (list_all (λ q. is_live_there (f q)) qs) live in
      and_from (is_live_there (h q)) (list_all (λ q. is_live_there (h q)) qs) (live_at q parts.0) (all_live_after qs parts.1)

-- the content of a channel that was looked up
pub content_is : (o : Channels) (name : ChName) (r : channels.Seen) (x : Content) → seen_of o name ≡ Some r → contents_of o name ≡ Some x → r.content ≡ x
content_is o name r x seen is = some_is (sym (ap (option_map (λ (c : channels.Seen). c.content)) seen) ∙ is)

pub content_seen : (o : Channels) (name : ChName) (r : channels.Seen) → seen_of o name ≡ Some r → contents_of o name ≡ Some r.content
content_seen o name r seen = ap (option_map (λ (c : channels.Seen). c.content)) seen

no_run : (names : List (List ℕ)) (cs : List ChName) → list_any (same Run) (map Go names ++ map Gate cs) ≡ false
no_run [] [] = refl
no_run [] (c ∷ cs) = no_run [] cs
no_run (n ∷ ns) cs = no_run ns cs

module _ (p : Program) (e : Event) (number : ℕ) (old new : Objects) (acting : Acting p e number old) (c : ChName) (x : Content) (change : Effect)
    (k : Closing (lowered p) e c x change old new) (plain : e.choice ≡ Plain)
    (task : OfGoroutine e (contents_in old) (λ g. task_of (lowered p) g ≡ gives (Wants (Closes (Some c)))))
    (there : (contents_in old).channels c ≡ Some x) (is_open : x.closed ≡ false) where
  abbrev s : Contents
  s = contents_in old

  abbrev t : Contents
  t = contents_in new

  abbrev names : List (List ℕ)
  names = waiting_on x

  abbrev g : CodeGoroutine
  g = acting.goroutine

  before_is : k.goes.before ≡ g
  before_is = some_is (sym k.goes.was ∙ acting.there)

  close_arrives : arrived (lowered p) Completion g ≡ gives k.goes.after
  close_arrives = ap (arrived (lowered p) Completion) (sym before_is) ∙ k.goes.arrives

  finds : (list_all (λ n. is_waiting (s.goroutines n)) names ≡ true) × (all_made s (channels_but (c ∷ []) (all_waits_in s names)) ≡ true)
      × (¬ (arrived (lowered p) Completion g ≡ wrong))
  finds =
      let h = acts_here p e number old acting in
      close_finds_waiters (meaning p) p (lowered p) s e g h.f h.below c x h.acts (task g acting.there) plain
      (never_unsound p s acting.running e) there is_open

  apart_from : list_any (same_go e.go) names ≡ false
  apart_from = not_among s.goroutines e.go names finds.0 (ap is_waiting acting.there ∙ ap (λ st. elim st [ waiting ws ↦ true | _ ↦ false ]) acting.is_ready)

  leads : t ≡ with_goroutine (closed_in s c (shut x) names) e.go (Some k.goes.after)
  leads =
      let content : k.shuts.content ≡ x = some_is (sym k.shuts.was ∙ there) in
      closed_is p s acting.running c x names e.go k.goes.after apart_from t (ap run_of k.run)
      (k.wakes ∙ ap (with_each_woken names) k.goes.is)
      (k.shuts.is ∙ ap (λ y. without_each c s.goroutines names (updated same_channel s.channels c (Some (shut y)))) content)

  steps : StepsTo (frame_in p) (attempt p e) s t (code_report g (Some (closes c)) kinds.Close)
  steps =
      let h = acts_here p e number old acting in
      subst {_, _} (λ u. StepsTo (frame_in p) (attempt p e) s u (code_report g (Some (closes c)) kinds.Close)) (sym leads)
      (close_of_code (meaning p) p (lowered p) s e g h.f h.below c x k.goes.after h.acts (task g acting.there) plain there is_open finds.0 finds.1
      close_arrives)

  row : table (state_in p s) e (code_report g (Some (closes c)) kinds.Close)
      ≡ touches (Run ∷ []) (Go e.go ∷ written_by_close c s.goroutines names)
  row =
      ap (λ o. touches (Run ∷ []) (Go e.go ∷ Gate c ∷ woken (state_in p s) c (once (senders_at o ++ receivers_at o)))) (ap (option_map gate_of) there)
      ∙ ap (λ ws. touches (Run ∷ []) (Go e.go ∷ Gate c ∷ map Go names ++ map Gate (channels_but (c ∷ []) ws))) (all_known_in_state p s names)

  reads_once : each_once (Go e.go ∷ written_by_close c s.goroutines names) (Run ∷ []) ≡ Run ∷ []
  reads_once = rw (no_run names (channels_but (c ∷ []) (all_waits_known s.goroutines names))) refl

  stands : ContentsStand (meaning p) (lowered p) t
  stands =
      let one = change_keeps_standing (meaning p) (lowered p) s e.go k.goes.after acting.running.stand
      (arrival_keeps_standing (meaning p) (lowered p) p Completion g k.goes.after (code_fits p s acting.running)
      (acting.running.stand e.go g acting.there) close_arrives) in
      let first = with_goroutine s e.go (Some k.goes.after) in
      same_goroutines_stand (meaning p) (lowered p) (with_woken first names) t
      (λ q. ap (λ (j : List ℕ → Option CodeGoroutine). j q) (k.wakes ∙ ap (with_each_woken names) k.goes.is ∙ woken_at_once names first))
      (waking_keeps_standing (meaning p) (lowered p) first names one)

  abbrev others : List ChName
  others = channels_but (c ∷ []) (all_waits_known s.goroutines names)

  abbrev wrote : List Object
  wrote = Go e.go ∷ written_by_close c s.goroutines names

  gate_written : (d : ChName) → list_any (same_channel d) (left_by_close c s.goroutines names) ≡ true → IsAmong (Gate d) wrote
  gate_written d h = elim (cases_Bool (same_channel d c)) [
    | inl is ↦ ap (λ b. b || list_any (same (Gate d)) (map Go names ++ map Gate others)) is
    | inr n ↦ more_before (Gate d) (Go e.go ∷ Gate c ∷ map Go names) (map Gate others)
        (gate_of_name d others ∙ sym (ap (λ b. b || list_any (same_channel d) others) n) ∙ h)
  ]

  inside : Inside e.go [] (written_by_close c s.goroutines names) k.met k.changed t
  inside = record {
    goroutines = met_among k.met names wrote k.named (λ q h. more_before (Go q) (Go e.go ∷ Gate c ∷ []) (map Go names ++ map Gate others)
        (more_after (Go q) (map Go names) (map Gate others) (go_of_name q names ∙ h)));
    gates = gates_named (left_by_close c s.goroutines names) (Run ∷ wrote) (λ d h. gate_written d h) k.changed k.gates;
    parts = λ d b q is w. gates_inside (left_by_close c s.goroutines names) wrote gate_written k.changed d b q k.gates w;
    valid = are_channels new;
  }

  pub closing_takes : Takes p e (attempt p e) s change t
  closing_takes =
      let report = code_report g (Some (closes c)) kinds.Close in
      takes p e (attempt p e) s t report [] (written_by_close c s.goroutines names) change.own k.met k.changed
      (record {
        steps = steps;
        ordinal = ap (λ n. n + 1) (sym (counted p s e.go g acting.there));
        silent = refl;
        prints_nothing = prints_nothing (lowered p) e.go Completion change.own s.goroutines k.between k.goes;
        writes_are = sym (ap (λ (r : Touches). r.writes) row);
        reads_are = sym (ap (λ (r : Touches). each_once r.writes r.reads) row ∙ reads_once);
        goroutines = one_first (lowered p) e.go Completion change.own s.goroutines k.between k.goes k.met t.goroutines
            (record { back = k.over.back; fits = k.over.fits; frames = k.over.frames });
        channels = k.back.back;
        fits = k.back.fits;
        run = ap run_of k.run;
        stand = stands;
        inside = inside;
      })
      change k.tells

  pub closing_has_room : HasRoom e.go change new
  closing_has_room = record {
    frames = subst {_, _} (λ n. n ≤ go_rooms_of new.goroutines e.go)
        (sym (needs_no_frame (lowered p) e.go Completion change.own s.goroutines k.between k.goes)) zero-le;
    places = subst {_, _} (λ us. HasRooms us (rooms_of new.channels)) (sym k.tells.channels_are) k.back.room;
  }

-- before a close, and where it is a fault
module _ (p : Program) (e : Event) (number : ℕ) (o : Objects) (acting : Acting p e number o) (plain : e.choice ≡ Plain) where
  abbrev here : ActsHere p (contents_in o) e acting.goroutine
  here = acts_here p e number o acting

  pub nil_takes : (change : Effect) (t : Contents) → OfGoroutine e (contents_in o) (λ g. task_of (lowered p) g ≡ gives (Wants (Closes None)))
      → Stops e.go CloseOfNil None [] (contents_in o) acting.goroutine change t → Takes p e (attempt p e) (contents_in o) change t
  nil_takes change t task stops =
      let wants = task acting.goroutine acting.there in
      task_faults p e number o acting CloseOfNil change t plain (ap chooses wants)
      (close_nil (meaning p) p (lowered p) (contents_in o) e acting.goroutine here.f here.below here.acts wants plain) stops

  module _ (c : ChName) (task : OfGoroutine e (contents_in o) (λ g. task_of (lowered p) g ≡ gives (Wants (Closes (Some c))))) where
    abbrev actor : Actor
    actor = actor_of (frame_in p) p e acting.goroutine here.f here.below

    pub channel_there : (x : Content) × ((contents_in o).channels c ≡ Some x)
    channel_there =
        gate_is_there (frame_in p) (contents_in o) c
        (λ gate. if gate.closed then fault actor (Some (closes c)) CloseOfClosed
        else close_open actor c gate (once (map (λ w. w.go) gate.senders ++ map (λ w. w.go) gate.receivers)))
        (rule_is_sound (meaning p) p (lowered p) (contents_in o) e acting.goroutine here.f here.below (Closes (Some c)) here.acts
        (task acting.goroutine acting.there) refl plain (never_unsound p (contents_in o) acting.running e))

    module _ (x : Content) (there : (contents_in o).channels c ≡ Some x) where
      pub twice_takes : (change : Effect) (t : Contents) → x.closed ≡ true
          → Stops e.go CloseOfClosed (Some (operations.Closes c)) (Gate c ∷ []) (contents_in o) acting.goroutine change t
          → Takes p e (attempt p e) (contents_in o) change t
      twice_takes change t closed stops =
          fault_takes p e number o acting (attempt p e) CloseOfClosed (Some (operations.Closes c)) (Gate c ∷ []) (Gate c ∷ []) change t stops
          (close_twice (meaning p) p (lowered p) (contents_in o) e acting.goroutine here.f here.below c x here.acts
          (task acting.goroutine acting.there) plain there closed) refl refl

      found : x.closed ≡ false → (list_all (λ n. is_waiting ((contents_in o).goroutines n)) (waiting_on x) ≡ true)
          × (all_made (contents_in o) (channels_but (c ∷ []) (all_waits_in (contents_in o) (waiting_on x))) ≡ true)
          × (¬ (arrived (lowered p) Completion acting.goroutine ≡ wrong))
      found is_open =
          close_finds_waiters (meaning p) p (lowered p) (contents_in o) e acting.goroutine here.f here.below c x here.acts
          (task acting.goroutine acting.there) plain (never_unsound p (contents_in o) acting.running e) there is_open

      pub can_complete : x.closed ≡ false → At (CanArrive (lowered p) Completion) (seen_at o.goroutines number)
      can_complete is_open =
          can_arrive p e number o acting Completion (found is_open).2 (acting.counted.steps e.go acting.goroutine acting.there)

      pub waiters_live : x.closed ≡ false → list_all (λ n. is_live_there (goroutines_of o.goroutines n)) (waiting_on x) ≡ true
      waiters_live is_open = all_live (goroutines_of o.goroutines) (waiting_on x) (found is_open).0
