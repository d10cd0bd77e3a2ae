-- The steps of a send, from what was done to goroutines and to the channel.
use Rattle.std.proofs.Common.{◌≡◌, ℕ, ◌+◌, ◌<◌, true, false, List, [], ◌∷◌, ◌++◌, map, length, Option, Some, None, refl, sym, ap, subst, ◌∙◌}
use Rattle.std.specs.Prelude.{take}
use Rattle.gr_base.specs.declared.names.ChName.{ChName}
use Rattle.gr_base.specs.declared.values.Value.{Value}
use Rattle.gr_base.specs.declared.events.Event.{Event}
use Rattle.gr_base.specs.declared.kinds.Kind.TheVariants.{Hand, Buffer}
use Rattle.gr_base.specs.declared.objects.Object.TheVariants as objects
use Rattle.gr_channels.specs.declared.waiter.Waiter.{Waiter}
use Rattle.gr_channels.specs.declared.changes.ChanUndo.{ChanUndo}
use Rattle.gr_channels.specs.Channels.{Content, IsChannel, tail_of}
use Rattle.gr_program.specs.Programs.{Program}
use Rattle.gr_rules.specs.Operators.{same_channel}
use Rattle.gr_rules.specs.States.{same_go, updated}
use Rattle.gr_rules.specs.Attempts.{Attempt, Report, kind_of, sends_on}
use Rattle.gr_rules.specs.Actors.{Actor, channels_but}
use Rattle.gr_rules.specs.Communications.{send}
use Rattle.gr_rules.specs.Touches.{slot_numbered, woken, receivers_at}
use Rattle.gr_laws.specs.Touched.{each_once}
use Rattle.gr_code.specs.CodeFrames.{CodeFrame}
use Rattle.gr_code.specs.Goroutines.{CodeGoroutine, Passes, IsMet}
use Rattle.gr_code.specs.Programs.{IsClause}
use Rattle.gr_refine.specs.Contents.{Contents, with_goroutine, with_channel}
use Rattle.gr_refine.specs.Looks.{actor_of}
use Rattle.gr_refine.specs.Partners.{Meets}
use Rattle.gr_refine.specs.Meetings.{met_in}
use Rattle.gr_refine.specs.Performing.{reported, StepsTo}
use Rattle.gr_refine.proofs.SendLemmas.{sending_hands, sending_buffers}
use Rattle.gr_refine.proofs.MeetingLemmas.{leaving_receivers_is_thin}
use Rattle.gr_lower.specs.Lowered.{lowered}
use Rattle.gr_goros.specs.declared.undo.GoUndo.{GoUndo}
use Rattle.gr_tables.specs.NamedChannels.{chan_back, ChansFit, withdrawn}
use Rattle.gr_record.specs.Effects.{Effect}
use Rattle.gr_record.specs.Listings.{frame_in, state_in}
use Rattle.gr_record.specs.Running.{Running}
use Rattle.gr_record.specs.Taking.{Takes}
use Rattle.gr_step.specs.Passing.{ArrivesAt, Tells}
use Rattle.gr_step.specs.Preparing.{AreToLeave}
use Rattle.gr_step.proofs.OneWaitLemmas.{receiver_alone}
use Rattle.gr_step.proofs.WithinLemmas.{Inside}
use Rattle.gr_step.proofs.PassLemmas.{no_change, one_first, prints_nothing}
use Rattle.gr_step.proofs.TakesLemmas.{takes, counted}
use Rattle.gr_step.proofs.TouchLemmas.{woken_one, first_receiver, tail_slot, read_of_hand, read_of_buffer}
use Rattle.gr_step.proofs.PartnerLemmas.{goes_on, one_stands, partner_is, two_stand, both_met}
use Rattle.gr_step.proofs.WaiterLemmas.{HasItsClause}

module _ (p : Program) (s : Contents) (run : Running p s) (e : Event) (g : CodeGoroutine) (f : CodeFrame) (below : List CodeFrame)
    (there : s.goroutines e.go ≡ Some g) (frames : g.frames ≡ f ∷ below) (clause : Option ℕ) (number : IsClause clause)
    (c : ChName) (v : Value) (x : Content) (made : s.channels c ≡ Some x) (is_open : x.closed ≡ false) (otherwise : Attempt)
    (t : Contents) (own : GoUndo) (us : List (ChName × ChanUndo)) (change : Effect)
    (is_run : t.run ≡ s.run) (back : (q : ChName) → chan_back us q (t.channels q) ≡ s.channels q) (fits : ChansFit us t.channels) where
  abbrev a : Actor
  a = actor_of (frame_in p) p e g f below

  -- the first waiting receiver gets the value
  module _ (w : Waiter (Unit {0})) (ws : List (Waiter (Unit {0}))) (receivers : x.receivers ≡ w ∷ ws)
      (m : Meets (frame_in p) s c w.go w.case (Some (v, true))) (has : HasItsClause (lowered p) m.met_one w.case) (apart : same_go w.go e.go ≡ false)
      (between : List ℕ → Option CodeGoroutine) (goes : ArrivesAt (lowered p) e.go (Passes clause None) own s.goroutines between)
      (met : GoUndo) (meeting : ArrivesAt (lowered p) w.go (IsMet w.case (Some (v, true))) met between t.goroutines)
      (names : List ChName) (to_leave : AreToLeave names c m.waits)
      (is_channels : t.channels ≡ withdrawn w.go names (updated same_channel s.channels c (Some (record x { receivers = ws })))) where
    abbrev handed : Report
    handed = reported a clause (Some (sends_on c)) Hand

    hand_steps : StepsTo (frame_in p) (send a clause c v otherwise) s t handed
    hand_steps =
        let on = goes_on p s run e g f below there frames clause None number own between goes in
        let partner = partner_is p s run e.go w.go apart (Passes clause None) own between goes c w.case (Some (v, true)) m met t.goroutines meeting has in
        let is = both_met p s run e.go w.go apart (Passes clause None) own between goes c w.case (Some (v, true)) m met t.goroutines meeting
        t (record x { receivers = ws }) names to_leave
        (λ one. receiver_alone p s run c x made w.go m.met_one m.waits m.there m.waiting_for one w ws receivers refl) is_run refl is_channels in
        let thin = leaving_receivers_is_thin x w ws receivers in
        subst {_, _} (λ t. StepsTo (frame_in p) (send a clause c v otherwise) s t handed)
        (ap (λ y. met_in (with_goroutine s e.go (Some goes.after)) c y w.go meeting.after m.waits) (sym thin) ∙ sym is)
        (sending_hands (frame_in p) s a clause c x v otherwise w ws m on.on goes.after meeting.after made is_open receivers on.is on.after partner)

    pub hand_takes : Tells change (kind_of handed) (Some (sends_on c)) [] (objects.Gate c ∷ objects.Go w.go ∷ map objects.Gate (channels_but (c ∷ []) m.waits))
        own ((w.go, met) ∷ []) us
        → Inside e.go [] (objects.Gate c ∷ objects.Go w.go ∷ map objects.Gate (channels_but (c ∷ []) m.waits)) ((w.go, met) ∷ []) us t
        → Takes p e (send a clause c v otherwise) s change t
    hand_takes tells inside =
        let others = channels_but (c ∷ []) m.waits in
        let woke : objects.Go w.go ∷ map objects.Gate others ≡ woken (state_in p s) c (take 1 (receivers_at ((state_in p s).gates c))) =
        woken_one p s c w.go m.met_one m.waits m.there m.waiting_for ∙ ap (woken (state_in p s) c) (sym (first_receiver p s c x made w ws receivers)) in
        let wrote = ap (λ l. objects.Go e.go ∷ objects.Gate c ∷ l) woke in
        takes p e (send a clause c v otherwise) s t handed [] (objects.Gate c ∷ objects.Go w.go ∷ map objects.Gate others) own ((w.go, met) ∷ []) us
        (record {
          steps = hand_steps;
          ordinal = ap (λ k. k + 1) (sym (counted p s e.go g there));
          silent = refl;
          prints_nothing = prints_nothing (lowered p) e.go (Passes clause None) own s.goroutines between goes;
          writes_are = wrote;
          reads_are = read_of_hand e.go c w.go others ∙ ap (λ l. each_once l (objects.Run ∷ [])) wrote;
          goroutines = one_first (lowered p) e.go (Passes clause None) own s.goroutines between goes ((w.go, met) ∷ []) t.goroutines
              (one_first (lowered p) w.go (IsMet w.case (Some (v, true))) met between t.goroutines meeting [] t.goroutines (no_change t.goroutines));
          channels = back;
          fits = fits;
          run = is_run;
          stand = two_stand p s run e.go w.go apart (Passes clause None) own between goes c w.case (Some (v, true)) m met t.goroutines meeting t refl;
          inside = inside;
        })
        change tells

  -- the value enters the buffer
  module _ (valid : IsChannel x) (receivers : x.receivers ≡ []) (room : length x.items < x.capacity)
      (goes : ArrivesAt (lowered p) e.go (Passes clause None) own s.goroutines t.goroutines)
      (is_channels : t.channels ≡ updated same_channel s.channels c (Some (record x { items = x.items ++ v ∷ [] }))) where
    abbrev buffered : Report
    buffered = reported a clause (Some (sends_on c)) Buffer

    buffer_steps : StepsTo (frame_in p) (send a clause c v otherwise) s t buffered
    buffer_steps =
        let on = goes_on p s run e g f below there frames clause None number own t.goroutines goes in
        let is : t ≡ with_channel (with_goroutine s e.go (Some goes.after)) c (Some (record x { items = x.items ++ v ∷ [] })) =
        (λ i. record { run = is_run i; goroutines = goes.is i; channels = is_channels i }) in
        subst {_, _} (λ t. StepsTo (frame_in p) (send a clause c v otherwise) s t buffered) (sym is)
        (sending_buffers (frame_in p) s a clause c x v otherwise on.on goes.after made valid is_open receivers room on.is on.after)

    pub buffer_takes : Tells change (kind_of buffered) (Some (sends_on c)) (objects.Gate c ∷ [])
        (objects.Tail c ∷ slot_numbered c x.capacity (tail_of x)) own [] us
        → Inside e.go (objects.Gate c ∷ []) (objects.Tail c ∷ slot_numbered c x.capacity (tail_of x)) [] us t
        → Takes p e (send a clause c v otherwise) s change t
    buffer_takes tells inside =
        let wrote = ap (λ l. objects.Go e.go ∷ objects.Tail c ∷ l) (sym (tail_slot p s c x made)) in
        takes p e (send a clause c v otherwise) s t buffered (objects.Gate c ∷ []) (objects.Tail c ∷ slot_numbered c x.capacity (tail_of x)) own [] us
        (record {
          steps = buffer_steps;
          ordinal = ap (λ k. k + 1) (sym (counted p s e.go g there));
          silent = refl;
          prints_nothing = prints_nothing (lowered p) e.go (Passes clause None) own s.goroutines t.goroutines goes;
          writes_are = wrote;
          reads_are = read_of_buffer e.go c x.capacity (tail_of x) ∙ ap (λ l. each_once l (objects.Run ∷ objects.Gate c ∷ [])) wrote;
          goroutines = one_first (lowered p) e.go (Passes clause None) own s.goroutines t.goroutines goes [] t.goroutines (no_change t.goroutines);
          channels = back;
          fits = fits;
          run = is_run;
          stand = one_stands p s run e g f below there frames clause None number own t.goroutines goes t refl;
          inside = inside;
        })
        change tells
