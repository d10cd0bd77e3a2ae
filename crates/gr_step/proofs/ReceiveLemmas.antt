-- The steps of a receive, from what was done to goroutines and to the channel.
use Rattle.std.proofs.Common.{◌≡◌, ℕ, ◌+◌, true, false, List, [], ◌∷◌, ◌++◌, map, length, Option, Some, None, refl, sym, ap, subst, ◌∙◌, arith, inl, inr}
use Rattle.std.specs.Prelude.{take, ◌⊎◌}
use Rattle.gr_base.specs.declared.names.ChName.{ChName}
use Rattle.gr_base.specs.declared.values.Value.{Value}
use Rattle.gr_base.specs.declared.events.Event.{Event}
use Rattle.gr_base.specs.declared.kinds.Kind.TheVariants.{Meet, Take, Closed}
use Rattle.gr_base.specs.declared.objects.Object.{Object}
use Rattle.gr_base.specs.declared.objects.Object.TheVariants as objects
use Rattle.gr_channels.specs.declared.waiter.Waiter.{Waiter}
use Rattle.gr_channels.specs.declared.changes.ChanUndo.{ChanUndo}
use Rattle.gr_channels.specs.Channels.{Content, IsChannel, tail_of}
use Rattle.gr_program.specs.Programs.{Program}
use Rattle.gr_rules.specs.Operators.{same_channel}
use Rattle.gr_rules.specs.States.{same_go, updated}
use Rattle.gr_rules.specs.Attempts.{Attempt, Report, kind_of, receives_from}
use Rattle.gr_rules.specs.Actors.{Actor, channels_but}
use Rattle.gr_rules.specs.Communications.{receive}
use Rattle.gr_rules.specs.Touches.{slot_numbered, woken, senders_at, taken}
use Rattle.gr_laws.specs.Touched.{each_once}
use Rattle.gr_code.specs.CodeFrames.{CodeFrame}
use Rattle.gr_code.specs.Goroutines.{CodeGoroutine, Passes, IsMet}
use Rattle.gr_code.specs.Programs.{IsClause}
use Rattle.gr_refine.specs.Contents.{Contents, with_goroutine, with_channel}
use Rattle.gr_refine.specs.Looks.{actor_of}
use Rattle.gr_refine.specs.Partners.{Meets}
use Rattle.gr_refine.specs.Meetings.{moved_up, met_in}
use Rattle.gr_refine.specs.Performing.{reported, StepsTo}
use Rattle.gr_refine.proofs.ReceiveLemmas.{receiving_takes, receiving_moves, receiving_meets, receiving_ends}
use Rattle.gr_refine.proofs.MeetingLemmas.{leaving_senders_is_thin}
use Rattle.gr_lower.specs.Lowered.{lowered}
use Rattle.gr_goros.specs.declared.undo.GoUndo.{GoUndo}
use Rattle.gr_tables.specs.NamedChannels.{chan_back, ChansFit, withdrawn}
use Rattle.gr_record.specs.Effects.{Effect}
use Rattle.gr_record.specs.Listings.{frame_in, state_in}
use Rattle.gr_record.specs.Running.{Running}
use Rattle.gr_record.specs.Taking.{Takes}
use Rattle.gr_step.specs.Passing.{ArrivesAt, Tells}
use Rattle.gr_step.specs.Preparing.{AreToLeave}
use Rattle.gr_step.proofs.OneWaitLemmas.{WaitsNoMore, moved_alone, sender_alone}
use Rattle.gr_step.proofs.RunningLemmas.{channels_sound}
use Rattle.gr_step.proofs.WithinLemmas.{Inside}
use Rattle.gr_step.proofs.PassLemmas.{GoesOver, no_change, one_first, prints_nothing}
use Rattle.gr_step.proofs.TakesLemmas.{takes, counted}
use Rattle.gr_step.proofs.TouchLemmas.{woken_one, first_sender, all_senders, head_slot, read_of_take, read_of_move, read_of_meet, read_of_end}
use Rattle.gr_step.proofs.PartnerLemmas.{goes_on, one_stands, partner_is, two_stand, both_met}
use Rattle.gr_step.proofs.WaiterLemmas.{HasItsClause}

-- where a sender waits, the buffer is full
pub full : (p : Program) (s : Contents) (run : Running p s) (c : ChName) (x : Content) (w : Waiter Value) (ws : List (Waiter Value)) → s.channels c ≡ Some x
    → x.senders ≡ w ∷ ws → length x.items ≡ x.capacity
full p s run c x w ws made senders =
    let sound = rw made at ((channels_sound p s run).channels c) in
    by_queue (sound.senders)
  where
    by_queue : (x.senders ≡ []) ⊎ (tail_of x ≡ x.head + x.capacity) → length x.items ≡ x.capacity
    by_queue (inl none) = absurd (subst {0, 0} (λ (l : List (Waiter Value)). elim l [ [] ↦ ⊥ | _ ∷ _ ↦ Unit {0} ]) (sym senders ∙ none) tt)
    by_queue (inr is) = omega (arith, is)

module _ (p : Program) (s : Contents) (run : Running p s) (e : Event) (g : CodeGoroutine) (f : CodeFrame) (below : List CodeFrame)
    (there : s.goroutines e.go ≡ Some g) (frames : g.frames ≡ f ∷ below) (clause : Option ℕ) (number : IsClause clause)
    (c : ChName) (initial : Value) (x : Content) (made : s.channels c ≡ Some x) (valid : IsChannel x) (otherwise : Attempt)
    (t : Contents) (own : GoUndo) (us : List (ChName × ChanUndo)) (change : Effect)
    (is_run : t.run ≡ s.run) (back : (q : ChName) → chan_back us q (t.channels q) ≡ s.channels q) (fits : ChansFit us t.channels) where
  abbrev a : Actor
  a = actor_of (frame_in p) p e g f below

  -- the front item is taken
  module _ (v : Value) (rest : List Value) (items : x.items ≡ v ∷ rest) (senders : x.senders ≡ [])
      (goes : ArrivesAt (lowered p) e.go (Passes clause (Some (v, true))) own s.goroutines t.goroutines)
      (is_channels : t.channels ≡ updated same_channel s.channels c (Some (record x { head = x.head + 1; items = rest }))) where
    abbrev took : Report
    took = reported a clause (Some (receives_from c)) Take

    take_steps : StepsTo (frame_in p) (receive a clause c initial otherwise) s t took
    take_steps =
        let on = goes_on p s run e g f below there frames clause (Some (v, true)) number own t.goroutines goes in
        let is : t ≡ with_channel (with_goroutine s e.go (Some goes.after)) c (Some (record x { head = x.head + 1; items = rest })) =
        (λ i. record { run = is_run i; goroutines = goes.is i; channels = is_channels i }) in
        subst {_, _} (λ t. StepsTo (frame_in p) (receive a clause c initial otherwise) s t took) (sym is)
        (receiving_takes (frame_in p) s a clause c x initial otherwise v rest on.on goes.after made valid items senders on.is on.after)

    pub take_takes : Tells change (kind_of took) (Some (receives_from c)) (objects.Gate c ∷ []) (objects.Head c ∷ slot_numbered c x.capacity x.head) own [] us
        → Inside e.go (objects.Gate c ∷ []) (objects.Head c ∷ slot_numbered c x.capacity x.head) [] us t
        → Takes p e (receive a clause c initial otherwise) s change t
    take_takes tells inside =
        let at : senders_at ((state_in p s).gates c) ≡ [] = all_senders p s c x made [] senders in
        let wrote = ap (λ l. objects.Go e.go ∷ objects.Head c ∷ l) (sym (head_slot p s c x made))
        ∙ ap (λ ns. objects.Go e.go ∷ (taken (state_in p s) c ns).writes) (sym at) in
        let read = ap (λ ns. objects.Run ∷ (taken (state_in p s) c ns).reads) (sym at) in
        takes p e (receive a clause c initial otherwise) s t took (objects.Gate c ∷ []) (objects.Head c ∷ slot_numbered c x.capacity x.head) own [] us
        (record {
          steps = take_steps;
          ordinal = ap (λ k. k + 1) (sym (counted p s e.go g there));
          silent = refl;
          prints_nothing = prints_nothing (lowered p) e.go (Passes clause (Some (v, true))) own s.goroutines t.goroutines goes;
          writes_are = wrote;
          reads_are = read_of_take e.go c x.capacity x.head ∙ (λ i. each_once (wrote i) (read i));
          goroutines = one_first (lowered p) e.go (Passes clause (Some (v, true))) own s.goroutines t.goroutines goes [] t.goroutines (no_change t.goroutines);
          channels = back;
          fits = fits;
          run = is_run;
          stand = one_stands p s run e g f below there frames clause (Some (v, true)) number own t.goroutines goes t refl;
          inside = inside;
        })
        change tells

  -- the channel is closed and empty
  module _ (items : x.items ≡ []) (senders : x.senders ≡ []) (closed : x.closed ≡ true)
      (goes : ArrivesAt (lowered p) e.go (Passes clause (Some (initial, false))) own s.goroutines t.goroutines)
      (is_channels : t.channels ≡ s.channels) where
    abbrev ended : Report
    ended = reported a clause (Some (receives_from c)) Closed

    end_steps : StepsTo (frame_in p) (receive a clause c initial otherwise) s t ended
    end_steps =
        let on = goes_on p s run e g f below there frames clause (Some (initial, false)) number own t.goroutines goes in
        let is : t ≡ with_goroutine s e.go (Some goes.after) = (λ i. record { run = is_run i; goroutines = goes.is i; channels = is_channels i }) in
        subst {_, _} (λ t. StepsTo (frame_in p) (receive a clause c initial otherwise) s t ended) (sym is)
        (receiving_ends (frame_in p) s a clause c x initial otherwise on.on goes.after made valid items senders closed on.is on.after)

    pub end_takes : Tells change (kind_of ended) (Some (receives_from c)) (objects.Gate c ∷ objects.Head c ∷ slot_numbered c x.capacity x.head) [] own [] us
        → Inside e.go (objects.Gate c ∷ objects.Head c ∷ slot_numbered c x.capacity x.head) [] [] us t
        → Takes p e (receive a clause c initial otherwise) s change t
    end_takes tells inside =
        let side = ap (λ l. objects.Run ∷ objects.Gate c ∷ objects.Head c ∷ l) (sym (head_slot p s c x made)) in
        takes p e (receive a clause c initial otherwise) s t ended (objects.Gate c ∷ objects.Head c ∷ slot_numbered c x.capacity x.head) [] own [] us
        (record {
          steps = end_steps;
          ordinal = ap (λ k. k + 1) (sym (counted p s e.go g there));
          silent = refl;
          prints_nothing = prints_nothing (lowered p) e.go (Passes clause (Some (initial, false))) own s.goroutines t.goroutines goes;
          writes_are = refl;
          reads_are = read_of_end e.go c x.capacity x.head ∙ ap (each_once (objects.Go e.go ∷ [])) side;
          goroutines = one_first (lowered p) e.go (Passes clause (Some (initial, false))) own s.goroutines t.goroutines goes [] t.goroutines
              (no_change t.goroutines);
          channels = back;
          fits = fits;
          run = is_run;
          stand = one_stands p s run e g f below there frames clause (Some (initial, false)) number own t.goroutines goes t refl;
          inside = inside;
        })
        change tells

  -- a sender is met
  module _ (w : Waiter Value) (ws : List (Waiter Value)) (senders : x.senders ≡ w ∷ ws)
      (m : Meets (frame_in p) s c w.go w.case None) (has : HasItsClause (lowered p) m.met_one w.case) (apart : same_go w.go e.go ≡ false)
      (v : Value) (between : List ℕ → Option CodeGoroutine) (goes : ArrivesAt (lowered p) e.go (Passes clause (Some (v, true))) own s.goroutines between)
      (met : GoUndo) (meeting : ArrivesAt (lowered p) w.go (IsMet w.case None) met between t.goroutines)
      (names : List ChName) (to_leave : AreToLeave names c m.waits) where
    abbrev others : List ChName
    others = channels_but (c ∷ []) m.waits

    abbrev gates : List Object
    gates = objects.Go w.go ∷ map objects.Gate others

    alone : length m.waits ≡ 1 → WaitsNoMore c (record x { senders = ws }) w.go m.waits
    alone one = sender_alone p s run c x made w.go m.met_one m.waits m.there m.waiting_for one w ws senders refl

    woke : gates ≡ woken (state_in p s) c (w.go ∷ [])
    woke = woken_one p s c w.go m.met_one m.waits m.there m.waiting_for

    both_go : GoesOver ((e.go, own) ∷ (w.go, met) ∷ []) s.goroutines t.goroutines
    both_go = one_first (lowered p) e.go (Passes clause (Some (v, true))) own s.goroutines between goes ((w.go, met) ∷ []) t.goroutines
        (one_first (lowered p) w.go (IsMet w.case None) met between t.goroutines meeting [] t.goroutines (no_change t.goroutines))

    -- a sender is met, and its value moves up
    module _ (rest : List Value) (items : x.items ≡ v ∷ rest)
        (is_channels : t.channels ≡ withdrawn w.go names (updated same_channel s.channels c
        (Some (record x { head = x.head + 1; items = rest ++ w.value ∷ []; senders = ws })))) where
      abbrev moved : Report
      moved = reported a clause (Some (receives_from c)) Take

      move_steps : StepsTo (frame_in p) (receive a clause c initial otherwise) s t moved
      move_steps =
          let on = goes_on p s run e g f below there frames clause (Some (v, true)) number own between goes in
          let partner = partner_is p s run e.go w.go apart (Passes clause (Some (v, true))) own between goes c w.case None m met t.goroutines meeting has in
          let is = both_met p s run e.go w.go apart (Passes clause (Some (v, true))) own between goes c w.case None m met t.goroutines meeting
          t (record x { head = x.head + 1; items = rest ++ w.value ∷ []; senders = ws }) names to_leave
          (λ one. moved_alone c (record x { senders = ws }) w.go m.waits rest w.value (alone one)) is_run refl is_channels in
          let thin = leaving_senders_is_thin x w ws senders in
          subst {_, _} (λ t. StepsTo (frame_in p) (receive a clause c initial otherwise) s t moved)
          (ap (λ y. met_in (with_goroutine s e.go (Some goes.after)) c (moved_up y rest w.value) w.go meeting.after m.waits) (sym thin) ∙ sym is)
          (receiving_moves (frame_in p) s a clause c x initial otherwise v rest w ws m on.on goes.after meeting.after made valid items senders
          (full p s run c x w ws made senders) on.is on.after partner)

      pub move_takes : Tells change (kind_of moved) (Some (receives_from c)) []
          (objects.Gate c ∷ objects.Head c ∷ objects.Tail c ∷ slot_numbered c x.capacity x.head ++ gates) own ((w.go, met) ∷ []) us
          → Inside e.go [] (objects.Gate c ∷ objects.Head c ∷ objects.Tail c ∷ slot_numbered c x.capacity x.head ++ gates) ((w.go, met) ∷ []) us t
          → Takes p e (receive a clause c initial otherwise) s change t
      move_takes tells inside =
          let at : senders_at ((state_in p s).gates c) ≡ w.go ∷ map (λ w. w.go) ws = all_senders p s c x made (w ∷ ws) senders in
          let slot = sym (head_slot p s c x made) in
          let wrote = (λ i. objects.Go e.go ∷ objects.Gate c ∷ objects.Head c ∷ objects.Tail c ∷ slot i ++ woke i)
          ∙ ap (λ ns. objects.Go e.go ∷ (taken (state_in p s) c ns).writes) (sym at) in
          let read = ap (λ ns. objects.Run ∷ (taken (state_in p s) c ns).reads) (sym at) in
          takes p e (receive a clause c initial otherwise) s t moved []
          (objects.Gate c ∷ objects.Head c ∷ objects.Tail c ∷ slot_numbered c x.capacity x.head ++ gates) own ((w.go, met) ∷ []) us
          (record {
            steps = move_steps;
            ordinal = ap (λ k. k + 1) (sym (counted p s e.go g there));
            silent = refl;
            prints_nothing = prints_nothing (lowered p) e.go (Passes clause (Some (v, true))) own s.goroutines between goes;
            writes_are = wrote;
            reads_are = read_of_move e.go c x.capacity x.head w.go others ∙ (λ i. each_once (wrote i) (read i));
            goroutines = both_go;
            channels = back;
            fits = fits;
            run = is_run;
            stand = two_stand p s run e.go w.go apart (Passes clause (Some (v, true))) own between goes c w.case None m met t.goroutines meeting t refl;
            inside = inside;
          })
          change tells

    -- a sender is met, and gives its own value
    module _ (items : x.items ≡ []) (given : w.value ≡ v)
        (is_channels : t.channels ≡ withdrawn w.go names (updated same_channel s.channels c (Some (record x { senders = ws })))) where
      abbrev was_met : Report
      was_met = reported a clause (Some (receives_from c)) Meet

      meet_steps : StepsTo (frame_in p) (receive a clause c initial otherwise) s t was_met
      meet_steps =
          let on = goes_on p s run e g f below there frames clause (Some (v, true)) number own between goes in
          let partner = partner_is p s run e.go w.go apart (Passes clause (Some (v, true))) own between goes c w.case None m met t.goroutines meeting has in
          let is = both_met p s run e.go w.go apart (Passes clause (Some (v, true))) own between goes c w.case None m met t.goroutines meeting
          t (record x { senders = ws }) names to_leave alone is_run refl is_channels in
          let thin = leaving_senders_is_thin x w ws senders in
          subst {_, _} (λ t. StepsTo (frame_in p) (receive a clause c initial otherwise) s t was_met)
          (ap (λ y. met_in (with_goroutine s e.go (Some goes.after)) c y w.go meeting.after m.waits) (sym thin) ∙ sym is)
          (receiving_meets (frame_in p) s a clause c x initial otherwise w ws m on.on goes.after meeting.after made valid items senders
          (rw given on.is) on.after partner)

      pub meet_takes : Tells change (kind_of was_met) (Some (receives_from c)) (objects.Head c ∷ slot_numbered c x.capacity x.head)
          (objects.Gate c ∷ gates) own ((w.go, met) ∷ []) us
          → Inside e.go (objects.Head c ∷ slot_numbered c x.capacity x.head) (objects.Gate c ∷ gates) ((w.go, met) ∷ []) us t
          → Takes p e (receive a clause c initial otherwise) s change t
      meet_takes tells inside =
          let at : take 1 (senders_at ((state_in p s).gates c)) ≡ w.go ∷ [] = first_sender p s c x made w ws senders in
          let wrote = ap (λ l. objects.Go e.go ∷ objects.Gate c ∷ l) (woke ∙ ap (woken (state_in p s) c) (sym at)) in
          let side = ap (λ l. objects.Run ∷ objects.Gate c ∷ objects.Head c ∷ l) (sym (head_slot p s c x made)) in
          takes p e (receive a clause c initial otherwise) s t was_met (objects.Head c ∷ slot_numbered c x.capacity x.head) (objects.Gate c ∷ gates) own
          ((w.go, met) ∷ []) us
          (record {
            steps = meet_steps;
            ordinal = ap (λ k. k + 1) (sym (counted p s e.go g there));
            silent = refl;
            prints_nothing = prints_nothing (lowered p) e.go (Passes clause (Some (v, true))) own s.goroutines between goes;
            writes_are = wrote;
            reads_are = read_of_meet e.go c x.capacity x.head w.go others ∙ (λ i. each_once (wrote i) (side i));
            goroutines = both_go;
            channels = back;
            fits = fits;
            run = is_run;
            stand = two_stand p s run e.go w.go apart (Passes clause (Some (v, true))) own between goes c w.case None m met t.goroutines meeting t refl;
            inside = inside;
          })
          change tells
