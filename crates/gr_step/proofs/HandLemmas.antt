-- A value is handed to the first goroutine that waits to receive it.
use Rattle.std.proofs.Common.{◌≡◌, ℕ, true, false, List, [], ◌∷◌, map, Option, Some, None, refl, sym, ap, subst, ◌∙◌, inl}
use Rattle.gr_base.specs.declared.names.ChName.{ChName}
use Rattle.gr_base.specs.declared.values.Value.{Value}
use Rattle.gr_base.specs.declared.events.Event.{Event}
use Rattle.gr_base.specs.declared.kinds.Kind.TheVariants.{Pick, Hand}
use Rattle.std.specs.Option.{option_map_or}
use Rattle.gr_base.specs.declared.objects.Object.TheVariants as objects
use Rattle.gr_causal.specs.Sequences.{In}
use Rattle.gr_channels.specs.declared.waiter.Waiter.{Waiter}
use Rattle.gr_channels.specs.declared.changes.ChanUndo.{ChanUndo}
use Rattle.gr_channels.specs.declared.changes.Offered.TheVariants as offered
use Rattle.gr_channels.specs.Channels.{Content, Seen}
use Rattle.gr_channels.specs.Objects.{has_any}
use Rattle.gr_program.specs.Programs.{Program}
use Rattle.gr_rules.specs.Goroutines.{ToReceive}
use Rattle.gr_rules.specs.Operators.{same_channel}
use Rattle.gr_rules.specs.States.{updated}
use Rattle.gr_rules.specs.Attempts.{Attempt, sends_on}
use Rattle.gr_rules.specs.Actors.{channels_but}
use Rattle.gr_rules.specs.Communications.{send}
use Rattle.gr_code.specs.Goroutines.{Passes, IsMet}
use Rattle.gr_refine.specs.Looks.{actor_of}
use Rattle.gr_refine.proofs.SendLemmas.{sending_meets}
use Rattle.gr_lower.specs.Lowered.{lowered}
use Rattle.gr_tables.specs.NamedChannels.{At, contents_of, seen_of, GoesBack, OfferAt, is_at_gate, withdrawn}
use Rattle.gr_tables.specs.declared.channels.Channels.{Channels}
use Rattle.gr_step.specs.declared.objects.Objects.{Objects}
use Rattle.gr_record.specs.Effects.{Effect}
use Rattle.gr_record.specs.Listings.{frame_in}
use Rattle.gr_step.specs.Objects.{contents_in, run_of}
use Rattle.gr_step.specs.Premises.{Acting, OfActor}
use Rattle.gr_step.specs.Room.{HasRoom}
use Rattle.gr_record.specs.Taking.{Takes}
use Rattle.gr_step.specs.Communicating.{TrialIsSound}
use Rattle.gr_step.specs.Preparing.{AreToLeave, IsPrepared, CanExchange, IsExchange, channel_of, go_of, left_by}
use Rattle.gr_step.specs.declared.partners.Prepared.{Prepared}
use Rattle.gr_step.proofs.OfferLemmas.{was_seen, of_it, first_in, after_handed}
use Rattle.gr_code.specs.CodeFrames.{ProgramCode}
use Rattle.std.specs.Prelude.{slice_get}
use Rattle.gr_step.proofs.RunningLemmas.{acts_here}
use Rattle.gr_step.proofs.WaiterLemmas.{waits_at_clause, receiver_waits}
use Rattle.gr_step.proofs.WithinLemmas.{gate_first, gate_is_among, met_inside}
use Rattle.gr_step.proofs.ChoiceLemmas.{are_channels}
use Rattle.gr_step.proofs.ExchangeLemmas.{HasClauseAt, CanMeet, can_meet, can_exchange, exchanged, all_go_back, exchange_room}
use Rattle.gr_step.proofs.SendLemmas.{hand_takes}

module _ (p : Program) (e : Event) (number : ℕ) (old : Objects) (acting : Acting p e number old) (clause : Option ℕ)
    (has : HasClauseAt p e (contents_in old) clause) (c : ChName) (v : Value)
    (sound : TrialIsSound p e (contents_in old) (λ a otherwise. send a clause c v otherwise))
    (x : Content) (made : contents_of old.channels c ≡ Some x) (is_open : x.closed ≡ false)
    (w : Waiter (Unit {0})) (ws : List (Waiter (Unit {0}))) (receivers : x.receivers ≡ w ∷ ws) where
  -- it can be met
  pub can_hand : CanMeet p e (contents_in old) clause None c w.go w.case (Some (v, true))
  can_hand =
      let s = contents_in old in
      let here = acts_here p e number old acting in
      let a = actor_of (frame_in p) p e acting.goroutine here.f here.below in
      let first : In w x.receivers = subst {_, _} (In w) (sym receivers) (inl refl) in
      let h = sound acting.goroutine here.f here.below acting.there here.acts.up.frames in
      let both = sending_meets (frame_in p) s a clause c x v h.0 w ws h.1 made is_open receivers in
      let m = both.0 in
      let its = waits_at_clause p s acting.running m.met_one (acting.running.stand w.go m.met_one m.there) w.go m.waits m.there m.waiting_for
      (ToReceive c w.case) (receiver_waits p s acting.running c x made w first m.met_one m.waits m.there m.waiting_for) in
      can_meet p e number old acting clause has None both.1 c w.go w.case (Some (v, true)) m its

  -- the receiver was met
  module _ (meet : CanMeet p e (contents_in old) clause None c w.go w.case (Some (v, true)))
      (mid : Channels) (is_mid : contents_of mid ≡ updated same_channel (contents_of old.channels) c (Some (record x { receivers = ws })))
      (u : ChanUndo) (at_gate : is_at_gate u ≡ true) (goes : GoesBack ((c, u) ∷ []) old.channels mid) (names : List ChName) (to_leave : AreToLeave names c meet.m.waits)
      (change : Effect) (new : Objects)
      (done : IsExchange (lowered p) e.go w.go (Passes clause None) (IsMet w.case (Some (v, true))) names (option_map_or Pick clause Hand) (sends_on c) []
      (objects.Gate c ∷ objects.Go w.go ∷ map objects.Gate (channels_but (c ∷ []) meet.m.waits)) ((c, u) ∷ []) change (record old { channels = mid }) new)
    where
      back : GoesBack done.changed old.channels new.channels
      back = all_go_back (lowered p) e.go w.go (Passes clause None) (IsMet w.case (Some (v, true))) names (option_map_or Pick clause Hand) (sends_on c) []
          (objects.Gate c ∷ objects.Go w.go ∷ map objects.Gate (channels_but (c ∷ []) meet.m.waits)) ((c, u) ∷ []) change old.channels
          (record old { channels = mid }) new goes done

      pub handed : OfActor p e (contents_in old) (λ a. (otherwise : Attempt) → Takes p e (send a clause c v otherwise) (contents_in old) change (contents_in new))
      handed g f below there frames otherwise =
          hand_takes p (contents_in old) acting.running e g f below there frames clause (has g there).0 c v x made is_open otherwise (contents_in new)
          done.own done.changed change (ap run_of done.exchanges.run) back.back back.fits w ws receivers meet.m meet.its meet.apart
          done.exchanges.both.between done.exchanges.both.goes done.met done.exchanges.both.meeting names to_leave
          (done.exchanges.withdraws ∙ ap (withdrawn w.go names) is_mid) done.tells
          (met_inside e.go w.go done.met c meet.m.waits [] (objects.Gate c ∷ []) names u x done.changed (contents_in old) (contents_in new) to_leave
          done.exchanges.gates made back.back (gate_first c []) (gate_is_among c u x (objects.Gate c ∷ []) at_gate (gate_first c [])) (are_channels new))

      pub handed_room : HasRoom e.go change new
      handed_room =
          exchange_room (lowered p) e.go w.go (Passes clause None) (IsMet w.case (Some (v, true))) names (option_map_or Pick clause Hand) (sends_on c) []
          (objects.Gate c ∷ objects.Go w.go ∷ map objects.Gate (channels_but (c ∷ []) meet.m.waits)) ((c, u) ∷ []) change old.channels
          (record old { channels = mid }) new goes done

module _ (p : Program) (e : Event) (number : ℕ) (old : Objects) (acting : Acting p e number old) (clause : Option ℕ)
    (has : HasClauseAt p e (contents_in old) clause) (c : ChName) (v : Value)
    (sound : TrialIsSound p e (contents_in old) (λ a otherwise. send a clause c v otherwise))
    (found : Seen) (seen : Some found ≡ seen_of old.channels c)
    (waits : At (λ x. (x.closed ≡ false) × (has_any x.receivers ≡ true)) (contents_of old.channels c))
    (w : Waiter (Unit {0})) (at : Some w ≡ slice_get found.content.receivers 0) where
  -- as it was found
  made : contents_of old.channels c ≡ Some found.content
  made = was_seen old.channels c found seen

  is_open : found.content.closed ≡ false
  is_open = (of_it (λ x. (x.closed ≡ false) × (has_any x.receivers ≡ true)) old.channels c found.content made waits).0

  first : (ws : List (Waiter (Unit {0}))) × (found.content.receivers ≡ w ∷ ws)
  first = first_in found.content.receivers w at

  pub its_receiver : CanMeet p e (contents_in old) clause None c w.go w.case (Some (v, true))
  its_receiver = can_hand p e number old acting clause has c v sound found.content made is_open w first.0 first.1

  module _ (r : Prepared) (ready : IsPrepared (sends_on c) [] (objects.Gate c ∷ []) c w.go its_receiver.m.waits old r)
      (code : ProgramCode) (coded : code ≡ lowered p) (z : Value) (u : ChanUndo) (mid : Channels)
      (answered : OfferAt c v (offered.Handed z u) old.channels mid) (goes : GoesBack ((c, u) ∷ []) old.channels mid) where
    same : z ≡ v
    same = (after_handed c old.channels mid found.content made v z u answered w first.0 first.1).0

    -- all is ready for that
    pub can_hand_over : CanExchange code e number r u (Passes clause None) (IsMet w.case (Some (z, true))) (record old { channels = mid })
    can_hand_over = subst {_, _} (λ z. CanExchange code e number r u (Passes clause None) (IsMet w.case (Some (z, true))) (record old { channels = mid })) (sym same)
        (can_exchange p e number old acting clause None c w.go w.case (Some (v, true)) its_receiver (sends_on c) [] (objects.Gate c ∷ []) r ready code coded
        mid u goes)

    module _ (change : Effect) (new : Objects)
        (done : IsExchange code e.go (go_of r.partner) (Passes clause None) (IsMet w.case (Some (z, true))) (left_by r.partner) (option_map_or Pick clause Hand) (sends_on c) []
        (objects.Gate c ∷ objects.Go w.go ∷ map objects.Gate (channels_but (c ∷ []) its_receiver.m.waits)) ((channel_of r.partner, u) ∷ []) change
        (record old { channels = mid }) new) where
      done_so : IsExchange (lowered p) e.go w.go (Passes clause None) (IsMet w.case (Some (v, true))) (left_by r.partner) (option_map_or Pick clause Hand)
          (sends_on c) [] (objects.Gate c ∷ objects.Go w.go ∷ map objects.Gate (channels_but (c ∷ []) its_receiver.m.waits)) ((c, u) ∷ []) change
          (record old { channels = mid }) new
      done_so = exchanged p e number old acting clause None c w.go w.case (Some (v, true)) its_receiver (sends_on c) [] (objects.Gate c ∷ []) r ready code
          coded mid u goes (option_map_or Pick clause Hand) change new
          (subst {_, _} (λ z. IsExchange code e.go (go_of r.partner) (Passes clause None) (IsMet w.case (Some (z, true))) (left_by r.partner) (option_map_or Pick clause Hand)
          (sends_on c) [] (objects.Gate c ∷ objects.Go w.go ∷ map objects.Gate (channels_but (c ∷ []) its_receiver.m.waits)) ((channel_of r.partner, u) ∷ []) change
          (record old { channels = mid }) new) same done)

      -- the value was handed over
      pub was_handed : OfActor p e (contents_in old) (λ a. (otherwise : Attempt) → Takes p e (send a clause c v otherwise) (contents_in old) change (contents_in new))
      was_handed = handed p e number old acting clause has c v sound found.content made is_open w first.0 first.1 its_receiver mid
          (after_handed c old.channels mid found.content made v z u answered w first.0 first.1).1 u (ap is_at_gate answered.rule.1) goes (left_by r.partner)
          ready.partner.names_are change new done_so

      pub hand_room : HasRoom e.go change new
      hand_room = handed_room p e number old acting clause has c v sound found.content made is_open w first.0 first.1 its_receiver mid
          (after_handed c old.channels mid found.content made v z u answered w first.0 first.1).1 u (ap is_at_gate answered.rule.1) goes (left_by r.partner)
          ready.partner.names_are change new done_so
