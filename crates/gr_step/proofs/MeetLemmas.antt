-- The first goroutine that waits to send is met by one that receives.
use Rattle.std.proofs.Common.{◌≡◌, ℕ, Bool, true, List, [], ◌∷◌, ◌++◌, map, Option, Some, None, refl, sym, ap, subst, ◌∙◌, inl}
use Rattle.std.specs.Prelude.{slice_get}
use Rattle.std.specs.Option.{option_map_or}
use Rattle.gr_base.specs.declared.names.ChName.{ChName}
use Rattle.gr_base.specs.declared.values.Value.{Value}
use Rattle.gr_base.specs.declared.events.Event.{Event}
use Rattle.gr_base.specs.declared.kinds.Kind.TheVariants.{Pick, Take, Meet}
use Rattle.gr_base.specs.declared.objects.Object.{Object}
use Rattle.gr_base.specs.declared.objects.Object.TheVariants as objects
use Rattle.gr_causal.specs.Sequences.{In}
use Rattle.gr_channels.specs.declared.waiter.Waiter.{Waiter}
use Rattle.gr_channels.specs.declared.changes.ChanUndo.{ChanUndo}
use Rattle.gr_channels.specs.declared.changes.Taken.TheVariants as taken
use Rattle.gr_channels.specs.Channels.{Seen, IsChannel}
use Rattle.gr_channels.specs.Objects.{has_any}
use Rattle.gr_program.specs.Programs.{Program}
use Rattle.gr_rules.specs.Goroutines.{ToSend}
use Rattle.gr_rules.specs.Attempts.{Attempt, receives_from}
use Rattle.gr_rules.specs.Actors.{channels_but}
use Rattle.gr_rules.specs.Communications.{receive}
use Rattle.gr_rules.specs.Outcomes.{wrong}
use Rattle.gr_rules.specs.Deeds.{past}
use Rattle.gr_rules.specs.Touches.{slot_numbered}
use Rattle.gr_code.specs.CodeFrames.{ProgramCode}
use Rattle.gr_code.specs.Goroutines.{Passes, IsMet}
use Rattle.gr_refine.specs.Looks.{actor_of}
use Rattle.gr_refine.specs.Partners.{Meets}
use Rattle.gr_refine.proofs.ReceiveLemmas.{receiving_finds_mover, receiving_finds_sender}
use Rattle.gr_lower.specs.Lowered.{lowered}
use Rattle.gr_refine.specs.Written.{written_objects, AreAmong}
use Rattle.gr_tables.specs.NamedChannels.{At, contents_of, seen_of, GoesBack, TakeAt, is_at_gate, withdrawn}
use Rattle.gr_tables.specs.declared.channels.Channels.{Channels}
use Rattle.gr_step.specs.declared.objects.Objects.{Objects}
use Rattle.gr_step.specs.declared.partners.Prepared.{Prepared}
use Rattle.gr_record.specs.Effects.{Effect}
use Rattle.gr_record.specs.Listings.{frame_in}
use Rattle.gr_step.specs.Objects.{contents_in, run_of}
use Rattle.gr_step.specs.Premises.{Acting, OfActor}
use Rattle.gr_step.specs.Room.{HasRoom}
use Rattle.gr_record.specs.Taking.{Takes}
use Rattle.gr_step.specs.Communicating.{TrialIsSound}
use Rattle.gr_step.specs.Preparing.{IsPrepared, CanExchange, IsExchange, channel_of, go_of, left_by}
use Rattle.gr_step.proofs.RunningLemmas.{acts_here}
use Rattle.gr_step.proofs.OfferLemmas.{was_seen, of_it, first_in, has_first, after_moved, after_met}
use Rattle.gr_step.proofs.WaiterLemmas.{waits_at_clause, sender_waits}
use Rattle.gr_step.proofs.WithinLemmas.{gate_first, gate_is_among, moved_among, met_inside, has_capacity}
use Rattle.gr_step.proofs.ChoiceLemmas.{are_channels}
use Rattle.gr_step.proofs.ExchangeLemmas.{HasClauseAt, CanMeet, can_meet, can_exchange, exchanged, all_go_back, exchange_room}
use Rattle.gr_step.proofs.ReceiveLemmas.{full, move_takes, meet_takes}

module _ (p : Program) (e : Event) (number : ℕ) (old : Objects) (acting : Acting p e number old) (clause : Option ℕ)
    (has : HasClauseAt p e (contents_in old) clause) (c : ChName) (initial : Value)
    (sound : TrialIsSound p e (contents_in old) (λ a otherwise. receive a clause c initial otherwise))
    (found : Seen) (seen : Some found ≡ seen_of old.channels c) (w : Waiter Value) (at : Some w ≡ slice_get found.content.senders 0) where
  made : contents_of old.channels c ≡ Some found.content
  made = was_seen old.channels c found seen

  valid : IsChannel found.content
  valid = old.channels.are_channels c found (sym seen)

  first : (ws : List (Waiter Value)) × (found.content.senders ≡ w ∷ ws)
  first = first_in found.content.senders w at

  -- a sender that can be met
  sender : (gets : Option (Value × Bool)) → Meets (frame_in p) (contents_in old) c w.go w.case None
      × (¬ (past (frame_in p (acts_here p e number old acting).f) clause gets ≡ wrong)) → CanMeet p e (contents_in old) clause gets c w.go w.case None
  sender gets both =
      let m = both.0 in
      let stands_first : In w found.content.senders = subst {_, _} (In w) (sym first.1) (inl refl) in
      let its = waits_at_clause p (contents_in old) acting.running m.met_one (acting.running.stand w.go m.met_one m.there) w.go m.waits m.there m.waiting_for
      (ToSend c w.case)
      (sender_waits p (contents_in old) acting.running c found.content made w stands_first m.met_one m.waits m.there m.waiting_for) in
      can_meet p e number old acting clause has gets both.1 c w.go w.case None m its

  -- with no item it gives its own value
  module _ (empty : At (λ x. (x.items ≡ []) × (has_any x.senders ≡ true)) (contents_of old.channels c)) where
    no_item : found.content.items ≡ []
    no_item = (of_it (λ x. (x.items ≡ []) × (has_any x.senders ≡ true)) old.channels c found.content made empty).0

    pub its_sender : CanMeet p e (contents_in old) clause (Some (w.value, true)) c w.go w.case None
    its_sender =
        let here = acts_here p e number old acting in
        let a = actor_of (frame_in p) p e acting.goroutine here.f here.below in
        let h = sound acting.goroutine here.f here.below acting.there here.acts.up.frames in
        sender (Some (w.value, true))
        (receiving_finds_sender (frame_in p) (contents_in old) a clause c found.content initial h.0 w first.0 h.1 made valid no_item first.1)

    abbrev sides : List Object
    sides = objects.Head c ∷ slot_numbered c found.content.capacity found.content.head

    abbrev touched : List Object
    touched = objects.Gate c ∷ []

    abbrev written : List Object
    written = touched ++ objects.Go w.go ∷ map objects.Gate (channels_but (c ∷ []) its_sender.m.waits)

    module _ (r : Prepared) (ready : IsPrepared (receives_from c) sides touched c w.go its_sender.m.waits old r)
        (code : ProgramCode) (coded : code ≡ lowered p) (z : Value) (u : ChanUndo) (mid : Channels)
        (answered : TakeAt c (taken.Met z u) old.channels mid) (goes : GoesBack ((c, u) ∷ []) old.channels mid) where
      same : z ≡ w.value
      same = (after_met c old.channels mid found.content made z u answered w first.0 first.1).0

      pub can_meet_sender : CanExchange code e number r u (Passes clause (Some (z, true))) (IsMet w.case None) (record old { channels = mid })
      can_meet_sender =
          subst {_, _} (λ z. CanExchange code e number r u (Passes clause (Some (z, true))) (IsMet w.case None) (record old { channels = mid })) (sym same)
          (can_exchange p e number old acting clause (Some (w.value, true)) c w.go w.case None its_sender (receives_from c) sides touched r ready code coded
          mid u goes)

      module _ (change : Effect) (new : Objects)
          (done : IsExchange code e.go (go_of r.partner) (Passes clause (Some (z, true))) (IsMet w.case None) (left_by r.partner) (option_map_or Pick clause Meet)
          (receives_from c) sides written ((channel_of r.partner, u) ∷ []) change (record old { channels = mid }) new) where
        so : IsExchange (lowered p) e.go w.go (Passes clause (Some (w.value, true))) (IsMet w.case None) (left_by r.partner) (option_map_or Pick clause Meet)
            (receives_from c) sides written ((c, u) ∷ []) change (record old { channels = mid }) new
        so = exchanged p e number old acting clause (Some (w.value, true)) c w.go w.case None its_sender (receives_from c) sides touched r ready code coded
            mid u goes (option_map_or Pick clause Meet) change new
            (subst {_, _} (λ z. IsExchange code e.go (go_of r.partner) (Passes clause (Some (z, true))) (IsMet w.case None) (left_by r.partner) (option_map_or Pick clause Meet)
            (receives_from c) sides written ((channel_of r.partner, u) ∷ []) change (record old { channels = mid }) new) same done)

        back : GoesBack so.changed old.channels new.channels
        back = all_go_back (lowered p) e.go w.go (Passes clause (Some (w.value, true))) (IsMet w.case None) (left_by r.partner) (option_map_or Pick clause Meet)
            (receives_from c) sides written ((c, u) ∷ []) change old.channels (record old { channels = mid }) new goes so

        pub sender_was_met : OfActor p e (contents_in old)
            (λ a. (otherwise : Attempt) → Takes p e (receive a clause c initial otherwise) (contents_in old) change (contents_in new))
        sender_was_met g f below there frames otherwise =
            meet_takes p (contents_in old) acting.running e g f below there frames clause (has g there).0 c initial found.content made valid otherwise
            (contents_in new) so.own so.changed change (ap run_of so.exchanges.run) back.back back.fits w first.0 first.1 its_sender.m its_sender.its
            its_sender.apart w.value so.exchanges.both.between so.exchanges.both.goes so.met so.exchanges.both.meeting (left_by r.partner) ready.partner.names_are no_item
            refl (so.exchanges.withdraws ∙ ap (withdrawn w.go (left_by r.partner)) (after_met c old.channels mid found.content made z u answered w first.0 first.1).1)
            so.tells
            (met_inside e.go w.go so.met c its_sender.m.waits sides touched (left_by r.partner) u found.content so.changed (contents_in old) (contents_in new)
            ready.partner.names_are so.exchanges.gates made back.back (gate_first c [])
            (gate_is_among c u found.content touched (ap is_at_gate answered.rule.1) (gate_first c [])) (are_channels new))

        pub meeting_room : HasRoom e.go change new
        meeting_room = exchange_room (lowered p) e.go w.go (Passes clause (Some (w.value, true))) (IsMet w.case None) (left_by r.partner)
            (option_map_or Pick clause Meet) (receives_from c) sides written ((c, u) ∷ []) change old.channels (record old { channels = mid }) new goes so

  -- with an item its value moves up
  module _ (filled : At (λ x. (has_any x.items ≡ true) × (has_any x.senders ≡ true)) (contents_of old.channels c)) where
    pub item : (v : Value) × (rest : List Value) × (found.content.items ≡ v ∷ rest)
    item = has_first found.content.items (of_it (λ x. (has_any x.items ≡ true) × (has_any x.senders ≡ true)) old.channels c found.content made filled).0

    pub its_mover : CanMeet p e (contents_in old) clause (Some (item.0, true)) c w.go w.case None
    its_mover =
        let here = acts_here p e number old acting in
        let a = actor_of (frame_in p) p e acting.goroutine here.f here.below in
        let h = sound acting.goroutine here.f here.below acting.there here.acts.up.frames in
        sender (Some (item.0, true))
        (receiving_finds_mover (frame_in p) (contents_in old) a clause c found.content initial h.0 item.0 item.1 w first.0 h.1 made valid item.2 first.1)

    abbrev moving : List Object
    moving = objects.Gate c ∷ objects.Head c ∷ objects.Tail c ∷ slot_numbered c found.content.capacity found.content.head

    abbrev moved : List Object
    moved = moving ++ objects.Go w.go ∷ map objects.Gate (channels_but (c ∷ []) its_mover.m.waits)

    module _ (r : Prepared) (ready : IsPrepared (receives_from c) [] moving c w.go its_mover.m.waits old r)
        (code : ProgramCode) (coded : code ≡ lowered p) (z : Value) (u : ChanUndo) (mid : Channels)
        (answered : TakeAt c (taken.Moved z u) old.channels mid) (goes : GoesBack ((c, u) ∷ []) old.channels mid) where
      same_item : z ≡ item.0
      same_item = (after_moved c old.channels mid found.content made z u answered item.0 item.1 item.2 w first.0 first.1).0

      pub can_meet_mover : CanExchange code e number r u (Passes clause (Some (z, true))) (IsMet w.case None) (record old { channels = mid })
      can_meet_mover =
          subst {_, _} (λ z. CanExchange code e number r u (Passes clause (Some (z, true))) (IsMet w.case None) (record old { channels = mid })) (sym same_item)
          (can_exchange p e number old acting clause (Some (item.0, true)) c w.go w.case None its_mover (receives_from c) [] moving r ready code coded
          mid u goes)

      module _ (change : Effect) (new : Objects)
          (done : IsExchange code e.go (go_of r.partner) (Passes clause (Some (z, true))) (IsMet w.case None) (left_by r.partner) (option_map_or Pick clause Take)
          (receives_from c) [] moved ((channel_of r.partner, u) ∷ []) change (record old { channels = mid }) new) where
        done_so : IsExchange (lowered p) e.go w.go (Passes clause (Some (item.0, true))) (IsMet w.case None) (left_by r.partner) (option_map_or Pick clause Take)
            (receives_from c) [] moved ((c, u) ∷ []) change (record old { channels = mid }) new
        done_so = exchanged p e number old acting clause (Some (item.0, true)) c w.go w.case None its_mover (receives_from c) [] moving r ready code coded
            mid u goes (option_map_or Pick clause Take) change new
            (subst {_, _} (λ z. IsExchange code e.go (go_of r.partner) (Passes clause (Some (z, true))) (IsMet w.case None) (left_by r.partner) (option_map_or Pick clause Take)
            (receives_from c) [] moved ((channel_of r.partner, u) ∷ []) change (record old { channels = mid }) new) same_item done)

        goes_back : GoesBack done_so.changed old.channels new.channels
        goes_back = all_go_back (lowered p) e.go w.go (Passes clause (Some (item.0, true))) (IsMet w.case None) (left_by r.partner)
            (option_map_or Pick clause Take) (receives_from c) [] moved ((c, u) ∷ []) change old.channels (record old { channels = mid }) new goes done_so

        written_by_move : AreAmong (written_objects c u found.content) moving
        written_by_move =
            let moved_up = answered.rule in
            let is_full = full p (contents_in old) acting.running c found.content w first.0 made first.1 in
            subst {_, _} (λ (k : ChanUndo). AreAmong (written_objects c k found.content) moving) (sym moved_up.2)
            (moved_among c z moved_up.0.go moved_up.0.case found.content (has_capacity found.content item.0 item.1 item.2 is_full) is_full)

        pub mover_was_met : OfActor p e (contents_in old)
            (λ a. (otherwise : Attempt) → Takes p e (receive a clause c initial otherwise) (contents_in old) change (contents_in new))
        mover_was_met g f below there frames otherwise =
            move_takes p (contents_in old) acting.running e g f below there frames clause (has g there).0 c initial found.content made valid otherwise
            (contents_in new) done_so.own done_so.changed change (ap run_of done_so.exchanges.run) goes_back.back goes_back.fits w first.0 first.1
            its_mover.m its_mover.its its_mover.apart item.0 done_so.exchanges.both.between done_so.exchanges.both.goes done_so.met
            done_so.exchanges.both.meeting (left_by r.partner) ready.partner.names_are item.1 item.2
            (done_so.exchanges.withdraws ∙ ap (withdrawn w.go (left_by r.partner))
            (after_moved c old.channels mid found.content made z u answered item.0 item.1 item.2 w first.0 first.1).1) done_so.tells
            (met_inside e.go w.go done_so.met c its_mover.m.waits [] moving (left_by r.partner) u found.content done_so.changed (contents_in old) (contents_in new)
            ready.partner.names_are done_so.exchanges.gates made goes_back.back
            (gate_first c (objects.Head c ∷ objects.Tail c ∷ slot_numbered c found.content.capacity found.content.head)) written_by_move (are_channels new))

        pub moving_room : HasRoom e.go change new
        moving_room = exchange_room (lowered p) e.go w.go (Passes clause (Some (item.0, true))) (IsMet w.case None) (left_by r.partner)
            (option_map_or Pick clause Take) (receives_from c) [] moved ((c, u) ∷ []) change old.channels (record old { channels = mid }) new goes done_so
