-- A value enters the buffer of a channel.
use Rattle.std.proofs.Common.{◌≡◌, ℕ, ◌<◌, false, List, [], ◌∷◌, length, Option, Some, None, sym, ap, subst, ◌∙◌}
use Rattle.std.specs.Option.{option_map_or}
use Rattle.gr_base.specs.declared.names.ChName.{ChName}
use Rattle.gr_base.specs.declared.values.Value.{Value}
use Rattle.gr_base.specs.declared.events.Event.{Event}
use Rattle.gr_base.specs.declared.kinds.Kind.TheVariants.{Pick, Buffer}
use Rattle.gr_base.specs.declared.objects.Object.TheVariants as objects
use Rattle.gr_channels.specs.declared.changes.ChanUndo.{ChanUndo}
use Rattle.gr_channels.specs.declared.changes.Offered.TheVariants as offered
use Rattle.gr_channels.specs.Channels.{Content, Seen, IsChannel, tail_of}
use Rattle.gr_program.specs.Programs.{Program}
use Rattle.gr_rules.specs.Outcomes.{wrong}
use Rattle.gr_rules.specs.Deeds.{past}
use Rattle.gr_rules.specs.Attempts.{Attempt, sends_on}
use Rattle.gr_rules.specs.Communications.{send}
use Rattle.gr_rules.specs.Touches.{slot_numbered}
use Rattle.gr_code.specs.CodeFrames.{ProgramCode}
use Rattle.gr_code.specs.Goroutines.{Passes}
use Rattle.gr_refine.specs.Looks.{actor_of}
use Rattle.gr_refine.proofs.SendLemmas.{sending_goes_on}
use Rattle.gr_lower.specs.Lowered.{lowered}
use Rattle.gr_channels.specs.declared.changes.ChanUndo.TheVariants.{Buffered}
use Rattle.gr_tables.specs.NamedChannels.{At, contents_of, seen_of, GoesBack, OfferAt}
use Rattle.gr_tables.specs.declared.channels.Channels.{Channels}
use Rattle.gr_step.specs.declared.objects.Objects.{Objects}
use Rattle.gr_record.specs.Effects.{Effect}
use Rattle.gr_record.specs.Listings.{frame_in}
use Rattle.gr_step.specs.Objects.{contents_in, run_of}
use Rattle.gr_step.specs.Premises.{Acting, OfActor}
use Rattle.gr_step.specs.Room.{HasRoom}
use Rattle.gr_record.specs.Taking.{Takes}
use Rattle.gr_step.specs.Communicating.{TrialIsSound}
use Rattle.gr_step.specs.Preparing.{CanPass, IsPass}
use Rattle.gr_step.proofs.RunningLemmas.{acts_here}
use Rattle.gr_step.proofs.OfferLemmas.{was_seen, of_it, after_buffered}
use Rattle.gr_step.proofs.WithinLemmas.{gate_first, buffered_among, one_inside, has_places}
use Rattle.gr_step.proofs.ChoiceLemmas.{are_channels}
use Rattle.gr_step.proofs.ExchangeLemmas.{HasClauseAt, can_pass_by, pass_goes_back, pass_room}
use Rattle.gr_step.proofs.SendLemmas.{buffer_takes}

-- a channel that takes one more value
abbrev HasSpace : Content → Type 0
HasSpace x = (x.closed ≡ false) × (x.receivers ≡ []) × (length x.items < x.capacity)

module _ (p : Program) (e : Event) (number : ℕ) (old : Objects) (acting : Acting p e number old) (clause : Option ℕ)
    (has : HasClauseAt p e (contents_in old) clause) (c : ChName) (v : Value)
    (sound : TrialIsSound p e (contents_in old) (λ a otherwise. send a clause c v otherwise))
    (found : Seen) (seen : Some found ≡ seen_of old.channels c) (space : At HasSpace (contents_of old.channels c))
    (code : ProgramCode) (coded : code ≡ lowered p) (u : ChanUndo) (mid : Channels)
    (answered : OfferAt c v (offered.Buffered u) old.channels mid) (goes : GoesBack ((c, u) ∷ []) old.channels mid)
    (done : List (ChName × ChanUndo)) (is_done : done ≡ (c, u) ∷ []) where
  made : contents_of old.channels c ≡ Some found.content
  made = was_seen old.channels c found seen

  valid : IsChannel found.content
  valid = old.channels.are_channels c found (sym seen)

  has_space : HasSpace found.content
  has_space = of_it HasSpace old.channels c found.content made space

  all_goes : GoesBack done old.channels mid
  all_goes = subst {_, _} (λ us. GoesBack us old.channels mid) (sym is_done) goes

  goes_past : ¬ (past (frame_in p (acts_here p e number old acting).f) clause None ≡ wrong)
  goes_past =
      let here = acts_here p e number old acting in
      let a = actor_of (frame_in p) p e acting.goroutine here.f here.below in
      let h = sound acting.goroutine here.f here.below acting.there here.acts.up.frames in
      sending_goes_on (frame_in p) (contents_in old) a clause c found.content v h.0 h.1 made valid has_space.0 has_space.1 has_space.2

  -- it can
  pub can_buffer : CanPass code e number (Passes clause None) done (record old { channels = mid })
  can_buffer = can_pass_by p e number old acting clause has None goes_past code coded mid done all_goes

  -- once the value is in the buffer, the step was taken
  module _ (change : Effect) (new : Objects)
      (x : IsPass code e.go (Passes clause None) (option_map_or Pick clause Buffer) (sends_on c) (objects.Gate c ∷ [])
      (objects.Tail c ∷ slot_numbered c found.content.capacity (tail_of found.content)) done change (record old { channels = mid }) new) where
    back : GoesBack done old.channels new.channels
    back = pass_goes_back code e.go (Passes clause None) (option_map_or Pick clause Buffer) (sends_on c) (objects.Gate c ∷ [])
        (objects.Tail c ∷ slot_numbered c found.content.capacity (tail_of found.content)) done change old.channels (record old { channels = mid }) new all_goes x

    pub was_buffered : OfActor p e (contents_in old) (λ a. (otherwise : Attempt) → Takes p e (send a clause c v otherwise) (contents_in old) change (contents_in new))
    was_buffered g f below there frames otherwise =
        let y = subst {_, _} (λ k. IsPass k e.go (Passes clause None) (option_map_or Pick clause Buffer) (sends_on c) (objects.Gate c ∷ [])
        (objects.Tail c ∷ slot_numbered c found.content.capacity (tail_of found.content)) done change (record old { channels = mid }) new) coded x in
        buffer_takes p (contents_in old) acting.running e g f below there frames clause (has g there).0 c v found.content made has_space.0 otherwise
        (contents_in new) y.own done change (ap run_of y.run) back.back back.fits valid has_space.1 has_space.2 y.goes
        (ap contents_of y.channels ∙ after_buffered c old.channels mid found.content made v u answered) y.tells
        (one_inside e.go (objects.Gate c ∷ []) (objects.Tail c ∷ slot_numbered c found.content.capacity (tail_of found.content)) c Buffered found.content done
        (contents_in old) (contents_in new) (is_done ∙ ap (λ k. (c, k) ∷ []) answered.rule.0) made back.back (gate_first c [])
        (buffered_among c found.content (has_places found.content has_space.2)) (are_channels new))

    pub buffer_room : HasRoom e.go change new
    buffer_room = pass_room code e.go (Passes clause None) (option_map_or Pick clause Buffer) (sends_on c) (objects.Gate c ∷ [])
        (objects.Tail c ∷ slot_numbered c found.content.capacity (tail_of found.content)) done change old.channels (record old { channels = mid }) new all_goes x
