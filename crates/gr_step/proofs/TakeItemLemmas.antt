-- A receive that meets nobody: of the front item, and of a closed channel.
use Rattle.std.proofs.Common.{◌≡◌, ℕ, true, false, List, [], ◌∷◌, Option, Some, None, sym, ap, subst, ◌∙◌}
use Rattle.std.specs.Option.{option_map_or}
use Rattle.gr_base.specs.declared.names.ChName.{ChName}
use Rattle.gr_base.specs.declared.values.Value.{Value}
use Rattle.gr_base.specs.declared.events.Event.{Event}
use Rattle.gr_base.specs.declared.kinds.Kind.TheVariants.{Pick, Take, Closed}
use Rattle.gr_base.specs.declared.objects.Object.{Object}
use Rattle.gr_base.specs.declared.objects.Object.TheVariants as objects
use Rattle.gr_channels.specs.declared.changes.ChanUndo.{ChanUndo}
use Rattle.gr_channels.specs.declared.changes.Taken.TheVariants as taken
use Rattle.gr_channels.specs.Channels.{Content, Seen, IsChannel}
use Rattle.gr_channels.specs.Objects.{has_any}
use Rattle.gr_program.specs.Programs.{Program}
use Rattle.gr_rules.specs.Outcomes.{wrong}
use Rattle.gr_rules.specs.Deeds.{past}
use Rattle.gr_rules.specs.Attempts.{Attempt, receives_from}
use Rattle.gr_rules.specs.Communications.{receive}
use Rattle.gr_rules.specs.Touches.{slot_numbered}
use Rattle.gr_code.specs.CodeFrames.{ProgramCode}
use Rattle.gr_code.specs.Goroutines.{Passes}
use Rattle.gr_refine.specs.Looks.{Ends, actor_of}
use Rattle.gr_refine.proofs.PresenceLemmas.{gate_is_there}
use Rattle.gr_refine.proofs.ReceiveLemmas.{receiving_goes_on, receiving_ends_well, receiving_cannot}
use Rattle.gr_lower.specs.Lowered.{lowered}
use Rattle.gr_channels.specs.declared.changes.ChanUndo.TheVariants.{Took}
use Rattle.gr_tables.specs.NamedChannels.{At, contents_of, seen_of, GoesBack, TakeAt}
use Rattle.gr_tables.specs.declared.channels.Channels.{Channels}
use Rattle.gr_tables.proofs.Withdrawals.{none_after}
use Rattle.gr_step.specs.declared.objects.Objects.{Objects}
use Rattle.gr_record.specs.Effects.{Effect}
use Rattle.gr_record.specs.Listings.{frame_in}
use Rattle.gr_step.specs.Objects.{contents_in, run_of}
use Rattle.gr_step.specs.Premises.{Acting, OfActor}
use Rattle.gr_step.specs.Room.{HasRoom}
use Rattle.gr_record.specs.Taking.{Takes}
use Rattle.gr_step.specs.Communicating.{TrialIsSound}
use Rattle.gr_step.specs.Preparing.{CanPass, IsPass}
use Rattle.gr_step.proofs.RunningLemmas.{acts_here}
use Rattle.gr_step.proofs.OfferLemmas.{was_seen, of_it, has_first, after_item}
use Rattle.gr_step.proofs.WithinLemmas.{gate_first, took_among, one_inside, none_inside, holds_items}
use Rattle.gr_step.proofs.ChoiceLemmas.{are_channels}
use Rattle.gr_step.proofs.ExchangeLemmas.{HasClauseAt, can_pass_by, pass_goes_back, pass_room}
use Rattle.gr_step.proofs.ReceiveLemmas.{take_takes, end_takes}

-- a channel with an item, to which nobody waits to send; and one that is closed and empty
abbrev HasItem : Content → Type 0
HasItem x = (has_any x.items ≡ true) × (x.senders ≡ [])

abbrev AtItsEnd : Content → Type 0
AtItsEnd x = (x.items ≡ []) × (x.senders ≡ []) × (x.closed ≡ true)

-- no change leads from channels to themselves
nothing_done : (a : Channels) → GoesBack [] a a
nothing_done a =
    let none = none_after [] a in
    subst {_, _} (λ us. GoesBack us a a) (sym none.are) none.goes

no_channel : {X : Type 0} {x : X} → None ≡ Some x → ⊥
no_channel is = subst {0, 0} (λ (o : Option _). elim o [ Some x ↦ ⊥ | None ↦ Unit {0} ]) is tt

module _ (p : Program) (e : Event) (number : ℕ) (old : Objects) (acting : Acting p e number old) (clause : Option ℕ) (c : ChName) (initial : Value) where
  -- the channel is there
  pub receive_finds : TrialIsSound p e (contents_in old) (λ a otherwise. receive a clause c initial otherwise) → ¬ (None ≡ seen_of old.channels c)
  receive_finds sound none =
      let here = acts_here p e number old acting in
      let h = sound acting.goroutine here.f here.below acting.there here.acts.up.frames in
      let x = gate_is_there (frame_in p) (contents_in old) c _ h.1 in
      no_channel (ap (λ (o : Option Seen). elim o [ Some x ↦ Some x.content | None ↦ None ]) none ∙ x.1)

  -- open and empty, with nobody who sends, it gives nothing
  pub cannot_receive : (found : Seen) → Some found ≡ seen_of old.channels c → found.content.items ≡ [] → found.content.senders ≡ [] → found.content.closed ≡ false
      → OfActor p e (contents_in old) (λ a. (otherwise : Attempt) → Ends (frame_in p) (contents_in old) (receive a clause c initial otherwise) otherwise)
  cannot_receive found seen items senders is_open g f below there frames otherwise =
      receiving_cannot (frame_in p) (contents_in old) (actor_of (frame_in p) p e g f below) clause c found.content initial otherwise
      (was_seen old.channels c found seen) (old.channels.are_channels c found (sym seen)) items senders is_open

module _ (p : Program) (e : Event) (number : ℕ) (old : Objects) (acting : Acting p e number old) (clause : Option ℕ)
    (has : HasClauseAt p e (contents_in old) clause) (c : ChName) (initial : Value)
    (sound : TrialIsSound p e (contents_in old) (λ a otherwise. receive a clause c initial otherwise))
    (found : Seen) (seen : Some found ≡ seen_of old.channels c) (code : ProgramCode) (coded : code ≡ lowered p)
    (done : List (ChName × ChanUndo)) where
  made : contents_of old.channels c ≡ Some found.content
  made = was_seen old.channels c found seen

  valid : IsChannel found.content
  valid = old.channels.are_channels c found (sym seen)

  -- the front item is taken
  module _ (has_item : At HasItem (contents_of old.channels c)) (z : Value) (u : ChanUndo) (mid : Channels)
      (answered : TakeAt c (taken.Item z u) old.channels mid) (goes : GoesBack ((c, u) ∷ []) old.channels mid) (is_done : done ≡ (c, u) ∷ []) where
    has_it : HasItem found.content
    has_it = of_it HasItem old.channels c found.content made has_item

    item : (v : Value) × (rest : List Value) × (found.content.items ≡ v ∷ rest)
    item = has_first found.content.items has_it.0

    same : z ≡ item.0
    same = (after_item c old.channels mid found.content made z u answered item.0 item.1 item.2).0

    all_goes : GoesBack done old.channels mid
    all_goes = subst {_, _} (λ us. GoesBack us old.channels mid) (sym is_done) goes

    goes_past : ¬ (past (frame_in p (acts_here p e number old acting).f) clause (Some (z, true)) ≡ wrong)
    goes_past bad =
        let here = acts_here p e number old acting in
        let a = actor_of (frame_in p) p e acting.goroutine here.f here.below in
        let h = sound acting.goroutine here.f here.below acting.there here.acts.up.frames in
        receiving_goes_on (frame_in p) (contents_in old) a clause c found.content initial h.0 item.0 item.1 h.1 made valid item.2 has_it.1
        (subst {_, _} (λ z. past (frame_in p here.f) clause (Some (z, true)) ≡ wrong) same bad)

    pub can_take : CanPass code e number (Passes clause (Some (z, true))) done (record old { channels = mid })
    can_take = can_pass_by p e number old acting clause has (Some (z, true)) goes_past code coded mid done all_goes

    abbrev ends : List Object
    ends = objects.Head c ∷ slot_numbered c found.content.capacity found.content.head

    module _ (change : Effect) (new : Objects)
        (x : IsPass code e.go (Passes clause (Some (z, true))) (option_map_or Pick clause Take) (receives_from c) (objects.Gate c ∷ []) ends done change
        (record old { channels = mid }) new) where
      back : GoesBack done old.channels new.channels
      back = pass_goes_back code e.go (Passes clause (Some (z, true))) (option_map_or Pick clause Take) (receives_from c) (objects.Gate c ∷ []) ends done
          change old.channels (record old { channels = mid }) new all_goes x

      so : IsPass (lowered p) e.go (Passes clause (Some (item.0, true))) (option_map_or Pick clause Take) (receives_from c) (objects.Gate c ∷ []) ends done
          change (record old { channels = mid }) new
      so = subst {_, _} (λ z. IsPass (lowered p) e.go (Passes clause (Some (z, true))) (option_map_or Pick clause Take) (receives_from c)
          (objects.Gate c ∷ []) ends done change (record old { channels = mid }) new) same
          (subst {_, _} (λ k. IsPass k e.go (Passes clause (Some (z, true))) (option_map_or Pick clause Take) (receives_from c)
          (objects.Gate c ∷ []) ends done change (record old { channels = mid }) new) coded x)

      pub was_taken : OfActor p e (contents_in old)
          (λ a. (otherwise : Attempt) → Takes p e (receive a clause c initial otherwise) (contents_in old) change (contents_in new))
      was_taken g f below there frames otherwise =
          take_takes p (contents_in old) acting.running e g f below there frames clause (has g there).0 c initial found.content made valid otherwise
          (contents_in new) so.own done change (ap run_of so.run) back.back back.fits item.0 item.1 item.2 has_it.1 so.goes
          (ap contents_of so.channels ∙ (after_item c old.channels mid found.content made z u answered item.0 item.1 item.2).1) so.tells
          (one_inside e.go (objects.Gate c ∷ []) ends c (Took z) found.content done (contents_in old) (contents_in new)
          (is_done ∙ ap (λ k. (c, k) ∷ []) answered.rule.0) made back.back (gate_first c [])
          (took_among c z found.content (holds_items found.content valid item.0 item.1 item.2)) (are_channels new))

      pub take_room : HasRoom e.go change new
      take_room = pass_room code e.go (Passes clause (Some (z, true))) (option_map_or Pick clause Take) (receives_from c) (objects.Gate c ∷ []) ends done
          change old.channels (record old { channels = mid }) new all_goes x

  -- the zero value is received
  module _ (at_end : At AtItsEnd (contents_of old.channels c)) (none_done : done ≡ []) where
    is_at_end : AtItsEnd found.content
    is_at_end = of_it AtItsEnd old.channels c found.content made at_end

    pub nothing : GoesBack done old.channels old.channels
    nothing = subst {_, _} (λ us. GoesBack us old.channels old.channels) (sym none_done)
        (nothing_done old.channels)

    ends_well : ¬ (past (frame_in p (acts_here p e number old acting).f) clause (Some (initial, false)) ≡ wrong)
    ends_well =
        let here = acts_here p e number old acting in
        let a = actor_of (frame_in p) p e acting.goroutine here.f here.below in
        let h = sound acting.goroutine here.f here.below acting.there here.acts.up.frames in
        receiving_ends_well (frame_in p) (contents_in old) a clause c found.content initial h.0 h.1 made valid is_at_end.0 is_at_end.1 is_at_end.2

    pub can_end : CanPass code e number (Passes clause (Some (initial, false))) done old
    can_end = can_pass_by p e number old acting clause has (Some (initial, false)) ends_well code coded old.channels done nothing

    abbrev looks : List Object
    looks = objects.Gate c ∷ objects.Head c ∷ slot_numbered c found.content.capacity found.content.head

    module _ (change : Effect) (new : Objects)
        (x : IsPass code e.go (Passes clause (Some (initial, false))) (option_map_or Pick clause Closed) (receives_from c) looks [] done change old new) where
      none_back : GoesBack done old.channels new.channels
      none_back = pass_goes_back code e.go (Passes clause (Some (initial, false))) (option_map_or Pick clause Closed) (receives_from c) looks [] done
          change old.channels old new nothing x

      pub was_ended : OfActor p e (contents_in old)
          (λ a. (otherwise : Attempt) → Takes p e (receive a clause c initial otherwise) (contents_in old) change (contents_in new))
      was_ended g f below there frames otherwise =
          let y = subst {_, _} (λ k. IsPass k e.go (Passes clause (Some (initial, false))) (option_map_or Pick clause Closed) (receives_from c) looks [] done
          change old new) coded x in
          end_takes p (contents_in old) acting.running e g f below there frames clause (has g there).0 c initial found.content made valid otherwise
          (contents_in new) y.own done change (ap run_of y.run) none_back.back none_back.fits is_at_end.0 is_at_end.1 is_at_end.2 y.goes
          (ap contents_of y.channels) y.tells (none_inside e.go looks done (contents_in new) none_done (are_channels new))

      pub end_room : HasRoom e.go change new
      end_room = pass_room code e.go (Passes clause (Some (initial, false))) (option_map_or Pick clause Closed) (receives_from c) looks [] done
          change old.channels old new nothing x
