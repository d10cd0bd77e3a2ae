-- A send finds its channel, faults where that is closed, or cannot proceed.
use Rattle.std.proofs.Common.{◌≡◌, ◌+◌, ◌<◌, ◌≤◌, ◌^◌, ℕ, true, false, List, [], ◌∷◌, length, Option, Some, None, refl, sym, ap, subst, ◌∙◌}
use Rattle.gr_base.specs.declared.names.ChName.{ChName}
use Rattle.gr_base.specs.declared.values.Value.{Value}
use Rattle.gr_base.specs.declared.events.Event.{Event}
use Rattle.gr_base.specs.declared.kinds.Fault.TheVariants.{SendOnClosed}
use Rattle.gr_base.specs.declared.objects.Object.{Object}
use Rattle.gr_base.specs.declared.objects.Object.TheVariants as objects
use Rattle.gr_channels.specs.Channels.{Seen}
use Rattle.gr_program.specs.Programs.{Program}
use Rattle.gr_rules.specs.Attempts.{Attempt}
use Rattle.gr_rules.specs.Communications.{send}
use Rattle.gr_code.specs.CodeFrames.{CodeFrame}
use Rattle.gr_code.specs.Goroutines.{CodeGoroutine, faulted}
use Rattle.gr_refine.specs.Contents.{Contents}
use Rattle.gr_refine.specs.Looks.{Ends, actor_of}
use Rattle.gr_refine.proofs.PresenceLemmas.{gate_is_there}
use Rattle.gr_refine.proofs.SendLemmas.{sending_faults, sending_cannot}
use Rattle.gr_tables.specs.NamedChannels.{seen_of}
use Rattle.gr_tables.specs.NamedGoroutines.{At, IsCounted, seen_at}
use Rattle.gr_step.specs.declared.objects.Objects.{Objects}
use Rattle.gr_record.specs.declared.record.Operation.TheVariants.{SendsOn}
use Rattle.gr_record.specs.Effects.{Effect}
use Rattle.gr_step.specs.Beyonds.{Stops}
use Rattle.gr_record.specs.Listings.{frame_in}
use Rattle.gr_step.specs.Objects.{contents_in}
use Rattle.gr_step.specs.Premises.{Acting, OfActor}
use Rattle.gr_record.specs.Taking.{Takes}
use Rattle.gr_step.specs.Communicating.{TrialIsSound}
use Rattle.gr_step.proofs.ArrivesAtLemmas.{at_number}
use Rattle.gr_step.proofs.FaultLemmas.{fault_takes}
use Rattle.gr_step.proofs.PartnerLemmas.{some_is}
use Rattle.gr_step.proofs.OfferLemmas.{was_seen}
use Rattle.gr_step.proofs.RunningLemmas.{acts_here}

-- its count of steps can rise
pub counts_on : (p : Program) (e : Event) (number : ℕ) (o : Objects) (acting : Acting p e number o) → At IsCounted (seen_at o.goroutines number)
counts_on p e number o acting = at_number (λ g. g.steps + 1 < 2 ^ 64) number e.go o.goroutines acting.named
    (subst {_, _} (At (λ (g : CodeGoroutine). g.steps + 1 < 2 ^ 64)) (sym acting.there) (acting.counted.steps e.go acting.goroutine acting.there))

no_channel : {X : Type 0} {x : X} → None ≡ Some x → ⊥
no_channel is = subst {0, 0} (λ (o : Option _). elim o [ Some x ↦ ⊥ | None ↦ Unit {0} ]) is tt

module _ (p : Program) (e : Event) (number : ℕ) (old : Objects) (acting : Acting p e number old) (clause : Option ℕ) (c : ChName) (v : Value) where
  -- the channel is there
  pub send_finds : TrialIsSound p e (contents_in old) (λ a otherwise. send a clause c v otherwise) → ¬ (None ≡ seen_of old.channels c)
  send_finds sound none =
      let here = acts_here p e number old acting in
      let h = sound acting.goroutine here.f here.below acting.there here.acts.up.frames in
      let x = gate_is_there (frame_in p) (contents_in old) c _ h.1 in
      no_channel (ap (λ (o : Option Seen). elim o [ Some x ↦ Some x.content | None ↦ None ]) none ∙ x.1)

  module _ (found : Seen) (seen : Some found ≡ seen_of old.channels c) where
    -- closed, it is a fault
    module _ (closed : found.content.closed ≡ true) (d : ChName) (is : d ≡ c) (reads : List Object) (read : reads ≡ objects.Gate c ∷ []) (change : Effect)
        (t : Contents) (stops : Stops e.go SendOnClosed (Some (SendsOn d)) reads (contents_in old) acting.goroutine change t) where
      here_faults : (f : CodeFrame) (below : List CodeFrame) (otherwise : Attempt)
          → Takes p e (send (actor_of (frame_in p) p e acting.goroutine f below) clause c v otherwise) (contents_in old) change t
      here_faults f below otherwise =
          fault_takes p e number old acting (send (actor_of (frame_in p) p e acting.goroutine f below) clause c v otherwise) SendOnClosed (Some (SendsOn c))
          (objects.Gate c ∷ []) (objects.Gate c ∷ []) change t
          (subst {_, _} (λ r. Stops e.go SendOnClosed (Some (SendsOn c)) r (contents_in old) acting.goroutine change t) read
          (subst {_, _} (λ d. Stops e.go SendOnClosed (Some (SendsOn d)) reads (contents_in old) acting.goroutine change t) is stops))
          (sending_faults (frame_in p) (contents_in old) (actor_of (frame_in p) p e acting.goroutine f below) clause c found.content v otherwise
          (faulted acting.goroutine) (was_seen old.channels c found seen) closed refl) refl refl

      pub closed_faults : OfActor p e (contents_in old) (λ a. (otherwise : Attempt) → Takes p e (send a clause c v otherwise) (contents_in old) change t)
      closed_faults g f below there frames otherwise =
          subst {_, _} (λ g. Takes p e (send (actor_of (frame_in p) p e g f below) clause c v otherwise) (contents_in old) change t)
          (some_is (sym acting.there ∙ there)) (here_faults f below otherwise)

    -- open, with nobody who receives and no room, it cannot proceed
    pub cannot_send : found.content.closed ≡ false → found.content.receivers ≡ [] → found.content.capacity ≤ length found.content.items
        → OfActor p e (contents_in old) (λ a. (otherwise : Attempt) → Ends (frame_in p) (contents_in old) (send a clause c v otherwise) otherwise)
    cannot_send is_open receivers full g f below there frames otherwise =
        sending_cannot (frame_in p) (contents_in old) (actor_of (frame_in p) p e g f below) clause c found.content v otherwise (was_seen old.channels c found seen)
        (old.channels.are_channels c found (sym seen)) is_open receivers full
