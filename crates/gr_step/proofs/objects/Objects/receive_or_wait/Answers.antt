use Rattle.std.proofs.Common.{◌≡◌, ◌∷◌, [], Option, None, Some, refl, subst, sym}
use Rattle.std.specs.Prelude.{option_map, IfNone}
use Rattle.gr_base.specs.declared.kinds.Kind.TheVariants.{RecvWait}
use Rattle.gr_base.specs.declared.names.ChName.{ChName}
use Rattle.gr_base.specs.declared.values.Value.{Value}
use Rattle.gr_rules.specs.Deeds.{Communication, Receiving}
use Rattle.gr_rules.specs.Attempts.{Attempt, receives_from}
use Rattle.gr_rules.specs.Actors.{Actor}
use Rattle.gr_rules.specs.Communications.{receive, wait}
use Rattle.gr_step.specs.Communicating.{Trial, TrialIsSound}
use Rattle.gr_record.specs.Listings.{program_in}
use Rattle.gr_step.specs.Premises.{Acting}
use Rattle.gr_record.specs.Effects.{Effect}
use Rattle.gr_step.specs.Objects.{contents_in}
use Rattle.gr_step.proofs.SendOrWaitLemmas.{task_at, tried_as, trial_is_sound, took, rest_is_sound, waited}
use Rattle.gr_step.proofs.objects.Objects.receive_or_wait.Goals as goal
use Rattle.gr_tables.proofs.ByNumber.{if_ok}

abbrev communication : Value → Option ChName → Communication
communication v channel = Receiving channel v

abbrev trial : ChName → Value → Trial
trial name v = λ a otherwise. receive a None name v otherwise

abbrev rest : Option ChName → Value → Actor → Attempt
rest channel v = λ a. wait a (option_map receives_from channel) RecvWait ((None, communication v channel) ∷ [])

pub receive-requires-clause-sound : goal.receive-requires-clause-sound
receive-requires-clause-sound c =
    let p = program_in c.args.turn.now.listing.now in
    let e = c.args.turn.now.event.now in
    let s = contents_in c.args.self.now in
    let task = task_at p e s (communication c.args.zero) c.args.channel (Some c.in-Some.name) c.in-Some.is c.requires.task in
    subst (λ v. TrialIsSound p e s (trial c.in-Some.name v)) (sym c.in_ok-given.ensures.ok)
    (trial_is_sound p e c.args.turn.now.number c.args.self.now c.requires.may.acting c.requires.plain (communication c.args.zero (Some c.in-Some.name)) task
    (trial c.in-Some.name c.args.zero) (rest (Some c.in-Some.name) c.args.zero) (λ b. refl))

pub returns-in_default-clause-ok : goal.returns-in_default-clause-ok
returns-in_default-clause-ok c =
    let p = program_in c.args.turn.now.listing.now in
    let e = c.args.turn.now.event.now in
    let s = contents_in c.args.self.now in
    let task = task_at p e s (communication c.args.zero) c.args.channel None c.in_default.is c.requires.task in
    if_ok c.wait_to_receive.result _ _
    (λ change. waited p e c.args.turn.now.number c.args.self.now c.requires.may.acting c.requires.plain (communication c.args.zero None) task
    (λ a otherwise. otherwise) (rest None c.args.zero) (λ b. refl) s (refl, λ g f below there frames otherwise. refl)
    change (contents_in c.wait_to_receive.new.self)) c.wait_to_receive.ensures.ok

pub returns-in-Some-2-clause-ok : goal.returns-in-Some-2-clause-ok
returns-in-Some-2-clause-ok c =
    let p = program_in c.args.turn.now.listing.now in
    let e = c.args.turn.now.event.now in
    let s = contents_in c.args.self.now in
    let task = task_at p e s (communication c.args.zero) c.args.channel (Some c.in-Some.name) c.in-Some.is c.requires.task in
    took p e c.args.turn.now.number c.args.self.now c.requires.may.acting c.requires.plain (communication c.args.zero (Some c.in-Some.name)) task
    (trial c.in-Some.name c.args.zero) (rest (Some c.in-Some.name) c.args.zero) (λ b. refl) c.in-Some-2.change (contents_in c.receive.new.self)
    (tried_as p e s (trial c.in-Some.name) _ _ c.in_ok-given.ensures.ok _ _ c.in-Some-2.is _ c.in_ok-change.ensures.ok)

pub wait_to_receive-requires-2-clause-may : goal.wait_to_receive-requires-2-clause-may
wait_to_receive-requires-2-clause-may c =
    let stays = subst {_, _} (λ (o : Option Effect). IfNone o (c.receive.new.self ≡ c.args.self.now)) c.in_default-2.is c.in_ok-change.ensures.stays in
    record {
      coded = c.requires.may.coded;
      acting = subst {_, _} (Acting (program_in c.args.turn.now.listing.now) c.args.turn.now.event.now c.args.turn.now.number) (sym stays)
          c.requires.may.acting;
    }

pub wait_to_receive-requires-2-clause-sound : goal.wait_to_receive-requires-2-clause-sound
wait_to_receive-requires-2-clause-sound c =
    let p = program_in c.args.turn.now.listing.now in
    let e = c.args.turn.now.event.now in
    let s = contents_in c.args.self.now in
    let task = task_at p e s (communication c.args.zero) c.args.channel (Some c.in-Some.name) c.in-Some.is c.requires.task in
    rest_is_sound p e c.args.turn.now.number c.args.self.now c.requires.may.acting c.requires.plain (communication c.args.zero (Some c.in-Some.name)) task
    (trial c.in-Some.name c.args.zero) (rest (Some c.in-Some.name) c.args.zero) (λ b. refl) (contents_in c.receive.new.self)
    (tried_as p e s (trial c.in-Some.name) _ _ c.in_ok-given.ensures.ok _ None c.in_default-2.is _ c.in_ok-change.ensures.ok)

pub returns-clause-ok : goal.returns-clause-ok
returns-clause-ok c =
    let p = program_in c.args.turn.now.listing.now in
    let e = c.args.turn.now.event.now in
    let s = contents_in c.args.self.now in
    let task = task_at p e s (communication c.args.zero) c.args.channel (Some c.in-Some.name) c.in-Some.is c.requires.task in
    if_ok c.wait_to_receive-2.result _ _
    (λ change. waited p e c.args.turn.now.number c.args.self.now c.requires.may.acting c.requires.plain (communication c.args.zero (Some c.in-Some.name)) task
    (trial c.in-Some.name c.args.zero) (rest (Some c.in-Some.name) c.args.zero) (λ b. refl) (contents_in c.receive.new.self)
    (tried_as p e s (trial c.in-Some.name) _ _ c.in_ok-given.ensures.ok _ None c.in_default-2.is _ c.in_ok-change.ensures.ok)
    change (contents_in c.wait_to_receive-2.new.self)) c.wait_to_receive-2.ensures.ok
