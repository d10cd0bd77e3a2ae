use Rattle.std.proofs.Common.{Some, refl}
use Rattle.std.proofs.lemmas.Result.{IfOk-weaker}
use Rattle.gr_rules.specs.Attempts.{no_such_choice, refuse}
use Rattle.gr_rules.specs.Communications.{receive, send}
use Rattle.gr_record.specs.Listings.{program_in}
use Rattle.gr_step.specs.Objects.{contents_in}
use Rattle.gr_step.proofs.SelectLemmas.{no_fault_sent, refused_here, trial_sound, trial_chosen}
use Rattle.gr_step.proofs.objects.Objects.communicate.Goals as goal

pub returns-in-Default-clause-taken : goal.returns-in-Default-clause-taken
returns-in-Default-clause-taken c =
    let p = program_in c.args.turn.now.listing.now in
    let e = c.args.turn.now.event.now in
    let acting = c.requires.may.acting in
    (refl, refused_here p e c.args.turn.now.number c.args.self.now acting (refuse no_such_choice) (rw c.in-Default.is at c.requires.step))

-- a clause that sends
pub returns-in_default-clause-taken : goal.returns-in_default-clause-taken
returns-in_default-clause-taken c =
    let p = program_in c.args.turn.now.listing.now in
    let e = c.args.turn.now.event.now in
    let acting = c.requires.may.acting in
    (refl, refused_here p e c.args.turn.now.number c.args.self.now acting (refuse no_such_choice) (rw (c.in-Send.is, c.in_default.is) at c.requires.step))

pub returns-in_default-value-clause-taken : goal.returns-in_default-value-clause-taken
returns-in_default-value-clause-taken c =
    let p = program_in c.args.turn.now.listing.now in
    let e = c.args.turn.now.event.now in
    let acting = c.requires.may.acting in
    absurd (no_fault_sent p e c.args.turn.now.number c.args.self.now acting c.args.case c.in-Some.channel c.in-Send.value c.in_default-value.not-Ok
    (rw (c.in-Send.is, c.in-Some.is) at c.requires.step))

pub send-requires-clause-sound : goal.send-requires-clause-sound
send-requires-clause-sound c =
    let p = program_in c.args.turn.now.listing.now in
    let e = c.args.turn.now.event.now in
    let acting = c.requires.may.acting in
    trial_sound p e c.args.turn.now.number c.args.self.now acting (λ a otherwise. send a (Some c.args.case) c.in-Some.channel c.in-Ok.value otherwise)
    (rw (c.in-Send.is, c.in-Some.is, c.in-Ok.is) at c.requires.step)

pub returns-in-Ok-clause-taken : goal.returns-in-Ok-clause-taken
returns-in-Ok-clause-taken c =
    let p = program_in c.args.turn.now.listing.now in
    let e = c.args.turn.now.event.now in
    let acting = c.requires.may.acting in
    IfOk-weaker c.send.result _ _ (λ change tried.
    trial_chosen p e c.args.turn.now.number c.args.self.now acting (λ a otherwise. send a (Some c.args.case) c.in-Some.channel c.in-Ok.value otherwise)
    (rw (c.in-Send.is, c.in-Some.is, c.in-Ok.is) at c.requires.step) change (contents_in c.send.new.self) tried) c.send.ensures.ok

-- a clause that receives
pub returns-in_default-channel-clause-taken : goal.returns-in_default-channel-clause-taken
returns-in_default-channel-clause-taken c =
    let p = program_in c.args.turn.now.listing.now in
    let e = c.args.turn.now.event.now in
    let acting = c.requires.may.acting in (
      refl,
      refused_here p e c.args.turn.now.number c.args.self.now acting (refuse no_such_choice)
          (rw (c.in-Receive.is, c.in_default-channel.is) at c.requires.step),
    )

pub receive-requires-clause-sound : goal.receive-requires-clause-sound
receive-requires-clause-sound c =
    let p = program_in c.args.turn.now.listing.now in
    let e = c.args.turn.now.event.now in
    let acting = c.requires.may.acting in
    trial_sound p e c.args.turn.now.number c.args.self.now acting
    (λ a otherwise. receive a (Some c.args.case) c.in-Some-channel.channel c.in-Receive.zero otherwise)
    (rw (c.in-Receive.is, c.in-Some-channel.is) at c.requires.step)

pub returns-in-Some-channel-clause-taken : goal.returns-in-Some-channel-clause-taken
returns-in-Some-channel-clause-taken c =
    let p = program_in c.args.turn.now.listing.now in
    let e = c.args.turn.now.event.now in
    let acting = c.requires.may.acting in
    IfOk-weaker c.receive.result _ _ (λ change tried.
    trial_chosen p e c.args.turn.now.number c.args.self.now acting
    (λ a otherwise. receive a (Some c.args.case) c.in-Some-channel.channel c.in-Receive.zero otherwise)
    (rw (c.in-Receive.is, c.in-Some-channel.is) at c.requires.step) change (contents_in c.receive.new.self) tried) c.receive.ensures.ok
