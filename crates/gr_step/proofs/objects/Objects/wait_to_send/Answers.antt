use Rattle.std.proofs.Common.{[], ◌∷◌, Option, None, option_map, refl}
use Rattle.std.proofs.lemmas.Result.{IfOk-weaker}
use Rattle.gr_base.specs.declared.kinds.Kind.TheVariants as kinds
use Rattle.gr_rules.specs.Attempts as attempts
use Rattle.gr_rules.specs.Communications as rules
use Rattle.gr_rules.specs.Deeds.{Sending}
use Rattle.gr_rules.specs.Outcomes.{gives}
use Rattle.gr_tables.specs.NamedChannels.{contents_of}
use Rattle.gr_record.specs.Listings.{program_in, frame_in}
use Rattle.gr_step.specs.Objects.{contents_in}
use Rattle.gr_rules.specs.Touches.{side}
use Rattle.gr_refine.specs.Contents.{state_of}
use Rattle.gr_step.specs.Parks.{Parks, with_channels}
use Rattle.gr_step.specs.Premises.{OfActor}
use Rattle.gr_step.specs.Room.{HasRoom}
use Rattle.gr_record.specs.Taking.{Takes}
use Rattle.gr_record.specs.declared.record.Operation.{Operation}
use Rattle.gr_record.specs.declared.record.Operation.TheVariants.{SendsOn}
use Rattle.gr_step.proofs.WaitForLemmas.{sends_on_each, can_park, waits_made, waits_to_send, parks_with_room}
use Rattle.gr_step.proofs.objects.Objects.wait_to_send.Goals as goal

pub begin_to_send-requires-clause-parks : goal.begin_to_send-requires-clause-parks
begin_to_send-requires-clause-parks c = can_park (program_in c.args.turn.now.listing.now) c.args.turn.now.event.now c.args.turn.now.number c.args.self.now c.requires.may.acting

pub begin_to_send-requires-clause-made : goal.begin_to_send-requires-clause-made
begin_to_send-requires-clause-made c =
    waits_made (program_in c.args.turn.now.listing.now) c.args.turn.now.event.now c.args.turn.now.number c.args.self.now c.requires.may.acting
    (option_map attempts.sends_on c.args.channel) kinds.SendWait ((None, Sending c.args.channel (gives c.args.value)) ∷ []) c.requires.sound

pub returns-clause-ok : goal.returns-clause-ok
returns-clause-ok c =
    let p = program_in c.args.turn.now.listing.now in
    let e = c.args.turn.now.event.now in
    let s = contents_in c.args.self.now in
    let t = contents_in c.begin_to_send.new.self in
    let operation : Option Operation = option_map SendsOn c.args.channel in
    let sides = side (state_of (frame_in p) (with_channels (contents_of c.args.self.now.channels))) (Sending c.args.channel (gives c.args.value)) in
    IfOk-weaker c.begin_to_send.result
    (λ change. Parks e c.args.turn.now.number kinds.SendWait operation sides ((None, Sending c.args.channel (gives c.args.value)) ∷ []) change c.args.self.now c.begin_to_send.new.self)
    (λ change. OfActor p e s (λ a. Takes p e (rules.wait a (option_map attempts.sends_on c.args.channel) kinds.SendWait ((None, Sending c.args.channel (gives c.args.value)) ∷ [])) s change t))
    (λ change. waits_to_send p e c.args.turn.now.number c.args.self.now c.begin_to_send.new.self c.requires.may.acting operation sides change c.args.channel c.args.value
    (sends_on_each c.args.channel) refl c.requires.sound)
    (c.begin_to_send.ensures.ok (frame_in p))

pub returns-clause-room : goal.returns-clause-room
returns-clause-room c =
    let p = program_in c.args.turn.now.listing.now in
    let e = c.args.turn.now.event.now in
    let operation : Option Operation = option_map SendsOn c.args.channel in
    let sides = side (state_of (frame_in p) (with_channels (contents_of c.args.self.now.channels))) (Sending c.args.channel (gives c.args.value)) in
    IfOk-weaker c.begin_to_send.result
    (λ change. Parks e c.args.turn.now.number kinds.SendWait operation sides ((None, Sending c.args.channel (gives c.args.value)) ∷ []) change c.args.self.now c.begin_to_send.new.self)
    (λ change. HasRoom e.go change c.begin_to_send.new.self)
    (λ change. parks_with_room p e c.args.turn.now.number c.args.self.now c.begin_to_send.new.self c.requires.may.acting kinds.SendWait operation sides
    ((None, Sending c.args.channel (gives c.args.value)) ∷ []) change)
    (c.begin_to_send.ensures.ok (frame_in p))
