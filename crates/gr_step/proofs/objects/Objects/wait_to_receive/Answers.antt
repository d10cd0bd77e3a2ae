use Rattle.std.proofs.Common.{[], ◌∷◌, Option, None, option_map, refl}
use Rattle.std.proofs.lemmas.Result.{IfOk-weaker}
use Rattle.gr_base.specs.declared.kinds.Kind.TheVariants as kinds
use Rattle.gr_rules.specs.Attempts as attempts
use Rattle.gr_rules.specs.Communications as rules
use Rattle.gr_rules.specs.Deeds.{Receiving}
use Rattle.gr_tables.specs.NamedChannels.{contents_of}
use Rattle.gr_record.specs.Listings.{program_in, frame_in}
use Rattle.gr_step.specs.Objects.{contents_in}
use Rattle.gr_rules.specs.Touches.{side}
use Rattle.gr_refine.specs.Contents.{state_of}
use Rattle.gr_step.specs.Parks.{Parks, with_channels}
use Rattle.gr_step.specs.Premises.{OfActor}
use Rattle.gr_step.specs.Room.{HasRoom}
use Rattle.gr_record.specs.Taking.{Takes}
use Rattle.gr_record.specs.declared.record.Operation.{Operation}
use Rattle.gr_record.specs.declared.record.Operation.TheVariants.{ReceivesFrom}
use Rattle.gr_step.proofs.WaitForLemmas.{receives_from_each, can_park, waits_made, waits_to_receive, parks_with_room}
use Rattle.gr_step.proofs.objects.Objects.wait_to_receive.Goals as goal

pub begin_to_receive-requires-clause-parks : goal.begin_to_receive-requires-clause-parks
begin_to_receive-requires-clause-parks c = can_park (program_in c.args.turn.now.listing.now) c.args.turn.now.event.now c.args.turn.now.number c.args.self.now c.requires.may.acting

pub begin_to_receive-requires-clause-made : goal.begin_to_receive-requires-clause-made
begin_to_receive-requires-clause-made c =
    waits_made (program_in c.args.turn.now.listing.now) c.args.turn.now.event.now c.args.turn.now.number c.args.self.now c.requires.may.acting
    (option_map attempts.receives_from c.args.channel) kinds.RecvWait ((None, Receiving c.args.channel c.args.zero) ∷ []) c.requires.sound

pub returns-clause-ok : goal.returns-clause-ok
returns-clause-ok c =
    let p = program_in c.args.turn.now.listing.now in
    let e = c.args.turn.now.event.now in
    let s = contents_in c.args.self.now in
    let t = contents_in c.begin_to_receive.new.self in
    let operation : Option Operation = option_map ReceivesFrom c.args.channel in
    let sides = side (state_of (frame_in p) (with_channels (contents_of c.args.self.now.channels))) (Receiving c.args.channel c.args.zero) in
    IfOk-weaker c.begin_to_receive.result
    (λ change. Parks e c.args.turn.now.number kinds.RecvWait operation sides ((None, Receiving c.args.channel c.args.zero) ∷ []) change c.args.self.now c.begin_to_receive.new.self)
    (λ change. OfActor p e s (λ a. Takes p e (rules.wait a (option_map attempts.receives_from c.args.channel) kinds.RecvWait ((None, Receiving c.args.channel c.args.zero) ∷ [])) s change t))
    (λ change. waits_to_receive p e c.args.turn.now.number c.args.self.now c.begin_to_receive.new.self c.requires.may.acting operation sides change c.args.channel c.args.zero
    (receives_from_each c.args.channel) refl c.requires.sound)
    (c.begin_to_receive.ensures.ok (frame_in p))

pub returns-clause-room : goal.returns-clause-room
returns-clause-room c =
    let p = program_in c.args.turn.now.listing.now in
    let e = c.args.turn.now.event.now in
    let operation : Option Operation = option_map ReceivesFrom c.args.channel in
    let sides = side (state_of (frame_in p) (with_channels (contents_of c.args.self.now.channels))) (Receiving c.args.channel c.args.zero) in
    IfOk-weaker c.begin_to_receive.result
    (λ change. Parks e c.args.turn.now.number kinds.RecvWait operation sides ((None, Receiving c.args.channel c.args.zero) ∷ []) change c.args.self.now c.begin_to_receive.new.self)
    (λ change. HasRoom e.go change c.begin_to_receive.new.self)
    (λ change. parks_with_room p e c.args.turn.now.number c.args.self.now c.begin_to_receive.new.self c.requires.may.acting kinds.RecvWait operation sides
    ((None, Receiving c.args.channel c.args.zero) ∷ []) change)
    (c.begin_to_receive.ensures.ok (frame_in p))
