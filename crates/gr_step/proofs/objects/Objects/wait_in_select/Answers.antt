use Rattle.std.proofs.Common.{◌≡◌, true, None, refl, sym, ap, subst, ◌∙◌}
use Rattle.std.specs.List.{list_all, flat_map}
use Rattle.std.proofs.lemmas.Result.{IfOk-weaker}
use Rattle.gr_base.specs.declared.kinds.Kind.TheVariants as kinds
use Rattle.gr_rules.specs.Communications as rules
use Rattle.gr_rules.specs.Selects.{numbered}
use Rattle.gr_rules.specs.Touches.{side}
use Rattle.gr_refine.specs.Contents.{state_of}
use Rattle.gr_refine.specs.Partners.{is_made_for}
use Rattle.gr_goros.specs.Views.{communications_of}
use Rattle.gr_tables.specs.NamedChannels.{contents_of}
use Rattle.gr_record.specs.Listings.{program_in, frame_in}
use Rattle.gr_step.specs.Objects.{contents_in}
use Rattle.gr_step.specs.Parks.{pending_of, with_channels, AreMade, Parks}
use Rattle.gr_step.specs.Premises.{OfActor}
use Rattle.gr_step.specs.Room.{HasRoom}
use Rattle.gr_record.specs.Taking.{Takes}
use Rattle.gr_step.proofs.WaitForLemmas.{can_park, waits_made, each_made, waits_in_select, parks_with_room}
use Rattle.gr_step.proofs.objects.Objects.wait_in_select.Goals as goal

pub sides-requires : goal.sides-requires
sides-requires c =
    let f = contents_of c.args.self.now.channels in
    subst (λ cs. list_all (is_made_for (with_channels f)) (communications_of cs) ≡ true) (sym c.deref.ensures.value)
    (each_made f 1 (communications_of c.args.clauses.items)
    (waits_made (program_in c.args.turn.now.listing.now) c.args.turn.now.event.now c.args.turn.now.number c.args.self.now c.requires.may.acting None kinds.SelectWait
    (numbered 1 (communications_of c.args.clauses.items)) c.requires.sound))

pub wait_for-requires-clause-parks : goal.wait_for-requires-clause-parks
wait_for-requires-clause-parks c = can_park (program_in c.args.turn.now.listing.now) c.args.turn.now.event.now c.args.turn.now.number c.args.self.now c.requires.may.acting

pub wait_for-requires-clause-made : goal.wait_for-requires-clause-made
wait_for-requires-clause-made c =
    let f = contents_of c.args.self.now.channels in
    subst (λ ws. AreMade ws f) (sym (ap pending_of c.deref-3.ensures.value ∙ c.in_ok-pending.ensures.ok))
    (waits_made (program_in c.args.turn.now.listing.now) c.args.turn.now.event.now c.args.turn.now.number c.args.self.now c.requires.may.acting None kinds.SelectWait
    (numbered 1 (communications_of c.args.clauses.items)) c.requires.sound)

pub returns-clause-ok : goal.returns-clause-ok
returns-clause-ok c =
    let p = program_in c.args.turn.now.listing.now in
    let e = c.args.turn.now.event.now in
    let s = contents_in c.args.self.now in
    let t = contents_in c.wait_for.new.self in
    let sides = c.deref-2.result.now in
    let cs = communications_of c.args.clauses.items in
    let looked = c.deref-2.ensures.value ∙ c.in_ok-sides.ensures (frame_in p)
    ∙ ap (λ cs. flat_map (side (state_of (frame_in p) (with_channels (contents_of c.args.self.now.channels)))) (communications_of cs)) c.deref.ensures.value in
    IfOk-weaker c.wait_for.result
    (λ change. Parks e c.args.turn.now.number kinds.SelectWait None sides (pending_of c.deref-3.result.now) change c.args.self.now c.wait_for.new.self)
    (λ change. OfActor p e s (λ a. Takes p e (rules.wait a None kinds.SelectWait (numbered 1 cs)) s change t))
    (λ change k. waits_in_select p e c.args.turn.now.number c.args.self.now c.wait_for.new.self c.requires.may.acting None sides change cs refl c.requires.task
    looked c.requires.sound
    (subst (λ ws. Parks e c.args.turn.now.number kinds.SelectWait None sides ws change c.args.self.now c.wait_for.new.self)
    (ap pending_of c.deref-3.ensures.value ∙ c.in_ok-pending.ensures.ok) k))
    c.wait_for.ensures.ok

pub returns-clause-room : goal.returns-clause-room
returns-clause-room c =
    let p = program_in c.args.turn.now.listing.now in
    let e = c.args.turn.now.event.now in
    let sides = c.deref-2.result.now in
    let ws = pending_of c.deref-3.result.now in
    IfOk-weaker c.wait_for.result
    (λ change. Parks e c.args.turn.now.number kinds.SelectWait None sides ws change c.args.self.now c.wait_for.new.self)
    (λ change. HasRoom e.go change c.wait_for.new.self)
    (λ change. parks_with_room p e c.args.turn.now.number c.args.self.now c.wait_for.new.self c.requires.may.acting kinds.SelectWait None sides ws change)
    c.wait_for.ensures.ok
