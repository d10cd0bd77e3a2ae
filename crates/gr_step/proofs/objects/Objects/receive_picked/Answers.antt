use Rattle.std.proofs.Common.{subst}
use Rattle.gr_record.specs.Listings.{program_in}
use Rattle.gr_step.specs.Objects.{contents_in}
use Rattle.gr_step.specs.Communicating.{Chosen}
use Rattle.gr_step.proofs.EventLemmas.{never_refused}
use Rattle.gr_step.proofs.PickLemmas.{picked_sound, picked_chosen}
use Rattle.gr_step.proofs.objects.Objects.receive_picked.Goals as goal

pub receive-requires-clause-sound : goal.receive-requires-clause-sound
receive-requires-clause-sound c =
    picked_sound (program_in c.args.turn.now.listing.now) c.args.turn.now.event.now c.args.turn.now.number c.args.self.now c.requires.may.acting c.args.picked c.requires.picked
    c.value_of_literal-zero.result c.value_of_literal-zero.ensures

pub unreachable-requires : goal.unreachable-requires
unreachable-requires c =
    let chosen = subst (λ o. Chosen (program_in c.args.turn.now.listing.now) c.args.turn.now.event.now (contents_in c.args.self.now) o (contents_in c.receive.new.self))
    c.in-None.is
    (picked_chosen (program_in c.args.turn.now.listing.now) c.args.turn.now.event.now c.args.turn.now.number c.args.self.now c.requires.may.acting c.args.picked c.requires.picked
    c.value_of_literal-zero.result c.value_of_literal-zero.ensures c.in_ok-change.field-0 (contents_in c.receive.new.self) c.in_ok-change.ensures.ok) in
    never_refused (program_in c.args.turn.now.listing.now) c.args.turn.now.event.now c.args.turn.now.number c.args.self.now c.requires.may.acting c.requires.possible chosen.1

pub returns-clause-ok : goal.returns-clause-ok
returns-clause-ok c =
    subst (λ o. Chosen (program_in c.args.turn.now.listing.now) c.args.turn.now.event.now (contents_in c.args.self.now) o (contents_in c.receive.new.self))
    c.in-Some.is
    (picked_chosen (program_in c.args.turn.now.listing.now) c.args.turn.now.event.now c.args.turn.now.number c.args.self.now c.requires.may.acting c.args.picked c.requires.picked
    c.value_of_literal-zero.result c.value_of_literal-zero.ensures c.in_ok-change.field-0 (contents_in c.receive.new.self) c.in_ok-change.ensures.ok)
