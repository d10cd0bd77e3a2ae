use Rattle.std.proofs.Common.{◌≡◌, Some}
use Rattle.std.specs.Prelude.{slice_get}
use Rattle.gr_rollback.specs.Machines.{steps_of}
use Rattle.gr_facts.proofs.MovedLemmas.{is_kept, line_there, moves_of, value_there}
use Rattle.gr_facts.proofs.moving.move_on.Goals as goal

pub value_of-requires : goal.value_of-requires
value_of-requires c = rw c.store.ensures c.requires.machine.is.stands.holds.run

pub returns-clause-moves : goal.returns-clause-moves
returns-clause-moves c = λ p w s there.
    let r = c.index-steps-place.result in
    let kept : slice_get (steps_of c.args.leader.now) c.args.place ≡ Some r =
    is_kept (steps_of c.args.leader.now) c.args.place r c.requires.kept (rw (c.as_slice-steps.ensures, c.log.ensures) at c.index-steps-place.is) in
    let known = rw c.store.ensures at c.in_ok-value.ensures in
    let value = value_there p w c.args.leader.now s c.args.place r kept c.args.follower.now there c.in_ok-value.value known in
    let after = c.in_ok-follow_on.ensures.there p w s there in
    let told = rw c.store-2.ensures at c.in_ok-printed.ensures in
    let line = line_there p w c.args.leader.now s c.args.place r kept c.follow_on.new.follower after _ told in
    moves_of p w c.args.leader.now s c.args.place r kept _ c.in_ok-id.ensures value line

pub returns-clause-there : goal.returns-clause-there
returns-clause-there c = λ p w s there. c.in_ok-follow_on.ensures.there p w s there
