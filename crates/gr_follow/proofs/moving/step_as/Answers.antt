use Rattle.std.proofs.Common.{◌∙◌, ◌++◌, ◌∷◌, [], ap}
use Rattle.gr_follow.proofs.MoveLemmas.{step_of, went_on}
use Rattle.gr_follow.specs.Following.{events_at}
use Rattle.gr_rollback.specs.Machines.{store_of}
use Rattle.gr_step.specs.Stores.{program_at}
use Rattle.gr_follow.proofs.moving.step_as.Goals as goal

pub returns-in-Ok-clause-of : goal.returns-in-Ok-clause-of
returns-in-Ok-clause-of c =
    step_of c.args.machine.now c.step.new.self c.requires.machine c.in_ok-event.event c.step.result
    (c.step.ensures.taken (program_at (store_of c.args.machine.now)) c.requires.machine.world c.requires.machine.stands)

pub returns-in-Ok-clause-forth : goal.returns-in-Ok-clause-forth
returns-in-Ok-clause-forth c =
    went_on c.args.machine.now c.step.new.self c.requires.machine c.in_ok-event.event c.step.result _ c.in-Ok.is
    (c.step.ensures.taken (program_at (store_of c.args.machine.now)) c.requires.machine.world c.requires.machine.stands)
    ∙ ap (λ e. events_at c.args.machine.now ++ e ∷ []) c.in_ok-event.ensures

pub returns-in-Err-clause-of : goal.returns-in-Err-clause-of
returns-in-Err-clause-of c =
    step_of c.args.machine.now c.step.new.self c.requires.machine c.in_ok-event.event c.step.result
    (c.step.ensures.taken (program_at (store_of c.args.machine.now)) c.requires.machine.world c.requires.machine.stands)
