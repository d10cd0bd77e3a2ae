use Rattle.std.proofs.Common.{◌∷◌, [], ◌++◌, ap, ◌∙◌}
use Rattle.gr_step.specs.Stores.{program_at}
use Rattle.gr_rollback.specs.Machines.{store_of}
use Rattle.gr_explore.specs.Exploring.{events_at}
use Rattle.gr_explore.proofs.MoveLemmas.{again_of, refused_of, again_events}
use Rattle.gr_explore.proofs.moving.step_again.Goals as goal

pub returns-in-Ok-step-clause-of : goal.returns-in-Ok-step-clause-of
returns-in-Ok-step-clause-of c =
    again_of c.args.machine.now c.step.new.self c.requires c.in-Ok.event c.step.result (c.step.ensures.taken (program_at (store_of c.args.machine.now)) c.requires.world c.requires.stands) _ c.in-Ok-step.is

pub returns-in-Ok-step-clause-forth : goal.returns-in-Ok-step-clause-forth
returns-in-Ok-step-clause-forth c =
    again_events c.args.machine.now c.step.new.self c.requires c.in-Ok.event c.step.result (c.step.ensures.taken (program_at (store_of c.args.machine.now)) c.requires.world c.requires.stands) _ c.in-Ok-step.is
    ∙ ap (λ e. events_at c.args.machine.now ++ e ∷ []) c.in-Ok.ensures

pub returns-in-Err-clause-of : goal.returns-in-Err-clause-of
returns-in-Err-clause-of c =
    refused_of c.args.machine.now c.step.new.self c.requires c.in-Ok.event c.step.result (c.step.ensures.taken (program_at (store_of c.args.machine.now)) c.requires.world c.requires.stands) _ c.in-Err.is
