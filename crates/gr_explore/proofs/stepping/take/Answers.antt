use Rattle.std.proofs.Common.{◌∙◌}
use Rattle.gr_step.specs.Stores.{program_at}
use Rattle.gr_rollback.specs.Machines.{store_of}
use Rattle.gr_explore.proofs.StepLemmas.{tried_ok, tried_err, tried_full, as_many}
use Rattle.gr_explore.proofs.stepping.take.Goals as goal

pub returns-then-is_full : goal.returns-then-is_full
returns-then-is_full c = tried_full c.args.machine.now c.args.base c.args.event c.requires (as_many c.args.machine.now ∙ c.is_full.ensures c.if-is_full.true)

pub returns-in-Ok : goal.returns-in-Ok
returns-in-Ok c =
    tried_ok c.args.machine.now c.step.new.self c.args.base c.args.event c.requires c.step.result _ c.in-Ok.is
    (c.step.ensures.taken (program_at (store_of c.args.machine.now)) c.requires.is.world c.requires.is.stands)

pub returns-in-Err : goal.returns-in-Err
returns-in-Err c =
    tried_err c.args.machine.now c.step.new.self c.args.base c.args.event c.requires c.step.result c.in-Err.why c.in-Err.is
    (c.step.ensures.taken (program_at (store_of c.args.machine.now)) c.requires.is.world c.requires.is.stands) c.not_taken.result c.not_taken.ensures
