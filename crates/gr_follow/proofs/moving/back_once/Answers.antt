use Rattle.gr_follow.proofs.MoveLemmas.{back_of, went_back}
use Rattle.gr_rollback.specs.Machines.{store_of}
use Rattle.gr_step.specs.Stores.{program_at}
use Rattle.gr_follow.proofs.moving.back_once.Goals as goal

pub returns-clause-of : goal.returns-clause-of
returns-clause-of c =
    back_of c.args.machine.now c.undo.new.self c.requires.machine c.undo.result
    (c.undo.ensures.undone (program_at (store_of c.args.machine.now)) c.requires.machine.world c.requires.machine.stands)

pub returns-in-Ok-clause-back : goal.returns-in-Ok-clause-back
returns-in-Ok-clause-back c =
    went_back c.args.machine.now c.undo.new.self c.requires.machine c.undo.result _ c.in-Ok.is
    (c.undo.ensures.undone (program_at (store_of c.args.machine.now)) c.requires.machine.world c.requires.machine.stands)

pub returns-in-Ok-clause-of : goal.returns-in-Ok-clause-of
returns-in-Ok-clause-of c =
    back_of c.args.machine.now c.undo.new.self c.requires.machine c.undo.result
    (c.undo.ensures.undone (program_at (store_of c.args.machine.now)) c.requires.machine.world c.requires.machine.stands)
