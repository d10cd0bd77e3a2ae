use Rattle.std.proofs.Common.{sym, subst, ◌≤◌, ◌<◌}
use Rattle.gr_step.specs.Stores.{program_at}
use Rattle.gr_rollback.specs.Machines.{store_of}
use Rattle.gr_explore.proofs.StepLemmas.{went_back, returned_none, returned_ok, returned_err, as_many}
use Rattle.gr_explore.proofs.stepping.take_back.Goals as goal

pub returns-then-not-has_more : goal.returns-then-not-has_more
returns-then-not-has_more c =
    returned_none c.args.machine.now c.args.base c.requires (subst (λ n. n ≤ c.args.base) (sym (as_many c.args.machine.now)) (c.has_more.ensures.none c.if-not-has_more.true))

pub returns-in-Ok : goal.returns-in-Ok
returns-in-Ok c =
    returned_ok c.args.machine.now c.undo.new.self c.args.base c.taken_back.result c.taken_back.ensures
    (went_back c.args.machine.now c.undo.new.self c.args.base c.requires (subst (λ n. c.args.base < n) (sym (as_many c.args.machine.now)) (c.has_more.ensures.more c.if-not-has_more.false))
    c.undo.result c.in-Ok.id c.in-Ok.is (c.undo.ensures.undone (program_at (store_of c.args.machine.now)) c.requires.is.world c.requires.is.stands))

pub returns-in-Err : goal.returns-in-Err
returns-in-Err c =
    returned_err c.args.machine.now c.undo.new.self c.args.base c.requires c.undo.result c.in-Err.why c.in-Err.is
    (c.undo.ensures.undone (program_at (store_of c.args.machine.now)) c.requires.is.world c.requires.is.stands) c.not_taken_back.result c.not_taken_back.ensures
