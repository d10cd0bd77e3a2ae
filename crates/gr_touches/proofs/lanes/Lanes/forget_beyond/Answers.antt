use Rattle.std.proofs.Common.{sym}
use Rattle.gr_touches.proofs.NoteLemmas.{step_taken}
use Rattle.gr_touches.proofs.lanes.Lanes.forget_beyond.Goals as goal

pub returns-clause-lists : goal.returns-clause-lists
returns-clause-lists c =
    step_taken c.args.self.now c.forget_list.new.self c.forget_list-2.new.self c.args.step.now _ _ (sym c.writes.ensures) c.forget_list.ensures.lists
    (sym c.reads.ensures) c.forget_list-2.ensures.lists
