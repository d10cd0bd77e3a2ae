use Rattle.gr_program.specs.Views.{program_of}
use Rattle.gr_queries.proofs.StacksShown.{stack_told}
use Rattle.gr_queries.proofs.stacking.stack_shown.Goals as goal

pub returns : goal.returns
returns c =
    stack_told (program_of c.args.program.now) c.args.go c.args.goroutine.now.content _ _ _ _ c.status_shown.ensures c.status.ensures c.steps.ensures
    c.in_ok-frames.ensures
