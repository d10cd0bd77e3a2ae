use Rattle.gr_program.specs.Views.{program_of}
use Rattle.gr_code.specs.CodeViews.{program_code_of}
use Rattle.gr_queries.proofs.FramesShown.{has_line, goroutine_told}
use Rattle.gr_queries.proofs.showing.goroutine_shown.Goals as goal

pub line_shown-requires : goal.line_shown-requires
line_shown-requires c =
    has_line (program_of c.args.program.now) c.requires.checked c.args.goroutine.now.content.frames c.requires.stand (program_code_of c.args.code.now)
    c.requires.coded

pub returns-clause-shown : goal.returns-clause-shown
returns-clause-shown c =
    goroutine_told (program_of c.args.program.now) (program_code_of c.args.code.now) c.args.goroutine.now.content _ _ _ _ _ c.requires.checked
    c.requires.coded c.requires.stand c.status_shown.ensures c.status.ensures c.steps.ensures c.line_shown.ensures c.in_ok-frames.ensures
