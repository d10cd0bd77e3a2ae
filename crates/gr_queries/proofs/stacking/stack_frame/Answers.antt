use Rattle.gr_code.specs.CodeViews.{program_code_of}
use Rattle.gr_program.specs.Views.{program_of}
use Rattle.gr_queries.proofs.StacksShown.{frame_with_line, has_line}
use Rattle.gr_queries.proofs.stacking.stack_frame.Goals as goal

pub line-requires : goal.line-requires
line-requires c =
    has_line (program_of c.args.program.now) c.requires.checked (program_code_of c.args.code.now) c.requires.coded c.args.frame.now c.requires.stands

pub returns : goal.returns
returns c =
    frame_with_line (program_of c.args.program.now) c.requires.checked (program_code_of c.args.code.now) c.requires.coded c.args.frame.now c.requires.stands
    _ _ c.in_ok-shown.ensures c.line.ensures
