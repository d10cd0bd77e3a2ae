-- A program with its code.
use Rattle.std.specs.Prelude.{◌≡◌}
use Rattle.gr_program.specs.Programs.{Program}
use Rattle.gr_program.specs.Views.{program_of}
use Rattle.gr_rules.specs.Frames.{Frame}
use Rattle.gr_rules.specs.States.{State}
use Rattle.gr_code.specs.CodeFrames.{CodeFrame}
use Rattle.gr_code.specs.CodeViews.{program_code_of}
use Rattle.gr_code.specs.Programs.{frame_of}
use Rattle.gr_refine.specs.Contents.{Contents, state_of}
use Rattle.gr_lower.specs.Lowered.{lowered, meaning}
use Rattle.gr_record.specs.declared.listing.Listing.{Listing}

-- the program that is run
abbrev pub program_in : Listing → Program
program_in l = program_of l.program.value

-- the code is that of the program
abbrev pub IsCoded : Listing → Type 0
IsCoded l = program_code_of l.code.value ≡ lowered (program_in l)

-- what frames of the code of a program mean
abbrev pub frame_in : Program → CodeFrame → Frame
frame_in p = frame_of (meaning p) (lowered p)

-- the state of the rules that contents are
abbrev pub state_in : Program → Contents → State
state_in p s = state_of (frame_in p) s
