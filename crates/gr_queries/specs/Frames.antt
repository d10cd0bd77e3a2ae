-- What is shown of a frame of code: what the rules show of the frame that it means.
use Rattle.gr_program.specs.Programs.{Program}
use Rattle.gr_rules.specs.Tells.{FrameShown, frame_shown, function_of}
use Rattle.gr_code.specs.CodeFrames.{CodeFrame}
use Rattle.gr_step.specs.Listings.{frame_in}

abbrev pub code_frame_shown : Program → CodeFrame → FrameShown
code_frame_shown p f = frame_shown (function_of p f.function) (frame_in p f)
