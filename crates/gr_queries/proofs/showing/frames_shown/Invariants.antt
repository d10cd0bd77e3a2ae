use Rattle.std.proofs.Common.{◌≡◌, ◌-◌, length, map, take, vec_len}
use Rattle.gr_program.specs.Views.{program_of}
use Rattle.gr_command.specs.Replies.{frame_in}
use Rattle.gr_queries.specs.Frames.{code_frame_shown}
use Rattle.gr_queries.proofs.showing.frames_shown.Given as goal

abbrev pub invariant-loop-frame : goal.invariant-loop-frame
invariant-loop-frame l =
    map frame_in l.frames.items ≡ map (code_frame_shown (program_of l.program)) (take (vec_len l.frames) l.goroutine.content.frames)

abbrev pub decreases-loop-frame : goal.decreases-loop-frame
decreases-loop-frame l = length l.goroutine.content.frames - vec_len l.frames
