use Rattle.std.proofs.Common.{◌≡◌, ◌-◌, length, map, take, vec_len}
use Rattle.gr_program.specs.Views.{program_of}
use Rattle.gr_queries.specs.Stacks.{code_stack_frame, stack_frame_in}
use Rattle.gr_queries.proofs.stacking.stack_frames.Given as goal

abbrev pub invariant-loop-frame : goal.invariant-loop-frame
invariant-loop-frame l =
    map stack_frame_in l.frames.items ≡ map (code_stack_frame (program_of l.program)) (take (vec_len l.frames) l.goroutine.content.frames)

abbrev pub decreases-loop-frame : goal.decreases-loop-frame
decreases-loop-frame l = length l.goroutine.content.frames - vec_len l.frames
