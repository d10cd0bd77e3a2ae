use Rattle.std.proofs.Common.{arith}
use Rattle.gr_program.specs.Views.{program_of}
use Rattle.gr_lower.specs.Lowered.{lowered, meaning}
use Rattle.gr_queries.proofs.Copying.{shown_next, shown_end, is_within}
use Rattle.gr_queries.proofs.FramesShown.{stands_at}
use Rattle.gr_queries.proofs.stacking.stack_frames.Goals as goal

pub stack_frame-requires-clause-stands : goal.stack_frame-requires-clause-stands
stack_frame-requires-clause-stands c =
    stands_at (meaning (program_of c.args.program.now)) (lowered (program_of c.args.program.now)) c.args.goroutine.now.content.frames _ _
    c.requires.stand c.in-Some.ensures

pub loop-frame-preserved : goal.loop-frame-preserved
loop-frame-preserved c =
    shown_next _ _ _ _ _ _ _ _ _ _ c.in-Some.ensures c.len.ensures c.in_ok-shown.ensures c.in_ok-push.ensures.items c.in_ok-push.ensures.len
    c.loop-frame.invariant

pub loop-frame-smaller : goal.loop-frame-smaller
loop-frame-smaller c =
    let within = is_within c.args.goroutine.now.content.frames _ _ c.in-Some.ensures in
    omega (arith, within, c.len.ensures, c.in_ok-push.ensures.len)

pub returns : goal.returns
returns c = shown_end _ _ _ _ _ _ c.in_default.ensures c.len.ensures c.loop-frame.invariant
