use Rattle.std.proofs.Common.{◌∙◌}
use Rattle.gr_rollback.proofs.course.Course.unwind.Goals as goal

pub loop-alloc-preserved : goal.loop-alloc-preserved
loop-alloc-preserved c =
    let before = c.loop-alloc.invariant in
    let next = c.in_ok-unwind_last.ensures in
    record {
      way = λ start rolls way. next.way start rolls (before.way start rolls way);
      rolls = record { start = before.rolls.start; rolls = before.rolls.rolls; way = next.way before.rolls.start before.rolls.rolls before.rolls.way };
      listing = next.listing ∙ before.listing;
      taken = next.taken ∙ before.taken;
    }
