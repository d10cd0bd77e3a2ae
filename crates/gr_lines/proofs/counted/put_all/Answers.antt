use Rattle.std.proofs.Common.{arith}
use Rattle.std.proofs.lemmas.List.{length-drop, take_rest}
use Rattle.gr_lines.proofs.Reading.{Appends-more}
use Rattle.gr_lines.proofs.counted.put_all.Goals as goal

pub loop-done-preserved : goal.loop-done-preserved
loop-done-preserved g c =
    let put = rw (take_rest c.args.bytes.now c.loop-done.done) at c.in_ok-done.ensures.ok in
    record {
      within = omega (arith, c.in_ok-done.ensures.count.1, length-drop c.loop-done.done c.args.bytes.now);
      put = Appends-more _ _ _ c.loop-done.done c.in_ok-done.field-0 c.args.bytes.now c.loop-done.invariant.put put;
    }
