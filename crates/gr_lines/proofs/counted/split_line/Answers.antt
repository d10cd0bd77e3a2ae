use Rattle.std.proofs.Common.{take}
use Rattle.std.proofs.lemmas.List.{take_more}
use Rattle.gr_lines.proofs.Reading.{Plain-append}
use Rattle.gr_lines.proofs.counted.split_line.Goals as goal

pub loop-i-preserved : goal.loop-i-preserved
loop-i-preserved c =
    rw (take_more c.args.bytes.now c.loop-i.i 0 c.loop-i-test.true) (Plain-append (take c.loop-i.i c.args.bytes.now) _ c.loop-i.invariant (c.if-byte-eq10.false, tt))
