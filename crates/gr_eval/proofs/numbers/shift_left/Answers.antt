use Rattle.gr_eval.proofs.Shifts.{left_far, left_near}
use Rattle.gr_eval.proofs.numbers.shift_left.Goals as goal

pub returns-then-count-ge-BITS-clause-ok : goal.returns-then-count-ge-BITS-clause-ok
returns-then-count-ge-BITS-clause-ok c = left_far c.args.x c.args.count c.ranges.count c.if-count-lt0.false c.if-count-ge-BITS.true

pub returns-clause-ok : goal.returns-clause-ok
returns-clause-ok c = left_near c.args.x c.args.count c.ranges.x c.ranges.count c.if-count-lt0.false c.if-count-ge-BITS.false
