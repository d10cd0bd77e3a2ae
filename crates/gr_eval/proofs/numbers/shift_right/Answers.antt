use Rattle.gr_eval.proofs.Shifts.{right_is}
use Rattle.gr_eval.proofs.numbers.shift_right.Goals as goal

pub returns-clause-ok : goal.returns-clause-ok
returns-clause-ok c = right_is c.args.x c.args.count c.min.result c.ranges.x c.ranges.count c.if-count-lt0.false c.min.ensures.value
