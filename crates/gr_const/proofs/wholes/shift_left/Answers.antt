use Rattle.gr_const.proofs.Shifts.{left_far, left_near}
use Rattle.std.proofs.Common.{◌∙◌}
use Rattle.gr_const.proofs.wholes.shift_left.Goals as goal

pub returns-then-count-ge-FAR_LEFT : goal.returns-then-count-ge-FAR_LEFT
returns-then-count-ge-FAR_LEFT c = left_far c.args.x c.args.count c.ranges.count c.if-count-lt0.false c.if-x-eq0.false c.if-count-ge-FAR_LEFT.true

pub returns : goal.returns
returns c = c.product.ensures ∙ left_near c.args.x c.args.count c.ranges.x c.ranges.count c.if-count-lt0.false c.if-count-ge-FAR_LEFT.false
