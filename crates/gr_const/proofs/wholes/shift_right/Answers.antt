use Rattle.gr_const.proofs.Shifts.{right_is}
use Rattle.std.proofs.Common.{◌∙◌}
use Rattle.gr_const.proofs.wholes.shift_right.Goals as goal

pub returns : goal.returns
returns c = c.part.ensures ∙ right_is c.args.x c.args.count c.min.result c.ranges.x c.ranges.count c.if-count-lt0.false c.min.ensures.value
