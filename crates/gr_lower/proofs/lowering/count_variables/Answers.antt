use Rattle.std.proofs.Common.{sym}
use Rattle.gr_lower.proofs.FunctionEmits.{declared_length}
use Rattle.gr_lower.proofs.lowering.count_variables.Goals as goal

pub returns : goal.returns
returns c = sym (declared_length c.args.variables.now)
