use Rattle.std.proofs.Common.{◌∙◌}
use Rattle.gr_types.proofs.ParameterScopes.{bare_is}
use Rattle.gr_types.proofs.outlines.is_bare.Goals as goal

pub returns-in-None : goal.returns-in-None
returns-in-None c = c.is_empty.ensures ∙ bare_is c.args.name.now c.args.types.now c.args.wanted.now c.in-None.is
