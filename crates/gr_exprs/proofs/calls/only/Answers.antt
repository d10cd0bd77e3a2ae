use Rattle.std.proofs.Common.{◌∙◌}
use Rattle.gr_exprs.proofs.Arguments.{not_one}
use Rattle.gr_exprs.proofs.calls.only.Goals as goal

pub returns-then-len-ne1 : goal.returns-then-len-ne1
returns-then-len-ne1 c = not_one c.args.values.items c.len.result (c.len.ensures ∙ c.args.values.ok.0) c.if-len-ne1.true
