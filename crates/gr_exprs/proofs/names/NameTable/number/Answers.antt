use Rattle.std.proofs.Common.{◌∙◌}
use Rattle.gr_exprs.proofs.Scopes.{looked_up}
use Rattle.gr_exprs.proofs.names.NameTable.number.Goals as goal

pub returns : goal.returns
returns c = c.copied.ensures ∙ c.get.ensures.value ∙ looked_up c.args.self.now.numbers.entries c.args.name.now
