use Rattle.std.proofs.Common.{◌∙◌}
use Rattle.gr_types.proofs.LabelNames.{among_keys}
use Rattle.gr_types.proofs.labels.NameSet.has.Goals as goal

pub returns : goal.returns
returns c = c.contains.ensures ∙ among_keys c.args.self.now.names.keys c.args.name.now
