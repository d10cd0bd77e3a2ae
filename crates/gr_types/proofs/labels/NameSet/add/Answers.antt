use Rattle.std.proofs.Common.{◌∙◌, map, ap}
use Rattle.gr_types.proofs.LabelNames.{inserted}
use Rattle.gr_types.proofs.labels.NameSet.add.Goals as goal

pub returns : goal.returns
returns c = ap (map (λ k. k.now)) c.in_ok-insert.ensures.keys ∙ inserted c.args.self.now.names.keys c.args.name
