use Rattle.std.proofs.Common.{sym}
use Rattle.indexmap.specs.IndexMap.{keys}
use Rattle.gr_touches.specs.ObjectRefs.{seen}
use Rattle.gr_touches.proofs.LaneLemmas.{found_key}
use Rattle.gr_touches.proofs.lanes.Lanes.look_up.Goals as goal

pub returns-clause-named : goal.returns-clause-named
returns-clause-named c = found_key (keys c.args.self.now.map) (seen c.args.object.now) c.in_ok-number.number (sym c.in_ok-number.ensures.index)
