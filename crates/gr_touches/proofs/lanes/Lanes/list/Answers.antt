use Rattle.std.proofs.Common.{sym, ◌∙◌}
use Rattle.gr_touches.specs.ObjectRefs.{seen}
use Rattle.gr_touches.specs.Lists.{list_of}
use Rattle.gr_touches.proofs.LaneLemmas.{all_wanted}
use Rattle.gr_touches.proofs.lanes.Lanes.list.Goals as goal

pub returns-in-Some : goal.returns-in-Some
returns-in-Some c =
    sym (all_wanted c.in-Some.touches.now) ∙ c.in-Some.ensures.some.touches ∙ all_wanted (list_of c.args.self.now (seen c.args.object.now))
