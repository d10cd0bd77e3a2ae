use Rattle.gr_touches.proofs.LaneLemmas.{other_numbered}
use Rattle.gr_touches.proofs.lanes.Lanes.numbered_lane.Goals as goal

pub returns-clause-some : goal.returns-clause-some
returns-clause-some g c = λ which.
    other_numbered c.args.self.now (g.N.Named.object c.args.object.now) which c.requires c.in_ok-number.number c.in_ok-number.ensures.named
    c.list_with.result.now c.list_with.ensures
