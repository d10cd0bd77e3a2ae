use Rattle.std.proofs.Common.{subst, sym, ap}
use Rattle.gr_touches.specs.ObjectRefs.{seen}
use Rattle.gr_touches.specs.Lists.{IsNumbered}
use Rattle.gr_touches.proofs.LaneLemmas.{if_wanted}
use Rattle.gr_touches.proofs.lanes.Lanes.numbered.Goals as goal

pub returns-in-Run-clause-some : goal.returns-in-Run-clause-some
returns-in-Run-clause-some c =
    let run = c.numbered_run.result in
    subst (λ o. IsNumbered c.args.self.now o c.args.wanted run.0 run.1.now) (sym (ap seen c.in-Run.is)) c.numbered_run.ensures

pub returns-in_default-clause-some : goal.returns-in_default-clause-some
returns-in_default-clause-some c =
    if_wanted c.args.self.now (seen c.args.object.now) c.args.wanted c.numbered_lane.result c.numbered_lane.ensures.some
