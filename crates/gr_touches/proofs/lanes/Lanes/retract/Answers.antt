use Rattle.std.proofs.Common.{[], ◌∷◌, sym, ap, subst}
use Rattle.gr_touches.specs.ObjectRefs.{seen}
use Rattle.gr_touches.specs.Lists.{TakesFor}
use Rattle.gr_touches.proofs.lanes.Lanes.retract.Goals as goal

pub returns-in-Run-clause-lists : goal.returns-in-Run-clause-lists
returns-in-Run-clause-lists c = subst (λ o. TakesFor (o ∷ []) c.args.self.now c.take_from_run.new.self) (sym (ap seen c.in-Run.is)) c.take_from_run.ensures.lists

pub returns-in_default-clause-lists : goal.returns-in_default-clause-lists
returns-in_default-clause-lists c = c.take_from_lane.ensures.lists
