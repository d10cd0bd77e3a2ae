use Rattle.std.proofs.Common.{◌≡◌, Bool, cond, Some, subst}
use Rattle.indexmap.specs.IndexMap.{get}
use Rattle.gr_base.specs.declared.objects.Object.{Object}
use Rattle.gr_touches.specs.ObjectRefs.{derived_is}
use Rattle.gr_touches.proofs.lanes.Lanes.insert.Goals as goal

pub returns-clause-ok : goal.returns-clause-ok
returns-clause-ok c q =
    subst (λ (e : Object → Object → Bool). get e c.insert.new.self q ≡ cond (e c.args.object q) (Some c.args.lane) (get e c.args.self.now.map q))
    (λ i k l. derived_is k l i) (c.in_ok-insert.ensures.updates.0 q)
