use Rattle.std.proofs.Common.{◌∙◌, ◌+◌, ap, sym, subst, drop}
use Rattle.gr_search.specs.System.{Follows, stays}
use Rattle.gr_search.proofs.Turns.{drop_one, follow_on, possible, impossible}
use Rattle.gr_search.proofs.search.follow.Goals as goal

pub returns-in-Ok-None-clause-follows : goal.returns-in-Ok-None-clause-follows
returns-in-Ok-None-clause-follows g c = c.loop-count.invariant.follows _ stays

pub returns-in-Ok-false-clause-follows : goal.returns-in-Ok-false-clause-follows
returns-in-Ok-false-clause-follows g c =
    let no = impossible (g.M.Searched.system (g.M.Searched.fixed c.loop-count.machine)) _ _ _ _ _ _ c.in-Ok-false.field-0-test c.in-Ok-false.ensures.stepped in
    subst (Follows (g.M.Searched.system (g.M.Searched.fixed c.args.machine.now)) (g.M.Searched.state c.args.machine.now)) (sym no.1)
    (c.loop-count.invariant.follows _ stays)

pub loop-count-preserved : goal.loop-count-preserved
loop-count-preserved g c =
    let yes = possible (g.M.Searched.system (g.M.Searched.fixed c.loop-count.machine)) _ _ _ _ _ _ c.in-Ok-true.field-0-test c.in-Ok-true.ensures.stepped in
    record {
      stands = c.step.ensures.stands;
      fixed = c.step.ensures.fixed ∙ c.loop-count.invariant.fixed;
      follows = follow_on _ _ (ap g.M.Searched.system c.loop-count.invariant.fixed) _ _ _ _ c.in-Ok-Some.event c.in-Ok-Some.field-0-is c.in-Ok-Some.ensures.found yes.0 c.loop-count.invariant.follows;
      log = ap (drop (c.loop-count.count + 1)) yes.1 ∙ drop_one c.loop-count.count _ _ ∙ c.loop-count.invariant.log;
    }

pub returns-clause-follows : goal.returns-clause-follows
returns-clause-follows g c = c.loop-count.invariant.follows _ stays
