use Rattle.std.proofs.Common.{sym, ◌∙◌}
use Rattle.gr_exprs.specs.Tables.{scope_of}
use Rattle.gr_types.specs.Taking as pure
use Rattle.gr_exprs.specs.Checking.{meanings_of}
use Rattle.gr_types.proofs.TakerRows.{fit_on, fit_none, fit_end}
use Rattle.gr_types.proofs.assigning.assignment.fits.Goals as goal

pub returns-in_default : goal.returns-in_default
returns-in_default c =
    let s = scope_of c.args.scope.now in
    fit_none s c.args.targets.now c.loop-target.target-index c.loop-target.values.items c.loop-target.terms.items (pure.fits s c.args.targets.now (meanings_of c.args.values.items)) c.loop-target.invariant c.loop-target-test.true (sym c.loop-target.values.ok.0 ∙ c.in_default.ensures.cases.0)

pub loop-target-preserved : goal.loop-target-preserved
loop-target-preserved c =
    let s = scope_of c.args.scope.now in
    fit_on s c.args.targets.now c.loop-target.target-index c.loop-target.values.items c.loop-target.terms.items (pure.fits s c.args.targets.now (meanings_of c.args.values.items)) c.loop-target.invariant _ c.in-Some.value c.pop_front.new.self.items c.in_ok-term.term c.push.new.self.items c.loop-target-test.true c.in-Some.ensures.items c.in_ok-term.ensures c.in_ok-push.ensures.items

pub returns : goal.returns
returns c =
    let s = scope_of c.args.scope.now in
    fit_end s c.args.targets.now c.loop-target.target-index c.loop-target.values.items c.loop-target.terms.items (pure.fits s c.args.targets.now (meanings_of c.args.values.items)) c.loop-target.invariant c.loop-target-test.false
