use Rattle.std.proofs.Common.{◌∙◌, Bool, refl, subst, arith}
use Rattle.gr_share.specs.Finding.{WorksOnce}
use Rattle.gr_share.proofs.Calling.{no_work, goes_on, one_call, has_worked, worked_last}
use Rattle.gr_share.proofs.work.worker.Goals as goal

pub loop-init : goal.loop-init
loop-init g c = ((no_work _, omega arith), refl)

pub loop-preserved : goal.loop-preserved
loop-preserved g c =
    let once = subst (λ (b : Bool). WorksOnce g.B.Room.program c.loop.me.place b c.loop.me.seat c.act.new.self.seat) c.if-not-act.false c.act.ensures.works in
    let more = one_call _ _ _ _ _ once in
    ((goes_on _ _ _ _ _ c.loop.invariant.0.0 once, (let few = c.loop.invariant.0.1 in omega (arith, few, more))), c.if-not-act.ensures.place ∙ c.loop.invariant.1)

pub returns-then-not-act-clause-works : goal.returns-then-not-act-clause-works
returns-then-not-act-clause-works g c = worked_last _ _ _ _ _ _ c.loop.invariant.0.0 c.act.ensures.works

pub returns-clause-works : goal.returns-clause-works
returns-clause-works g c = has_worked _ _ c.loop.invariant.0.0
