use Rattle.gr_session.specs.Journal.{course_of}
use Rattle.gr_session.proofs.GrantLemmas.{lent_none, lent_result}
use Rattle.gr_session.proofs.granting.lend.Goals as goal

pub returns-then-not-may_step-clause-lent : goal.returns-then-not-may_step-clause-lent
returns-then-not-may_step-clause-lent c = λ p w s.
    lent_none p w c.args.debuggee.now s c.args.place c.may_step.result (c.may_step.ensures p w s) c.if-not-may_step.true

pub returns-clause-lent : goal.returns-clause-lent
returns-clause-lent c = λ p w s.
    lent_result p w c.args.debuggee.now s c.args.place c.may_step.result c.lend_at.result (c.may_step.ensures p w s) c.if-not-may_step.false
    c.lend_at.ensures.lease c.lend_at.ensures.fresh (c.lend_at.ensures.which p (course_of p w) s.machine)
    (c.lend_at.ensures.wants p (course_of p w) s.machine)
