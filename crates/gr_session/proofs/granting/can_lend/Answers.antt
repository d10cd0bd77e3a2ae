use Rattle.gr_session.specs.Journal.{course_of}
use Rattle.gr_session.proofs.GrantLemmas.{lends_where, lends_none}
use Rattle.gr_session.proofs.granting.can_lend.Goals as goal

pub returns-then-not-may_step : goal.returns-then-not-may_step
returns-then-not-may_step c = λ p w s. lends_none p w c.args.debuggee.now s c.may_step.result (c.may_step.ensures p w s) c.if-not-may_step.true

pub returns : goal.returns
returns c = λ p w s.
    lends_where p w c.args.debuggee.now s c.may_step.result c.has_own_step.result (c.may_step.ensures p w s) c.if-not-may_step.false
    (c.has_own_step.ensures p (course_of p w) s.machine)
