use Rattle.std.proofs.Common.{ap}
use Rattle.std.specs.Prelude.{option_copied}
use Rattle.gr_session.specs.Journal.{course_of}
use Rattle.gr_session.proofs.GrantLemmas.{due_none, when_none, when_some}
use Rattle.gr_session.proofs.granting.turn_due.Goals as goal

pub returns-then-not-may_step : goal.returns-then-not-may_step
returns-then-not-may_step c = λ p w s. due_none p w c.args.debuggee.now s c.may_step.result (c.may_step.ensures p w s) c.if-not-may_step.true

pub returns-in_default : goal.returns-in_default
returns-in_default c = λ p w s. when_none p w c.args.debuggee.now s (option_copied c.next_turn.result) (ap option_copied c.in_default.is) (c.next_turn.ensures p (course_of p w) s.machine)

pub returns : goal.returns
returns c = λ p w s.
    when_some p w c.args.debuggee.now s (option_copied c.next_turn.result) c.may_step.result c.has_own_step.result (ap option_copied c.in-Some.is) (c.may_step.ensures p w s) c.if-not-may_step.false
    (rw c.store.ensures at c.in-Live.ensures) (c.next_turn.ensures p (course_of p w) s.machine) (c.has_own_step.ensures p (course_of p w) s.machine)
