use Rattle.std.proofs.Common.{subst}
use Rattle.gr_causal.specs.Dependence.{dependents}
use Rattle.gr_laws.specs.Dependence.{clash}
use Rattle.gr_rollback.specs.Asking.{Tells}
use Rattle.gr_session.specs.Journal.{course_of}
use Rattle.gr_session.proofs.QueryLemmas.{dependents_lead, no_dependents_lead}
use Rattle.gr_session.proofs.dependence.dependents.Goals as goal

pub returns-in-Some : goal.returns-in-Some
returns-in-Some c = λ p w s.
    dependents_lead p w c.args.debuggee.now s c.args.id.now c.in-Some.ids.items
    (subst (Tells p w.log c.args.id.now (dependents (clash p) w.log)) c.in-Some.is (c.in_ok-ids.ensures p (course_of p w) s.machine))

pub returns-in-None : goal.returns-in-None
returns-in-None c = λ p w s.
    rw c.refused.ensures
    (no_dependents_lead p w c.args.debuggee.now s c.args.id.now
    (subst (Tells p w.log c.args.id.now (dependents (clash p) w.log)) c.in-None.is (c.in_ok-ids.ensures p (course_of p w) s.machine)))
