use Rattle.gr_command.proofs.Errors.{on_err}
use Rattle.gr_session.proofs.session.Session.lease.Goals as goal

pub invariant_of-result : goal.invariant_of-result
invariant_of-result c =
    let lease = rw c.in-Some.is at c.in_ok-copy.ensures.lease in
    let loan = rw c.in-Some.is at (c.in_ok-copy.ensures.lent _ c.self.invariant.world c.self.invariant.stands) in
    let leads = rw c.in-Some.is at c.in_ok-copy.ensures.leads in
    (lease, loan.fresh, leads)

pub returns-in-Some-clause-lent : goal.returns-in-Some-clause-lent
returns-in-Some-clause-lent c =
    let loan = rw c.in-Some.is at (c.in_ok-copy.ensures.lent _ c.self.invariant.world c.self.invariant.stands) in
    rw (← c.self.view_is) (record { world = c.self.invariant.world; means = c.self.invariant.means; holds = loan })

pub returns-in-None-clause-none : goal.returns-in-None-clause-none
returns-in-None-clause-none c =
    let none = rw c.in-None.is at (c.in_ok-copy.ensures.lent _ c.self.invariant.world c.self.invariant.stands) in
    rw (← c.self.view_is) (record { world = c.self.invariant.world; means = c.self.invariant.means; holds = none })

pub returns-in-Some-clause-there : goal.returns-in-Some-clause-there
returns-in-Some-clause-there c = rw (← c.self.view_is) (rw c.in-Some.is at c.in_ok-copy.ensures.there)

pub returns-in_err-copy-clause-memory : goal.returns-in_err-copy-clause-memory
returns-in_err-copy-clause-memory c =
    rw (← c.self.view_is)
    (on_err c.from_residual.result
    (record { world = c.self.invariant.world; means = c.self.invariant.means; holds = c.in_err-copy.ensures.lent _ c.self.invariant.world c.self.invariant.stands }))
