use Rattle.gr_session.proofs.session.Session.grant.Goals as goal

pub returns : goal.returns
returns c = rw (← c.self.view_is) (record { world = c.self.invariant.world; means = c.self.invariant.means; holds = c.self.invariant.stands.grant })
