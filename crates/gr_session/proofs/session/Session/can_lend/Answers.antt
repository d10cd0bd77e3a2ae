use Rattle.gr_session.proofs.session.Session.can_lend.Goals as goal

pub returns : goal.returns
returns c = rw (← c.self.view_is) (record { world = c.self.invariant.world; means = c.self.invariant.means; holds = c.can_lend.ensures _ c.self.invariant.world c.self.invariant.stands })
