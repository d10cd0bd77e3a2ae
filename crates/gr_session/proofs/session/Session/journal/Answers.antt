use Rattle.gr_session.proofs.session.Session.journal.Goals as goal

pub returns-clause-legal : goal.returns-clause-legal
returns-clause-legal c = rw (← c.self.view_is) (record { asked = c.self.invariant.asked; world = c.self.invariant.world; means = c.self.invariant.means })
