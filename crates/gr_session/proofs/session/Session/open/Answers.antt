use Rattle.gr_session.proofs.session.Session.open.Goals as goal

pub new-requires : goal.new-requires
new-requires c = record { file = c.in_ok-program.ensures.program.tree; checked = c.in_ok-program.ensures.program.rules }
