use Rattle.gr_syntax.proofs.communication.+receive.Given as goal

abbrev pub decreases-receive : goal.decreases-receive
decreases-receive l = l.limit
