use Rattle.gr_explore.proofs.explorer.ExplorerSearched.events.Goals as goal

pub returns-in-Ok-clause-all : goal.returns-in-Ok-clause-all
returns-in-Ok-clause-all c = c.in-Ok.ensures.all c.args.self.now.base
