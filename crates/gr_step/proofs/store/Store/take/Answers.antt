use Rattle.gr_step.specs.Stores.{program_at, contents_at}
use Rattle.gr_step.proofs.StoreLemmas.{runs_on}
use Rattle.gr_step.proofs.store.Store.take.Goals as goal

pub returns-clause-run : goal.returns-clause-run
returns-clause-run c = record {
  coded = c.requires.run.coded;
  running =
      runs_on (program_at c.args.self.now) c.args.event (contents_at c.args.self.now) _ c.in_ok-change.change c.requires.run.running
      c.in_ok-change.ensures.ok;
}
