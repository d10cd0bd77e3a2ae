use Rattle.gr_explore.proofs.FitLemmas.{fits_after_try}
use Rattle.gr_explore.proofs.StepLemmas.{stands_of, stepped_of, err_of, refuses_of}
use Rattle.gr_explore.proofs.explorer.ExplorerSearched.step.Goals as goal

pub returns-clause-stands : goal.returns-clause-stands
returns-clause-stands c = (
  stands_of c.args.self.now.machine.now c.take-taken.new.machine c.args.self.now.base c.args.event c.take-taken.result c.take-taken.ensures,
  fits_after_try c.args.self.now.machine.now c.take-taken.new.machine c.args.self.now.base c.args.event c.take-taken.result c.take-taken.ensures
      c.args.self.now.book.now c.note_last.new.book c.note_last.ensures c.requires.1,
)

pub returns-clause-stepped : goal.returns-clause-stepped
returns-clause-stepped c = stepped_of c.args.self.now.machine.now c.take-taken.new.machine c.args.self.now.base c.args.event c.take-taken.result c.take-taken.ensures

pub returns-clause-err : goal.returns-clause-err
returns-clause-err c = err_of c.args.self.now.machine.now c.take-taken.new.machine c.args.self.now.base c.args.event c.take-taken.result c.take-taken.ensures

pub returns-clause-refuses : goal.returns-clause-refuses
returns-clause-refuses c = refuses_of c.args.self.now.machine.now c.take-taken.new.machine c.args.self.now.base c.args.event c.take-taken.result c.take-taken.ensures
