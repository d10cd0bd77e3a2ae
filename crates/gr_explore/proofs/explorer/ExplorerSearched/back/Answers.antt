use Rattle.gr_explore.proofs.FitLemmas.{fits_after_back}
use Rattle.gr_explore.proofs.StepLemmas.{back_stands, back_log, back_err, back_refuses}
use Rattle.gr_explore.proofs.explorer.ExplorerSearched.back.Goals as goal

pub returns-clause-stands : goal.returns-clause-stands
returns-clause-stands c = (
  back_stands c.args.self.now.machine.now c.take_back.new.machine c.args.self.now.base c.take_back.result c.take_back.ensures,
  fits_after_back c.args.self.now.machine.now c.take_back.new.machine c.args.self.now.base c.take_back.result c.take_back.ensures
      c.args.self.now.book.now c.note_last.new.book c.note_last.ensures c.requires.1,
)

pub returns-clause-log : goal.returns-clause-log
returns-clause-log c = back_log c.args.self.now.machine.now c.take_back.new.machine c.args.self.now.base c.take_back.result c.take_back.ensures

pub returns-clause-err : goal.returns-clause-err
returns-clause-err c = back_err c.args.self.now.machine.now c.take_back.new.machine c.args.self.now.base c.take_back.result c.take_back.ensures

pub returns-clause-refuses : goal.returns-clause-refuses
returns-clause-refuses c = back_refuses c.args.self.now.machine.now c.take_back.new.machine c.args.self.now.base c.take_back.result c.take_back.ensures
