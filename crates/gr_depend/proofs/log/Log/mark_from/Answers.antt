use Rattle.gr_depend.specs.Logs.{records_of}
use Rattle.gr_depend.proofs.ConflictLemmas.{lists_in_reach, step_marks}
use Rattle.gr_depend.proofs.log.Log.mark_from.Goals as goal

pub mark_step-requires-clause-reach : goal.mark_step-requires-clause-reach
mark_step-requires-clause-reach c = lists_in_reach c.args.self.now.lanes (records_of c.args.self.now) c.args.self.now.touches c.args.origin _ c.requires.marks

pub returns-clause-marks : goal.returns-clause-marks
returns-clause-marks c =
    step_marks c.args.self.now.lanes (records_of c.args.self.now) c.args.self.now.touches c.args.origin c.index-step.result.now c.args.marks.now c.mark_step.new.marks
    c.requires.within c.index-step.ensures c.requires.no_more c.mark_step.ensures.marks
