use Rattle.gr_base.specs.declared.objects.Object.TheVariants.{Run}
use Rattle.gr_touches.proofs.lanes.Lanes.mark_run.Goals as goal

pub returns-clause-marks : goal.returns-clause-marks
returns-clause-marks c = c.mark_numbered.ensures.marks Run c.numbered_run-number.ensures
