use Rattle.gr_base.specs.declared.objects.Object.TheVariants.{Go}
use Rattle.gr_touches.specs.declared.marks.Wanted.TheVariants.{All}
use Rattle.gr_touches.proofs.lanes.Lanes.mark_go.Goals as goal

pub mark_numbered-requires-clause-numbered : goal.mark_numbered-requires-clause-numbered
mark_numbered-requires-clause-numbered c = (Go c.args.go.now, c.in-Some.ensures.some All)

pub returns-in-Some-clause-marks : goal.returns-in-Some-clause-marks
returns-in-Some-clause-marks c = c.mark_numbered.ensures.marks (Go c.args.go.now) (c.in-Some.ensures.some All)
