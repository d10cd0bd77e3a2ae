use Rattle.gr_touches.specs.Told.{count_in}
use Rattle.gr_touches.proofs.lanes.Lanes.+mark_each.Given as goal

abbrev pub decreases-mark_each : goal.decreases-mark_each
decreases-mark_each l = count_in l.objects.now
