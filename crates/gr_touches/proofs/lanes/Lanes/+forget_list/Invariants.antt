use Rattle.gr_touches.specs.Told.{count_in}
use Rattle.gr_touches.proofs.lanes.Lanes.+forget_list.Given as goal

abbrev pub decreases-forget_list : goal.decreases-forget_list
decreases-forget_list l = count_in l.objects.now
