use Rattle.gr_touches.specs.Told.{count_in}
use Rattle.gr_touches.proofs.lanes.Lanes.+note_list.Given as goal

abbrev pub decreases-note_list : goal.decreases-note_list
decreases-note_list l = count_in l.objects.now
