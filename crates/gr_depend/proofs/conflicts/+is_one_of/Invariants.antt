use Rattle.gr_touches.specs.Told.{count_in}
use Rattle.gr_depend.proofs.conflicts.+is_one_of.Given as goal

abbrev pub decreases-is_one_of : goal.decreases-is_one_of
decreases-is_one_of l = count_in l.objects
