use Rattle.gr_touches.specs.Told.{count_in}
use Rattle.gr_depend.proofs.conflicts.+reached_any.Given as goal

abbrev pub decreases-reached_any : goal.decreases-reached_any
decreases-reached_any l = count_in l.objects
