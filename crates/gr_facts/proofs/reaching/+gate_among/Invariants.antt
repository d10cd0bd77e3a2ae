use Rattle.gr_touches.specs.Told.{count_in}
use Rattle.gr_facts.proofs.reaching.+gate_among.Given as goal

abbrev pub decreases-gate_among : goal.decreases-gate_among
decreases-gate_among l = count_in l.objects
