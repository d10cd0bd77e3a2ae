use Rattle.std.proofs.Common.{◌≡◌, ◌++◌}
use Rattle.gr_record.specs.Conflicts.{written_by}
use Rattle.gr_touches.specs.Told.{count_in, seen_in}
use Rattle.gr_facts.specs.Facts.{others_in}
use Rattle.gr_facts.proofs.reaching.reached_by.Given as goal

abbrev pub invariant-loop-first : goal.invariant-loop-first
invariant-loop-first l = l.names.items ++ others_in l.step.id.go (seen_in l.left) ≡ others_in l.step.id.go (written_by l.step)

abbrev pub decreases-loop-first : goal.decreases-loop-first
decreases-loop-first l = count_in l.left
