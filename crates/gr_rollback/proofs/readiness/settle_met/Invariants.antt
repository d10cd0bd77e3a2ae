use Rattle.std.proofs.Common.{take}
use Rattle.gr_step.specs.Stores.{contents_at}
use Rattle.gr_rollback.specs.Readiness.{Settles, names_met}
use Rattle.gr_rollback.proofs.readiness.settle_met.Given as goal

-- the names so far are settled
abbrev pub invariant-loop-go : goal.invariant-loop-go
invariant-loop-go l = Settles (take l.go-index (names_met l.met)) (contents_at l.store) l.fn.pool l.pool
