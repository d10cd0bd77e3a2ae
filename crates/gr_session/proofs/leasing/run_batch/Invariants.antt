use Rattle.std.proofs.Common.{◌-◌}
use Rattle.gr_session.specs.Copies.{loan_of}
use Rattle.gr_session.proofs.CopyLemmas.{OnTheWay}
use Rattle.gr_session.proofs.leasing.run_batch.Given as goal

abbrev pub invariant-loop-alloc : goal.invariant-loop-alloc
invariant-loop-alloc g l = OnTheWay l.most l.initial.copy l.copy

abbrev pub decreases-loop-alloc : goal.decreases-loop-alloc
decreases-loop-alloc g l = l.most - (loan_of l.copy).steps
