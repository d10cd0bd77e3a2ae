use Rattle.std.proofs.Common.{◌≢◌, ◌<◌, ℕ, get_or}
use Rattle.gr_share.specs.Calls.{Staff}
use Rattle.gr_share.proofs.finishing.is_worker.Given as goal

abbrev pub invariant-loop-worker : goal.invariant-loop-worker
invariant-loop-worker g l = (k : ℕ) (w : Staff) → k < l.worker-index → (get_or l.workers k w).seat.number ≢ l.number
