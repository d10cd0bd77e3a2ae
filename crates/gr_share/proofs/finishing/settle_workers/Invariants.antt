use Rattle.std.proofs.Common.{◌≡◌, ◌<◌, ℕ, get_or}
use Rattle.gr_share.specs.Calls.{Staff}
use Rattle.gr_share.specs.Calls.{IsTied}
use Rattle.gr_share.specs.Works.{IsAtWork}
use Rattle.gr_share.proofs.finishing.settle_workers.Given as goal

abbrev pub invariant-loop-worker : goal.invariant-loop-worker
invariant-loop-worker g l =
    (l.locked ≡ l.initial.locked) × (l.workers ≡ l.initial.workers)
    × ((k : ℕ) (w : Staff) → k < l.worker-index → IsTied l.initial.locked.session (get_or l.workers k w).seat)
    × ((k : ℕ) (w : Staff) → k < l.worker-index → IsAtWork g.B.Room.program (get_or l.workers k w))
