use Rattle.std.proofs.Common.{◌≡◌, ◌+◌, length}
use Rattle.rewind.specs.Beside.{AreFrom}
use Rattle.rewind.proofs.workers.worker_seats.Given as goal

abbrev pub invariant-loop-number : goal.invariant-loop-number
invariant-loop-number g l = AreFrom 2 l.workers.items × (1 + length l.workers.items ≡ l.number)
