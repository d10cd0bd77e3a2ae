use Rattle.std.proofs.Common.{◌≡◌, ◌+◌, ◌≤◌, length}
use Rattle.gr_share.proofs.Calling.{GoesOn}
use Rattle.gr_share.proofs.work.worker.Given as goal

abbrev pub invariant-loop : goal.invariant-loop
invariant-loop g l =
    (GoesOn l.initial.me.seat l.me.seat × (length l.me.seat.calls ≤ length l.initial.me.seat.calls + l.counter))
    × (l.me.place ≡ l.initial.me.place)
