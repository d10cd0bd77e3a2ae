use Rattle.std.proofs.Common.{◌≡◌, ◌+◌, ◌≤◌, vec_len}
use Rattle.std.specs.Vec.{vec_capacity}
use Rattle.std.specs.VecDeque.{deque_len, deque_capacity}
use Rattle.gr_channels.specs.Queues.{restored, PlacesFit}
use Rattle.gr_channels.proofs.queue.empty_out.Given as goal

abbrev pub invariant-loop-waiter : goal.invariant-loop-waiter
invariant-loop-waiter g l = record {
  back : restored l.gone.items l.queue.items ≡ l.fn.queue.items;
  fit : PlacesFit l.gone.items l.queue.items;
  len : deque_len l.queue + vec_len l.gone ≡ deque_len l.fn.queue;
  fits : deque_len l.queue + vec_len l.gone ≤ vec_capacity l.gone;
  same : deque_capacity l.queue ≡ deque_capacity l.fn.queue;
}

abbrev pub decreases-loop-waiter : goal.decreases-loop-waiter
decreases-loop-waiter g l = deque_len l.queue
