use Rattle.std.proofs.Common.{◌≡◌, ◌+◌, ◌≤◌, vec_len}
use Rattle.std.specs.VecDeque.{deque_len, deque_capacity}
use Rattle.gr_channels.specs.Queues.{restored, PlacesFit}
use Rattle.gr_channels.proofs.queue.put_back.Given as goal

abbrev pub invariant-loop-place : goal.invariant-loop-place
invariant-loop-place g l = record {
  back : restored l.gone.items l.queue.items ≡ restored l.fn.gone.items l.fn.queue.items;
  fit : PlacesFit l.gone.items l.queue.items;
  len : deque_len l.queue + vec_len l.gone ≡ deque_len l.fn.queue + vec_len l.fn.gone;
  room : deque_len l.queue + vec_len l.gone ≤ deque_capacity l.queue;
  same : deque_capacity l.fn.queue ≤ deque_capacity l.queue;
}

abbrev pub decreases-loop-place : goal.decreases-loop-place
decreases-loop-place g l = vec_len l.gone
