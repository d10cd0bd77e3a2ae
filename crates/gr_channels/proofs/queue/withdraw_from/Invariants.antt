use Rattle.std.proofs.Common.{◌≡◌, ◌+◌, ◌≤◌, count_by, vec_len}
use Rattle.std.specs.Vec.{vec_capacity}
use Rattle.std.specs.VecDeque.{deque_len, deque_capacity}
use Rattle.gr_channels.specs.Queues.{is_of}
use Rattle.gr_channels.proofs.QueueLemmas.{Rotated}
use Rattle.gr_channels.proofs.queue.withdraw_from.Given as goal

abbrev pub invariant-loop-turn : goal.invariant-loop-turn
invariant-loop-turn g l = record {
  rotated : Rotated l.name l.turn l.fn.queue.items l.queue.items l.gone.items;
  fits : count_by (is_of l.name) l.fn.queue.items ≤ vec_capacity l.gone;
  len : deque_len l.queue + vec_len l.gone ≡ deque_len l.fn.queue;
  same : deque_capacity l.queue ≡ deque_capacity l.fn.queue;
}
