use Rattle.std.proofs.Common.{◌≤◌, length, vec_len, vec_capacity}
use Rattle.gr_step.proofs.QueueLemmas.{Queueing}
use Rattle.gr_step.proofs.queues.park_for_all.Given as goal

abbrev pub invariant-loop-clause : goal.invariant-loop-clause
invariant-loop-clause l = record {
  queueing : Queueing l.go l.pending l.clause-index l.undos.items l.fn.channels l.channels;
  few : vec_len l.undos ≤ l.clause-index;
  room : length l.pending ≤ vec_capacity l.undos;
}
