use Rattle.std.proofs.Common.{◌≡◌, ◌≤◌, ◌+◌, ◌++◌, length, vec_len, vec_capacity}
use Rattle.std.specs.Vec.Iter.{into_iter_items, into_iter_len}
use Rattle.gr_rules.specs.Selects as rules_of_selects
use Rattle.gr_goros.specs.Views.{communications_of}
use Rattle.gr_step.specs.Parks.{pending_of}
use Rattle.gr_step.proofs.waiting.numbered.Given as goal

abbrev pub invariant-loop-clause : goal.invariant-loop-clause
invariant-loop-clause l = record {
  told : pending_of l.pending.items ++ rules_of_selects.numbered (l.number + 1) (communications_of (into_iter_items l.clause-iterator))
      ≡ rules_of_selects.numbered 1 (communications_of l.fn.clauses.items);
  counted : into_iter_len l.clause-iterator ≡ length (into_iter_items l.clause-iterator);
  passed : l.number + length (into_iter_items l.clause-iterator) ≡ length l.fn.clauses.items;
  room : vec_len l.pending + length (into_iter_items l.clause-iterator) ≤ vec_capacity l.pending;
}
