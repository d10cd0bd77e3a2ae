use Rattle.std.proofs.Common.{◌≡◌, ◌++◌, reverse, vec_len}
use Rattle.gr_causal.specs.Sequences.{In, Distinct}
use Rattle.gr_step.specs.Record.{Record}
use Rattle.gr_step.specs.Conflicts.{touched_by}
use Rattle.gr_depend.specs.Logs.{records_of}
use Rattle.gr_depend.specs.Room.{CanTake}
use Rattle.gr_rollback.proofs.course.Course.put_together.Given as goal

-- what is left comes behind what is in
abbrev pub invariant-loop-step : goal.invariant-loop-step
invariant-loop-step l = record {
  room : CanTake l.self.log (reverse l.stay.items);
  once : (r : Record) → In r (reverse l.stay.items) → Distinct (touched_by r);
  records : records_of l.self.log ++ reverse l.stay.items ≡ records_of l.fn.self.log ++ reverse l.fn.stay.items;
  store : l.self.store ≡ l.fn.self.store;
  pool : l.self.pool ≡ l.fn.self.pool;
  first : l.self.first ≡ l.fn.self.first;
}

abbrev pub decreases-loop-step : goal.decreases-loop-step
decreases-loop-step l = vec_len l.stay
