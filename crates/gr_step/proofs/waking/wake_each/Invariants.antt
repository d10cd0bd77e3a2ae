use Rattle.std.proofs.Common.{◌≡◌, ◌≤◌, ◌+◌, true, ◌++◌, map, length, vec_len, vec_capacity}
use Rattle.std.specs.Vec.Iter.{into_iter_items, into_iter_len}
use Rattle.std.specs.List.{list_all}
use Rattle.gr_tables.specs.NamedGoroutines.{goroutines_of}
use Rattle.gr_step.specs.Wakes.{is_live_there, with_each_woken, LeadsOver}
use Rattle.gr_step.proofs.waking.wake_each.Given as goal

abbrev pub invariant-loop-go : goal.invariant-loop-go
invariant-loop-go l = record {
  live : list_all (λ n. is_live_there (goroutines_of l.goroutines n)) (into_iter_items l.go-iterator) ≡ true;
  woken : with_each_woken (into_iter_items l.go-iterator) (goroutines_of l.goroutines)
      ≡ with_each_woken l.fn.names.items (goroutines_of l.fn.goroutines);
  back : LeadsOver l.met.items (goroutines_of l.fn.goroutines) (goroutines_of l.goroutines);
  names : map (λ e. e.0) l.met.items ++ into_iter_items l.go-iterator ≡ l.fn.names.items;
  counted : into_iter_len l.go-iterator ≡ length (into_iter_items l.go-iterator);
  room : vec_len l.met + length (into_iter_items l.go-iterator) ≤ vec_capacity l.met;
}
