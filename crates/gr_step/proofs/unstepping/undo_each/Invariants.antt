use Rattle.std.proofs.Common.{◌≡◌, ℕ, List, vec_len}
use Rattle.gr_tables.specs.NamedGoroutines.{goroutines_of}
use Rattle.gr_record.specs.Records.{go_back, GoesFit, NeedNoFrame}
use Rattle.gr_step.proofs.unstepping.undo_each.Given as goal

abbrev pub invariant-loop-name : goal.invariant-loop-name
invariant-loop-name l = record {
  back : (q : List ℕ) → go_back l.undos.items q (goroutines_of l.goroutines q) ≡ go_back l.fn.undos.items q (goroutines_of l.fn.goroutines q);
  fits : GoesFit l.undos.items (goroutines_of l.goroutines);
  frames : NeedNoFrame l.undos.items;
}

abbrev pub decreases-loop-name : goal.decreases-loop-name
decreases-loop-name l = vec_len l.undos
