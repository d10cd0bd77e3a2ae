use Rattle.std.proofs.Common.{◌≡◌, ℕ, List, ◌-◌, ◌<◌, ◌≤◌, length}
use Rattle.std.specs.Prelude.{slice_index_or}
use Rattle.std.specs.declared.cmp.Ordering.TheVariants.{Less, Greater}
use Rattle.gr_base.specs.Names.{go_cmp}
use Rattle.gr_pool.specs.Goroutines.{names_at}
use Rattle.gr_pool.proofs.places.place_of.Given as goal

abbrev pub invariant-loop-low : goal.invariant-loop-low
invariant-loop-low l = record {
  order : l.low ≤ l.high;
  within : l.high ≤ length l.ready;
  before : (k : ℕ) (d : List ℕ) → k < l.low → go_cmp (slice_index_or (names_at l.known l.ready) k d) l.name ≡ Less;
  after : (k : ℕ) (d : List ℕ) → l.high ≤ k → k < length l.ready → go_cmp (slice_index_or (names_at l.known l.ready) k d) l.name ≡ Greater;
}

abbrev pub decreases-loop-low : goal.decreases-loop-low
decreases-loop-low l = l.high - l.low
