use Rattle.std.proofs.Common.{◌≡◌, ◌≤◌, List, ℕ, length, reverse, drop}
use Rattle.std.specs.BTreeSet.{contains}
use Rattle.std.specs.Cmp.Lexicographic.{slice_cmp}
use Rattle.std.specs.List.{list_any}
use Rattle.std.specs.Ordering.{nat_cmp}
use Rattle.gr_rules.specs.Communications as rules
use Rattle.gr_rules.specs.States.{same_go}
use Rattle.gr_step.proofs.awaiting.once.Given as goal

abbrev pub invariant-loop-place : goal.invariant-loop-place
invariant-loop-place l = record {
  within : l.place ≤ length l.names;
  told : reverse l.kept.items ≡ rules.once (drop l.place l.names);
  known : (q : List ℕ) → contains (slice_cmp nat_cmp) l.seen q ≡ list_any (same_go q) (drop l.place l.names);
}

abbrev pub decreases-loop-place : goal.decreases-loop-place
decreases-loop-place l = l.place
