use Rattle.std.proofs.Common.{◌≡◌, ◌≤◌, ◌==◌, ℕ, true, length, drop, slice_get, Some}
use Rattle.std.specs.List.{list_any}
use Rattle.gr_record.specs.declared.record.Record.{Record}
use Rattle.gr_depend.proofs.log.Log.last_of.Given as goal

abbrev pub invariant-loop-left : goal.invariant-loop-left
invariant-loop-left l = record {
  within : l.left ≤ length l.touches;
  none : (i : ℕ) (r : Record) → list_any (λ t. t.place == i) (drop l.left l.touches) ≡ true → slice_get l.self.records.items i ≡ Some r → r.id.go ≡ l.go → ⊥;
}

abbrev pub decreases-loop-left : goal.decreases-loop-left
decreases-loop-left l = l.left
