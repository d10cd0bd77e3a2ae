use Rattle.std.proofs.Common.{◌≡◌, ◌==◌, ℕ, true, take}
use Rattle.std.specs.List.{list_any}
use Rattle.gr_depend.specs.Named.{IsNamed}
use Rattle.gr_depend.proofs.log.Log.find_named.Given as goal

abbrev pub invariant-loop-i : goal.invariant-loop-i
invariant-loop-i l = (place : ℕ) → list_any (λ t. t.place == place) (take l.i l.touches) ≡ true → IsNamed l.self.records.items place l.id → ⊥
