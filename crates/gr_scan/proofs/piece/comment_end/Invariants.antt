use Rattle.std.proofs.Common.{ℕ, ◌<◌, ◌≤◌}
use Rattle.gr_scan.specs.Pieces.{Closes}
use Rattle.gr_scan.proofs.piece.comment_end.Given as goal

abbrev pub invariant-loop-i : goal.invariant-loop-i
invariant-loop-i l = (k : ℕ) → 2 ≤ k → k < l.i → Closes l.text k → ⊥
