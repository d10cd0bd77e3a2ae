use Rattle.std.proofs.Common.{◌≢◌, ◌<◌, ℕ, get_or}
use Rattle.gr_share.specs.Calls.{Asker}
use Rattle.gr_share.proofs.finishing.is_desk.Given as goal

abbrev pub invariant-loop-desk : goal.invariant-loop-desk
invariant-loop-desk g l = (k : ℕ) (d : Asker) → k < l.desk-index → (get_or l.desks k d).number ≢ l.number
