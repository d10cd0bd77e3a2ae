use Rattle.std.proofs.Common.{◌≡◌, ◌<◌, ℕ, get_or}
use Rattle.gr_share.specs.Calls.{Asker}
use Rattle.gr_share.specs.Calls.{IsTied}
use Rattle.gr_share.proofs.finishing.settle_desks.Given as goal

abbrev pub invariant-loop-desk : goal.invariant-loop-desk
invariant-loop-desk g l =
    (l.locked ≡ l.initial.locked) × (l.desks ≡ l.initial.desks)
    × ((k : ℕ) (d : Asker) → k < l.desk-index → IsTied l.initial.locked.session (get_or l.desks k d))
