use Rattle.std.proofs.Common.{◌≡◌}
use Rattle.gr_share.proofs.tie.Tie.rest.Given as goal

abbrev pub invariant-loop : goal.invariant-loop
invariant-loop g l = (l.keeper.table_id ≡ l.initial.keeper.table_id) × (l.keeper.me.0 ≡ l.initial.keeper.me.0)
