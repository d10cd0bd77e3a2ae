use Rattle.std.proofs.Common.{◌∙◌, ◌<◌, sym, subst}
use Rattle.gr_step.specs.Leasing.{goes_alone}
use Rattle.gr_step.specs.Stores.{state_at}
use Rattle.gr_rollback.proofs.LendingLemmas.{found_here}
use Rattle.gr_rollback.proofs.leasing.nth_alone.Goals as goal

pub returns-then-left-eq0-clause-which : goal.returns-then-left-eq0-clause-which
returns-then-left-eq0-clause-which c =
    c.get.ensures
    ∙ found_here (goes_alone (state_at c.args.store.now)) c.args.pool.now.ready c.loop-place.place 0
    (subst {_, _} (λ n. c.loop-place.place < n) c.len-place-end.ensures.count c.loop-place-test.true) c.args.number c.loop-place.left
    (sym c.is_alone.ensures ∙ c.if-not-is_alone.false) c.if-left-eq0.true c.loop-place.invariant
