use Rattle.std.proofs.Common.{reverse, refl, ap}
use Rattle.std.proofs.lemmas.Result.{err_from_is_err_and}
use Rattle.gr_rollback.proofs.LeasingLemmas.{takes_all}
use Rattle.gr_rollback.proofs.RedoLemmas.{stands_still}
use Rattle.gr_rollback.proofs.machine.Machine.keep_all.Goals as goal

pub returns-in_err-keep_all-clause-kept : goal.returns-in_err-keep_all-clause-kept
returns-in_err-keep_all-clause-kept c = λ p w s.
    let told = err_from_is_err_and c.from_residual.result c.from_residual.ensures.1 in
    rw told.1 (stands_still p w c.args.self.now _ s (c.in_err-keep_all.ensures.err p w.past s.holds) refl)

pub returns-clause-kept : goal.returns-clause-kept
returns-clause-kept c = λ p w s. takes_all p w _ _ _ (c.in_ok-keep_all.ensures.kept p w.past s.holds) (ap reverse c.clear.ensures.items)
