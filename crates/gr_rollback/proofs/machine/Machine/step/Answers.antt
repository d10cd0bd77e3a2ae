use Rattle.std.proofs.Common.{reverse, refl, ap}
use Rattle.std.proofs.lemmas.Result.{err_from_is_err_and}
use Rattle.gr_rollback.proofs.RedoLemmas.{stands_still}
use Rattle.gr_rollback.proofs.MachineLemmas.{takes}
use Rattle.gr_rollback.proofs.machine.Machine.step.Goals as goal

pub returns-in_err-told-clause-taken : goal.returns-in_err-told-clause-taken
returns-in_err-told-clause-taken c = λ p w s.
    let why = err_from_is_err_and c.from_residual.result c.from_residual.ensures.1 in
    let kept = c.in_err-told.ensures.kept p w.past s.holds in
    rw (why.1, why.2) (kept.0, stands_still p w c.args.self.now _ s kept.1 refl)

pub returns-clause-taken : goal.returns-clause-taken
returns-clause-taken c = λ p w s. takes p w _ c.in_ok-told.told _ (c.in_ok-told.ensures.kept p w.past s.holds) (ap reverse c.clear.ensures.items)

pub returns-in_err-told-clause-refused : goal.returns-in_err-told-clause-refused
returns-in_err-told-clause-refused c =
    let why = err_from_is_err_and c.from_residual.result c.from_residual.ensures.1 in
    rw (why.1, why.2) c.in_err-told.ensures.not_taken
