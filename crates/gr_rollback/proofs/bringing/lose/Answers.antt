use Rattle.std.proofs.Common.{sym, subst}
use Rattle.std.specs.Prelude.{option_copied}
use Rattle.gr_rollback.specs.Prior.{Loses}
use Rattle.gr_rollback.proofs.PoolBackLemmas.{loses_none, loses_one}
use Rattle.gr_rollback.proofs.bringing.lose.Goals as goal

pub returns-in-Some : goal.returns-in-Some
returns-in-Some c =
    subst (λ o. Loses (option_copied o) c.args.pool.now c.remove.new.self) (sym c.in-Some.is)
    (loses_one c.in-Some.go.now c.args.pool.now c.remove.new.self c.remove.ensures.ready c.remove.ensures.known)

pub returns-in_default : goal.returns-in_default
returns-in_default c = subst (λ o. Loses (option_copied o) c.args.pool.now c.args.pool.now) (sym c.in_default.is) (loses_none c.args.pool.now)
