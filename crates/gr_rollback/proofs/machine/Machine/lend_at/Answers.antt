use Rattle.std.proofs.Common.{ap, subst}
use Rattle.std.specs.Prelude.{option_copied}
use Rattle.gr_rollback.specs.Leasing.{IsLentAt}
use Rattle.gr_rollback.proofs.LendingLemmas.{leads, lends, on_err}
use Rattle.gr_rollback.proofs.machine.Machine.lend_at.Goals as goal

pub returns-clause-which : goal.returns-clause-which
returns-clause-which c = λ p w s.
    lends p w c.args.self.now s c.args.place c.in-Some.go.now c.lend.result
    (subst {_, _} (IsLentAt w.past.state c.args.place) (ap option_copied c.in-Some.is) (c.alone_at.ensures p w s)) c.lend.ensures.lease c.lend.ensures.none

pub returns-clause-leads : goal.returns-clause-leads
returns-clause-leads c =
    let m = c.requires in
    leads _ m.world c.args.self.now m.stands c.args.place c.in-Some.go.now
    (subst {_, _} (IsLentAt m.world.past.state c.args.place) (ap option_copied c.in-Some.is) (c.alone_at.ensures _ m.world m.stands))
    c.lend.result c.lend.ensures.lease

pub returns-clause-wants : goal.returns-clause-wants
returns-clause-wants c = λ p w s.
    on_err c.lend.result (c.in-Some.go.now, subst {_, _} (IsLentAt w.past.state c.args.place) (ap option_copied c.in-Some.is) (c.alone_at.ensures p w s))
