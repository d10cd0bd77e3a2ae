use Rattle.std.proofs.Common.{sym, subst}
use Rattle.gr_step.specs.Unstepping.{IsUnmade}
use Rattle.gr_step.proofs.UnstepLemmas.{one_unmade}
use Rattle.gr_step.proofs.unstepping.unmake.Goals as goal

pub returns-in-Some : goal.returns-in-Some
returns-in-Some c =
    subst (λ o. IsUnmade o c.args.channels.now c.remove.new.self) (sym c.in-Some.is)
    (one_unmade c.in-Some.name c.args.channels.now c.remove.new.self c.remove.ensures)
