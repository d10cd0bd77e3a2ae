use Rattle.std.proofs.Common.{sym, subst}
use Rattle.gr_tables.specs.NamedGoroutines.{goroutines_of}
use Rattle.gr_step.specs.Unstepping.{IsForgotten}
use Rattle.gr_step.proofs.UnstepLemmas.{one_gone}
use Rattle.gr_step.proofs.unstepping.forget.Goals as goal

pub returns : goal.returns
returns c =
    subst (λ o. IsForgotten o (goroutines_of c.args.goroutines.now) c.remove.new.self) (sym c.in-Some.is)
    (one_gone c.in-Some-number.number c.in-Some.name c.args.goroutines.now c.remove.new.self c.in-Some-number.ensures.named c.remove.ensures.after)
