use Rattle.std.proofs.Common.{arith, refl}
use Rattle.std.proofs.lemmas.Result.{err_from_is_err_and}
use Rattle.gr_channels.proofs.Needs.{next_sent}
use Rattle.gr_channels.proofs.channel.Channel.take.Goals as goal

pub returns-in_err-value-2-clause-needed : goal.returns-in_err-value-2-clause-needed
returns-in_err-value-2-clause-needed c =
    let none = rw c.in_default.is at c.front.ensures.variant in
    let found = rw c.in-Some-front.is at c.front-2.ensures.variant in
    let named = next_sent c.self.inside.items.items c.self.inside.senders.items c.in-Some-front.first.now (λ long. none.1 (omega (arith, long))) (omega (arith, found.0 refl)) c.in-Some-front.ensures.lookup c.in_err-value-2.ensures.needed in
    let p = err_from_is_err_and c.from_residual-in_err-value-2.result c.from_residual-in_err-value-2.ensures.1 in
    rw (p.1, ← c.self.view_is) named
