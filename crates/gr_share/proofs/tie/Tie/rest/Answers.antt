use Rattle.std.proofs.Common.{ap, ◌∙◌, arith}
use Rattle.gr_share.proofs.Moves.{rests}
use Rattle.gr_share.proofs.tie.Tie.rest.Goals as goal

pub load-requires : goal.load-requires
load-requires g c =
    let i = c.loop.invariant in
    (i.0 ∙ c.requires.table, omega (arith, c.args.self.now.one_word), rests _ _ c.loop.keeper.me (ap (λ v. v.keeps) i.1 ∙ c.requires.keeper))
