use Rattle.std.proofs.Common.{ap, ◌∙◌, arith}
use Rattle.gr_share.proofs.Moves.{enters}
use Rattle.gr_share.proofs.tie.Tie.enter.Goals as goal

pub compare_exchange_with-found-requires : goal.compare_exchange_with-found-requires
compare_exchange_with-found-requires g c =
    let i = c.loop.invariant in
    let few = ap (λ v. v.askers) i.1 in
    let word = c.from-word.ensures in (
      i.0 ∙ c.requires.table,
      omega (arith, c.args.self.now.one_word),
      enters _ _ c.loop.keeper.me _ c.args.call.now (ap (λ v. v.keeps) i.1 ∙ c.requires.keeper) (omega (arith, word, c.requires.line.0)) (omega (arith, word, few, c.requires.line.1)),
    )
