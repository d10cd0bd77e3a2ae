use Rattle.std.proofs.Common.{◌∷◌, [], ◌++◌, ◌≤◌, length, ap, sym, ◌∙◌, arith, subst, ℕ}
use Rattle.gr_share.specs.Ties.{asked, front, told}
use Rattle.gr_share.proofs.Moves.{takes}
use Rattle.gr_share.proofs.tie.Tie.take.Goals as goal

pub compare_exchange_with-found-requires : goal.compare_exchange_with-found-requires
compare_exchange_with-found-requires g c =
    let i = c.loop.invariant in
    let es = front c.args.desk.now.me.0.seen in
    let word = c.from-word.ensures in
    let n = ap (λ v. length v.calls) i.1 in (
      i.0 ∙ c.requires.table,
      omega (arith, c.args.self.now.one_word),
      takes _ _ c.loop.desk.me c.from-word.result es c.args.call.now (ap (λ v. v.asker) i.1 ∙ c.requires.desk.1 ∙ sym word) (omega (arith, word, c.requires.desk.0)) (ap (λ v. v.seen) i.1 ∙ (c.requires.shown ∙ ap (λ (a : ℕ). es ++ told a c.args.call.now ∷ []) (sym word)))
          (subst (λ (a : ℕ). length c.loop.desk.me.0.calls ≤ length (asked a es)) (sym word) (omega (arith, n, c.requires.begins))),
    )
