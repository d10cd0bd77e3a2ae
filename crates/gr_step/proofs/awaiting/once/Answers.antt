use Rattle.std.proofs.Common.{◌++◌, ◌∷◌, [], ap, ◌∙◌, arith}
use Rattle.gr_step.proofs.WaitingOnLemmas.{known_next, told_again, told_new}
use Rattle.gr_step.proofs.awaiting.once.Goals as goal

pub loop-place-preserved-then-not-is_new : goal.loop-place-preserved-then-not-is_new
loop-place-preserved-then-not-is_new c =
    let name = c.index-names-place.result in
    let kept = c.loop-place.kept.items in
    let seen = c.loop-place.seen in
    let i = c.loop-place.invariant in
    record {
      within = omega arith;
      told = told_again c.args.names.now c.loop-place.place c.loop-place-test.true i.within name c.index-names-place.is kept seen i.told i.known
          c.in_ok-copy.field-0 c.in_ok-copy.ensures c.in_ok-is_new.is_new c.in_ok-is_new.ensures.added c.if-not-is_new.true;
      known = known_next c.args.names.now c.loop-place.place c.loop-place-test.true i.within name c.index-names-place.is kept seen i.told i.known
          c.in_ok-copy.field-0 c.in_ok-copy.ensures c.insert.new.self c.in_ok-is_new.ensures.updates;
    }

pub loop-place-preserved : goal.loop-place-preserved
loop-place-preserved c =
    let name = c.index-names-place.result in
    let kept = c.loop-place.kept.items in
    let seen = c.loop-place.seen in
    let i = c.loop-place.invariant in
    record {
      within = omega arith;
      told = told_new c.args.names.now c.loop-place.place c.loop-place-test.true i.within name c.index-names-place.is kept seen i.told i.known
          c.in_ok-copy.field-0 c.in_ok-copy.ensures c.in_ok-is_new.is_new c.push.new.self.items c.in_ok-is_new.ensures.added c.if-not-is_new.false
          (c.in_ok-push.ensures.items ∙ ap (λ go. kept ++ go ∷ []) c.in_ok-copy-2.ensures);
      known = known_next c.args.names.now c.loop-place.place c.loop-place-test.true i.within name c.index-names-place.is kept seen i.told i.known
          c.in_ok-copy.field-0 c.in_ok-copy.ensures c.insert.new.self c.in_ok-is_new.ensures.updates;
    }
