use Rattle.std.proofs.Common.{[], ◌∷◌, ◌≡◌, ◌+◌, ◌-◌, ◌++◌, take, subst, sym, ap, ◌∙◌, arith}
use Rattle.std.proofs.lemmas.List.{take_all}
use Rattle.gr_touches.specs.Touches.{touches_for}
use Rattle.gr_touches.specs.Lists.{TakesFor}
use Rattle.gr_touches.proofs.NoteLemmas.{taken_more, taken_none}
use Rattle.gr_touches.proofs.lanes.Lanes.forget_all.Goals as goal

pub loop-left-init : goal.loop-left-init
loop-left-init c = record {
  within = omega arith;
  keeps = λ before t had q. had q ∙ ap (λ os. before q ++ touches_for q t os) (sym (take_all _ c.args.objects.now (omega arith)));
  room = λ lists fits. fits;
}

pub loop-left-preserved : goal.loop-left-preserved
loop-left-preserved c = record {
  within = omega arith;
  keeps = λ before t had.
      let more : (c.loop-left.left - 1) + 1 ≡ c.loop-left.left = omega arith in
      taken_more c.args.objects.now (c.loop-left.left - 1) c.index-objects-left.result (omega arith) c.index-objects-left.is
      c.loop-left.self c.retract.new.self t before
      (λ q. c.loop-left.invariant.keeps before t had q ∙ ap (λ n. before q ++ touches_for q t (take n c.args.objects.now)) (sym more))
      (subst (λ o. TakesFor (o ∷ []) c.loop-left.self c.retract.new.self) c.of.ensures c.retract.ensures.lists);
  room = λ lists fits. c.retract.ensures.room lists (c.loop-left.invariant.room lists fits);
}

pub returns-clause-lists : goal.returns-clause-lists
returns-clause-lists c before t had q =
    let none : c.loop-left.left ≡ 0 = omega arith in
    c.loop-left.invariant.keeps before t had q ∙ taken_none before t c.args.objects.now c.loop-left.left none q

pub returns-clause-room : goal.returns-clause-room
returns-clause-room c = c.loop-left.invariant.room
