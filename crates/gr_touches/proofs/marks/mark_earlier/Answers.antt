use Rattle.std.proofs.Common.{◌≤◌, ◌<◌, ◌+◌, length, arith, subst, sym}
use Rattle.gr_touches.specs.declared.touch.Touch.{Touch}
use Rattle.gr_touches.proofs.MarkLemmas.{Sets, reach_at, earlier_than, earlier_done, earlier_more}
use Rattle.gr_touches.proofs.marks.mark_earlier.Goals as goal

pub returns-then-place-origin : goal.returns-then-place-origin
returns-then-place-origin c =
    let touch = c.index-touches-i in
    let late = subst (λ (t : Touch). c.args.origin.place ≤ t.place) touch.is (rw c.place-place.ensures at c.if-place-origin.true) in
    earlier_done c.args.origin c.args.wanted c.args.touches.now c.loop-i.i touch.result (omega arith) c.args.marks.now c.loop-i.marks c.loop-i.marks
    c.requires.earlier c.requires.ascending late c.loop-i.invariant

pub mark-requires-clause-from : goal.mark-requires-clause-from
mark-requires-clause-from c =
    let touch = c.index-touches-i in
    let early = subst (λ (t : Touch). t.place < c.args.origin.place) touch.is (rw c.place-place.ensures at c.if-place-origin.false) in
    subst (λ (t : Touch). c.args.origin.base ≤ t.place) (sym touch.is)
    (reach_at c.args.origin _ c.args.touches.now c.loop-i.i touch.result c.requires.reach (omega arith)
    (earlier_than c.args.origin _ c.requires.earlier early)).0

pub mark-requires-clause-below : goal.mark-requires-clause-below
mark-requires-clause-below c =
    let touch = c.index-touches-i in
    let early = subst (λ (t : Touch). t.place < c.args.origin.place) touch.is (rw c.place-place.ensures at c.if-place-origin.false) in
    let below = subst (λ (t : Touch). t.place < c.args.origin.base + length c.args.marks.now) (sym touch.is)
    (reach_at c.args.origin _ c.args.touches.now c.loop-i.i touch.result c.requires.reach (omega arith)
    (earlier_than c.args.origin _ c.requires.earlier early)).1 in
    omega (arith, below, c.loop-i.auto.marks)

pub loop-i-preserved : goal.loop-i-preserved
loop-i-preserved c =
    let touch = c.index-touches-i in
    let early = subst (λ (t : Touch). t.place < c.args.origin.place) touch.is (rw c.place-place.ensures at c.if-place-origin.false) in
    earlier_more c.args.origin c.args.wanted c.args.touches.now c.loop-i.i touch.result (omega arith) c.args.marks.now c.loop-i.marks c.mark.new.marks
    (earlier_than c.args.origin _ c.requires.earlier early) c.loop-i.auto.marks
    (subst (λ (t : Touch). Sets c.args.origin c.args.wanted t c.loop-i.marks c.mark.new.marks) touch.is c.mark.ensures) c.loop-i.invariant
