use Rattle.std.proofs.Common.{◌≡◌, ◌≤◌, ◌<◌, ◌+◌, ◌-◌, length, subst, sym, drop, arith}
use Rattle.gr_touches.specs.declared.touch.Touch.{Touch}
use Rattle.gr_touches.specs.Marks.{hits, Marks}
use Rattle.gr_touches.proofs.MarkLemmas.{Sets, reach_at, later_than, later_done, later_more}
use Rattle.gr_touches.proofs.marks.mark_later.Goals as goal

pub returns-then-place-origin : goal.returns-then-place-origin
returns-then-place-origin c =
    let touch = c.index-touches-left in
    let early = subst (λ (t : Touch). t.place ≤ c.args.origin.place) touch.is (rw c.place-place.ensures at c.if-place-origin.true) in
    let more : c.loop-left.left ≡ (c.loop-left.left - 1) + 1 = omega arith in
    later_done c.args.origin c.args.wanted c.args.touches.now (c.loop-left.left - 1) touch.result (omega arith) c.args.marks.now c.loop-left.marks c.loop-left.marks
    c.requires.later c.requires.ascending early
    (subst (λ n. Marks c.args.origin (hits c.args.wanted (drop n c.args.touches.now)) c.args.marks.now c.loop-left.marks) more c.loop-left.invariant.marks)

pub mark-requires-clause-from : goal.mark-requires-clause-from
mark-requires-clause-from c =
    let touch = c.index-touches-left in
    let late = subst (λ (t : Touch). c.args.origin.place < t.place) touch.is (rw c.place-place.ensures at c.if-place-origin.false) in
    subst (λ (t : Touch). c.args.origin.base ≤ t.place) (sym touch.is)
    (reach_at c.args.origin _ c.args.touches.now (c.loop-left.left - 1) touch.result c.requires.reach (omega arith)
    (later_than c.args.origin _ c.requires.later late)).0

pub mark-requires-clause-below : goal.mark-requires-clause-below
mark-requires-clause-below c =
    let touch = c.index-touches-left in
    let late = subst (λ (t : Touch). c.args.origin.place < t.place) touch.is (rw c.place-place.ensures at c.if-place-origin.false) in
    let below = subst (λ (t : Touch). t.place < c.args.origin.base + length c.args.marks.now) (sym touch.is)
    (reach_at c.args.origin _ c.args.touches.now (c.loop-left.left - 1) touch.result c.requires.reach (omega arith)
    (later_than c.args.origin _ c.requires.later late)).1 in
    omega (arith, below, c.loop-left.auto.marks)

pub loop-left-preserved : goal.loop-left-preserved
loop-left-preserved c = record {
  within = omega arith;
  marks =
      let touch = c.index-touches-left in
      let late = subst (λ (t : Touch). c.args.origin.place < t.place) touch.is (rw c.place-place.ensures at c.if-place-origin.false) in
      let more : c.loop-left.left ≡ (c.loop-left.left - 1) + 1 = omega arith in
      later_more c.args.origin c.args.wanted c.args.touches.now (c.loop-left.left - 1) touch.result (omega arith) c.args.marks.now c.loop-left.marks c.mark.new.marks
      (later_than c.args.origin _ c.requires.later late) c.loop-left.auto.marks
      (subst (λ (t : Touch). Sets c.args.origin c.args.wanted t c.loop-left.marks c.mark.new.marks) touch.is c.mark.ensures)
      (subst (λ n. Marks c.args.origin (hits c.args.wanted (drop n c.args.touches.now)) c.args.marks.now c.loop-left.marks) more c.loop-left.invariant.marks);
}
