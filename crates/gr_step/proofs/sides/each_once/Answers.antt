use Rattle.std.proofs.Common.{◌∙◌, ◌++◌, ◌∷◌, [], ◌+◌, drop, sym, ap}
use Rattle.gr_rules.specs.States.{same}
use Rattle.gr_laws.specs.Touched as laws
use Rattle.gr_step.proofs.EachOnceLemmas.{known, found, any_seen, any_found, in_neither, all_told}
use Rattle.gr_step.proofs.sides.each_once.Goals as goal

pub loop-object-preserved-then-is_among : goal.loop-object-preserved-then-is_among
loop-object-preserved-then-is_among c =
    let kept = c.loop-object.kept.items in
    let object = c.object-item.result in
    known c.args.seen.now c.args.objects.now c.loop-object.object-index object kept c.loop-object-test.true c.object-item.is
    (any_seen (same object) kept c.args.seen.now (sym c.is_among.ensures ∙ c.if-is_among.true)) ∙ c.loop-object.invariant

pub loop-object-preserved-then-is_among-2 : goal.loop-object-preserved-then-is_among-2
loop-object-preserved-then-is_among-2 c =
    let kept = c.loop-object.kept.items in
    let object = c.object-item.result in
    known c.args.seen.now c.args.objects.now c.loop-object.object-index object kept c.loop-object-test.true c.object-item.is
    (any_found (same object) kept c.args.seen.now
    (rw c.deref.ensures.value at (sym c.is_among-in-loop-object.ensures ∙ c.if-is_among-2.true))) ∙ c.loop-object.invariant

pub loop-object-preserved : goal.loop-object-preserved
loop-object-preserved c =
    let kept = c.loop-object.kept.items in
    let object = c.object-item.result in
    let pushed = c.in_ok-push.ensures.items ∙ ap (λ o. kept ++ o ∷ []) c.in_ok-copy.ensures in
    ap (λ os. os ++ laws.each_once (os ++ c.args.seen.now) (drop (c.loop-object.object-index + 1) c.args.objects.now)) pushed
    ∙ found c.args.seen.now c.args.objects.now c.loop-object.object-index object kept c.loop-object-test.true c.object-item.is
    (in_neither (same object) kept c.args.seen.now (sym c.is_among.ensures ∙ c.if-is_among.false)
    (rw c.deref.ensures.value at (sym c.is_among-in-loop-object.ensures ∙ c.if-is_among-2.false)))
    ∙ c.loop-object.invariant

pub returns : goal.returns
returns c =
    all_told c.args.seen.now c.args.objects.now c.loop-object.object-index c.loop-object.kept.items c.loop-object-test.false ∙ c.loop-object.invariant
