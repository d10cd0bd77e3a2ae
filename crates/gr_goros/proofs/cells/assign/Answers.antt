use Rattle.std.proofs.Common.{◌∙◌, ap, sym, length, arith}
use Rattle.gr_goros.proofs.CellLemmas.{none_assigned, blank_assigned, first_assigned}
use Rattle.gr_goros.proofs.cells.assign.Goals as goal

pub unreachable-requires : goal.unreachable-requires
unreachable-requires c =
    let cases = c.in_default.ensures.cases in
    none_assigned c.args.targets.now c.loop-target.target-index _ c.loop-target.cells.items _
    c.loop-target-test.true (sym c.loop-target.invariant.1 ∙ cases.0) c.loop-target.invariant.0 c.requires

pub loop-target-preserved-in_default-target : goal.loop-target-preserved-in_default-target
loop-target-preserved-in_default-target c = (
  blank_assigned c.args.targets.now c.loop-target.target-index c.in-Some.value _ _ c.loop-target.cells.items _
      c.loop-target-test.true c.in_default-target.is
      c.in-Some.ensures.items c.loop-target.invariant.0,
  omega (arith, ap length c.in-Some.ensures.items, c.in-Some.ensures.cases.1, c.loop-target.invariant.1),
  c.loop-target.invariant.2,
  omega (arith, c.loop-target.invariant.3),
  c.loop-target.invariant.4,
)

pub loop-target-preserved : goal.loop-target-preserved
loop-target-preserved c = (
  first_assigned c.args.targets.now c.loop-target.target-index c.in-Some-target.slot c.in-Some.value _ _ c.loop-target.cells.items _ _ c.note.ensures.after
      c.loop-target-test.true c.in-Some-target.is
      c.in-Some.ensures.items c.loop-target.invariant.0 c.requires,
  omega (arith, ap length c.in-Some.ensures.items, c.in-Some.ensures.cases.1, c.loop-target.invariant.1),
  c.note.ensures.back ∙ c.loop-target.invariant.2,
  omega (arith, c.note.ensures.len, c.loop-target.invariant.3),
  c.note.ensures.capacity ∙ c.loop-target.invariant.4,
)
