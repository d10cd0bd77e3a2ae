use Rattle.std.proofs.Common.{◌∙◌, arith}
use Rattle.gr_goros.proofs.TextLemmas.{lines_more}
use Rattle.gr_goros.proofs.copying.copy_lines.Goals as goal

pub loop-line-preserved : goal.loop-line-preserved
loop-line-preserved c = (
  lines_more c.args.lines.now c.loop-line.copies.items c.push_reserved.new.self.items c.loop-line.line-index c.line-item.result c.in_ok-from_slice.field-0
      c.loop-line-test.true c.line-item.is (c.in_ok-from_slice.ensures.items ∙ c.deref.ensures.value) c.push_reserved.ensures.items c.loop-line.invariant.0,
  omega (arith, c.push_reserved.ensures.len, c.loop-line.invariant.1),
  c.push_reserved.ensures.capacity ∙ c.loop-line.invariant.2,
)
