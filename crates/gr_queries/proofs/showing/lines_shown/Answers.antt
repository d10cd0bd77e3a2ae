use Rattle.std.proofs.Common.{◌∙◌, arith}
use Rattle.gr_queries.proofs.Copying.{shown_at}
use Rattle.gr_queries.proofs.NextLines.{all_lines}
use Rattle.gr_queries.proofs.showing.lines_shown.Goals as goal

pub loop-line-preserved : goal.loop-line-preserved
loop-line-preserved c = (
  shown_at _ _ c.args.lines.now c.loop-line.copies.items c.push_reserved.new.self.items c.loop-line.line-index c.line-item.result c.in_ok-copy.copy
      c.loop-line-test.true c.line-item.is (c.in_ok-copy.ensures.items ∙ c.deref.ensures.value) c.push_reserved.ensures.items c.loop-line.invariant.0,
  omega (arith, c.push_reserved.ensures.len, c.loop-line.invariant.1),
  c.push_reserved.ensures.capacity ∙ c.loop-line.invariant.2,
)

pub returns : goal.returns
returns c = all_lines c.args.lines.now _ c.loop-line.line-index c.loop-line-test.false c.loop-line.invariant.0
