use Rattle.std.proofs.Common.{refl, sym, true≢false, arith, ◌∙◌}
use Rattle.gr_goros.proofs.AlikeLemmas.{one_more_line_alike, no_more_lines_alike, all_lines_alike, as_many_lines}
use Rattle.gr_goros.proofs.comparing.same_lines.Goals as goal

pub returns-then-one-other : goal.returns-then-one-other
returns-then-one-other c =
    ((λ bad. absurd (true≢false (sym bad))), λ same. absurd (c.if-one-other.true (as_many_lines c.args.one.now c.args.other.now same)))

pub loop-i-preserved : goal.loop-i-preserved
loop-i-preserved c =
    one_more_line_alike c.args.one.now c.args.other.now c.loop-i.i c.index-one-i.result c.index-other-i.result c.if-one-other.false
    c.loop-i-test.true c.index-one-i.is c.index-other-i.is (c.same_line.ensures.0 c.if-not-same_line.false) c.loop-i.invariant

pub returns-then-not-same_line : goal.returns-then-not-same_line
returns-then-not-same_line c = (
  (λ bad. absurd (true≢false (sym bad))),
  (λ same. sym c.if-not-same_line.true ∙ c.same_line.ensures.1 (no_more_lines_alike c.args.one.now c.args.other.now c.loop-i.i c.index-one-i.result c.index-other-i.result c.if-one-other.false
      c.loop-i-test.true c.index-one-i.is c.index-other-i.is c.loop-i.invariant same)),
)

pub returns : goal.returns
returns c = (
  (λ _. all_lines_alike c.args.one.now c.args.other.now c.loop-i.i c.if-one-other.false
      (omega (arith, c.loop-i-test.false, c.loop-i.auto.i-end)) c.loop-i.invariant),
  (λ _. refl),
)
