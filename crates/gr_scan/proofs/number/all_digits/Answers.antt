use Rattle.std.proofs.Common.{sym, ◌∙◌}
use Rattle.gr_scan.proofs.Values.{ends_digits, goes_on_digits}
use Rattle.gr_scan.proofs.number.all_digits.Goals as goal

pub returns-then-not-part : goal.returns-then-not-part
returns-then-not-part c =
    ends_digits c.args.base c.loop-i.i c.args.digits.now c.loop-i-test.true (sym c.part.ensures ∙ c.if-not-part.true) c.loop-i.invariant

pub loop-i-preserved : goal.loop-i-preserved
loop-i-preserved c =
    goes_on_digits c.args.base c.loop-i.i c.args.digits.now c.loop-i-test.true (sym c.part.ensures ∙ c.if-not-part.false) c.loop-i.invariant
