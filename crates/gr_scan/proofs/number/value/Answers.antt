use Rattle.std.proofs.Common.{◌^◌}
use Rattle.gr_scan.proofs.Values.{beyond, none_says}
use Rattle.gr_scan.proofs.number.value.Goals as goal

pub returns-in_err-value-clause-none : goal.returns-in_err-value-clause-none
returns-in_err-value-clause-none c =
    none_says c.from_residual.result
    (beyond (2 ^ 63) c.args.base c.loop-b.value c.loop-b.b-index c.args.digits.now c.requires c.in_err-value.ensures.none c.loop-b-test.true c.loop-b.invariant.so_far)
