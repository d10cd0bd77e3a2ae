use Rattle.std.proofs.Common.{◌≡◌, ◌<◌, length, get_or, ap, ◌∙◌, sym, arith, length-append, is_err, true, rules}
use Rattle.gr_base.proofs.Room.{on_err, counts_fit}
use Rattle.gr_base.proofs.print.print_go.Goals as goal

pub returns-then-is_err-clause-full : goal.returns-then-is_err-clause-full
returns-then-is_err-clause-full c =
    let failed : is_err c.append_count.result ≡ true = sym c.is_err.ensures.value ∙ c.if-is_err.true in
    let missing = on_err c.append_count.result failed c.append_count.ensures.full in
    let within : c.loop-count.count-index < length c.counts-count-items.result.now = omega arith in
    let fits = counts_fit c.counts-count-items.result.now c.loop-count.count-index within in
    let number : c.from.result ≡ get_or c.counts-count-items.result.now c.loop-count.count-index 0 = search rules in
    let missing_here = rw number at missing in
    let printed = simp length-append at (ap length c.loop-count.invariant.printed) in
    rw (← c.counts-count-items.ensures.value) (omega (arith, fits, missing_here, printed, c.loop-count.invariant.grows))
