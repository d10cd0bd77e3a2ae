use Rattle.std.proofs.Common.{rules, ◌≡◌, ◌+◌, [], ◌∷◌, ◌++◌, length, ap, sym, subst, arith, length-append}
use Rattle.rewind.specs.Beside.{AreFrom}
use Rattle.rewind.proofs.Seats.{one_more}
use Rattle.rewind.proofs.workers.worker_seats.Goals as goal

pub loop-number-preserved : goal.loop-number-preserved
loop-number-preserved g c =
    let workers = c.loop-number.workers.items in
    let seat = c.in-Ok.seat in
    let here : c.number.result ≡ c.loop-number.number + 1 = search rules in
    let more : c.push.new.self.items ≡ workers ++ seat ∷ [] = search rules in
    let next : seat.seat.number ≡ 2 + length workers = omega (arith, here, c.number.ensures, c.loop-number.invariant.1) in (
      subst (AreFrom 2) (sym more) (one_more 2 workers seat c.loop-number.invariant.0 next),
      omega (arith, ap length more, length-append workers (seat ∷ []), c.loop-number.invariant.1),
    )
