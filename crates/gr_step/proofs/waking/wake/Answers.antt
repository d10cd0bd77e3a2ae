use Rattle.gr_step.proofs.WakeLemmas.{can_retry, wakes_one, wakes_back}
use Rattle.gr_step.proofs.waking.wake.Goals as goal

pub retry-requires : goal.retry-requires
retry-requires c =
    can_retry c.unwrap-number.result c.args.go.now c.args.goroutines.now (rw c.unwrap-number.ensures at c.number.ensures.named) c.requires

pub returns-clause-woken : goal.returns-clause-woken
returns-clause-woken c =
    wakes_one c.unwrap-number.result c.args.go.now c.args.goroutines.now c.retry.new.self c.retry.result (rw c.unwrap-number.ensures at c.number.ensures.named) c.retry.ensures

pub returns-clause-back : goal.returns-clause-back
returns-clause-back c =
    rw c.new.ensures (wakes_back c.unwrap-number.result c.args.go.now c.args.goroutines.now c.retry.new.self c.retry.result
    (rw c.unwrap-number.ensures at c.number.ensures.named) c.retry.ensures)
