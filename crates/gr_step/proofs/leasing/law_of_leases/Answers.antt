use Rattle.gr_step.proofs.LeaseLemmas.{walk_leads}
use Rattle.gr_step.proofs.leasing.law_of_leases.Goals as goal

pub returns : goal.returns
returns c = λ p s n from to records run channels runs there is_ready walk.
    let led = walk_leads p s run channels runs n from there is_ready records to walk in
    (led.leads, led.running, led.is_ready)
