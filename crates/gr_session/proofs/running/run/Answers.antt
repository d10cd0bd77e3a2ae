use Rattle.gr_session.specs.Journal.{turned, runs}
use Rattle.gr_session.proofs.running.run.Goals as goal

pub returns-clause-leads : goal.returns-clause-leads
returns-clause-leads c = λ p w s.
    let gone = c.take_turns-steps.ensures.goes p w s in
    rw c.ran.ensures (record { world = turned p w gone.after c.take_turns-steps.result.0; leads = runs gone.by_turns; stands = gone.stands })

pub returns-clause-contents : goal.returns-clause-contents
returns-clause-contents c = rw c.ran.ensures c.take_turns-steps.ensures.none
