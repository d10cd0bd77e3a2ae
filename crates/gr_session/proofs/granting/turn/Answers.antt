use Rattle.std.proofs.Common.{◌≡◌, ◌-◌, ◌∙◌, min, ap, subst, rules}
use Rattle.gr_session.specs.Journal.{ByTurns, turned, takes_turn}
use Rattle.gr_session.specs.Turning.{memory_at}
use Rattle.gr_session.proofs.granting.turn.Goals as goal

pub returns-clause-leads : goal.returns-clause-leads
returns-clause-leads c = λ p w s.
    let gone = c.take_turns-steps.ensures.goes p w s in
    let steps = c.take_turns-steps.result.0 in
    let why = c.take_turns-steps.result.1 in
    let least : c.min.result ≡ min c.args.debuggee.now.grant 1 = search rules in
    rw c.ran.ensures
    (record {
      world = record (turned p w gone.after steps) { grant = w.grant - steps };
      leads = takes_turn (subst (λ n. ByTurns p w n (memory_at steps why) gone.after steps why) (least ∙ ap (λ g. min g 1) s.grant) gone.by_turns);
      stands = record { machine = gone.stands.machine; lines = gone.stands.lines; grant = ap (λ g. g - steps) s.grant };
    })

pub returns-clause-contents : goal.returns-clause-contents
returns-clause-contents c = rw c.ran.ensures c.take_turns-steps.ensures.none
