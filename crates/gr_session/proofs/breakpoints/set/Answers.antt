use Rattle.std.proofs.Common.{◌∷◌}
use Rattle.gr_session.specs.Journal.{breaks}
use Rattle.gr_session.proofs.LineLemmas.{lines_set}
use Rattle.gr_session.proofs.breakpoints.set.Goals as goal

pub returns-in-Ok-clause-leads : goal.returns-in-Ok-clause-leads
returns-in-Ok-clause-leads c = λ p w s. record {
  world = record w { lines = c.args.line ∷ w.lines };
  leads = breaks;
  stands = record {
    machine = s.machine;
    lines = lines_set w.lines c.args.debuggee.now.lines c.insert.new.self s.lines c.args.line c.in-Ok.ensures.updates.0;
    grant = s.grant;
  };
}
