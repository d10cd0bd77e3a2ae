use Rattle.gr_session.specs.Journal.{clears, without_line}
use Rattle.gr_session.proofs.LineLemmas.{lines_cleared}
use Rattle.gr_session.proofs.breakpoints.clear.Goals as goal

pub returns-clause-leads : goal.returns-clause-leads
returns-clause-leads c = λ p w s. record {
  world = record w { lines = without_line c.args.line w.lines };
  leads = clears;
  stands = record {
    machine = s.machine;
    lines = lines_cleared w.lines c.args.debuggee.now.lines c.swap_remove.new.self s.lines c.args.line c.swap_remove.ensures.updates.0;
    grant = s.grant;
  };
}
