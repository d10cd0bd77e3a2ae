use Rattle.std.proofs.Common.{refl}
use Rattle.gr_session.specs.Journal.{frees}
use Rattle.gr_session.proofs.granting.free.Goals as goal

pub returns-clause-leads : goal.returns-clause-leads
returns-clause-leads c = λ p w s. record {
  world = record w { grant = c.args.steps };
  leads = frees;
  stands = record { machine = s.machine; lines = s.lines; grant = refl };
}
