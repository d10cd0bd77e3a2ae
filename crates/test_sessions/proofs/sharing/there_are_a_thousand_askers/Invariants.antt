use Rattle.std.proofs.Common.{◌+◌}
use Rattle.gr_program.specs.Views.{program_of}
use Rattle.test_sessions.proofs.sharing.there_are_a_thousand_askers.Given as goal

-- the session that was just opened
abbrev pub ghosts-seats_given : goal.ghosts-seats_given
ghosts-seats_given g a = record {
  table = a.opened.table;
  program = program_of a.opened.session.program;
  first = a.opened.session.askers;
  last = a.opened.session.askers + 1001;
  before = a.opened.session.journal;
}
