use Rattle.std.proofs.Common.{◌+◌}
use Rattle.gr_program.specs.Views.{program_of}
use Rattle.rewind.proofs.workers.debug_beside.Given as goal

-- the session that was just opened
abbrev pub ghosts-serve_beside : goal.ghosts-serve_beside
ghosts-serve_beside g a = record {
  table = a.opened.table;
  program = program_of a.opened.session.program;
  first = a.opened.session.askers;
  last = a.opened.session.askers + a.seats;
  before = a.opened.session.journal;
}
