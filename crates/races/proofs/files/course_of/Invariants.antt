use Rattle.std.proofs.Common.{◌+◌}
use Rattle.gr_program.specs.Views.{program_of}
use Rattle.races.proofs.files.course_of.Given as goal

-- the session that was just opened
abbrev pub ghosts-race_all : goal.ghosts-race_all
ghosts-race_all g a = record {
  table = a.opened.table;
  program = program_of a.opened.session.program;
  first = a.opened.session.askers;
  last = a.opened.session.askers + 1000;
  before = a.opened.session.journal;
}
