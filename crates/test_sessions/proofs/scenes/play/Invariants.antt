use Rattle.std.proofs.Common.{◌+◌}
use Rattle.gr_program.specs.Views.{program_of}
use Rattle.test_sessions.proofs.scenes.play.Given as goal

-- the session that was just opened
abbrev pub ghosts-play_in : goal.ghosts-play_in
ghosts-play_in g a = record {
  table = a.opened.table;
  program = program_of a.opened.session.program;
  first = a.opened.session.askers;
  last = a.opened.session.askers + 1000;
  before = a.opened.session.journal;
}
