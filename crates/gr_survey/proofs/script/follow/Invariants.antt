use Rattle.std.proofs.Common.{◌≡◌, ◌≤◌, ◌+◌, length}
use Rattle.gr_program.specs.Views.{program_of}
use Rattle.gr_serve.specs.Lines.{lines_of}
use Rattle.gr_survey.proofs.ScriptLemmas.{LeadsOn, CountsOn}
use Rattle.gr_survey.proofs.script.follow.Given as goal

abbrev pub invariant-loop-rest : goal.invariant-loop-rest
invariant-loop-rest l = record {
  program : l.session.program ≡ l.fn.session.program;
  askers : l.session.askers ≡ l.fn.session.askers;
  leads : LeadsOn (program_of l.fn.session.program) l.fn.desk.number (lines_of l.fn.script) l.fn.session.journal (lines_of l.rest) l.session.journal;
  counts : CountsOn (program_of l.fn.session.program) l.fn.desk.number (lines_of l.fn.script) l.fn.session.journal l.taken (lines_of l.rest) l.session.journal;
  few : l.taken + length l.rest ≤ length l.fn.script;
}

abbrev pub decreases-loop-rest : goal.decreases-loop-rest
decreases-loop-rest l = length l.rest
