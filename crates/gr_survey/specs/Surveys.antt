-- What is surveyed: a program, from where the commands of a script leave it.
use Rattle.std.specs.Prelude.{ℕ, List, []}
use Rattle.gr_program.specs.Programs.{Program}
use Rattle.gr_search.specs.declared.search.Limits.{Limits}
use Rattle.gr_rollback.specs.Machines.{Stands}
use Rattle.gr_rollback.specs.declared.machine.Machine.{Machine}
use Rattle.gr_session.specs.declared.journal.Entry.{Entry}
use Rattle.gr_session.specs.Entries.{Lead}
use Rattle.gr_session.specs.Journal.{World, first_world, past_of, course_of}
use Rattle.gr_session.specs.Refused.{SaysWhy}
use Rattle.gr_session.specs.Source.{IsProgramOf}
use Rattle.gr_serve.specs.Lines.{lines_of}
use Rattle.gr_survey.specs.declared.bad_end.BadEnds.{BadEnds}
use Rattle.gr_survey.specs.declared.opening.SurveyFault.{SurveyFault}
use Rattle.gr_survey.specs.declared.opening.SurveyFault.TheVariants.{Open, Line, Memory}
use Rattle.gr_survey.specs.declared.surveying.Surveyed.{Surveyed}
use Rattle.gr_survey.specs.Schedules.{IsFound}
use Rattle.gr_survey.specs.Scripts.{Follows, IsRefused}

-- the world to which the commands of a script lead a session of a source's program
pub record After (source script : List ℕ) : Type 0 where
  pub program : Program
  pub is_program : IsProgramOf source program
  pub journal : List Entry
  pub follows : Follows program 1 (lines_of script) [] journal
  pub world : World program
  pub means : Lead program (first_world program) journal world

-- a machine stands there
pub record IsAfter (source script : List ℕ) (m : Machine) : Type 0 where
  pub after : After source script
  pub stands : Stands after.program (course_of after.program after.world) m

-- the line of a script with this number is refused in a session of a source's program
pub record HasRefused (source script : List ℕ) (number : ℕ) : Type 0 where
  pub program : Program
  pub is_program : IsProgramOf source program
  pub refused : IsRefused program 1 (lines_of script) number []

-- why nothing was surveyed; out of memory tells nothing
abbrev pub SaysWhyNot : List ℕ → List ℕ → SurveyFault → Type 0
SaysWhyNot source script (Open error) = SaysWhy error source
SaysWhyNot source script (Line number) = HasRefused source script number
SaysWhyNot source script Memory = Unit {0}

-- what was found of the schedules from where the script leaves the program, and what became of the text
pub record IsSurvey (source script : List ℕ) (bad : BadEnds) (limits : Limits) (found : Surveyed) (old new : List ℕ) : Type 0 where
  pub after : After source script
  pub is : IsFound after.program (past_of after.program after.world) bad limits found old new
