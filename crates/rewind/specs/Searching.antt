-- A search of all schedules, from a source and a script that are read.
use Rattle.std.specs.Prelude.{ℕ, List}
use Rattle.std.specs.Io.KnownBytes.{Consumes, IsAtEnd}
use Rattle.gr_search.specs.declared.search.Limits.{Limits}
use Rattle.gr_lines.specs.Devices.{Change, Fails, NeverFails}
use Rattle.gr_serve.specs.Debug.{SourceRead}
use Rattle.gr_survey.specs.Blames.{IsBlaming}
use Rattle.gr_survey.specs.declared.bad_end.BadEnds.{BadEnds}
use Rattle.gr_survey.specs.declared.blaming.Blamed.{Blamed}
use Rattle.gr_survey.specs.declared.opening.SurveyFault.{SurveyFault}
use Rattle.gr_survey.specs.declared.opening.SurveyFault.TheVariants.{Open, Line, Memory}
use Rattle.gr_survey.specs.declared.surveying.Surveyed.{Surveyed}
use Rattle.gr_survey.specs.Surveys.{IsSurvey, SaysWhyNot}
use Rattle.rewind.specs.declared.searching.SearchFault.{SearchFault}
use Rattle.rewind.specs.declared.searching.SearchFault.TheVariants.{Source, Script, Survey}

-- the source gave this text, all that there was or more than a program may have; and the script these commands, up to its end
pub record ReadBoth (source script : Change) (text commands : List ℕ) : Type 0 where
  pub source_read : SourceRead source.old.bytes source.new.bytes text
  pub script_read : Consumes script.old.bytes script.new.bytes commands
  pub script_end : IsAtEnd script.new.bytes
  pub source_fine : NeverFails source
  pub script_fine : NeverFails script

-- this was found of the program of the source, from where the script leaves it
pub record Searched (source script : Change) (bad : BadEnds) (limits : Limits) (found : Surveyed) (old new : List ℕ) : Type 0 where
  pub text : List ℕ
  pub commands : List ℕ
  pub read : ReadBoth source script text commands
  pub survey : IsSurvey text commands bad limits found old new

-- this was found of the run of the script on the program of the source
pub record BlamedBy (source script : Change) (blamed : Blamed) : Type 0 where
  pub text : List ℕ
  pub commands : List ℕ
  pub read : ReadBoth source script text commands
  pub blaming : IsBlaming text commands blamed

-- the source or the script is refused
pub record IsRefused (source script : Change) (fault : SurveyFault) : Type 0 where
  pub text : List ℕ
  pub commands : List ℕ
  pub read : ReadBoth source script text commands
  pub why : SaysWhyNot text commands fault

-- why a program was not searched: a device failed, the source or the script is refused, or it is out of memory
abbrev pub SearchLeft : SearchFault → (source script : Change) → Type 0
SearchLeft Source source script = Fails source
SearchLeft Script source script = NeverFails source × Fails script
SearchLeft (Survey (Open error)) source script = IsRefused source script (Open error)
SearchLeft (Survey (Line number)) source script = IsRefused source script (Line number)
SearchLeft (Survey Memory) source script = NeverFails source
