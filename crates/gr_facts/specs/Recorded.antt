-- What is told of a step by its record, by the records before it, and by the code of the program.
use Rattle.std.specs.Prelude.{ℕ, List, [], ◌∷◌, slice_get, Option, Some, None, option_and_then, if◌then◌else◌, ◌++◌, true, false}
use Rattle.std.specs.List.{list_any}
use Rattle.std.specs.Option.{option_or}
use Rattle.gr_base.specs.declared.names.StepId.{StepId}
use Rattle.gr_base.specs.declared.objects.Object.{Object}
use Rattle.gr_program.specs.Programs.{Program}
use Rattle.gr_rules.specs.States.{same}
use Rattle.gr_code.specs.CodeFrames.{ProgramCode}
use Rattle.gr_goros.specs.Before.{is_printed}
use Rattle.gr_goros.specs.declared.undo.Spot.{Spot}
use Rattle.gr_record.specs.Conflicts.{read_by, written_by}
use Rattle.gr_record.specs.declared.record.Record.{Record}
use Rattle.gr_record.specs.Records.{operation_in}
use Rattle.gr_depend.specs.Given.{stood, gave}
use Rattle.gr_facts.specs.Facts.{Facts, function_named, others_in, made_in, sources_of}

-- the line of the statement at a spot, and the function there by its name
abbrev pub line_there : ProgramCode → Spot → Option ℕ
line_there code s = option_and_then (λ c. slice_get c.lines s.number) (slice_get code.functions s.function)

abbrev pub function_there : Program → Spot → Option (List ℕ)
function_there p s = function_named p s.function

-- the last of these steps that wrote an object, if one did
abbrev pub writer_in : List Record → Object → Option StepId
writer_in [] o = None
writer_in (r ∷ rs) o = option_or (writer_in rs o) (if list_any (same o) (written_by r) then Some r.id else None)

-- what a record tells of its step, with the records before it
abbrev pub facts_by : Program → ProgramCode → List Record → Record → Facts
facts_by p code before r = record {
  id = r.id;
  kind = r.change.kind;
  operation = operation_in r.change;
  prints = is_printed r.change.own;
  function = option_and_then (function_there p) (stood r);
  line = option_and_then (line_there code) (stood r);
  given = gave p code r;
  reached = others_in r.id.go (written_by r);
  made = made_in r.change.kind (written_by r);
  sources = sources_of false (writer_in before) (read_by r) ++ sources_of true (writer_in before) (written_by r);
}
