-- What it says of a file that it was refused.
use Rattle.gr_tree.specs.Files.{FileTree}
use Rattle.gr_types.specs.declared.refusal.CheckError.{CheckError}
use Rattle.gr_types.specs.declared.refusal.CheckError.TheVariants as errors
use Rattle.gr_program.specs.Programs.{Program}
use Rattle.gr_typing.specs.FileChecks.{ProgramOf}

-- every fault but out of memory says that the file has no program
abbrev pub HasNoProgram : CheckError → FileTree → Type 0
HasNoProgram (errors.Refused code at) file = (program : Program) → ProgramOf file program → ⊥
HasNoProgram errors.Memory file = Unit {0}
