use Rattle.gr_tree.specs.Files.{file_of}
use Rattle.gr_types.proofs.Reading.{program_found, none_found}
use Rattle.gr_types.proofs.check.check.Goals as goal

pub returns-clause-program : goal.returns-clause-program
returns-clause-program c = program_found (file_of c.args.file) c.read.result c.read.ensures

pub returns-clause-none : goal.returns-clause-none
returns-clause-none c = none_found (file_of c.args.file) c.read.result c.read.ensures
