use Rattle.gr_types.proofs.FindsFiles.{one_program}
use Rattle.gr_types.proofs.laws.one_program.Goals as goal

-- src/laws.rt:15:1
pub returns : goal.returns
returns c = one_program
