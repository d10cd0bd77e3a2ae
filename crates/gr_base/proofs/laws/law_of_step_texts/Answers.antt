use Rattle.gr_base.proofs.Readings.{step_reads}
use Rattle.gr_base.proofs.laws.law_of_step_texts.Goals as goal

pub returns : goal.returns
returns c = step_reads
