use Rattle.gr_base.proofs.Readings.{go_reads}
use Rattle.gr_base.proofs.laws.law_of_go_texts.Goals as goal

pub returns : goal.returns
returns c = go_reads
