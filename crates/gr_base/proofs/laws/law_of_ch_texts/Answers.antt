use Rattle.gr_base.proofs.Readings.{ch_reads}
use Rattle.gr_base.proofs.laws.law_of_ch_texts.Goals as goal

pub returns : goal.returns
returns c = ch_reads
