use Rattle.gr_channels.proofs.Undoing.{taken_back}
use Rattle.gr_channels.proofs.laws.law_of_undoing.Goals as goal

pub returns : goal.returns
returns c u before after later change valid capacity same = taken_back u before after later change valid capacity same
