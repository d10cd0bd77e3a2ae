use Rattle.gr_scan.proofs.Rising.{tokens_rise}
use Rattle.gr_scan.proofs.scan.tokens_in_order.Goals as goal

pub returns : goal.returns
returns c = tokens_rise
