use Rattle.gr_scan.proofs.Goes.{one_list}
use Rattle.gr_scan.proofs.scan.one_list.Goals as goal

pub returns : goal.returns
returns c = one_list
