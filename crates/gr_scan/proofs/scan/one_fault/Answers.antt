use Rattle.gr_scan.proofs.FirstFaults.{one_fault}
use Rattle.gr_scan.proofs.scan.one_fault.Goals as goal

pub returns : goal.returns
returns c text at a b = one_fault text at a b
