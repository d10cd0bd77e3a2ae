use Rattle.gr_code.proofs.Plugs.{plugged_all}
use Rattle.gr_code.proofs.Clearing.{cleared_all}
use Rattle.gr_code.proofs.Bounding.{bounded_all}
use Rattle.gr_code.proofs.Passing.{counted_all, ends_all, keeps_all}
use Rattle.gr_code.proofs.Beginning.{begins_all}
use Rattle.gr_code.proofs.law_of_plugging.Goals as goal

pub returns-clause-plugged : goal.returns-clause-plugged
returns-clause-plugged c = plugged_all

pub returns-clause-cleared : goal.returns-clause-cleared
returns-clause-cleared c = cleared_all

pub returns-clause-bounded : goal.returns-clause-bounded
returns-clause-bounded c = bounded_all

pub returns-clause-counted : goal.returns-clause-counted
returns-clause-counted c = counted_all

pub returns-clause-begins : goal.returns-clause-begins
returns-clause-begins c = begins_all

pub returns-clause-passes : goal.returns-clause-passes
returns-clause-passes c = λ d n ts es h. keeps_all d ts n es h

pub returns-clause-ends : goal.returns-clause-ends
returns-clause-ends c = ends_all
