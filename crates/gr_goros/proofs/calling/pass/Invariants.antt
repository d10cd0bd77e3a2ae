use Rattle.gr_code.specs.CodeViews.{operands_of}
use Rattle.gr_goros.specs.Calls.{passed}
use Rattle.gr_goros.proofs.CallLemmas.{Passing}
use Rattle.gr_goros.proofs.calling.pass.Given as goal

-- the arguments so far have come to stand in the cells
abbrev pub invariant-loop-number : goal.invariant-loop-number
invariant-loop-number l =
    Passing l.own l.operands l.parameters (passed l.own (operands_of l.operands) l.parameters l.initial.cells.items) l.number l.cells.items
