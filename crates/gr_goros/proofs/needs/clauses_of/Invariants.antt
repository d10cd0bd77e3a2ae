use Rattle.std.proofs.Common.{◌≡◌, length, vec_len, vec_capacity}
use Rattle.gr_code.specs.Instructions.{clauses_of}
use Rattle.gr_code.specs.CodeViews.{arms_of}
use Rattle.gr_goros.proofs.NeedLemmas.{Choosing}
use Rattle.gr_goros.proofs.needs.clauses_of.Given as goal

abbrev pub invariant-loop-arm : goal.invariant-loop-arm
invariant-loop-arm l =
    Choosing l.cells l.arms (clauses_of l.cells (arms_of l.arms)) l.arm-index l.clauses.items
    × (vec_len l.clauses ≡ l.arm-index)
    × (vec_capacity l.clauses ≡ length l.arms)
