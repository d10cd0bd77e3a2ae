use Rattle.std.proofs.Common.{◌≡◌, length}
use Rattle.gr_typing.specs.Scopes.{in_blocks}
use Rattle.gr_exprs.specs.Tables.{blocks_of}
use Rattle.gr_exprs.proofs.scope.number_in.Given as goal

abbrev pub invariant-loop-last : goal.invariant-loop-last
invariant-loop-last l = in_blocks (blocks_of l.blocks) l.name ≡ in_blocks (blocks_of l.initial.blocks) l.name

abbrev pub decreases-loop-last : goal.decreases-loop-last
decreases-loop-last l = length l.blocks
