use Rattle.std.proofs.Common.{◌+◌, ◌*◌}
use Rattle.gr_syntax.proofs.types.+types.Given as goal

abbrev pub decreases-type_tree : goal.decreases-type_tree
decreases-type_tree l = 2 * l.limit

abbrev pub decreases-channel : goal.decreases-channel
decreases-channel l = 2 * l.below + 1

abbrev pub decreases-paren_type : goal.decreases-paren_type
decreases-paren_type l = 2 * l.below + 1
