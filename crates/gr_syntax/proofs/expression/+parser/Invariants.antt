use Rattle.std.proofs.Common.{◌≡◌, ◌+◌, ◌*◌, ◌≤◌, length}
use Rattle.gr_scan.specs.Tokens.{tokens_of}
use Rattle.gr_tree.specs.Exprs.{tree_of, trees_of}
use Rattle.gr_syntax.specs.Reading.{loop, expr_at, chain_turn, exprs_turn, exprs_at}
use Rattle.gr_syntax.specs.Views.{found_of}
use Rattle.gr_syntax.proofs.expression.+parser.Given as goal

abbrev pub decreases-expr : goal.decreases-expr
decreases-expr l = 8 * l.limit

abbrev pub decreases-exprs : goal.decreases-exprs
decreases-exprs l = 8 * l.limit + 1

abbrev pub decreases-arguments : goal.decreases-arguments
decreases-arguments l = 8 * l.limit + 2

abbrev pub decreases-sized : goal.decreases-sized
decreases-sized l = 8 * l.below + 2

abbrev pub decreases-make : goal.decreases-make
decreases-make l = 8 * l.below + 3

abbrev pub decreases-paren : goal.decreases-paren
decreases-paren l = 8 * l.below + 3

abbrev pub decreases-named : goal.decreases-named
decreases-named l = 8 * l.below + 4

abbrev pub decreases-word : goal.decreases-word
decreases-word l = 8 * l.below + 5

abbrev pub decreases-operand : goal.decreases-operand
decreases-operand l = 8 * l.below + 6

abbrev pub invariant-expr-loop-op : goal.invariant-expr-loop-op
invariant-expr-loop-op l = record {
  gives : loop (chain_turn (expr_at l.below) l.below l.level) (found_of tree_of l.left) ≡ expr_at l.fn.limit l.level (tokens_of l.fn.tokens);
  fits : l.left.height ≤ l.limit;
}

abbrev pub decreases-expr-loop-op : goal.decreases-expr-loop-op
decreases-expr-loop-op l = length l.left.rest.now

abbrev pub invariant-exprs-loop-next : goal.invariant-exprs-loop-next
invariant-exprs-loop-next l = record {
  gives : loop (exprs_turn (expr_at l.limit) l.trailing) (trees_of l.found.value.items, l.found.height, tokens_of l.found.rest.now) ≡ exprs_at (expr_at l.fn.limit) l.fn.trailing (tokens_of l.fn.tokens);
  fits : l.found.height ≤ l.limit;
}

abbrev pub decreases-exprs-loop-next : goal.decreases-exprs-loop-next
decreases-exprs-loop-next l = length l.found.rest.now
