use Rattle.std.proofs.Common.{◌≡◌, ◌+◌, ◌*◌, ◌≤◌, length}
use Rattle.gr_scan.specs.Tokens.{tokens_of}
use Rattle.gr_tree.specs.Statements.{statements_of}
use Rattle.gr_syntax.specs.Reading.{loop}
use Rattle.gr_syntax.specs.StatementReading.{list_turn, list_at, clause_turn, clauses_at, statement_at}
use Rattle.gr_syntax.specs.CodeViews.{clauses_of}
use Rattle.gr_syntax.proofs.+statement.Given as goal

abbrev pub decreases-statement::statement : goal.decreases-statement::statement
decreases-statement::statement l = 8 * l.limit

abbrev pub decreases-statement::list : goal.decreases-statement::list
decreases-statement::list l = 8 * l.limit + 1

abbrev pub decreases-statement::block : goal.decreases-statement::block
decreases-statement::block l = 8 * l.limit + 2

abbrev pub decreases-selecting::clause_body : goal.decreases-selecting::clause_body
decreases-selecting::clause_body l = 8 * l.limit + 2

abbrev pub decreases-selecting::clauses : goal.decreases-selecting::clauses
decreases-selecting::clauses l = 8 * l.limit + 3

abbrev pub decreases-statement::labelled : goal.decreases-statement::labelled
decreases-statement::labelled l = 8 * l.below + 1

abbrev pub decreases-statement::named : goal.decreases-statement::named
decreases-statement::named l = 8 * l.below + 2

abbrev pub decreases-statement::opened : goal.decreases-statement::opened
decreases-statement::opened l = 8 * l.below + 3

abbrev pub decreases-statement::braced : goal.decreases-statement::braced
decreases-statement::braced l = 8 * l.below + 3

abbrev pub decreases-statement::otherwise : goal.decreases-statement::otherwise
decreases-statement::otherwise l = 8 * l.below + 3

abbrev pub decreases-statement::looped : goal.decreases-statement::looped
decreases-statement::looped l = 8 * l.below + 3

abbrev pub decreases-selecting::select : goal.decreases-selecting::select
decreases-selecting::select l = 8 * l.below + 4

abbrev pub decreases-statement::branch : goal.decreases-statement::branch
decreases-statement::branch l = 8 * l.below + 4

abbrev pub decreases-statement::keyed : goal.decreases-statement::keyed
decreases-statement::keyed l = 8 * l.below + 5

abbrev pub invariant-statement::list-loop-alloc : goal.invariant-statement::list-loop-alloc
invariant-statement::list-loop-alloc l = record {
  gives : loop (list_turn (statement_at l.limit)) (statements_of l.found.value.items, l.found.height, tokens_of l.found.rest.now) ≡ list_at (statement_at l.fn.limit) (tokens_of l.fn.tokens);
  fits : l.found.height ≤ l.limit;
}

abbrev pub decreases-statement::list-loop-alloc : goal.decreases-statement::list-loop-alloc
decreases-statement::list-loop-alloc l = length l.found.rest.now

abbrev pub invariant-selecting::clauses-loop-more : goal.invariant-selecting::clauses-loop-more
invariant-selecting::clauses-loop-more l = record {
  gives : loop (clause_turn l.limit (statement_at l.limit)) (clauses_of l.found.value.items, l.found.height, tokens_of l.found.rest.now) ≡ clauses_at l.fn.limit (statement_at l.fn.limit) (tokens_of l.fn.tokens);
  fits : l.found.height ≤ l.limit;
}

abbrev pub decreases-selecting::clauses-loop-more : goal.decreases-selecting::clauses-loop-more
decreases-selecting::clauses-loop-more l = length l.found.rest.now
