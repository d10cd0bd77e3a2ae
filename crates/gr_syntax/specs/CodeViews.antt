-- What the clauses of a select mean, as the parser's functions hold them. No public clause speaks of it.
use Rattle.std.specs.Prelude.{List, [], ◌∷◌}
use Rattle.gr_tree.specs.declared.stmt.Clause.{Clause}
use Rattle.gr_tree.specs.declared.stmt.Clause.TheVariants as clauses
use Rattle.gr_tree.specs.Statements.{Clauses, closed, default, case, comm_of, row_statements}

abbrev pub clauses_of : List Clause → Clauses
clauses_of [] = closed
clauses_of (clauses.Default' shape body ∷ others) = default (row_statements body) (clauses_of others)
clauses_of (clauses.Case' communication shape body ∷ others) = case (comm_of communication) (row_statements body) (clauses_of others)
