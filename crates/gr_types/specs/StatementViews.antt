-- Clauses of the code, without where they lie in memory.
use Rattle.std.specs.Prelude.{List, [], ◌∷◌}
use Rattle.gr_tree.specs.declared.stmt.Clause as code_clause
use Rattle.gr_tree.specs.declared.stmt.Clause.TheVariants as clauses
use Rattle.gr_tree.specs.Statements.{Statements, Clauses, closed, default, case, comm_of, row_statements}

abbrev pub clause_body : code_clause.Clause → Statements
clause_body (clauses.Default' shape body) = row_statements body
clause_body (clauses.Case' communication shape body) = row_statements body

abbrev pub clauses_of : List code_clause.Clause → Clauses
clauses_of [] = closed
clauses_of (clauses.Default' shape body ∷ others) = default (row_statements body) (clauses_of others)
clauses_of (clauses.Case' communication shape body ∷ others) = case (comm_of communication) (row_statements body) (clauses_of others)
