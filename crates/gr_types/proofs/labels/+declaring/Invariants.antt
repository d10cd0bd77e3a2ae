use Rattle.std.proofs.Common.{◌≡◌, ◌++◌, drop}
use Rattle.gr_tree.specs.Statements.{statements_of}
use Rattle.gr_typing.specs.Labels.{labels_in, labels_among}
use Rattle.gr_types.specs.StatementViews.{clauses_of}
use Rattle.gr_types.specs.LabelTables.{names_of, fit_after}
use Rattle.gr_types.proofs.labels.+declaring.Given as goal

abbrev pub invariant-declare_all-loop-statement : goal.invariant-declare_all-loop-statement
invariant-declare_all-loop-statement l =
    let rest = labels_in (statements_of (drop l.statement-index l.statements)) in
    let whole = labels_in (statements_of l.statements) in
    (fit_after (names_of l.used) (names_of l.declared) rest ≡ fit_after (names_of l.used) (names_of l.fn.declared) whole) × (names_of l.declared ++ rest ≡ names_of l.fn.declared ++ whole)

abbrev pub invariant-declare_clauses-loop-clause : goal.invariant-declare_clauses-loop-clause
invariant-declare_clauses-loop-clause l =
    let rest = labels_among (clauses_of (drop l.clause-index l.clauses)) in
    let whole = labels_among (clauses_of l.clauses) in
    (fit_after (names_of l.used) (names_of l.declared) rest ≡ fit_after (names_of l.used) (names_of l.fn.declared) whole) × (names_of l.declared ++ rest ≡ names_of l.fn.declared ++ whole)
