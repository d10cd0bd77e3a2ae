use Rattle.std.proofs.Common.{◌+◌, ◌<◌, ◌∷◌, length, drop, inl, inr, rules, arith, ap, ◌∙◌, sym}
use Rattle.gr_tree.specs.Statements.{then, statement_of, statements_of}
use Rattle.gr_typing.specs.Labels.{uses_in, uses_of, uses_among}
use Rattle.gr_types.specs.StatementViews.{clause_body, clauses_of}
use Rattle.gr_types.specs.LabelTables.{names_of, with_names}
use Rattle.gr_types.proofs.LabelNames.{names_on, uses_clause}
use Rattle.gr_types.proofs.TreeRows.{drop_first, drop_clause, block_is, if_is, for_is, else_is, else_if_is, select_is, body_is}
use Rattle.gr_types.proofs.labels.+gathering.Goals as goal

pub gather-loop-statement-preserved : goal.gather-loop-statement-preserved
gather-loop-statement-preserved t c =
    let i = c.loop-statement.statement-index in
    let ss = c.args.statements.now in
    let s = c.statement-item.result in
    let lt : i < length ss = omega arith in
    let rest = statements_of (drop (i + 1) ss) in
    let before = names_of c.loop-statement.used in
    let e = drop_first ss i s lt ∙ ap (λ x. then (statement_of x) rest) (sym c.statement-item.is) in
    ap (λ n. with_names n (uses_in rest)) c.in_ok-gather_one.ensures ∙ sym (names_on before (uses_of (statement_of s)) (uses_in rest)) ∙ sym (ap (λ x. with_names before (uses_in x)) e) ∙ c.loop-statement.invariant

pub gather_clauses-loop-clause-preserved : goal.gather_clauses-loop-clause-preserved
gather_clauses-loop-clause-preserved t c =
    let i = c.loop-clause.clause-index in
    let ks = c.args.clauses.now in
    let k = c.clause-item.result in
    let lt : i < length ks = omega arith in
    let rest = drop (i + 1) ks in
    let before = names_of c.loop-clause.used in
    let e = drop_clause ks i k lt ∙ ap (λ x. clauses_of (x ∷ rest)) (sym c.clause-item.is) in
    ap (λ n. with_names n (uses_among (clauses_of rest))) c.in_ok-gather_clause.ensures ∙ sym (names_on before (uses_in (clause_body k)) (uses_among (clauses_of rest))) ∙ sym (ap (with_names before) (ap uses_among e ∙ uses_clause k rest)) ∙ c.loop-clause.invariant

pub gather_clause-returns : goal.gather_clause-returns
gather_clause-returns t c = rw (body_is c.args.clause.now c.in-Default.body c.in-Default.is) (search rules)

pub gather_one-returns-in_ok-gather-in-IfElse : goal.gather_one-returns-in_ok-gather-in-IfElse
gather_one-returns-in_ok-gather-in-IfElse t c =
    let v = c.in-IfElse.body in
    let w = c.in-IfElse.otherwise in
    let e = ap statement_of c.in-IfElse.is ∙ else_is c.in-IfElse.field-0 c.in-IfElse.field-1 v w in
    let f = names_on (names_of c.args.used.now) (uses_in (statements_of v.items)) (uses_in (statements_of w.items)) in
    rw e (rw f (search rules))

pub gather_one-returns-in_ok-gather-in-IfElseIf : goal.gather_one-returns-in_ok-gather-in-IfElseIf
gather_one-returns-in_ok-gather-in-IfElseIf t c =
    let v = c.in-IfElseIf.body in
    let s = c.in-IfElseIf.otherwise in
    let e = ap statement_of c.in-IfElseIf.is ∙ else_if_is c.in-IfElseIf.field-0 c.in-IfElseIf.field-1 v s in
    let f = names_on (names_of c.args.used.now) (uses_in (statements_of v.items)) (uses_of (statement_of s.value)) in
    rw e (rw f (search rules))

pub gather_one-returns-in-Select : goal.gather_one-returns-in-Select
gather_one-returns-in-Select t c =
    let e = ap statement_of c.in-Select.is ∙ select_is c.in-Select.field-0 c.in-Select.clauses in
    rw e (search rules)

pub gather_one-returns-in-Block : goal.gather_one-returns-in-Block
gather_one-returns-in-Block t c = elim c.in-Block.is [
  | inl (p, e) ↦ rw (ap statement_of e ∙ block_is p c.in-Block.body) (search rules)
  | inr (inl (p, h, e)) ↦ rw (ap statement_of e ∙ if_is p h c.in-Block.body) (search rules)
  | inr (inr (p, h, e)) ↦ rw (ap statement_of e ∙ for_is p h c.in-Block.body) (search rules)
]
