use Rattle.std.proofs.Common.{◌+◌, ◌<◌, ◌∷◌, ◌++◌, length, drop, inl, inr, rules, arith, ap, ◌∙◌, sym}
use Rattle.gr_tree.specs.Statements.{then, statement_of, statements_of}
use Rattle.gr_typing.specs.Labels.{labels_in, labels_of, labels_among}
use Rattle.gr_types.specs.StatementViews.{clause_body, clauses_of}
use Rattle.gr_types.specs.LabelTables.{names_of, fit_after}
use Rattle.gr_types.proofs.LabelNames.{unfit_on, fit_next, names_next, none_false, none_true, labels_clause}
use Rattle.gr_types.proofs.TreeRows.{drop_first, drop_clause, block_is, if_is, for_is, else_is, else_if_is, select_is, body_is}
use Rattle.gr_types.proofs.labels.+declaring.Goals as goal

pub declare_all-returns-then-is_some-clause-fits : goal.declare_all-returns-then-is_some-clause-fits
declare_all-returns-then-is_some-clause-fits t c =
    let i = c.loop-statement.statement-index in
    let ss = c.args.statements.now in
    let s = c.statement-item.result in
    let lt : i < length ss = omega arith in
    let rest = statements_of (drop (i + 1) ss) in
    let used = names_of c.args.used.now in
    let before = names_of c.loop-statement.declared in
    let e = ap labels_in (drop_first ss i s lt ∙ ap (λ x. then (statement_of x) rest) (sym c.statement-item.is)) in
    let n = none_false c.in_ok-unfit.unfit (sym c.is_some.ensures ∙ c.if-is_some.true) in
    n ∙ sym (sym c.loop-statement.invariant.0 ∙ ap (fit_after used before) e ∙ unfit_on used before (labels_of (statement_of s)) (labels_in rest) _ n c.in_ok-unfit.ensures.fits)

pub declare_all-loop-statement-preserved : goal.declare_all-loop-statement-preserved
declare_all-loop-statement-preserved t c =
    let i = c.loop-statement.statement-index in
    let ss = c.args.statements.now in
    let s = c.statement-item.result in
    let lt : i < length ss = omega arith in
    let rest = statements_of (drop (i + 1) ss) in
    let used = names_of c.args.used.now in
    let before = names_of c.loop-statement.declared in
    let own = labels_of (statement_of s) in
    let e = ap labels_in (drop_first ss i s lt ∙ ap (λ x. then (statement_of x) rest) (sym c.statement-item.is)) in
    let n = none_true c.in_ok-unfit.unfit (sym c.is_some.ensures ∙ c.if-is_some.false) in
    let m = c.in_ok-unfit.ensures.names n in (
      sym (fit_next used before own (labels_in rest) (names_of c.declare_one.new.declared) _ n c.in_ok-unfit.ensures.fits m) ∙ sym (ap (fit_after used before) e) ∙ c.loop-statement.invariant.0,
      names_next before own (labels_in rest) (names_of c.declare_one.new.declared) m ∙ sym (ap (λ l. before ++ l) e) ∙ c.loop-statement.invariant.1,
    )

pub declare_clause-returns-clause-fits : goal.declare_clause-returns-clause-fits
declare_clause-returns-clause-fits t c = rw (body_is c.args.clause.now c.in-Default.body c.in-Default.is) (search rules)

pub declare_clause-returns-clause-names : goal.declare_clause-returns-clause-names
declare_clause-returns-clause-names t c = rw (body_is c.args.clause.now c.in-Default.body c.in-Default.is) (search rules)

pub declare_clauses-returns-then-is_some-clause-fits : goal.declare_clauses-returns-then-is_some-clause-fits
declare_clauses-returns-then-is_some-clause-fits t c =
    let i = c.loop-clause.clause-index in
    let ks = c.args.clauses.now in
    let k = c.clause-item.result in
    let lt : i < length ks = omega arith in
    let rest = drop (i + 1) ks in
    let used = names_of c.args.used.now in
    let before = names_of c.loop-clause.declared in
    let e = ap labels_among (drop_clause ks i k lt ∙ ap (λ x. clauses_of (x ∷ rest)) (sym c.clause-item.is)) ∙ labels_clause k rest in
    let n = none_false c.in_ok-unfit.unfit (sym c.is_some.ensures ∙ c.if-is_some.true) in
    n ∙ sym (sym c.loop-clause.invariant.0 ∙ ap (fit_after used before) e ∙ unfit_on used before (labels_in (clause_body k)) (labels_among (clauses_of rest)) _ n c.in_ok-unfit.ensures.fits)

pub declare_clauses-loop-clause-preserved : goal.declare_clauses-loop-clause-preserved
declare_clauses-loop-clause-preserved t c =
    let i = c.loop-clause.clause-index in
    let ks = c.args.clauses.now in
    let k = c.clause-item.result in
    let lt : i < length ks = omega arith in
    let rest = drop (i + 1) ks in
    let used = names_of c.args.used.now in
    let before = names_of c.loop-clause.declared in
    let own = labels_in (clause_body k) in
    let others = labels_among (clauses_of rest) in
    let e = ap labels_among (drop_clause ks i k lt ∙ ap (λ x. clauses_of (x ∷ rest)) (sym c.clause-item.is)) ∙ labels_clause k rest in
    let n = none_true c.in_ok-unfit.unfit (sym c.is_some.ensures ∙ c.if-is_some.false) in
    let m = c.in_ok-unfit.ensures.names n in (
      sym (fit_next used before own others (names_of c.declare_clause.new.declared) _ n c.in_ok-unfit.ensures.fits m) ∙ sym (ap (fit_after used before) e) ∙ c.loop-clause.invariant.0,
      names_next before own others (names_of c.declare_clause.new.declared) m ∙ sym (ap (λ l. before ++ l) e) ∙ c.loop-clause.invariant.1,
    )

pub declare_one-returns-in-Select-clause-fits : goal.declare_one-returns-in-Select-clause-fits
declare_one-returns-in-Select-clause-fits t c =
    let e = ap statement_of c.in-Select.is ∙ select_is c.in-Select.field-0 c.in-Select.clauses in
    rw e (search rules)

pub declare_one-returns-in-Select-clause-names : goal.declare_one-returns-in-Select-clause-names
declare_one-returns-in-Select-clause-names t c =
    let e = ap statement_of c.in-Select.is ∙ select_is c.in-Select.field-0 c.in-Select.clauses in
    rw e (search rules)

pub declare_one-returns-in-Block-clause-fits : goal.declare_one-returns-in-Block-clause-fits
declare_one-returns-in-Block-clause-fits t c = elim c.in-Block.is [
  | inl (p, e) ↦ rw (ap statement_of e ∙ block_is p c.in-Block.body) (search rules)
  | inr (inl (p, h, e)) ↦ rw (ap statement_of e ∙ if_is p h c.in-Block.body) (search rules)
  | inr (inr (p, h, e)) ↦ rw (ap statement_of e ∙ for_is p h c.in-Block.body) (search rules)
]

pub declare_one-returns-in-Block-clause-names : goal.declare_one-returns-in-Block-clause-names
declare_one-returns-in-Block-clause-names t c = elim c.in-Block.is [
  | inl (p, e) ↦ rw (ap statement_of e ∙ block_is p c.in-Block.body) (search rules)
  | inr (inl (p, h, e)) ↦ rw (ap statement_of e ∙ if_is p h c.in-Block.body) (search rules)
  | inr (inr (p, h, e)) ↦ rw (ap statement_of e ∙ for_is p h c.in-Block.body) (search rules)
]

pub declare_one-returns-then-is_some-clause-fits : goal.declare_one-returns-then-is_some-clause-fits
declare_one-returns-then-is_some-clause-fits t c =
    let v = c.in-IfElse.body in
    let w = c.in-IfElse.otherwise in
    let used = names_of c.args.used.now in
    let before = names_of c.args.declared.now in
    let e = ap labels_of (ap statement_of c.in-IfElse.is ∙ else_is c.in-IfElse.field-0 c.in-IfElse.field-1 v w) in
    let n = none_false c.in_ok-unfit-in-IfElse.unfit (sym c.is_some.ensures ∙ c.if-is_some.true) in
    let f = c.in_ok-unfit-in-IfElse.ensures.fits ∙ ap (λ x. fit_after used before (labels_in (statements_of x))) c.deref.ensures.value in
    n ∙ sym (ap (fit_after used before) e ∙ unfit_on used before (labels_in (statements_of v.items)) (labels_in (statements_of w.items)) _ n f)

pub declare_one-returns-then-is_some-2-clause-fits : goal.declare_one-returns-then-is_some-2-clause-fits
declare_one-returns-then-is_some-2-clause-fits t c =
    let v = c.in-IfElseIf.body in
    let s = c.in-IfElseIf.otherwise in
    let used = names_of c.args.used.now in
    let before = names_of c.args.declared.now in
    let e = ap labels_of (ap statement_of c.in-IfElseIf.is ∙ else_if_is c.in-IfElseIf.field-0 c.in-IfElseIf.field-1 v s) in
    let n = none_false c.in_ok-unfit-in-IfElseIf.unfit (sym c.is_some-in-IfElseIf.ensures ∙ c.if-is_some-2.true) in
    let f = c.in_ok-unfit-in-IfElseIf.ensures.fits ∙ ap (λ x. fit_after used before (labels_in (statements_of x))) c.deref-in-IfElseIf.ensures.value in
    n ∙ sym (ap (fit_after used before) e ∙ unfit_on used before (labels_in (statements_of v.items)) (labels_of (statement_of s.value)) _ n f)

pub declare_one-returns-else-is_some-clause-fits : goal.declare_one-returns-else-is_some-clause-fits
declare_one-returns-else-is_some-clause-fits t c =
    let v = c.in-IfElse.body in
    let w = c.in-IfElse.otherwise in
    let used = names_of c.args.used.now in
    let before = names_of c.args.declared.now in
    let mid = names_of c.declare_all.new.declared in
    let own = labels_in (statements_of v.items) in
    let e = ap labels_of (ap statement_of c.in-IfElse.is ∙ else_is c.in-IfElse.field-0 c.in-IfElse.field-1 v w) in
    let n = none_true c.in_ok-unfit-in-IfElse.unfit (sym c.is_some.ensures ∙ c.if-is_some.false) in
    let f = c.in_ok-unfit-in-IfElse.ensures.fits ∙ ap (λ x. fit_after used before (labels_in (statements_of x))) c.deref.ensures.value in
    let m = c.in_ok-unfit-in-IfElse.ensures.names n ∙ ap (λ x. before ++ labels_in (statements_of x)) c.deref.ensures.value in
    let g = ap (fit_after used before) e ∙ fit_next used before own (labels_in (statements_of w.items)) mid _ n f m in
    rw g (search rules)

pub declare_one-returns-else-is_some-clause-names : goal.declare_one-returns-else-is_some-clause-names
declare_one-returns-else-is_some-clause-names t c =
    let v = c.in-IfElse.body in
    let w = c.in-IfElse.otherwise in
    let before = names_of c.args.declared.now in
    let mid = names_of c.declare_all.new.declared in
    let own = labels_in (statements_of v.items) in
    let e = ap labels_of (ap statement_of c.in-IfElse.is ∙ else_is c.in-IfElse.field-0 c.in-IfElse.field-1 v w) in
    let n = none_true c.in_ok-unfit-in-IfElse.unfit (sym c.is_some.ensures ∙ c.if-is_some.false) in
    let m = c.in_ok-unfit-in-IfElse.ensures.names n ∙ ap (λ x. before ++ labels_in (statements_of x)) c.deref.ensures.value in
    let g = ap (λ l. before ++ l) e ∙ sym (names_next before own (labels_in (statements_of w.items)) mid m) in
    rw g (search rules)

pub declare_one-returns-else-is_some-2-clause-fits : goal.declare_one-returns-else-is_some-2-clause-fits
declare_one-returns-else-is_some-2-clause-fits t c =
    let v = c.in-IfElseIf.body in
    let s = c.in-IfElseIf.otherwise in
    let used = names_of c.args.used.now in
    let before = names_of c.args.declared.now in
    let mid = names_of c.declare_all-in-IfElseIf.new.declared in
    let own = labels_in (statements_of v.items) in
    let e = ap labels_of (ap statement_of c.in-IfElseIf.is ∙ else_if_is c.in-IfElseIf.field-0 c.in-IfElseIf.field-1 v s) in
    let n = none_true c.in_ok-unfit-in-IfElseIf.unfit (sym c.is_some-in-IfElseIf.ensures ∙ c.if-is_some-2.false) in
    let f = c.in_ok-unfit-in-IfElseIf.ensures.fits ∙ ap (λ x. fit_after used before (labels_in (statements_of x))) c.deref-in-IfElseIf.ensures.value in
    let m = c.in_ok-unfit-in-IfElseIf.ensures.names n ∙ ap (λ x. before ++ labels_in (statements_of x)) c.deref-in-IfElseIf.ensures.value in
    let g = ap (fit_after used before) e ∙ fit_next used before own (labels_of (statement_of s.value)) mid _ n f m in
    rw g (search rules)

pub declare_one-returns-else-is_some-2-clause-names : goal.declare_one-returns-else-is_some-2-clause-names
declare_one-returns-else-is_some-2-clause-names t c =
    let v = c.in-IfElseIf.body in
    let s = c.in-IfElseIf.otherwise in
    let before = names_of c.args.declared.now in
    let mid = names_of c.declare_all-in-IfElseIf.new.declared in
    let own = labels_in (statements_of v.items) in
    let e = ap labels_of (ap statement_of c.in-IfElseIf.is ∙ else_if_is c.in-IfElseIf.field-0 c.in-IfElseIf.field-1 v s) in
    let n = none_true c.in_ok-unfit-in-IfElseIf.unfit (sym c.is_some-in-IfElseIf.ensures ∙ c.if-is_some-2.false) in
    let m = c.in_ok-unfit-in-IfElseIf.ensures.names n ∙ ap (λ x. before ++ labels_in (statements_of x)) c.deref-in-IfElseIf.ensures.value in
    let g = ap (λ l. before ++ l) e ∙ sym (names_next before own (labels_of (statement_of s.value)) mid m) in
    rw g (search rules)
