use Rattle.std.proofs.Common.{inl, inr, rules, ap, ◌∙◌}
use Rattle.gr_tree.specs.Statements.{statement_of}
use Rattle.gr_types.proofs.TreeRows.{block_is, if_is, else_is, else_if_is, for_is, select_is, body_is}
use Rattle.gr_types.proofs.endings.+breaking.Goals as goal

pub breaks-returns-then-breaks_in : goal.breaks-returns-then-breaks_in
breaks-returns-then-breaks_in t c =
    let e = ap statement_of c.in-IfElse.is ∙ else_is c.in-IfElse.field-0 c.in-IfElse.field-1 c.in-IfElse.body c.in-IfElse.otherwise in
    rw e (search rules)

pub breaks-returns-else-breaks_in : goal.breaks-returns-else-breaks_in
breaks-returns-else-breaks_in t c =
    let e = ap statement_of c.in-IfElse.is ∙ else_is c.in-IfElse.field-0 c.in-IfElse.field-1 c.in-IfElse.body c.in-IfElse.otherwise in
    rw e (search rules)

pub breaks-returns-then-breaks_in-2 : goal.breaks-returns-then-breaks_in-2
breaks-returns-then-breaks_in-2 t c =
    let e = ap statement_of c.in-IfElseIf.is ∙ else_if_is c.in-IfElseIf.field-0 c.in-IfElseIf.field-1 c.in-IfElseIf.body c.in-IfElseIf.otherwise in
    rw e (search rules)

pub breaks-returns-else-breaks_in-2 : goal.breaks-returns-else-breaks_in-2
breaks-returns-else-breaks_in-2 t c =
    let e = ap statement_of c.in-IfElseIf.is ∙ else_if_is c.in-IfElseIf.field-0 c.in-IfElseIf.field-1 c.in-IfElseIf.body c.in-IfElseIf.otherwise in
    rw e (search rules)

pub breaks-returns-in-For : goal.breaks-returns-in-For
breaks-returns-in-For t c =
    let e = ap statement_of c.in-For.is ∙ for_is c.in-For.field-0 c.in-For.field-1 c.in-For.body in
    rw e (search rules)

pub breaks-returns-in-Select : goal.breaks-returns-in-Select
breaks-returns-in-Select t c =
    let e = ap statement_of c.in-Select.is ∙ select_is c.in-Select.field-0 c.in-Select.clauses in
    rw e (search rules)

pub breaks-returns-in-Block : goal.breaks-returns-in-Block
breaks-returns-in-Block t c = elim c.in-Block.is [
  | inl (p, e) ↦ rw (ap statement_of e ∙ block_is p c.in-Block.body) (search rules)
  | inr (p, h, e) ↦ rw (ap statement_of e ∙ if_is p h c.in-Block.body) (search rules)
]

pub breaks_clause-returns : goal.breaks_clause-returns
breaks_clause-returns t c = rw (body_is c.args.clause.now c.in-Default.body c.in-Default.is) (search rules)
