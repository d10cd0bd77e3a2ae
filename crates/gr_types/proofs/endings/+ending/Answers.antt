use Rattle.std.proofs.Common.{◌≡◌, ℕ, zero, suc, ◌+◌, ◌-◌, List, [], ◌∷◌, length, rules, arith, ap, ◌∙◌, sym}
use Rattle.std.specs.Prelude.{Some, None, slice_get}
use Rattle.gr_tree.specs.declared.stmt.Stmt as rows
use Rattle.gr_tree.specs.Statements.{statement_of, statements_of}
use Rattle.gr_typing.specs.Endings.{ends, terminates}
use Rattle.gr_types.proofs.TreeRows.{block_is, else_is, else_if_is, for_is, select_is, body_is}
use Rattle.gr_types.proofs.endings.+ending.Goals as goal

same : {A : Type 0} (a b : A) → Some a ≡ Some b → a ≡ b
same a b e = cc

-- the last statement decides
at_last : (ss : List rows.Stmt) (n : ℕ) (s : rows.Stmt) → n + 1 ≡ length ss → Some s ≡ slice_get ss n → ends (statements_of ss) ≡ terminates None (statement_of s)
at_last [] n s l e = absurd (omega (arith, l))
at_last (x ∷ []) zero s l e = ap (λ y. terminates None (statement_of y)) (sym (same s x e))
at_last (x ∷ []) (suc n) s l e = absurd (omega (arith, l))
at_last (x ∷ y ∷ ss) zero s l e = absurd (omega (arith, l))
at_last (x ∷ y ∷ ss) (suc n) s l e = at_last (y ∷ ss) n s (omega (arith, l)) e

some_at : (ss : List rows.Stmt) (s : rows.Stmt) → Some s ≡ slice_get ss (length ss - 1) → length ss - 1 + 1 ≡ length ss
some_at [] s e = absurd cc
some_at (x ∷ ss) s e = omega arith

pub clause_ends-returns : goal.clause_ends-returns
clause_ends-returns t c = rw (body_is c.args.clause.now c.in-Default.body c.in-Default.is) (search rules)

pub ends-returns-in-Some : goal.ends-returns-in-Some
ends-returns-in-Some t c =
    let ss = c.args.statements.now in
    let s = c.in-Some.last.now in
    let e = c.in-Some.ensures.value in
    c.terminates.ensures ∙ sym (at_last ss (length ss - 1) s (some_at ss s e) e)

pub terminates-returns-in-Block : goal.terminates-returns-in-Block
terminates-returns-in-Block t c =
    let e = ap statement_of c.in-Block.is ∙ block_is c.in-Block.field-0 c.in-Block.body in
    rw e (search rules)

pub terminates-returns-then-ends : goal.terminates-returns-then-ends
terminates-returns-then-ends t c =
    let e = ap statement_of c.in-IfElse.is ∙ else_is c.in-IfElse.field-0 c.in-IfElse.field-1 c.in-IfElse.body c.in-IfElse.otherwise in
    rw e (search rules)

pub terminates-returns-else-ends : goal.terminates-returns-else-ends
terminates-returns-else-ends t c =
    let e = ap statement_of c.in-IfElse.is ∙ else_is c.in-IfElse.field-0 c.in-IfElse.field-1 c.in-IfElse.body c.in-IfElse.otherwise in
    rw e (search rules)

pub terminates-returns-then-ends-2 : goal.terminates-returns-then-ends-2
terminates-returns-then-ends-2 t c =
    let e = ap statement_of c.in-IfElseIf.is ∙ else_if_is c.in-IfElseIf.field-0 c.in-IfElseIf.field-1 c.in-IfElseIf.body c.in-IfElseIf.otherwise in
    rw e (search rules)

pub terminates-returns-else-ends-2 : goal.terminates-returns-else-ends-2
terminates-returns-else-ends-2 t c =
    let e = ap statement_of c.in-IfElseIf.is ∙ else_if_is c.in-IfElseIf.field-0 c.in-IfElseIf.field-1 c.in-IfElseIf.body c.in-IfElseIf.otherwise in
    rw e (search rules)

pub terminates-returns-then-is_endless : goal.terminates-returns-then-is_endless
terminates-returns-then-is_endless t c =
    let e = ap statement_of c.in-For.is ∙ for_is c.in-For.field-0 c.in-For.head c.in-For.body in
    rw e (search rules)

pub terminates-returns-then-all_end : goal.terminates-returns-then-all_end
terminates-returns-then-all_end t c =
    let e = ap statement_of c.in-Select.is ∙ select_is c.in-Select.field-0 c.in-Select.clauses in
    rw e (search rules)

pub terminates-returns-else-all_end : goal.terminates-returns-else-all_end
terminates-returns-else-all_end t c =
    let e = ap statement_of c.in-Select.is ∙ select_is c.in-Select.field-0 c.in-Select.clauses in
    rw e (search rules)
