-- Statements that the checker takes have code, those too that control never comes to.
use Rattle.std.proofs.Common.{◌≡◌, ℕ, true, List, [], ◌∷◌, length, Option, refl, true≢false}
use Rattle.gr_tree.specs.Exprs.{Tree}
use Rattle.gr_tree.specs.Statements as statements
use Rattle.gr_tree.specs.Statements.{Statement, Statements, Clauses}
use Rattle.gr_program.specs.Types.{BoolType, ChanType}
use Rattle.gr_program.specs.Programs.{Expr, Act, Opening, Stmts, stop, then, joined, Cases}
use Rattle.gr_typing.specs.Scopes.{Scope, entered, left}
use Rattle.gr_typing.specs.Values.{Made, has_made}
use Rattle.gr_typing.specs.Contexts.{Around}
use Rattle.gr_typing.specs.Contexts.{Within}
use Rattle.gr_typing.specs.Acts as acts
use Rattle.gr_typing.specs.Acts.{DoesAct}
use Rattle.gr_typing.specs.Statements as judged
use Rattle.gr_typing.specs.Statements.{IsOpening, IsLoopCondition, IsStatement, IsIfHead, IsBody, AreClauses}
use Rattle.gr_rules.specs.Operands.{operand_of}
use Rattle.gr_code.specs.Bounds.{Below, ConditionBelow}
use Rattle.gr_lower.specs.CanLower.{CanAct, CanOpen, CanDoAll, CanDoCases}
use Rattle.type_safety.proofs.Sorts.{Setting}
use Rattle.type_safety.proofs.Promises.{Begins, Grows, goes_straight}
use Rattle.type_safety.proofs.CheckedExprs.{typed_sorted, condition_sorted, receive_sorted, send_sorted}
use Rattle.type_safety.proofs.Growing.{begins_back}
use Rattle.type_safety.proofs.GrowingActs.{opening_grows, target_grows, take_all_new_grows}
use Rattle.type_safety.proofs.TakenValues.{take_all_sorted, take_all_new_sorted, target_sorted}
use Rattle.type_safety.proofs.CheckedActs.{opening_sorted, act_sorted}
use Rattle.type_safety.proofs.CheckedScopes.{Widens, begins_left, begins_entered, grows_wide}
use Rattle.type_safety.proofs.CheckedGrowth.{statement_grows, body_grows, clauses_widen}
use Rattle.type_safety.proofs.NamedVariables.{named_in, named_live}
use Rattle.type_safety.proofs.CodeOfActs as code
use Rattle.type_safety.proofs.CodeOfActs.{targets_below, operand_below, act_can}

joined_can : (n : ℕ) (stmts rest : Stmts) → CanDoAll n stmts → CanDoAll n rest → CanDoAll n (joined stmts rest)
joined_can n stop rest h k = k
joined_can n (then s ss) rest h k = (h.0, joined_can n ss rest h.1 k)

module _ (d : Setting) where
  -- before a block and before a clause, where the variables begin so in it
  before_block : (m n : Scope) → Grows (entered m) n → Begins n d.variables → Begins m d.variables
  before_block m n g begins = begins_entered m d.variables (begins_back (entered m) n d.variables g begins)

  in_clause : (m n : Scope) → Widens (left m) n → Begins n d.variables → Begins m d.variables
  in_clause m n w begins = begins_left m d.variables (begins_back (left m) n d.variables (grows_wide (left m) n w) begins)

  straight_act : (around : List Around) (s n : Scope) (a : statements.Act) (b : Act) → goes_straight a ≡ true
      → DoesAct (Within d.functions d.result around) s a b n → Begins n d.variables → CanAct (length d.variables) b
  straight_act around s n a b straight h begins =
      act_can d
      ((act_sorted d [] (named_in s) around s n a b true h straight (λ e. absurd (true≢false e)) (named_live s) begins).0)

  judged_act : (around : List Around) (s n : Scope) (a : statements.Act) (b : Act)
      → DoesAct (Within d.functions d.result around) s a b n → Begins n d.variables → CanAct (length d.variables) b
  judged_act around s n (statements.Break x) b (acts.break is) begins = (tt, tt)
  judged_act around s n (statements.Continue x) b (acts.continue is) begins = (tt, tt)
  judged_act around s n (statements.Plain a) b h begins = straight_act around s n (statements.Plain a) b refl h begins
  judged_act around s n (statements.Var xs w) b h begins =
      straight_act around s n (statements.Var xs w) b refl h begins
  judged_act around s n (statements.VarValues xs w es) b h begins =
      straight_act around s n (statements.VarValues xs w es) b refl h begins
  judged_act around s n (statements.Go x es) b h begins = straight_act around s n (statements.Go x es) b refl h begins
  judged_act around s n (statements.Return e) b h begins = straight_act around s n (statements.Return e) b refl h begins

  opening_can : {s n : Scope} {heading : Option statements.Heading} {init : Option Opening}
      → IsOpening d.functions s heading init n → Begins n d.variables → CanOpen (length d.variables) init
  opening_can {s} {n} {heading} {init} h begins =
      code.opening_can d ((opening_sorted d [] (named_in s) s n heading init (named_live s) begins h).0)

  condition_below : {s : Scope} {e : Option Tree} {p : Option Expr} → IsLoopCondition d.functions s e p
      → Begins s d.variables → ConditionBelow (length d.variables) p
  condition_below judged.no_condition begins = tt
  condition_below {s = s} (judged.loop_condition {e = e} {p = p} h) begins =
      operand_below d (condition_sorted d (named_in s) s e p (named_live s) begins h)

  head_can : {around : List Around} {s m : Scope} {head : statements.IfHead} {o : Option Opening} {p : Expr}
      → IsIfHead (Within d.functions d.result around) s head o p m → Begins m d.variables
      → CanOpen (length d.variables) o × Below (length d.variables) (operand_of p)
  head_can {m = m} (judged.if_head {condition = e} {p = p} first test) begins = (
    opening_can first begins,
    operand_below d (condition_sorted d (named_in m) m e p (named_live m) begins test),
  )

  mutual
    pub statement_can : {around : List Around} {s n : Scope} {label : Option (List ℕ)} {a : Statement} {stmts : Stmts}
        → IsStatement (Within d.functions d.result around) s label a stmts n → Begins n d.variables
        → CanDoAll (length d.variables) stmts
    statement_can {around} {s} {n} (judged.does {a = a} {b = b} h) begins = (judged_act around s n a b h begins, tt)
    statement_can (judged.block {n = n} b) begins = (body_can b (begins_left n d.variables begins), tt)
    statement_can (judged.if {m = m} {n = n} h b) begins =
        let inner = begins_left n d.variables (begins_left (left n) d.variables begins) in
        let i = head_can h (before_block m n (body_grows b) inner) in
        ((i.0, i.1, body_can b inner, tt), tt)
    statement_can (judged.if_else {m = m} {n = n} {o = o} h b e) begins =
        let inner = begins_left o d.variables (begins_left (left o) d.variables begins) in
        let between = begins_left n d.variables (before_block (left n) o (body_grows e) inner) in
        let i = head_can h (before_block m n (body_grows b) between) in
        ((i.0, i.1, body_can b between, body_can e inner), tt)
    statement_can (judged.if_else_if {m = m} {n = n} {o = o} h b e) begins =
        let inner = begins_left o d.variables begins in
        let between = begins_left n d.variables (begins_back (left n) o d.variables (statement_grows e) inner) in
        let i = head_can h (before_block m n (body_grows b) between) in
        ((i.0, i.1, body_can b between, statement_can e inner), tt)
    statement_can (judged.for {m = m} {n = n} {o = o} start test plain again b) begins =
        let inner = begins_left o d.variables (begins_left (left o) d.variables begins) in
        let after = before_block n o (body_grows b) inner in
        let before = begins_back m n d.variables (opening_grows _ _ _ _ _ again) after in
        ((opening_can start before, condition_below test before, opening_can again after, body_can b inner), tt)
    statement_can {s = s} (judged.range {m = m} {n = n} {target = x} {e = e} {d = w} {t = t} {p = p} {k = k} h may to b) begins =
        let inner = begins_left n d.variables (begins_left (left n) d.variables begins) in
        let before = before_block m n (body_grows b) inner in
        let so_far = before_block s m (target_grows _ _ _ _ _ to) before in
        let c =
        typed_sorted d (named_in s) s e (Made (ChanType w t) p) (ChanType w t) p (named_live s) so_far h has_made in
        let i = target_sorted d.variables (named_in (entered s)) (entered s) m t x k (named_live (entered s)) before to in
        ((targets_below i.0, operand_below d c, body_can b inner), tt)
    statement_can (judged.select one h) begins = (clauses_can h begins, tt)
    statement_can (judged.label h) begins = statement_can h begins
    statement_can judged.empty_label begins = tt

    pub body_can : {around : List Around} {s n : Scope} {body : Statements} {stmts : Stmts}
        → IsBody (Within d.functions d.result around) s body stmts n → Begins n d.variables
        → CanDoAll (length d.variables) stmts
    body_can judged.ends begins = tt
    body_can {n = n} (judged.next {m = m} {stmts = stmts} {rest = rest} h others) begins =
        joined_can (length d.variables) stmts rest (statement_can h (begins_back m n d.variables (body_grows others) begins)) (body_can others begins)

    pub clauses_can : {around : List Around} {s n : Scope} {clauses : Clauses} {cases : Cases}
        → AreClauses (Within d.functions d.result around) s clauses cases n → Begins n d.variables
        → CanDoCases (length d.variables) cases
    clauses_can judged.no_clause begins = tt
    clauses_can (judged.default_clause {m = m} {n = n} b rest) begins =
        (body_can b (in_clause m n (clauses_widen rest) begins), clauses_can rest begins)
    clauses_can {s = s} (judged.send_clause {m = m} {n = n} {channel = c} {value = e} {p = p} {q = q} h b rest) begins =
        let inner = in_clause m n (clauses_widen rest) begins in
        let here = entered s in
        let k =
        send_sorted d (named_in here) here c e p q (named_live here)
        (begins_back here m d.variables (body_grows b) inner) h in
        (operand_below d k.1, operand_below d k.2, body_can b inner, clauses_can rest begins)
    clauses_can {s = s} (judged.receive_clause {m = m} {n = n} {e = e} {t = t} {p = p} h b rest) begins =
        let inner = in_clause m n (clauses_widen rest) begins in
        let here = entered s in
        let k =
        receive_sorted d (named_in here) here e t p (named_live here)
        (begins_back here m d.variables (body_grows b) inner) h in
        (tt, operand_below d k, body_can b inner, clauses_can rest begins)
    clauses_can {s = s} (judged.assign_clause {m = m} {n = n} {xs = xs} {e = e} {t = t} {p = p} {ks = ks} h taken b rest) begins =
        let inner = in_clause m n (clauses_widen rest) begins in
        let here = entered s in
        let so_far = begins_back here m d.variables (body_grows b) inner in
        let k = receive_sorted d (named_in here) here e t p (named_live here) so_far h in
        let targets =
        take_all_sorted d.variables (named_in here) here xs (t ∷ BoolType ∷ []) ks (named_live here) so_far taken in
        (targets_below targets.0, operand_below d k, body_can b inner, clauses_can rest begins)
    clauses_can {s = s} (judged.define_clause {m = m} {n = n} {o = o} {xs = xs} {e = e} {t = t} {p = p} {ks = ks} h may taken b rest) begins =
        let inner = in_clause n o (clauses_widen rest) begins in
        let here = entered s in
        let so_far = begins_back m n d.variables (body_grows b) inner in
        let opened = take_all_new_grows _ _ _ _ _ _ taken in
        let k =
        receive_sorted d (named_in here) here e t p (named_live here) (begins_back here m d.variables opened so_far) h in
        let targets =
        take_all_new_sorted d.variables (named_in here) here m xs (t ∷ BoolType ∷ []) ks (named_live here) so_far may taken in
        (targets_below targets.0, operand_below d k, body_can b inner, clauses_can rest begins)
