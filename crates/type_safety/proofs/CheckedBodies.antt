-- Statements that the checker takes: what stands for them in a program is sorted. Control may not go on after one only where
-- it is terminating.
use Rattle.std.proofs.Common.{true≢false, ◌≡◌, ℕ, Bool, true, false, List, [], ◌∷◌, ◌++◌, Option, Some, None, refl, sym, ap, subst}
use Rattle.std.specs.Prelude.{not, ◌&&◌, ◌||◌}
use Rattle.std.proofs.lemmas.Bool.{and_parts, not-true}
use Rattle.gr_scan.specs.declared.token.Place.{Place}
use Rattle.gr_tree.specs.Statements as statements
use Rattle.gr_tree.specs.Statements.{Statement, Statements, Clauses}
use Rattle.gr_program.specs.Types.{BoolType, ChanType}
use Rattle.gr_program.specs.Programs.{Expr, Act, Opening, Stmt, Does, Block, If, For, Range, Select, Stmts, stop, then, joined, Cases}
use Rattle.gr_typing.specs.Scopes.{Scope, entered, left, Signature}
use Rattle.gr_typing.specs.Values.{Made, has_made}
use Rattle.gr_typing.specs.Acts as acts
use Rattle.gr_typing.specs.SimpleStatements as simples
use Rattle.gr_typing.specs.Statements as judged
use Rattle.gr_typing.specs.Contexts.{Around}
use Rattle.gr_typing.specs.Contexts.{Within}
use Rattle.gr_typing.specs.Acts.{DoesAct}
use Rattle.gr_typing.specs.Statements.{declares, IsOpening, IsStatement, IsIfHead, IsBody, AreClauses}
use Rattle.gr_typing.specs.SimpleStatements.{DoesSimple}
use Rattle.gr_typing.specs.Endings.{breaks_act, breaks_in, breaks_among, returns, terminates, ends, all_end}
use Rattle.gr_rules.specs.Operands.{operand_of}
use Rattle.gr_rules.specs.Points.{case_operands}
use Rattle.type_safety.proofs.Sorts.{BoolSort, nothing_made, Setting, SortedOperand, numbers_of}
use Rattle.type_safety.proofs.Sorts as sorts
use Rattle.type_safety.proofs.Bodies as bodies
use Rattle.type_safety.proofs.Bodies.{Nest, Loops, Chooses, SortedAct, after_act, after_opening, after_stmt, SortedOpening, SortedStmt, SortedStmts, SortedClauses}
use Rattle.type_safety.proofs.Promises.{Live, Begins, Grows}
use Rattle.type_safety.proofs.CheckedExprs.{zero_sorted, typed_sorted, condition_sorted, receive_sorted, send_sorted}
use Rattle.type_safety.proofs.Growing.{grows_trans, begins_back}
use Rattle.type_safety.proofs.GrowingActs.{opening_grows, target_grows, take_all_new_grows}
use Rattle.type_safety.proofs.TakenValues.{take_all_sorted, take_all_new_sorted, target_sorted}
use Rattle.type_safety.proofs.CheckedActs.{opening_sorted, act_sorted}
use Rattle.type_safety.proofs.CheckedNests.{Permits, permits_first, permits_second, loop_permits, choice_permits, leaves_of, leaves_in, leaves_among, nest_left, nest_continued}
use Rattle.type_safety.proofs.CheckedScopes.{Widens, live_wide, left_wide, live_entered, begins_left, begins_entered, grows_wide}
use Rattle.type_safety.proofs.CheckedGrowth.{head_wide, else_if_wide, else_wide, head_grows, statement_grows, body_grows, clauses_widen}

-- the variables that hold values after statements
abbrev pub after_stmts : Stmts → List ℕ → List ℕ
after_stmts stop live = live
after_stmts (then s ss) live = after_stmts ss (after_stmt s live)

-- statements after statements
pub stmts_joined : (d : Setting) (nests : List Nest) (live : List ℕ) (stmts rest : Stmts) (z : Bool)
    → SortedStmts d nests live stmts true → SortedStmts d nests (after_stmts stmts live) rest z
    → SortedStmts d nests live (joined stmts rest) z
stmts_joined d nests live stop rest z h k = k
stmts_joined d nests live (then s ss) rest z (bodies.one_stmt h others) k =
    bodies.one_stmt h (stmts_joined d nests (after_stmt s live) ss rest z others k)
stmts_joined d nests live (then s ss) rest z (bodies.ends h) k = bodies.ends h

joined_stop : (stmts : Stmts) → joined stmts stop ≡ stmts
joined_stop stop = refl
joined_stop (then s ss) = ap (then s) (joined_stop ss)

-- what is no terminating statement is one after which control may go on
no_ending : {P : Type 0} → false ≡ true → P
no_ending e = absurd (cc)

goes_nowhere : {P : Type 0} → true ≡ false → P
goes_nowhere e = absurd (cc)

pub stop_sorted : (d : Setting) (nests : List Nest) (live : List ℕ) (z : Bool) → (z ≡ false → false ≡ true)
    → SortedStmts d nests live stop z
stop_sorted d nests live true h = bodies.no_stmt
stop_sorted d nests live false h = no_ending (h refl)

pub one_sorted : (d : Setting) (nests : List Nest) (live : List ℕ) (s : Stmt) (z : Bool)
    → SortedStmt d nests live s z → SortedStmts d nests live (then s stop) z
one_sorted d nests live s true h = bodies.one_stmt h bodies.no_stmt
one_sorted d nests live s false h = bodies.ends h

goes_on_sorted : (d : Setting) (nests : List Nest) (live : List ℕ) (s : Stmt) (z : Bool) → (z ≡ false → false ≡ true)
    → SortedStmt d nests live s true → SortedStmt d nests live s z
goes_on_sorted d nests live s true h k = k
goes_on_sorted d nests live s false h k = no_ending (h refl)

-- an act inside these nests
pub act_in : (d : Setting) (nests : List Nest) (live : List ℕ) (around : List Around) (s n : Scope)
    (a : statements.Act) (b : Act) (z : Bool)
    → DoesAct (Within d.functions d.result around) s a b n → (z ≡ false → returns a ≡ true)
    → Permits (λ label near. breaks_act label near a) true around nests
    → Live s live → Begins n d.variables → SortedAct d nests live b z × Live n (after_act b live)
act_in d nests live around s n (statements.Break x) b z (acts.break {k = k} is) ending permits lives begins =
    let l = nest_left x around nests k permits is in (bodies.breaks l.1 l.2, lives)
act_in d nests live around s n (statements.Continue x) b z (acts.continue {k = k} is) ending permits lives begins =
    (bodies.continues ((nest_continued (λ label near. false) x true around nests k permits is).1), lives)
act_in d nests live around s n (statements.Plain a) b z h ending permits lives begins =
    let r = act_sorted d nests live around s n (statements.Plain a) b z h refl ending lives begins in (r.0, r.2)
act_in d nests live around s n (statements.Var xs w) b z h ending permits lives begins =
    let r = act_sorted d nests live around s n (statements.Var xs w) b z h refl ending lives begins in (r.0, r.2)
act_in d nests live around s n (statements.VarValues xs w es) b z h ending permits lives begins =
    let r = act_sorted d nests live around s n (statements.VarValues xs w es) b z h refl ending lives begins in
    (r.0, r.2)
act_in d nests live around s n (statements.Go x es) b z h ending permits lives begins =
    let r = act_sorted d nests live around s n (statements.Go x es) b z h refl ending lives begins in (r.0, r.2)
act_in d nests live around s n (statements.Return e) b z h ending permits lives begins =
    let r = act_sorted d nests live around s n (statements.Return e) b z h refl ending lives begins in (r.0, r.2)

-- a statement of a heading that declares nothing
simple_scope : (fs : List Signature) (s n : Scope) (place : Place) (a : statements.Simple) (b : Act)
    → DoesSimple fs s a b n → declares (Some (statements.Heads place a)) ≡ false → n ≡ s
simple_scope fs s n place (statements.Eval e) b (simples.runs h) q = refl
simple_scope fs s n place (statements.Send c e) b (simples.sends h) q = refl
simple_scope fs s n place (statements.Assign xs es) b (simples.assigns h) q = refl
simple_scope fs s n place (statements.Assign xs es) b (simples.assigns_receive h k l) q = refl
simple_scope fs s n place (statements.Define xs es) b h q = absurd (true≢false q)
simple_scope fs s n place (statements.Update x op e) b (simples.updates h g is of may) q = refl
simple_scope fs s n place (statements.Increment x) b (simples.increments h) q = refl
simple_scope fs s n place (statements.Decrement x) b (simples.decrements h) q = refl

same_scope : (fs : List Signature) (s n : Scope) (h : Option statements.Heading) (o : Option Opening)
    → IsOpening fs s h o n → declares h ≡ false → n ≡ s
same_scope fs s n None o judged.no_opening e = refl
same_scope fs s n (Some (statements.Heads place a)) o (judged.opening {b = b} h) e = simple_scope fs s n place a b h e

module _ (d : Setting) where
  -- before a block, where they begin so in it
  begins_before : (m n : Scope) → Grows (entered m) n → Begins n d.variables → Begins m d.variables
  begins_before m n g begins = begins_entered m d.variables (begins_back (entered m) n d.variables g begins)

  head_sorted : {around : List Around} {s m : Scope} {head : statements.IfHead} {o : Option Opening} {p : Expr}
      (nests : List Nest) (live : List ℕ)
      → IsIfHead (Within d.functions d.result around) s head o p m → Live s live → Begins m d.variables
      → SortedOpening d nests live o × SortedOperand d nothing_made (after_opening o live) (operand_of p) BoolSort
      × Live m (after_opening o live)
  head_sorted {s = s} {m = m} nests live (judged.if_head {init = init} {condition = e} {first = o} {p = p} first test) lives begins =
      let i = opening_sorted d nests live s m init o lives begins first in
      (i.0, condition_sorted d (after_opening o live) m e p i.2 begins test, i.2)

  -- of a block that follows others, the end of what they declare
  live_after : (m n : Scope) (live : List ℕ) → Grows (entered m) n → Live m live → Live (left n) live
  live_after m n live g lives = live_wide m (left n) live (left_wide m n g) lives

  loop_grown : (s m n : Scope) {init post : Option statements.Heading} {first last : Option Opening}
      → IsOpening d.functions (entered s) init first m → IsOpening d.functions m post last n → Grows (entered s) n
  loop_grown s m n start again =
      grows_trans (entered s) m n (opening_grows _ _ _ _ _ start) (opening_grows _ _ _ _ _ again)

  -- the heading of a loop
  loop_sorted : (nests : List Nest) (live : List ℕ) (s m n : Scope) (init post : Option statements.Heading)
      (first last : Option Opening)
      → IsOpening d.functions (entered s) init first m → IsOpening d.functions m post last n → declares post ≡ false
      → Live s live → Begins n d.variables
      → SortedOpening d nests live first × SortedOpening d nests (after_opening first live) last
      × Live n (after_opening first live) × Live m (after_opening first live)
  loop_sorted nests live s m n init post first last start again plain lives begins =
      let i =
      opening_sorted d nests live (entered s) m init first (live_entered s live lives)
      (begins_back m n d.variables (opening_grows _ _ _ _ _ again) begins) start in
      let j = opening_sorted d nests (after_opening first live) m n post last i.2 begins again in (
        i.0,
        j.0,
        subst (λ n. Live n (after_opening first live))
            (sym (same_scope d.functions m n post last again plain)) i.2,
        i.2,
      )

  -- a clause before others
  clause_scopes : (live : List ℕ) (s m n : Scope) → Grows (entered s) m → Widens (left m) n → Live s live
      → Begins n d.variables → Begins m d.variables × Live (left m) live
  clause_scopes live s m n g w lives begins = (
    begins_left m d.variables (begins_back (left m) n d.variables (grows_wide (left m) n w) begins),
    live_after s m live g lives,
  )

  clause_parts : (around : List Around) (nests : List Nest) (z : Bool) (body : Statements) (others : Clauses)
      → (z ≡ false → (ends body && all_end others) ≡ true)
      → Permits (λ label near. leaves_in body label near || leaves_among others label near) true around nests
      → (z ≡ false → ends body ≡ true) × Permits (leaves_in body) true around nests
      × (z ≡ false → all_end others ≡ true) × Permits (leaves_among others) true around nests
  clause_parts around nests z body others ending permits = (
    λ e. (and_parts (ends body) (all_end others) (ending e)).0,
    permits_first (leaves_in body) (leaves_among others) around nests permits,
    λ e. (and_parts (ends body) (all_end others) (ending e)).1,
    permits_second (leaves_in body) (leaves_among others) around nests permits,
  )

  -- one more statement in front of others
  abbrev StatementSorts : List Nest → List ℕ → Scope → Statement → Stmts → Type 0
  StatementSorts nests live n a stmts =
      (z : Bool) → (z ≡ false → terminates None a ≡ true)
      → SortedStmts d nests live stmts z × Live n (after_stmts stmts live)

  next_sorted : {around : List Around} {m n : Scope} {others : Statements} {rest : Stmts} (nests : List Nest)
      (live : List ℕ) (z : Bool) (first : Statement) (stmts : Stmts)
      → IsBody (Within d.functions d.result around) m others rest n
      → StatementSorts nests live m first stmts
      → ((w : Bool) → (w ≡ false → ends others ≡ true) → Live m (after_stmts stmts live)
      → SortedStmts d nests (after_stmts stmts live) rest w)
      → (z ≡ false → ends (statements.then first others) ≡ true)
      → SortedStmts d nests live (joined stmts rest) z
  next_sorted nests live z first stmts judged.ends h k ending =
      subst (λ stmts. SortedStmts d nests live stmts z) (sym (joined_stop stmts)) ((h z ending).0)
  next_sorted nests live z first stmts (judged.next {stmts = more} {rest = rest} g others) h k ending =
      let f = h true goes_nowhere in stmts_joined d nests live stmts (joined more rest) z f.0 (k z ending f.1)

  mutual
    pub statement_sorted : {around : List Around} {s n : Scope} {label : Option (List ℕ)} {a : Statement}
        {stmts : Stmts} (nests : List Nest) (live : List ℕ) (z : Bool)
        → IsStatement (Within d.functions d.result around) s label a stmts n
        → (z ≡ false → terminates label a ≡ true) → Permits (leaves_of a) true around nests
        → Live s live → Begins n d.variables → SortedStmts d nests live stmts z × Live n (after_stmts stmts live)
    statement_sorted {around} {s} {n} nests live z (judged.does {place = place} {a = a} {b = b} h) ending permits lives begins =
        let r = act_in d nests live around s n a b z h ending permits lives begins in
        (one_sorted d nests live (Does place b) z (bodies.does r.0), r.1)
    statement_sorted {s = s} nests live z (judged.block {n = n} {body = body} {stmts = stmts} b) ending permits lives begins =
        let r =
        body_sorted nests live z b ending permits (live_entered s live lives) (begins_left n d.variables begins) in
        (one_sorted d nests live (Block stmts) z (bodies.block r), live_after s n live (body_grows b) lives)
    statement_sorted {s = s} nests live z (judged.if {m = m} {n = n} {place = place} {init = o} {p = p} {stmts = stmts} h b) ending permits lives begins =
        let inner = begins_left n d.variables (begins_left (left n) d.variables begins) in
        let i = head_sorted nests live h (live_entered s live lives) (begins_before m n (body_grows b) inner) in
        let r = body_sorted nests (after_opening o live) z b (λ e. no_ending (ending e)) permits (live_entered m (after_opening o live) i.2) inner in (
          one_sorted d nests live (If place o p stmts stop) z (bodies.if i.0 i.1 r (stop_sorted d nests (after_opening o live) z ending)),
          live_wide s (left (left n)) live (head_wide s m n (head_grows h) (body_grows b)) lives,
        )
    statement_sorted {around} {s} nests live z (judged.if_else {m = m} {n = n} {o = o} {place = place} {body = body} {otherwise = otherwise} {init = init} {p = p} {stmts = stmts} {others = others} h b e) ending permits lives begins =
        let inner = begins_left o d.variables (begins_left (left o) d.variables begins) in
        let between = begins_left n d.variables (begins_before (left n) o (body_grows e) inner) in
        let i = head_sorted nests live h (live_entered s live lives) (begins_before m n (body_grows b) between) in
        let after = after_opening init live in
        let r =
        body_sorted nests after z b (λ q. (and_parts (ends body) (ends otherwise) (ending q)).0)
        (permits_first (leaves_in body) (leaves_in otherwise) around nests permits)
        (live_entered m after i.2) between in
        let u = body_sorted nests after z e (λ q. (and_parts (ends body) (ends otherwise) (ending q)).1) (permits_second (leaves_in body) (leaves_in otherwise) around nests permits) (live_entered (left n) after (live_after m n after (body_grows b) i.2)) inner in (
          one_sorted d nests live (If place init p stmts others) z (bodies.if i.0 i.1 r u),
          live_wide s (left (left o)) live (else_wide s m n o (head_grows h) (body_grows b) (body_grows e)) lives,
        )
    statement_sorted {around} {s} nests live z (judged.if_else_if {m = m} {n = n} {o = o} {place = place} {body = body} {otherwise = otherwise} {init = init} {p = p} {stmts = stmts} {others = others} h b e) ending permits lives begins =
        let inner = begins_left o d.variables begins in
        let between = begins_left n d.variables (begins_back (left n) o d.variables (statement_grows e) inner) in
        let i = head_sorted nests live h (live_entered s live lives) (begins_before m n (body_grows b) between) in
        let after = after_opening init live in
        let r =
        body_sorted nests after z b (λ q. (and_parts (ends body) (terminates None otherwise) (ending q)).0)
        (permits_first (leaves_in body) (leaves_of otherwise) around nests permits)
        (live_entered m after i.2) between in
        let u = statement_sorted nests after z e (λ q. (and_parts (ends body) (terminates None otherwise) (ending q)).1) (permits_second (leaves_in body) (leaves_of otherwise) around nests permits) (live_after m n after (body_grows b) i.2) inner in (
          one_sorted d nests live (If place init p stmts others) z (bodies.if i.0 i.1 r u.0),
          live_wide s (left o) live (else_if_wide s m n o (head_grows h) (body_grows b) (statement_grows e)) lives,
        )
    statement_sorted {around} {s} nests live z (judged.for {m = m} {n = n} {o = o} {label = label} {place = place} {init = init} {post = post} {body = body} {first = first} {last = last} {stmts = stmts} start judged.no_condition plain again b) ending permits lives begins =
        let inner = begins_left o d.variables (begins_left (left o) d.variables begins) in
        let i =
        loop_sorted nests live s m n init post first last start again plain lives
        (begins_before n o (body_grows b) inner) in
        let r = body_sorted (Loops z ∷ nests) (after_opening first live) true b goes_nowhere
        (loop_permits (leaves_in body) around nests label z
        (λ q. not-true (breaks_in label true body) (ending q)) permits)
        (live_entered n (after_opening first live) i.2) inner in (
          one_sorted d nests live (For place first None last stmts) z (bodies.endless i.0 i.1 r),
          live_wide s (left (left o)) live (head_wide s n o (loop_grown s m n start again) (body_grows b)) lives,
        )
    statement_sorted {around} {s} nests live z (judged.for {m = m} {n = n} {o = o} {label = label} {place = place} {init = init} {post = post} {body = body} {first = first} {last = last} {stmts = stmts} start (judged.loop_condition {e = e} {p = p} test) plain again b) ending permits lives begins =
        let inner = begins_left o d.variables (begins_left (left o) d.variables begins) in
        let before = begins_before n o (body_grows b) inner in
        let i = loop_sorted nests live s m n init post first last start again plain lives before in
        let after = after_opening first live in
        let t =
        condition_sorted d after m e p i.3
        (begins_back m n d.variables (opening_grows _ _ _ _ _ again) before) test in
        let r = body_sorted (Loops true ∷ nests) after true b goes_nowhere (loop_permits (leaves_in body) around nests label true goes_nowhere permits) (live_entered n after i.2) inner in (
          one_sorted d nests live (For place first (Some p) last stmts) z (goes_on_sorted d nests live (For place first (Some p) last stmts) z ending (bodies.for i.0 t i.1 r)),
          live_wide s (left (left o)) live (head_wide s n o (loop_grown s m n start again) (body_grows b)) lives,
        )
    statement_sorted {around} {s} nests live z (judged.range {m = m} {n = n} {label = label} {place = place} {target = x} {e = e} {body = body} {d = w} {t = t} {p = p} {k = k} {stmts = stmts} h may to b) ending permits lives begins =
        let inner = begins_left n d.variables (begins_left (left n) d.variables begins) in
        let before = begins_before m n (body_grows b) inner in
        let c =
        typed_sorted d live s e (Made (ChanType w t) p) (ChanType w t) p lives
        (begins_before s m (target_grows _ _ _ _ _ to) before) h has_made in
        let i = target_sorted d.variables live (entered s) m t x k (live_entered s live lives) before to in
        let after = numbers_of (k ∷ []) ++ live in
        let r = body_sorted (Loops true ∷ nests) after true b goes_nowhere (loop_permits (leaves_in body) around nests label true goes_nowhere permits) (live_entered m after i.2) inner in (
          one_sorted d nests live (Range place k p stmts) z (goes_on_sorted d nests live (Range place k p stmts) z ending (bodies.range c i.0 r)),
          live_wide s (left (left n)) live (head_wide s m n (target_grows _ _ _ _ _ to) (body_grows b)) lives,
        )
    statement_sorted {around} {s} {n} nests live z (judged.select {label = label} {place = place} {clauses = clauses} {cases = cases} one h) ending permits lives begins =
        let r = clauses_sorted (Chooses z ∷ nests) live z h (λ q. (and_parts (all_end clauses) (not (breaks_among label true clauses)) (ending q)).0)
        (choice_permits (leaves_among clauses) around nests label z
        (λ q. not-true (breaks_among label true clauses)
        ((and_parts (all_end clauses) (not (breaks_among label true clauses)) (ending q)).1)) permits) lives begins in
        (one_sorted d nests live (Select place cases) z (bodies.select r), live_wide s n live (clauses_widen h) lives)
    statement_sorted nests live z (judged.label h) ending permits lives begins =
        statement_sorted nests live z h ending permits lives begins
    statement_sorted nests live z judged.empty_label ending permits lives begins =
        (stop_sorted d nests live z ending, lives)

    pub body_sorted : {around : List Around} {s n : Scope} {body : Statements} {stmts : Stmts} (nests : List Nest)
        (live : List ℕ) (z : Bool)
        → IsBody (Within d.functions d.result around) s body stmts n
        → (z ≡ false → ends body ≡ true) → Permits (leaves_in body) true around nests
        → Live s live → Begins n d.variables → SortedStmts d nests live stmts z
    body_sorted nests live z judged.ends ending permits lives begins = stop_sorted d nests live z ending
    body_sorted {around} nests live z (judged.next {m = m} {n = n} {first = first} {others = others} {stmts = stmts} h rest) ending permits lives begins =
        next_sorted nests live z first stmts rest
        (λ w e. statement_sorted nests live w h e
        (permits_first (leaves_of first) (leaves_in others) around nests permits) lives
        (begins_back m n d.variables (body_grows rest) begins))
        (λ w e l. body_sorted nests (after_stmts stmts live) w rest e
        (permits_second (leaves_of first) (leaves_in others) around nests permits) l begins)
        ending

    pub clauses_sorted : {around : List Around} {s n : Scope} {clauses : Clauses} {cases : Cases} (nests : List Nest)
        (live : List ℕ) (z : Bool)
        → AreClauses (Within d.functions d.result around) s clauses cases n
        → (z ≡ false → all_end clauses ≡ true) → Permits (leaves_among clauses) true around nests
        → Live s live → Begins n d.variables → SortedClauses d nothing_made nests live z cases (case_operands cases)
    clauses_sorted nests live z judged.no_clause ending permits lives begins = bodies.no_clause
    clauses_sorted {around} {s} nests live z (judged.default_clause {m = m} {n = n} {body = body} {others = others} b rest) ending permits lives begins =
        let r = clause_scopes live s m n (body_grows b) (clauses_widen rest) lives begins in
        let u = clause_parts around nests z body others ending permits in
        bodies.default_clause (body_sorted nests live z b u.0 u.1 (live_entered s live lives) r.0) (clauses_sorted nests live z rest u.2 u.3 r.1 begins)
    clauses_sorted {around} {s} nests live z (judged.send_clause {m = m} {n = n} {channel = c} {value = e} {body = body} {others = others} {p = p} {q = q} h b rest) ending permits lives begins =
        let r = clause_scopes live s m n (body_grows b) (clauses_widen rest) lives begins in
        let u = clause_parts around nests z body others ending permits in
        let here = live_entered s live lives in
        let k =
        send_sorted d live (entered s) c e p q here (begins_back (entered s) m d.variables (body_grows b) r.0) h in
        bodies.send_clause k.1 k.2 (body_sorted nests live z b u.0 u.1 here r.0) (clauses_sorted nests live z rest u.2 u.3 r.1 begins)
    clauses_sorted {around} {s} nests live z (judged.receive_clause {m = m} {n = n} {e = e} {body = body} {others = others} {t = t} {p = p} h b rest) ending permits lives begins =
        let r = clause_scopes live s m n (body_grows b) (clauses_widen rest) lives begins in
        let u = clause_parts around nests z body others ending permits in
        let here = live_entered s live lives in
        let k =
        receive_sorted d live (entered s) e t p here (begins_back (entered s) m d.variables (body_grows b) r.0) h in
        bodies.receive_clause k (zero_sorted nothing_made t) sorts.no_target (body_sorted nests live z b u.0 u.1 here r.0) (clauses_sorted nests live z rest u.2 u.3 r.1 begins)
    clauses_sorted {around} {s} nests live z (judged.assign_clause {m = m} {n = n} {xs = xs} {e = e} {body = body} {others = others} {t = t} {p = p} {ks = ks} h taken b rest) ending permits lives begins =
        let r = clause_scopes live s m n (body_grows b) (clauses_widen rest) lives begins in
        let u = clause_parts around nests z body others ending permits in
        let here = live_entered s live lives in
        let so_far = begins_back (entered s) m d.variables (body_grows b) r.0 in
        let k = receive_sorted d live (entered s) e t p here so_far h in
        let targets = take_all_sorted d.variables live (entered s) xs (t ∷ BoolType ∷ []) ks here so_far taken in
        bodies.receive_clause k (zero_sorted nothing_made t) targets.0 (body_sorted nests (numbers_of ks ++ live) z b u.0 u.1 targets.1 r.0) (clauses_sorted nests live z rest u.2 u.3 r.1 begins)
    clauses_sorted {around} {s} nests live z (judged.define_clause {m = m} {n = n} {o = o} {xs = xs} {e = e} {body = body} {others = others} {t = t} {p = p} {ks = ks} h may taken b rest) ending permits lives begins =
        let opened = take_all_new_grows _ _ _ _ _ _ taken in
        let r =
        clause_scopes live s n o (grows_trans (entered s) m n opened (body_grows b))
        (clauses_widen rest) lives begins in
        let u = clause_parts around nests z body others ending permits in
        let here = live_entered s live lives in
        let so_far = begins_back m n d.variables (body_grows b) r.0 in
        let k =
        receive_sorted d live (entered s) e t p here (begins_back (entered s) m d.variables opened so_far) h in
        let targets =
        take_all_new_sorted d.variables live (entered s) m xs (t ∷ BoolType ∷ []) ks here so_far may taken in
        bodies.receive_clause k (zero_sorted nothing_made t) targets.0 (body_sorted nests (numbers_of ks ++ live) z b u.0 u.1 targets.2 r.0) (clauses_sorted nests live z rest u.2 u.3 r.1 begins)
