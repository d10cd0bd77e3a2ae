-- What the judgement says of a statement is what the checker finds.
use Rattle.std.proofs.Common.{◌≡◌, ℕ, true, false, List, [], ◌∷◌, refl, ap, ◌∙◌}
use Rattle.std.specs.Prelude.{Option, Some, None}
use Rattle.gr_tree.specs.declared.expr.Direction.{Direction}
use Rattle.gr_tree.specs.Exprs as tree
use Rattle.gr_tree.specs.Exprs.{WrittenType, Tree, Trees}
use Rattle.gr_tree.specs.Statements as statements
use Rattle.gr_tree.specs.Statements.{Simple, Statement, Statements, Clauses}
use Rattle.gr_program.specs.Types.{Ty, BoolType, ChanType}
use Rattle.gr_typing.specs.Types.{type_written, assignable, may_receive}
use Rattle.gr_program.specs.Programs.{zero_of, Expr, Call, Exprs, Act, AssignReceive, Go, Return, Break, Continue, Opening, Opens, Does, Block, If, For, Range, Select, Stmts, stop, joined, Cases, default_case, send_case, receive_case}
use Rattle.gr_typing.specs.Scopes.{Scope, number_of, entered, left, first_where, Signature}
use Rattle.gr_typing.specs.Values.{Made, IsValue}
use Rattle.gr_exprs.specs.Finding.{◌>>=◌, where_true, given, of_kind, as_channel, call_in, value_in, arguments_in}
use Rattle.gr_typing.specs.Acts as act_rules
use Rattle.gr_typing.specs.Assignments as assigning
use Rattle.gr_typing.specs.Statements as rules
use Rattle.gr_typing.specs.Contexts.{Loop, Choice, Context, Within, functions, inside, is_left, is_continued}
use Rattle.gr_typing.specs.Assignments.{may_define, may_declare, all_declared, zeros, TakeAll, TakeAllNew, IsWritten}
use Rattle.gr_typing.specs.Statements.{declares, defaults, at_most_one, IsOpening, IsCondition, IsLoopCondition, IsTarget, IsStatement, IsIfHead, IsBody, AreClauses}
use Rattle.gr_typing.specs.Acts.{Returns, DoesAct}
use Rattle.gr_types.specs.FindingStatements.{in_scope, receives, receive_in, takes, takes_new, send_in, pair_of, assigned, simple_in, returned_in, written_of, var_pair, var_by, go_with, var_zero, act_in, opening_in, post_in, condition_in, loop_condition_in, target_in, all_take, all_take_new, Checked, alone, if_head_in, for_parts, range_parts, Opened, received_case, comm_in, statement_in, body_in, clauses_in, all_declared_as}
use Rattle.gr_exprs.proofs.Finds.{then_some, if_true, given_complete, truth_complete}
use Rattle.gr_exprs.proofs.FindsAll.{value_complete, call_complete}
use Rattle.gr_types.proofs.FindsSimpleAll.{on_other, receive_complete, takes_complete, takes_new_complete, send_complete, simple_complete, all_declared_complete, declared_no_pair}

returns_complete : {fs : List Signature} {s : Scope} {result : Option Ty} {e : Option Tree} {p : Option Expr} → Returns fs s result e p → returned_in fs s result e ≡ Some p
unfolding returned_in
returns_complete act_rules.returns_nothing = refl
returns_complete {fs} {s} (act_rules.returns_value {t = t} {e = e} {v = v} {p = p} d fits) =
    ap (λ o. o >>= given t >>= λ p. Some (Some p)) (value_complete d) ∙ then_some (given t v) p (λ p. Some (Some p)) (given_complete fits)

pub written_complete : {w : Option WrittenType} {t : Option Ty} → IsWritten w t → written_of w ≡ Some t
written_complete assigning.unwritten = refl
written_complete (assigning.is_written {w = w} {t = t} is) = then_some (type_written w) t (λ t. Some (Some t)) is

go_all : (c : Option (Option Ty × Expr)) (s : Scope) (r : Option Ty) (k : ℕ) (ps : Exprs) → c ≡ Some (r, Call k ps) → (c >>= go_with >>= in_scope s) ≡ Some (Go k ps, s)
go_all c s r k ps e = ap (λ c. c >>= go_with >>= in_scope s) e

pub act_complete : {c : Context} {s n : Scope} {a : statements.Act} {b : Act} → DoesAct c s a b n → act_in c s a ≡ Some (b, n)
unfolding act_in
act_complete (act_rules.simple d) = simple_complete d
act_complete (act_rules.var {c = Within fs result around} {s = s} {xs = xs} {w = w} {t = t} may is) =
    ap (λ o. o >>= λ xs. type_written w >>= var_zero s xs) (if_true (may_declare s xs) xs may) ∙ then_some (type_written w) t (var_zero s xs) is
act_complete (act_rules.var_values {fs = fs} {s = s} {n = n} {xs = xs} {w = w} {t = t} {es = es} {ks = ks} {ps = ps} may as_written d) =
    ap (λ o. o >>= λ xs. written_of w >>= λ t. var_by fs s xs t es (pair_of xs es)) (if_true (may_declare s xs) xs may)
    ∙ then_some (written_of w) t (λ t. var_by fs s xs t es (pair_of xs es)) (written_complete as_written)
    ∙ ap (var_by fs s xs t es) (declared_no_pair d)
    ∙ then_some (all_declared_as fs s t xs es s) ((ks, ps), n) (λ g. Some (assigned g.0, g.1)) (all_declared_complete d)
act_complete (act_rules.var_receive {fs = fs} {s = s} {x = x} {y = y} {e = e} {t = t} {p = p} may d) =
    ap (λ o. o >>= λ xs. var_by fs s xs None (tree.more e tree.none) (pair_of xs (tree.more e tree.none))) (if_true (may_declare s (x ∷ (y ∷ []))) (x ∷ (y ∷ [])) may)
    ∙ then_some (receive_in fs s e) (t, p) (var_pair s (x, (y, e)) None) (receive_complete d)
act_complete (act_rules.var_receive_written {fs = fs} {s = s} {x = x} {y = y} {w = w} {e = e} {t = t} {u = u} {p = p} may is d fits truth) =
    let n : Scope = all_declared s (x ∷ (y ∷ [])) u in
    ap (λ o. o >>= λ xs. written_of (Some w) >>= λ t. var_by fs s xs t (tree.more e tree.none) (pair_of xs (tree.more e tree.none))) (if_true (may_declare s (x ∷ (y ∷ []))) (x ∷ (y ∷ [])) may)
    ∙ then_some (written_of (Some w)) (Some u) (λ t. var_by fs s (x ∷ (y ∷ [])) t (tree.more e tree.none) (pair_of (x ∷ (y ∷ [])) (tree.more e tree.none))) (written_complete (assigning.is_written {w = w} is))
    ∙ then_some (receive_in fs s e) (t, p) (var_pair s (x, (y, e)) (Some u)) (receive_complete d)
    ∙ then_some (where_true (assignable t u) n) n (λ n. where_true (assignable BoolType u) n >>= λ n. Some (AssignReceive (number_of n x) (number_of n y) p (zero_of t), n)) (if_true (assignable t u) n fits)
    ∙ then_some (where_true (assignable BoolType u) n) n (λ n. Some (AssignReceive (number_of n x) (number_of n y) p (zero_of t), n)) (if_true (assignable BoolType u) n truth)
act_complete (act_rules.go {fs = fs} {s = s} {x = x} {es = es} {r = r} {k = k} {ps = ps} d) = go_all (call_in fs s x (arguments_in fs s es)) s r k ps (call_complete d)
act_complete (act_rules.return {fs = fs} {result = result} {s = s} {e = e} {p = p} d) = then_some (returned_in fs s result e) p (λ p. in_scope s (Return p)) (returns_complete d)
act_complete (act_rules.break {around = around} {s = s} {x = x} {k = k} is) = then_some (first_where (is_left x) around) k (λ k. in_scope s (Break k)) is
act_complete (act_rules.continue {around = around} {s = s} {x = x} {k = k} is) = then_some (first_where (is_continued x) around) k (λ k. in_scope s (Continue k)) is

opening_complete : {fs : List Signature} {s n : Scope} {h : Option statements.Heading} {o : Option Opening} → IsOpening fs s h o n → opening_in fs s h ≡ Some (o, n)
unfolding opening_in
opening_complete rules.no_opening = refl
opening_complete {fs} {s} (rules.opening {place = place} {a = a} {b = b} {n = n} d) = then_some (simple_in fs s a) (b, n) (λ d. Some (Some (Opens place d.0), d.1)) (simple_complete d)

post_complete : {fs : List Signature} {s n : Scope} {post : Option statements.Heading} {o : Option Opening} → declares post ≡ false → IsOpening fs s post o n → post_in fs s post ≡ Some (o, n)
unfolding post_in
post_complete {fs} {s} {post = post} keeps d = on_other (declares post) None (opening_in fs s post) keeps ∙ opening_complete d

condition_complete : {fs : List Signature} {s : Scope} {e : Tree} {p : Expr} → IsCondition fs s e p → condition_in fs s e ≡ Some p
unfolding condition_in
condition_complete {fs} {s} (rules.condition {e = e} {v = v} {p = p} d h) = then_some (value_in fs s e) v (of_kind BoolType) (value_complete d) ∙ truth_complete h

loop_condition_complete : {fs : List Signature} {s : Scope} {e : Option Tree} {p : Option Expr} → IsLoopCondition fs s e p → loop_condition_in fs s e ≡ Some p
unfolding loop_condition_in
loop_condition_complete rules.no_condition = refl
loop_condition_complete {fs} {s} (rules.loop_condition {e = e} {p = p} d) = then_some (condition_in fs s e) p (λ p. Some (Some p)) (condition_complete d)

target_complete : {s n : Scope} {t : Ty} {x : statements.Target} {k : Option ℕ} → IsTarget s t x k n → target_in s t x ≡ Some (k, n)
unfolding target_in
target_complete rules.no_target = refl
target_complete {s} {t = t} (rules.old_target {x = x} {k = k} d) = then_some (takes s x t) k (in_scope s) (takes_complete d)
target_complete {s} {t = t} (rules.new_target {x = x} {k = k} {n = n} may d) = ap (λ o. o >>= λ x. takes_new s x t s) (if_true (may_define s (x ∷ [])) x may) ∙ takes_new_complete d

all_take_complete : {s : Scope} {xs : List (List ℕ)} {ts : List Ty} {ks : List (Option ℕ)} → TakeAll s xs ts ks → all_take s xs ts ≡ Some ks
unfolding all_take
all_take_complete assigning.take_none = refl
all_take_complete {s} (assigning.take_one {x = x} {xs = xs} {t = t} {ts = ts} {k = k} {ks = ks} d rest) =
    then_some (takes s x t) k (λ k. all_take s xs ts >>= λ ks. Some (k ∷ ks)) (takes_complete d) ∙ then_some (all_take s xs ts) ks (λ ks. Some (k ∷ ks)) (all_take_complete rest)

all_take_new_complete : {s : Scope} {xs : List (List ℕ)} {ts : List Ty} {m n : Scope} {ks : List (Option ℕ)} → TakeAllNew s xs ts m ks n → all_take_new s xs ts m ≡ Some (ks, n)
unfolding all_take_new
all_take_new_complete assigning.take_none_new = refl
all_take_new_complete {s} (assigning.take_one_new {x = x} {xs = xs} {t = t} {ts = ts} {m = m} {n = n} {o = o} {k = k} {ks = ks} d rest) =
    then_some (takes_new s x t m) (k, n) (λ k. all_take_new s xs ts k.1 >>= λ ks. Some (k.0 ∷ ks.0, ks.1)) (takes_new_complete d)
    ∙ then_some (all_take_new s xs ts n) (ks, o) (λ ks. Some (k ∷ ks.0, ks.1)) (all_take_new_complete rest)

if_head_complete : {c : Context} {s m : Scope} {head : statements.IfHead} {o : Option Opening} {p : Expr} → IsIfHead c s head o p m → if_head_in (functions c) s head ≡ Some ((o, p), m)
unfolding if_head_in
if_head_complete (rules.if_head {c = c} {s = s} {m = m} {init = init} {condition = e} {first = o} {p = p} first test) =
    then_some (opening_in (functions c) s init) (o, m) (λ i. condition_in (functions c) i.1 e >>= λ p. Some ((i.0, p), i.1)) (opening_complete first)
    ∙ then_some (condition_in (functions c) m e) p (λ p. Some ((o, p), m)) (condition_complete test)

parts_complete : {fs : List Signature} {s m n : Scope} {init post : Option statements.Heading} {e : Option Tree} {first last : Option Opening} {p : Option Expr} → IsOpening fs s init first m → IsLoopCondition fs m e p → declares post ≡ false → IsOpening fs m post last n → for_parts fs s init e post ≡ Some ((first, (p, last)), n)
unfolding for_parts
parts_complete {fs} {s} {m} {n} {init} {post} {e} {first} {last} {p} a b keeps c =
    then_some (opening_in fs s init) (first, m) (λ i. loop_condition_in fs i.1 e >>= λ p. post_in fs i.1 post >>= λ o. Some ((i.0, (p, o.0)), o.1)) (opening_complete a)
    ∙ then_some (loop_condition_in fs m e) p (λ p. post_in fs m post >>= λ o. Some ((first, (p, o.0)), o.1)) (loop_condition_complete b)
    ∙ then_some (post_in fs m post) (last, n) (λ o. Some ((first, (p, o.0)), o.1)) (post_complete keeps c)

range_complete : {fs : List Signature} {s n : Scope} {x : statements.Target} {e : Tree} {d : Direction} {t : Ty} {p : Expr} {k : Option ℕ} → IsValue fs s e (Made (ChanType d t) p) → may_receive d ≡ true → IsTarget (entered s) t x k n → range_parts fs s x e ≡ Some ((p, k), n)
unfolding range_parts
range_complete {fs} {s} {n} {x} {e} {d} {t} {p} {k} h may target =
    ap (λ o. o >>= as_channel >>= receives >>= λ w. target_in (entered s) w.0 x >>= λ k. Some ((w.1, k.0), k.1)) (value_complete h)
    ∙ ap (λ o. o >>= λ w. target_in (entered s) w.0 x >>= λ k. Some ((w.1, k.0), k.1)) (if_true (may_receive d) (t, p) may)
    ∙ then_some (target_in (entered s) t x) (k, n) (λ k. Some ((p, k.0), k.1)) (target_complete target)

send_case_all : (fs : List Signature) (s : Scope) (a e : Tree) (p q : Expr) → send_in fs s a e ≡ Some (p, q) → comm_in fs s (statements.SendTo a e) ≡ Some (send_case p q, s)
unfolding comm_in
send_case_all fs s a e p q h = then_some (send_in fs s a e) (p, q) (λ p. Some (send_case p.0 p.1, s)) h

receive_case_all : (fs : List Signature) (s : Scope) (e : Tree) (t : Ty) (p : Expr) → receive_in fs s e ≡ Some (t, p) → comm_in fs s (statements.Receive e) ≡ Some (receive_case [] p (zero_of t), s)
unfolding comm_in
receive_case_all fs s e t p h = then_some (receive_in fs s e) (t, p) (λ w. Some (received_case [] w s)) h

assign_case_all : (fs : List Signature) (s : Scope) (xs : List (List ℕ)) (e : Tree) (t : Ty) (p : Expr) (ks : List (Option ℕ)) → receive_in fs s e ≡ Some (t, p) → all_take s xs (t ∷ (BoolType ∷ [])) ≡ Some ks → comm_in fs s (statements.AssignTo xs e) ≡ Some (receive_case ks p (zero_of t), s)
unfolding comm_in
assign_case_all fs s xs e t p ks h taken =
    then_some (receive_in fs s e) (t, p) (λ w. all_take s xs (w.0 ∷ (BoolType ∷ [])) >>= λ ks. Some (received_case ks w s)) h
    ∙ then_some (all_take s xs (t ∷ (BoolType ∷ []))) ks (λ ks. Some (received_case ks (t, p) s)) taken

define_case_all : (fs : List Signature) (s m : Scope) (xs : List (List ℕ)) (e : Tree) (t : Ty) (p : Expr) (ks : List (Option ℕ)) → receive_in fs s e ≡ Some (t, p) → may_define s xs ≡ true → all_take_new s xs (t ∷ (BoolType ∷ [])) s ≡ Some (ks, m) → comm_in fs s (statements.DefineAs xs e) ≡ Some (receive_case ks p (zero_of t), m)
unfolding comm_in
define_case_all fs s m xs e t p ks h may taken =
    then_some (receive_in fs s e) (t, p) (λ w. where_true (may_define s xs) xs >>= λ xs. all_take_new s xs (w.0 ∷ (BoolType ∷ [])) s >>= λ ks. Some (received_case ks.0 w ks.1)) h
    ∙ ap (λ o. o >>= λ xs. all_take_new s xs (t ∷ (BoolType ∷ [])) s >>= λ ks. Some (received_case ks.0 (t, p) ks.1)) (if_true (may_define s xs) xs may)
    ∙ then_some (all_take_new s xs (t ∷ (BoolType ∷ [])) s) (ks, m) (λ ks. Some (received_case ks.0 (t, p) ks.1)) taken

-- a clause, by what it waits for, its body and the clauses after it
abbrev cased : Opened → Checked → Cases × Scope → Option (Cases × Scope)
cased h b k = Some (h.0 b.0 k.0, k.1)

clause_all : (communication : Option Opened) (h : Opened) (b : Checked) (inside_of : Scope → Option Checked) (after : Scope → Option (Cases × Scope)) (k : Cases × Scope) → communication ≡ Some h → inside_of h.1 ≡ Some b → after (left b.1) ≡ Some k → (communication >>= λ h. inside_of h.1 >>= λ b. after (left b.1) >>= λ k. cased h b k) ≡ cased h b k
clause_all communication h b inside_of after k e f g =
    then_some communication h (λ h. inside_of h.1 >>= λ b. after (left b.1) >>= λ k. cased h b k) e
    ∙ then_some (inside_of h.1) b (λ b. after (left b.1) >>= λ k. cased h b k) f
    ∙ then_some (after (left b.1)) k (λ k. cased h b k) g

mutual
  unfolding statement_in

  pub statement_complete : {c : Context} {s n : Scope} {label : Option (List ℕ)} {a : Statement} {steps : Stmts} → IsStatement c s label a steps n → statement_in c s label a ≡ Some (steps, n)
  statement_complete {c} {s} {n} (rules.does {place = place} {a = a} {b = b} d) = then_some (act_in c s a) (b, n) (λ d. alone (Does place d.0) d.1) (act_complete d)
  statement_complete {c} {s} (rules.block {n = n} {body = body} {stmts = steps} d) = then_some (body_in c (entered s) body) (steps, n) (λ b. alone (Block b.0) (left b.1)) (body_complete d)
  statement_complete {c} {s} (rules.if {m = m} {n = n} {place = place} {head = head} {body = body} {init = o} {p = p} {stmts = steps} h d) =
      then_some (if_head_in (functions c) (entered s) head) ((o, p), m) (λ h. body_in c (entered h.1) body >>= λ b. alone (If place h.0.0 h.0.1 b.0 stop) (left (left b.1))) (if_head_complete h)
      ∙ then_some (body_in c (entered m) body) (steps, n) (λ b. alone (If place o p b.0 stop) (left (left b.1))) (body_complete d)
  statement_complete {c} {s} (rules.if_else {m = m} {n = n} {o = z} {place = place} {head = head} {body = body} {otherwise = otherwise} {init = o} {p = p} {stmts = steps} {others = others} h d e) =
      then_some (if_head_in (functions c) (entered s) head) ((o, p), m) (λ h. body_in c (entered h.1) body >>= λ b. body_in c (entered (left b.1)) otherwise >>= λ r. alone (If place h.0.0 h.0.1 b.0 r.0) (left (left r.1))) (if_head_complete h)
      ∙ then_some (body_in c (entered m) body) (steps, n) (λ b. body_in c (entered (left b.1)) otherwise >>= λ r. alone (If place o p b.0 r.0) (left (left r.1))) (body_complete d)
      ∙ then_some (body_in c (entered (left n)) otherwise) (others, z) (λ r. alone (If place o p steps r.0) (left (left r.1))) (body_complete e)
  statement_complete {c} {s} (rules.if_else_if {m = m} {n = n} {o = z} {place = place} {head = head} {body = body} {otherwise = otherwise} {init = o} {p = p} {stmts = steps} {others = others} h d e) =
      then_some (if_head_in (functions c) (entered s) head) ((o, p), m) (λ h. body_in c (entered h.1) body >>= λ b. statement_in c (left b.1) None otherwise >>= λ r. alone (If place h.0.0 h.0.1 b.0 r.0) (left r.1)) (if_head_complete h)
      ∙ then_some (body_in c (entered m) body) (steps, n) (λ b. statement_in c (left b.1) None otherwise >>= λ r. alone (If place o p b.0 r.0) (left r.1)) (body_complete d)
      ∙ then_some (statement_in c (left n) None otherwise) (others, z) (λ r. alone (If place o p steps r.0) (left r.1)) (statement_complete e)
  statement_complete {c} {s} (rules.for {m = m} {n = n} {o = z} {label = label} {place = place} {init = init} {post = post} {condition = e} {body = body} {first = first} {last = last} {p = p} {stmts = steps} a t keeps l d) =
      then_some (for_parts (functions c) (entered s) init e post) ((first, (p, last)), n) (λ h. body_in (inside (Loop label) c) (entered h.1) body >>= λ b. alone (For place h.0.0 h.0.1.0 h.0.1.1 b.0) (left (left b.1))) (parts_complete a t keeps l)
      ∙ then_some (body_in (inside (Loop label) c) (entered n) body) (steps, z) (λ b. alone (For place first p last b.0) (left (left b.1))) (body_complete d)
  statement_complete {c} {s} (rules.range {m = m} {n = n} {label = label} {place = place} {target = x} {e = e} {body = body} {p = p} {k = k} {stmts = steps} h may t d) =
      then_some (range_parts (functions c) s x e) ((p, k), m) (λ h. body_in (inside (Loop label) c) (entered h.1) body >>= λ b. alone (Range place h.0.1 h.0.0 b.0) (left (left b.1))) (range_complete h may t)
      ∙ then_some (body_in (inside (Loop label) c) (entered m) body) (steps, n) (λ b. alone (Range place k p b.0) (left (left b.1))) (body_complete d)
  statement_complete {c} {s} {n} (rules.select {label = label} {place = place} {clauses = clauses} {cases = cases} one d) =
      ap (λ o. o >>= λ s. clauses_in (inside (Choice label) c) s clauses >>= λ k. alone (Select place k.0) k.1) (if_true (at_most_one (defaults clauses)) s one)
      ∙ then_some (clauses_in (inside (Choice label) c) s clauses) (cases, n) (λ k. alone (Select place k.0) k.1) (clauses_complete d)
  statement_complete (rules.label d) = statement_complete d
  statement_complete rules.empty_label = refl

  pub body_complete : {c : Context} {s n : Scope} {body : Statements} {steps : Stmts} → IsBody c s body steps n → body_in c s body ≡ Some (steps, n)
  body_complete rules.ends = refl
  body_complete {c} {s} (rules.next {m = m} {n = n} {first = first} {others = others} {stmts = steps} {rest = rest} d e) =
      then_some (statement_in c s None first) (steps, m) (λ a. body_in c a.1 others >>= λ b. Some (joined a.0 b.0, b.1)) (statement_complete d)
      ∙ then_some (body_in c m others) (rest, n) (λ b. Some (joined steps b.0, b.1)) (body_complete e)

  pub clauses_complete : {c : Context} {s n : Scope} {clauses : Clauses} {cases : Cases} → AreClauses c s clauses cases n → clauses_in c s clauses ≡ Some (cases, n)
  clauses_complete rules.no_clause = refl
  clauses_complete {c} {s} (rules.default_clause {m = m} {n = n} {body = body} {others = others} {stmts = steps} {rest = rest} d e) =
      then_some (body_in c (entered s) body) (steps, m) (λ b. clauses_in c (left b.1) others >>= λ k. Some (default_case b.0 k.0, k.1)) (body_complete d)
      ∙ then_some (clauses_in c (left m) others) (rest, n) (λ k. Some (default_case steps k.0, k.1)) (clauses_complete e)
  clauses_complete {c} {s} (rules.send_clause {m = m} {n = n} {channel = a} {value = e} {body = body} {others = others} {p = p} {q = q} {stmts = steps} {rest = rest} h d k) =
      clause_all _ (send_case p q, entered s) (steps, m) (λ s. body_in c s body) (λ s. clauses_in c s others) (rest, n) (send_case_all (functions c) (entered s) a e p q (send_complete h)) (body_complete d) (clauses_complete k)
  clauses_complete {c} {s} (rules.receive_clause {m = m} {n = n} {e = e} {body = body} {others = others} {t = t} {p = p} {stmts = steps} {rest = rest} h d k) =
      clause_all _ (receive_case [] p (zero_of t), entered s) (steps, m) (λ s. body_in c s body) (λ s. clauses_in c s others) (rest, n) (receive_case_all (functions c) (entered s) e t p (receive_complete h)) (body_complete d) (clauses_complete k)
  clauses_complete {c} {s} (rules.assign_clause {m = m} {n = n} {xs = xs} {e = e} {body = body} {others = others} {t = t} {p = p} {ks = ks} {stmts = steps} {rest = rest} h taken d k) =
      clause_all _ (receive_case ks p (zero_of t), entered s) (steps, m) (λ s. body_in c s body) (λ s. clauses_in c s others) (rest, n) (assign_case_all (functions c) (entered s) xs e t p ks (receive_complete h) (all_take_complete taken)) (body_complete d) (clauses_complete k)
  clauses_complete {c} {s} (rules.define_clause {m = m} {n = n} {o = o} {xs = xs} {e = e} {body = body} {others = others} {t = t} {p = p} {ks = ks} {stmts = steps} {rest = rest} h may taken d k) =
      clause_all _ (receive_case ks p (zero_of t), m) (steps, n) (λ s. body_in c s body) (λ s. clauses_in c s others) (rest, o) (define_case_all (functions c) (entered s) m xs e t p ks (receive_complete h) may (all_take_new_complete taken)) (body_complete d) (clauses_complete k)
