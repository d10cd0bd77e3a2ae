-- A statement of the grammar is read, where it is not too high.
use Rattle.std.proofs.Common.{◌≡◌, ℕ, suc, ◌+◌, max, true, false, List, ◌∷◌, refl, ap, sym, ◌∙◌, arith}
use Rattle.std.specs.Prelude.{Option, Some, None, Ok}
use Rattle.gr_scan.specs.declared.token.Place.{Place}
use Rattle.gr_scan.specs.declared.token.Mark.TheVariants as marks
use Rattle.gr_scan.specs.Tokens.{Tok, At, Sign, Word}
use Rattle.gr_scan.specs.Tokens as words
use Rattle.gr_tree.specs.Exprs.{Tree, Name, height}
use Rattle.gr_tree.specs.Statements.{Simple, Act, Plain, Var, VarValues, Go, Return, Break, Continue, IfHead, ForHead, Statement, Does, Block, If, IfElse, IfElseIf, For, Select, Label, EmptyLabel, Statements, end, Clauses, closed, simple_height, act_height, if_height, for_height, comm_height, statement_height, body_height, clauses_height}
use Rattle.gr_syntax.specs.Grammar.{SpellsExpr, alone, name, after_mark}
use Rattle.gr_syntax.specs.StatementGrammar as grammar
use Rattle.gr_syntax.specs.StatementGrammar.{SpellsSimple, SpellsAct, SpellsIfHead, SpellsForHead, SpellsStatement, SpellsIf, SpellsList, SpellsBlock, SpellsClauses}
use Rattle.gr_syntax.specs.Reading.{Found, Reads, ◌>>=◌, loop, match_after, operator_at, need, expr_at}
use Rattle.gr_syntax.specs.SimpleReading.{keyword_of, done_at, stops_at, place_at, bare, var_at, go_at, return_at, jump_at}
use Rattle.gr_syntax.specs.StatementReading.{if_head_at, for_head_at, added, block_at, else_at, if_at, for_at, with_default, with_case, clause_turn, clauses_at, select_at, placed, labelled_at, plain_after, name_open, open_after, open_at, braced_at, keyed_at, tier_at, statement_at}
use Rattle.gr_syntax.proofs.Bound.{bound, within, bound_bind, bound_suc, bound_max, under}
use Rattle.gr_syntax.proofs.Chains.{Quiet}
use Rattle.gr_syntax.proofs.CompleteSimple.{either, from_first, Over, expr_opened, First, simple_first}
use Rattle.gr_syntax.proofs.CompleteActs.{Ends, ends_semicolon, ends_brace, var_whole, var_typed_whole, var_values_whole, go_whole, return_whole, return_none_whole, jump_none_whole, jump_whole}
use Rattle.gr_syntax.proofs.CompleteHeads.{if_head_whole, for_head_whole}
use Rattle.gr_syntax.proofs.CompleteReceives.{comm_whole}
use Rattle.gr_syntax.proofs.StatementStarts.{statement_pos, statement_starts}
use Rattle.gr_syntax.proofs.StatementLists.{StatementReads, Tier, from_tier, ListTo, list_end, list_empty, list_statement, past_one, past_none, brace_stops, list_then, list_whole, BlockReads, block_whole}
use Rattle.gr_syntax.proofs.CompleteClauses.{ClausesTo, clauses_end, clauses_default, clauses_case, clauses_stop}

-- a block where a statement is read
block_tier : (h : ℕ) (p q : Place) (ss : Statements) (ts rest : List Tok) → BlockReads h ss q (At p (Sign marks.LeftBrace) ∷ ts) rest → Tier h (Block p ss) (At p (Sign marks.LeftBrace) ∷ ts) rest
unfolding tier_at place_at keyword_of keyed_at braced_at
block_tier h p q ss ts rest r = under h (body_height ss) (block_at (statement_at h) (At p (Sign marks.LeftBrace) ∷ ts)) ((ss, q), body_height ss, rest) (λ b. Ok (Block p b.0.0, b.1 + 1, b.2)) r

-- a head and a block
for_tier : (h : ℕ) (p q : Place) (c : ForHead) (ss : Statements) (ts mid rest : List Tok) → for_head_at h ts ≡ bound h (for_height c) (Ok (c, for_height c, mid)) → BlockReads h ss q mid rest → Tier h (For p c ss) (At p (Sign marks.For) ∷ ts) rest
unfolding tier_at place_at keyword_of keyed_at for_at
for_tier h p q c ss ts mid rest rc rb =
    let j : ℕ = for_height c in
    let k : ℕ = body_height ss in
    let g : Found (Statements × Place) → Reads Statement = λ b. Ok (For p c b.0.0, max j b.1 + 1, b.2) in
    let f : Found ForHead → Reads Statement = λ c. block_at (statement_at h) c.2 >>= λ b. Ok (For p c.0 b.0.0, max c.1 b.1 + 1, b.2) in
    ap (λ r. r >>= f) rc ∙ bound_bind h j (Ok (c, j, mid)) f
    ∙ ap (λ r. bound h j (r >>= g)) rb ∙ ap (bound h j) (bound_bind h k (Ok ((ss, q), k, rest)) g)
    ∙ bound_max h j k _ ∙ bound_suc h (max j k) _

if_tier : (h : ℕ) (p q : Place) (c : IfHead) (ss : Statements) (ts mid rest : List Tok) → if_head_at h ts ≡ bound h (if_height c) (Ok (c, if_height c, mid)) → BlockReads h ss q mid rest → after_mark marks.Else rest ≡ None → Tier h (If p c ss) (At p (Sign marks.If) ∷ ts) rest
unfolding tier_at place_at keyword_of keyed_at if_at else_at
if_tier h p q c ss ts mid rest rc rb m =
    let j : ℕ = if_height c in
    let k : ℕ = body_height ss in
    let g : Found (Statements × Place) → Reads Statement = λ b. match_after (after_mark marks.Else b.2) (λ rest. else_at (statement_at h) p (c, j, mid) b rest) (Ok (If p c b.0.0, max j b.1 + 1, b.2)) in
    let f : Found IfHead → Reads Statement = λ c. block_at (statement_at h) c.2 >>= λ b. match_after (after_mark marks.Else b.2) (λ rest. else_at (statement_at h) p c b rest) (Ok (If p c.0 b.0.0, max c.1 b.1 + 1, b.2)) in
    ap (λ r. r >>= f) rc ∙ bound_bind h j (Ok (c, j, mid)) f
    ∙ ap (λ r. bound h j (r >>= g)) rb ∙ ap (bound h j) (bound_bind h k (Ok ((ss, q), k, rest)) g)
    ∙ bound_max h j k _
    ∙ ap (λ (o : Option (List Tok)). bound h (max j k) (match_after o (λ rest. else_at (statement_at h) p (c, j, mid) ((ss, q), k, rest) rest) (Ok (If p c ss, max j k + 1, rest)))) m
    ∙ bound_suc h (max j k) _

else_tier : (h : ℕ) (p q r : Place) (c : IfHead) (ss : Statements) (s : Statement) (ts mid others rest : List Tok) → if_head_at h ts ≡ bound h (if_height c) (Ok (c, if_height c, mid)) → BlockReads h ss q mid (At r (Sign marks.Else) ∷ others) → (m : ℕ) → statement_height s ≡ max (if_height c) (max (body_height ss) m) + 1 → else_at (statement_at h) p (c, if_height c, mid) ((ss, q), body_height ss, At r (Sign marks.Else) ∷ others) others ≡ bound h m (Ok (s, statement_height s, rest)) → Tier h s (At p (Sign marks.If) ∷ ts) rest
unfolding tier_at place_at keyword_of keyed_at if_at after_mark
else_tier h p q r c ss s ts mid others rest rc rb m e re =
    let j : ℕ = if_height c in
    let k : ℕ = body_height ss in
    let g : Found (Statements × Place) → Reads Statement = λ b. match_after (after_mark marks.Else b.2) (λ rest. else_at (statement_at h) p (c, j, mid) b rest) (Ok (If p c b.0.0, max j b.1 + 1, b.2)) in
    let f : Found IfHead → Reads Statement = λ c. block_at (statement_at h) c.2 >>= λ b. match_after (after_mark marks.Else b.2) (λ rest. else_at (statement_at h) p c b rest) (Ok (If p c.0 b.0.0, max c.1 b.1 + 1, b.2)) in
    ap (λ r. r >>= f) rc ∙ bound_bind h j (Ok (c, j, mid)) f
    ∙ ap (λ r. bound h j (r >>= g)) rb ∙ ap (bound h j) (bound_bind h k (Ok ((ss, q), k, At r (Sign marks.Else) ∷ others)) g)
    ∙ ap (λ r. bound h j (bound h k r)) re
    ∙ ap (bound h j) (bound_max h k m _) ∙ bound_max h j (max k m) _ ∙ bound_suc h (max j (max k m)) _
    ∙ ap (λ n. bound (suc h) n (Ok (s, statement_height s, rest))) (sym e)

else_if : (h : ℕ) (p q r : Place) (c : IfHead) (ss : Statements) (s : Statement) (mid others rest : List Tok) (tail : List Tok) → after_mark marks.If others ≡ Some tail → StatementReads h s others rest → else_at (statement_at h) p (c, if_height c, mid) ((ss, q), body_height ss, At r (Sign marks.Else) ∷ others) others ≡ bound h (statement_height s) (Ok (IfElseIf p c ss s, max (if_height c) (max (body_height ss) (statement_height s)) + 1, rest))
unfolding else_at
else_if h p q r c ss s mid others rest tail m rs =
    let f : Found Statement → Reads Statement = λ s. Ok (IfElseIf p c ss s.0, max (if_height c) (max (body_height ss) s.1) + 1, s.2) in
    rw m (ap (λ r. r >>= f) rs ∙ bound_bind h (statement_height s) (Ok (s, statement_height s, rest)) f)

else_block : (h : ℕ) (p q r o : Place) (c : IfHead) (ss es : Statements) (mid others rest : List Tok) → after_mark marks.If others ≡ None → BlockReads h es o others rest → else_at (statement_at h) p (c, if_height c, mid) ((ss, q), body_height ss, At r (Sign marks.Else) ∷ others) others ≡ bound h (body_height es) (Ok (IfElse p c ss es, max (if_height c) (max (body_height ss) (body_height es)) + 1, rest))
unfolding else_at
else_block h p q r o c ss es mid others rest m rs =
    let f : Found (Statements × Place) → Reads Statement = λ d. Ok (IfElse p c ss d.0.0, max (if_height c) (max (body_height ss) d.1) + 1, d.2) in
    rw m (ap (λ r. r >>= f) rs ∙ bound_bind h (body_height es) (Ok ((es, o), body_height es, rest)) f)

if_mark : {s : Statement} {ts rest : List Tok} → SpellsIf s ts rest → (tail : List Tok) × (after_mark marks.If ts ≡ Some tail)
unfolding after_mark
if_mark (grammar.if {ts = ts} d b) = (ts, refl)
if_mark (grammar.if_else {ts = ts} d b e) = (ts, refl)
if_mark (grammar.if_else_if {ts = ts} d b e) = (ts, refl)

block_mark : {ss : Statements} {q : Place} {ts rest : List Tok} → SpellsBlock ss q ts rest → after_mark marks.If ts ≡ None
unfolding after_mark
block_mark (grammar.braces d) = refl

-- labels
label_at_colon : (h : ℕ) (rec : List Tok → Reads Statement) (p : Place) (x : List ℕ) (q : Place) (ts : List Tok) → open_after h rec p (Name x, 1, At q (Sign marks.Colon) ∷ ts) ≡ labelled_at rec p x ts
unfolding open_after name_open bare after_mark
label_at_colon h rec p x q ts = refl

colon_quiet : (q : Place) (ts : List Tok) → Quiet (At q (Sign marks.Colon) ∷ ts)
unfolding Rattle.gr_syntax.specs.Reading.binary_of after_mark
colon_quiet q ts = (refl, refl)

open_tier : (h : ℕ) (p : Place) (ts : List Tok) → place_at ts ≡ Ok p → operator_at keyword_of ts ≡ None → tier_at h (statement_at h) ts ≡ (expr_at (suc h) 1 ts >>= λ e. open_after (suc h) (statement_at h) p e)
unfolding tier_at open_at
open_tier h p ts w m = rw (w, m) refl

plain_opens : (h : ℕ) (rec : List Tok → Reads Statement) (p : Place) (e : Found Tree) → after_mark marks.Colon e.2 ≡ None → open_after h rec p e ≡ plain_after h p e
unfolding open_after name_open
plain_opens h rec p e m = either (bare e.0) (λ x. name_open h rec p e x) (plain_after h p e) (λ x. rw m refl)

plain_goes : (h : ℕ) (p : Place) (s : Simple) (ts rest : List Tok) (d : First s ts rest) → plain_after h p (d.e, height d.e, d.mid) ≡ bound h (simple_height s) (Ok (Does p (Plain s), simple_height s, rest))
unfolding plain_after
plain_goes h p s ts rest d =
    let g : Found Simple → Reads Statement = λ s. Ok (placed p (Plain s.0, s.1, s.2)) in
    ap (λ r. r >>= g) (d.goes h true p (λ e. absurd (cc))) ∙ bound_bind h (simple_height s) (Ok (s, simple_height s, rest)) g

label_tier : (h : ℕ) (p q : Place) (x : List ℕ) (s : Statement) (ts rest : List Tok) → labelled_at (statement_at h) p x ts ≡ bound (suc h) (statement_height s) (Ok (s, statement_height s, rest)) → Tier h s (At p (words.Name x) ∷ At q (Sign marks.Colon) ∷ ts) rest
unfolding place_at
label_tier h p q x s ts rest r =
    let mid : List Tok = At q (Sign marks.Colon) ∷ ts in
    let first : SpellsExpr 1 (Name x) (At p (words.Name x) ∷ mid) mid = alone name in
    open_tier h p (At p (words.Name x) ∷ mid) refl (expr_opened first).keyword
    ∙ from_first (suc h) (Name x) (At p (words.Name x) ∷ mid) mid (λ e. open_after (suc h) (statement_at h) p e) (statement_height s) (Ok (s, statement_height s, rest)) first (colon_quiet q ts) (omega (arith, statement_pos s))
    (λ le. label_at_colon (suc h) (statement_at h) p x q ts ∙ r)

labelled_empty : (h : ℕ) (p : Place) (x : List ℕ) (ts : List Tok) → done_at ts ≡ true → labelled_at (statement_at h) p x ts ≡ bound (suc h) 1 (Ok (EmptyLabel p x, 1, ts))
unfolding labelled_at
labelled_empty h p x ts m = rw m (sym (within (suc h) 1 (Ok (EmptyLabel p x, 1, ts)) (omega arith)))

labelled_one : (h : ℕ) (p : Place) (x : List ℕ) (s : Statement) (ts rest : List Tok) → done_at ts ≡ false → StatementReads h s ts rest → labelled_at (statement_at h) p x ts ≡ bound (suc h) (statement_height s + 1) (Ok (Label p x s, statement_height s + 1, rest))
unfolding labelled_at
labelled_one h p x s ts rest m r = rw m (under h (statement_height s) (statement_at h ts) (s, statement_height s, rest) (λ s. Ok (Label p x s.0, s.1 + 1, s.2)) r)

-- what has no statements in it
plain_tier : (h : ℕ) (p : Place) (s : Simple) (ts rest : List Tok) → place_at ts ≡ Ok p → SpellsSimple s ts rest → Over rest → Tier h (Does p (Plain s)) ts rest
plain_tier h p s ts rest w ds o =
    let d = simple_first ds o in
    open_tier h p ts w (expr_opened d.spelled).keyword
    ∙ from_first (suc h) d.e ts d.mid (λ e. open_after (suc h) (statement_at h) p e) (simple_height s) (Ok (Does p (Plain s), simple_height s, rest)) d.spelled d.quiet d.low
    (λ le. plain_opens (suc h) (statement_at h) p (d.e, height d.e, d.mid) d.label ∙ plain_goes (suc h) p s ts rest d)

act_goes : (h : ℕ) (p : Place) (a : Act) (read : Reads Act) (rest : List Tok) → read ≡ bound (suc h) (act_height a) (Ok (a, act_height a, rest)) → (read >>= λ a. Ok (placed p a)) ≡ bound (suc h) (act_height a) (Ok (Does p a, act_height a, rest))
act_goes h p a read rest r =
    let f : Found Act → Reads Statement = λ a. Ok (placed p a) in
    ap (λ r. r >>= f) r ∙ bound_bind (suc h) (act_height a) (Ok (a, act_height a, rest)) f

act_tier : {a : Act} {p : Place} {w : Word} {ts rest : List Tok} → SpellsAct a (At p w ∷ ts) rest → Ends rest → (h : ℕ) → Tier h (Does p a) (At p w ∷ ts) rest
unfolding tier_at place_at keyword_of keyed_at
act_tier {p = p} {w = w} {ts = ts} {rest = rest} (grammar.plain {s = s} d) n h = plain_tier h p s (At p w ∷ ts) rest refl d n.over
act_tier {p = p} {rest = rest} (grammar.var {xs = xs} {t = t} {ts = ts} {mid = mid} d dt) n h = act_goes h p (Var xs t) (var_at (suc h) ts) rest (var_whole (suc h) xs t ts mid rest d dt n.over)
act_tier {p = p} {rest = rest} (grammar.var_typed {q = q} {xs = xs} {t = t} {es = es} {ts = ts} {mid = mid} {values = values} d dt ds) n h = act_goes h p (VarValues xs (Some t) es) (var_at (suc h) ts) rest (var_typed_whole (suc h) xs t es q ts mid values rest d dt ds n.over)
act_tier {p = p} {rest = rest} (grammar.var_values {q = q} {xs = xs} {es = es} {ts = ts} {values = values} d ds) n h = act_goes h p (VarValues xs None es) (var_at (suc h) ts) rest (var_values_whole (suc h) xs es q ts values rest d ds n.over)
act_tier {p = p} {rest = rest} (grammar.go {f = f} {es = es} {ts = ts} d) n h = act_goes h p (Go f es) (go_at (suc h) ts) rest (go_whole d (suc h))
act_tier {p = p} {rest = rest} grammar.return_none n h = act_goes h p (Return None) (return_at (suc h) rest) rest (return_none_whole (suc h) rest (omega arith) n)
act_tier {p = p} {rest = rest} (grammar.return {e = e} {ts = ts} d) n h = act_goes h p (Return (Some e)) (return_at (suc h) ts) rest (return_whole (suc h) e ts rest d n.over)
act_tier {p = p} {rest = rest} grammar.break_none n h = act_goes h p (Break None) (jump_at Break rest) rest (jump_none_whole (suc h) Break rest refl (omega arith) n)
act_tier {p = p} {rest = rest} (grammar.break {q = q} {x = x}) n h = act_goes h p (Break (Some x)) (jump_at Break (At q (words.Name x) ∷ rest)) rest (jump_whole (suc h) Break q x rest refl (omega arith))
act_tier {p = p} {rest = rest} grammar.continue_none n h = act_goes h p (Continue None) (jump_at Continue rest) rest (jump_none_whole (suc h) Continue rest refl (omega arith) n)
act_tier {p = p} {rest = rest} (grammar.continue {q = q} {x = x}) n h = act_goes h p (Continue (Some x)) (jump_at Continue (At q (words.Name x) ∷ rest)) rest (jump_whole (suc h) Continue q x rest refl (omega arith))

select_tier : (h : ℕ) (p q r : Place) (cs : Clauses) (ts rest : List Tok) → ClausesTo h closed 0 cs ts (At r (Sign marks.RightBrace) ∷ rest) → Tier h (Select p cs) (At p (Sign marks.Select) ∷ At q (Sign marks.LeftBrace) ∷ ts) rest
unfolding tier_at place_at keyword_of keyed_at select_at clauses_at need after_mark
select_tier h p q r cs ts rest d =
    let z : max 0 (clauses_height cs) ≡ clauses_height cs = omega arith in
    let f : Found Clauses → Reads Statement = λ cs. need marks.RightBrace cs.2 >>= λ r. Ok (Select p cs.0, cs.1 + 1, r.1) in
    under h (clauses_height cs) (loop (clause_turn h (statement_at h)) (closed, 0, ts)) (cs, clauses_height cs, At r (Sign marks.RightBrace) ∷ rest) f (d ∙ ap (λ n. bound h (clauses_height cs) (Ok (cs, n, At r (Sign marks.RightBrace) ∷ rest))) z)

mutual
  pub statement_whole : {s : Statement} {ts rest : List Tok} → SpellsStatement s ts rest → Ends rest → (h : ℕ) → StatementReads h s ts rest
  statement_whole (grammar.does {p = p} {w = w} {a = a} {ts = ts} {rest = rest} d) n h = from_tier (Does p a) (At p w ∷ ts) rest (act_tier d n) h
  statement_whole (grammar.block d) n h = block_reads d h
  statement_whole (grammar.branch d) n h = if_reads d n h
  statement_whole (grammar.for {p = p} {q = q} {h = c} {ss = ss} {ts = ts} {rest = rest} d b) n h = for_reads p d b h
  statement_whole (grammar.select {p = p} {q = q} {r = r} {cs = cs} {ts = ts} {rest = rest} d) n h =
      from_tier (Select p cs) (At p (Sign marks.Select) ∷ At q (Sign marks.LeftBrace) ∷ ts) rest (λ h. select_tier h p q r cs ts rest (clauses_whole d h closed 0)) h
  statement_whole (grammar.label {p = p} {q = q} {x = x} {s = s} {ts = ts} {rest = rest} d) n h =
      from_tier (Label p x s) (At p (words.Name x) ∷ At q (Sign marks.Colon) ∷ ts) rest (λ h. label_tier h p q x (Label p x s) ts rest (labelled_one h p x s ts rest (statement_starts d).done (statement_whole d n h))) h
  statement_whole (grammar.empty_label {p = p} {q = q} {x = x} {rest = rest}) n h =
      from_tier (EmptyLabel p x) (At p (words.Name x) ∷ At q (Sign marks.Colon) ∷ rest) rest (λ h. label_tier h p q x (EmptyLabel p x) rest rest (labelled_empty h p x rest n.done)) h

  block_reads : {p q : Place} {w : Word} {ss : Statements} {ts rest : List Tok} → SpellsBlock ss q (At p w ∷ ts) rest → (h : ℕ) → StatementReads h (Block p ss) (At p w ∷ ts) rest
  block_reads (grammar.braces {p = p} {q = q} {ss = ss} {ts = ts} {rest = rest} d) h =
      from_tier (Block p ss) (At p (Sign marks.LeftBrace) ∷ ts) rest (λ h. block_tier h p q ss ts rest (block_whole h ss p q ts rest (list_to d (brace_stops q rest) h end 0))) h

  for_reads : (p : Place) {q : Place} {c : ForHead} {ss : Statements} {ts mid rest : List Tok} → SpellsForHead c ts mid → SpellsBlock ss q mid rest → (h : ℕ) → StatementReads h (For p c ss) (At p (Sign marks.For) ∷ ts) rest
  for_reads p {q} {c} {ss} {ts} {mid} {rest} d (grammar.braces {p = b} {ts = body} l) h =
      from_tier (For p c ss) (At p (Sign marks.For) ∷ ts) rest (λ h. for_tier h p q c ss ts (At b (Sign marks.LeftBrace) ∷ body) rest (for_head_whole d h) (block_whole h ss b q body rest (list_to l (brace_stops q rest) h end 0))) h

  pub block_at_whole : {q : Place} {ss : Statements} {ts rest : List Tok} → SpellsBlock ss q ts rest → (h : ℕ) → BlockReads h ss q ts rest
  block_at_whole (grammar.braces {p = p} {q = q} {ss = ss} {ts = ts} {rest = rest} d) h = block_whole h ss p q ts rest (list_to d (brace_stops q rest) h end 0)

  if_reads : {s : Statement} {ts rest : List Tok} → SpellsIf s ts rest → Ends rest → (h : ℕ) → StatementReads h s ts rest
  if_reads (grammar.if {p = p} {q = q} {h = c} {ss = ss} {ts = ts} {mid = mid} {rest = rest} d b) n h =
      from_tier (If p c ss) (At p (Sign marks.If) ∷ ts) rest (λ h. if_tier h p q c ss ts mid rest (if_head_reads d b h) (block_at_whole b h) n.otherwise) h
  if_reads (grammar.if_else {p = p} {q = q} {r = r} {s = o} {h = c} {ss = ss} {es = es} {ts = ts} {mid = mid} {others = others} {rest = rest} d b e) n h =
      from_tier (IfElse p c ss es) (At p (Sign marks.If) ∷ ts) rest (λ h. else_tier h p q r c ss (IfElse p c ss es) ts mid others rest (if_head_reads d b h) (block_at_whole b h) (body_height es) refl (else_block h p q r o c ss es mid others rest (block_mark e) (block_at_whole e h))) h
  if_reads (grammar.if_else_if {p = p} {q = q} {r = r} {h = c} {ss = ss} {e = s} {ts = ts} {mid = mid} {others = others} {rest = rest} d b e) n h =
      let m = if_mark e in
      from_tier (IfElseIf p c ss s) (At p (Sign marks.If) ∷ ts) rest (λ h. else_tier h p q r c ss (IfElseIf p c ss s) ts mid others rest (if_head_reads d b h) (block_at_whole b h) (statement_height s) refl (else_if h p q r c ss s mid others rest m.0 m.1 (if_reads e n h))) h

  if_head_reads : {c : IfHead} {q : Place} {ss : Statements} {ts mid rest : List Tok} → SpellsIfHead c ts mid → SpellsBlock ss q mid rest → (h : ℕ) → if_head_at h ts ≡ bound h (if_height c) (Ok (c, if_height c, mid))
  if_head_reads d (grammar.braces l) h = if_head_whole d h

  list_to : {ss : Statements} {ts rest : List Tok} → SpellsList ss ts rest → stops_at rest ≡ true → (h : ℕ) (acc : Statements) (k : ℕ) → ListTo h acc k ss ts rest
  list_to (grammar.ends {ts = ts}) m h acc k = list_end h acc k ts m
  list_to (grammar.empty {p = p} {ss = ss} {ts = ts} {rest = rest} d) m h acc k = list_empty h acc k ss p ts rest (list_to d m h acc k)
  list_to (grammar.one {p = p} {s = s} {ss = ss} {ts = ts} {mid = mid} {rest = rest} d ds) m h acc k =
      list_statement h acc k s ts (At p (Sign marks.Semicolon) ∷ mid) mid (statement_starts d) (statement_whole d (ends_semicolon p mid) h) (past_one p mid)
      ∙ list_then h acc k s ss mid rest (list_to ds m h (added acc s) (max k (statement_height s)))
  list_to (grammar.final {p = p} {s = s} {ts = ts} {rest = rest} d) m h acc k =
      let after : List Tok = At p (Sign marks.RightBrace) ∷ rest in
      list_statement h acc k s ts after after (statement_starts d) (statement_whole d (ends_brace p rest) h) (past_none p rest)
      ∙ list_then h acc k s end after after (list_end h (added acc s) (max k (statement_height s)) after m)

  clauses_whole : {cs : Clauses} {ts : List Tok} {q : Place} {rest : List Tok} → SpellsClauses cs ts (At q (Sign marks.RightBrace) ∷ rest) → (h : ℕ) (acc : Clauses) (k : ℕ) → ClausesTo h acc k cs ts (At q (Sign marks.RightBrace) ∷ rest)
  clauses_whole {q = q} {rest = rest} grammar.no_clause h acc k = clauses_end h acc k q rest
  clauses_whole {q = q} {rest = rest} (grammar.default_clause {p = p} {q = r} {ss = ss} {cs = cs} {ts = ts} {mid = mid} d ds) h acc k =
      clauses_default h acc k p r ss cs ts mid (At q (Sign marks.RightBrace) ∷ rest) (list_whole h ss ts mid (list_to d (clauses_stop ds) h end 0)) (clauses_whole ds h (with_default acc ss) (max k (body_height ss)))
  clauses_whole {q = q} {rest = rest} (grammar.case_clause {p = p} {q = r} {c = c} {ss = ss} {cs = cs} {ts = ts} {body = body} {mid = mid} dc d ds) h acc k =
      clauses_case h acc k p r c ss cs ts body mid (At q (Sign marks.RightBrace) ∷ rest) (comm_whole dc h) (list_whole h ss body mid (list_to d (clauses_stop ds) h end 0)) (clauses_whole ds h (with_case acc c ss) (max k (max (comm_height c) (body_height ss))))
