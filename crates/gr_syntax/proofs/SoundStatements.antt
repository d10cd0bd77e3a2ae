-- Statements, their lists and the clauses of a select: what is read is in the grammar.
use Rattle.std.proofs.Common.{◌≡◌, ℕ, zero, suc, ◌+◌, ◌≤◌, max, true, cond, List, ◌∷◌, length, refl, ap, sym, ◌∙◌, subst, arith}
use Rattle.std.specs.Prelude.{Some, None, Ok}
use Rattle.gr_scan.specs.declared.token.Place.{Place}
use Rattle.gr_scan.specs.declared.token.Mark.{Mark}
use Rattle.gr_scan.specs.declared.token.Mark.TheVariants as marks
use Rattle.gr_scan.specs.Tokens.{Tok, At, Sign, Word}
use Rattle.gr_scan.specs.Tokens as words
use Rattle.gr_tree.specs.Exprs.{Tree}
use Rattle.gr_tree.specs.Statements.{Act, Plain, Break, Continue, IfHead, Comm, Statement, Select, Statements, end, then, Clauses, closed, default, case, if_height, statement_height, body_height, clauses_height}
use Rattle.gr_syntax.specs.declared.opening.Keyword.{Keyword}
use Rattle.gr_syntax.specs.declared.opening.Keyword.TheVariants as keywords
use Rattle.gr_syntax.specs.Grammar.{after_mark}
use Rattle.gr_syntax.specs.StatementGrammar as grammar
use Rattle.gr_syntax.specs.StatementGrammar.{SpellsSimple, SpellsAct, SpellsIfHead, SpellsForHead, SpellsComm, SpellsStatement, SpellsIf, SpellsList, SpellsBlock, SpellsClauses}
use Rattle.gr_syntax.specs.Reading.{ReadError, Found, Reads, ◌>>=◌, Turn, turned, turns, loop, match_after, operator_at, need, expr_at}
use Rattle.gr_syntax.specs.Reading as reading
use Rattle.gr_syntax.specs.SimpleReading.{keyword_of, done_at, stops_at, place_at, bare, simple_after, var_at, go_at, return_at, jump_at}
use Rattle.gr_syntax.specs.StatementReading.{if_head_at, for_head_at, comm_at, past_semicolon, added, list_more, list_turn, list_at, block_at, else_at, if_at, for_at, with_default, with_case, case_at, default_at, clause_turn, clauses_at, select_at, placed, labelled_at, plain_after, name_open, open_after, open_at, braced_at, keyed_at, tier_at, statement_at}
use Rattle.gr_syntax.proofs.Cases.{ok_inj, on_ok, on_look, on_test, Opens, after_is, need_is, operator_is}
use Rattle.gr_syntax.proofs.Chains.{IsExpr}
use Rattle.gr_syntax.proofs.SoundExprs.{expr_sound}
use Rattle.gr_syntax.proofs.FirstTokens.{keyword_mark, keyword_is, bare_tokens, Begins, place_is, opened, named}
use Rattle.gr_syntax.proofs.SoundSimple.{IsRead, IsAct, simple_sound, var_sound, go_sound, return_sound, break_sound, continue_sound}
use Rattle.gr_syntax.proofs.SoundHeads.{if_head_sound, for_head_sound, comm_sound}

-- what reading a statement answers, under a limit h on its height
pub record IsStatement (h : ℕ) (ts : List Tok) (u : Found Statement) : Type 0 where
  pub spelled : SpellsStatement u.0 ts u.2
  pub branch : (rest : List Tok) → after_mark marks.If ts ≡ Some rest → SpellsIf u.0 ts u.2
  pub high : u.1 ≡ statement_height u.0
  pub fits : u.1 ≤ h

abbrev pub Sounds : ℕ → (List Tok → Reads Statement) → Type 0
Sounds h rec = (ts : List Tok) (u : Found Statement) → rec ts ≡ Ok u → IsStatement h ts u

-- statements before others
abbrev pub joined : Statements → Statements → Statements
joined end others = others
joined ((then) s ss) others = (then) s (joined ss others)

pub added_joined : (ss : Statements) (s : Statement) (others : Statements) → joined (added ss s) others ≡ joined ss ((then) s others)
added_joined end s others = refl
added_joined ((then) r ss) s others = ap ((then) r) (added_joined ss s others)

pub joined_end : (ss : Statements) → joined ss end ≡ ss
joined_end end = refl
joined_end ((then) s ss) = ap ((then) s) (joined_end ss)

-- a block and where it closes
abbrev pub IsBlock : ℕ → List Tok → Found (Statements × Place) → Type 0
IsBlock h ts u = IsRead (λ (b : Statements × Place) ts rest. SpellsBlock b.0 b.1 ts rest) (λ (b : Statements × Place). body_height b.0) h ts u

-- what the turns of a list answer, after statements of height k
pub record IsListed (h : ℕ) (acc : Statements) (k : ℕ) (ts : List Tok) (u : Found Statements) : Type 0 where
  pub ss : Statements
  pub all : u.0 ≡ joined acc ss
  pub spelled : SpellsList ss ts u.2
  pub high : u.1 ≡ max k (body_height ss)
  pub fits : body_height ss ≤ h

module _ (h : ℕ) (rec : List Tok → Reads Statement) (snd : Sounds h rec) where
  abbrev Runs : ℕ → Type 0
  Runs n = (acc : Statements) (k : ℕ) (ts : List Tok) (u : Found Statements) → turns (list_turn rec) n (acc, k, ts) ≡ Ok u → IsListed h acc k ts u

  abbrev next : ℕ → Turn (Found Statements) → Reads Statements
  next n = turned (turns (list_turn rec) n)

  stops : (acc : Statements) (k : ℕ) (ts : List Tok) (u : Found Statements) → ◌≡◌ {A = Reads Statements} (Ok (acc, k, ts)) (Ok u) → IsListed h acc k ts u
  stops acc k ts u q = subst (λ v. IsListed h acc k ts v) (ok_inj q) (record { ss = end; all = sym (joined_end acc); spelled = grammar.ends; high = omega arith; fits = omega arith })

  -- where `}` is next, the list ends
  brace_stops : (ts rest : List Tok) → after_mark marks.RightBrace ts ≡ Some rest → stops_at ts ≡ true
  unfolding stops_at
  brace_stops ts rest m = let o = after_is marks.RightBrace ts rest m in rw o.is refl

  closes_now : (n : ℕ) (s u : Found Statements) (rest : List Tok) → after_mark marks.RightBrace s.2 ≡ Some rest → turns (list_turn rec) n s ≡ Ok u → s ≡ u
  unfolding list_turn
  closes_now zero s u rest m q = absurd (cc)
  closes_now (suc n) s u rest m q = let b = brace_stops s.2 rest m in ok_inj (rw b at q)

  one_statement : (n : ℕ) → Runs n → (acc : Statements) (k : ℕ) (ts : List Tok) (s : Found Statement) (mid : List Tok) (p : Place) (u : Found Statements) → IsStatement h ts s → s.2 ≡ At p (Sign marks.Semicolon) ∷ mid → turns (list_turn rec) n (added acc s.0, max k s.1, mid) ≡ Ok u → IsListed h acc k ts u
  one_statement n ih acc k ts s mid p u d e q =
      let b = ih (added acc s.0) (max k s.1) mid u q in
      let first : SpellsStatement s.0 ts (At p (Sign marks.Semicolon) ∷ mid) = subst (λ r. SpellsStatement s.0 ts r) e d.spelled in
      record { ss = (then) s.0 b.ss; all = b.all ∙ added_joined acc s.0 b.ss; spelled = grammar.one first b.spelled; high = omega (arith, b.high, d.high); fits = omega (arith, b.fits, d.high, d.fits) }

  final_statement : (acc : Statements) (k : ℕ) (ts : List Tok) (s : Found Statement) (rest : List Tok) (u : Found Statements) → IsStatement h ts s → Opens marks.RightBrace s.2 rest → (added acc s.0, max k s.1, s.2) ≡ u → IsListed h acc k ts u
  final_statement acc k ts s rest u d o e =
      let closing : List Tok = At o.place (Sign marks.RightBrace) ∷ rest in
      let last : SpellsStatement s.0 ts closing = subst (λ r. SpellsStatement s.0 ts r) o.is d.spelled in
      let list : SpellsList ((then) s.0 end) ts s.2 = subst (λ r. SpellsList ((then) s.0 end) ts r) (sym o.is) (grammar.final last) in
      let all : added acc s.0 ≡ joined acc ((then) s.0 end) = sym (joined_end (added acc s.0)) ∙ added_joined acc s.0 end in
      subst (λ v. IsListed h acc k ts v) e (record { ss = (then) s.0 end; all = all; spelled = list; high = omega (arith, d.high); fits = omega (arith, d.high, d.fits) })

  after_statement : (n : ℕ) → Runs n → (acc : Statements) (k : ℕ) (ts : List Tok) (s : Found Statement) (rest : List Tok) (u : Found Statements) → IsStatement h ts s → past_semicolon s.2 ≡ Ok rest → turns (list_turn rec) n (added acc s.0, max k s.1, rest) ≡ Ok u → IsListed h acc k ts u
  unfolding past_semicolon
  after_statement n ih acc k ts s rest u d e q =
      on_look (after_mark marks.RightBrace s.2) _ _ (Ok rest) e
      (λ tail m e. let same : s.2 ≡ rest = ok_inj e in
      let q' : turns (list_turn rec) n (added acc s.0, max k s.1, s.2) ≡ Ok u = subst (λ r. turns (list_turn rec) n (added acc s.0, max k s.1, r) ≡ Ok u) (sym same) q in
      final_statement acc k ts s tail u d (after_is marks.RightBrace s.2 tail m) (closes_now n (added acc s.0, max k s.1, s.2) u tail m q'))
      (λ m e. on_ok (need marks.Semicolon s.2) _ rest e (λ r er e.
      one_statement n ih acc k ts s rest r.0 u d (need_is marks.Semicolon s.2 r er ∙ ap (λ ts. At r.0 (Sign marks.Semicolon) ∷ ts) (ok_inj e)) q))

  list_run_sound : (n : ℕ) → Runs n
  unfolding list_turn
  list_run_sound zero acc k ts u q = absurd (cc)
  list_run_sound (suc n) acc k ts u q =
      on_ok (cond (stops_at ts) (Ok (reading.Stop (acc, k, ts))) (list_more rec (acc, k, ts))) (next n) u q (λ v ev q.
      on_test (stops_at ts) _ _ (Ok v) ev
      (λ b ev. stops acc k ts u (subst (λ d. next n d ≡ Ok u) (sym (ok_inj ev)) q))
      (λ b ev. on_look (after_mark marks.Semicolon ts) _ _ (Ok v) ev
      (λ rest m ev. let o = after_is marks.Semicolon ts rest m in
      let b = list_run_sound n acc k rest u (subst (λ d. next n d ≡ Ok u) (sym (ok_inj ev)) q) in
      subst (λ ts. IsListed h acc k ts u) (sym o.is) (record { ss = b.ss; all = b.all; spelled = grammar.empty b.spelled; high = b.high; fits = b.fits }))
      (λ m ev. on_ok (rec ts) _ v ev (λ s es ev. on_ok (past_semicolon s.2) _ v ev (λ rest er ev.
      after_statement n (list_run_sound n) acc k ts s rest u (snd ts s es) er (subst (λ d. next n d ≡ Ok u) (sym (ok_inj ev)) q))))))

  pub list_sound : (ts : List Tok) (u : Found Statements) → list_at rec ts ≡ Ok u → IsRead SpellsList body_height h ts u
  unfolding list_at loop
  list_sound ts u q =
      let b = list_run_sound (suc (length ts)) end 0 ts u q in
      record { spelled = subst (λ ss. SpellsList ss ts u.2) (sym b.all) b.spelled; high = omega (arith, b.high, ap body_height b.all); fits = omega (arith, b.high, b.fits) }

  -- a block, and where it closes
  pub block_sound : (ts : List Tok) (u : Found (Statements × Place)) → block_at rec ts ≡ Ok u → IsBlock h ts u
  unfolding block_at
  block_sound ts u q =
      on_ok (need marks.LeftBrace ts) _ u q (λ a ea q. on_ok (list_at rec a.1) _ u q (λ ss es q. on_ok (need marks.RightBrace ss.2) _ u q (λ b eb q.
      let s = list_sound a.1 ss es in
      subst (IsBlock h ts) (ok_inj q)
      (subst (λ ts. IsBlock h ts ((ss.0, b.0), ss.1, b.1)) (sym (need_is marks.LeftBrace ts a ea))
      (record { spelled = grammar.braces (subst (λ r. SpellsList ss.0 a.1 r) (need_is marks.RightBrace ss.2 b eb) s.spelled); high = s.high; fits = s.fits })))))

  else_sound : (p : Place) (ts : List Tok) (c : Found IfHead) (b : Found (Statements × Place)) (rest : List Tok) (u : Found Statement) → IsRead SpellsIfHead if_height h ts c → IsBlock h c.2 b → Opens marks.Else b.2 rest → else_at rec p c b rest ≡ Ok u → IsRead SpellsIf statement_height (suc h) (At p (Sign marks.If) ∷ ts) u
  unfolding else_at
  else_sound p ts c b rest u x y o q =
      let body : SpellsBlock b.0.0 b.0.1 c.2 (At o.place (Sign marks.Else) ∷ rest) = subst (λ r. SpellsBlock b.0.0 b.0.1 c.2 r) o.is y.spelled in
      on_look (after_mark marks.If rest) _ _ (Ok u) q
      (λ tail m q. on_ok (rec rest) _ u q (λ s es q.
      let t = snd rest s es in
      subst (IsRead SpellsIf statement_height (suc h) (At p (Sign marks.If) ∷ ts)) (ok_inj q)
      (record { spelled = grammar.if_else_if x.spelled body (t.branch tail m); high = omega (arith, x.high, y.high, t.high); fits = omega (arith, x.fits, y.fits, t.fits) })))
      (λ m q. on_ok (block_at rec rest) _ u q (λ d ed q.
      let t = block_sound rest d ed in
      subst (IsRead SpellsIf statement_height (suc h) (At p (Sign marks.If) ∷ ts)) (ok_inj q)
      (record { spelled = grammar.if_else x.spelled body t.spelled; high = omega (arith, x.high, y.high, t.high); fits = omega (arith, x.fits, y.fits, t.fits) })))

  if_sound : (p : Place) (ts : List Tok) (u : Found Statement) → if_at h rec p ts ≡ Ok u → IsRead SpellsIf statement_height (suc h) (At p (Sign marks.If) ∷ ts) u
  unfolding if_at
  if_sound p ts u q =
      on_ok (if_head_at h ts) _ u q (λ c ec q. on_ok (block_at rec c.2) _ u q (λ b eb q.
      let x = if_head_sound h ts c ec in
      let y = block_sound c.2 b eb in
      on_look (after_mark marks.Else b.2) _ _ (Ok u) q
      (λ rest m q. else_sound p ts c b rest u x y (after_is marks.Else b.2 rest m) q)
      (λ m q. subst (IsRead SpellsIf statement_height (suc h) (At p (Sign marks.If) ∷ ts)) (ok_inj q)
      (record { spelled = grammar.if x.spelled y.spelled; high = omega (arith, x.high, y.high); fits = omega (arith, x.fits, y.fits) }))))

  for_sound : (p : Place) (ts : List Tok) (u : Found Statement) → for_at h rec p ts ≡ Ok u → IsRead SpellsStatement statement_height (suc h) (At p (Sign marks.For) ∷ ts) u
  unfolding for_at
  for_sound p ts u q =
      on_ok (for_head_at h ts) _ u q (λ c ec q. on_ok (block_at rec c.2) _ u q (λ b eb q.
      let x = for_head_sound h ts c ec in
      let y = block_sound c.2 b eb in
      subst (IsRead SpellsStatement statement_height (suc h) (At p (Sign marks.For) ∷ ts)) (ok_inj q)
      (record { spelled = grammar.for x.spelled y.spelled; high = omega (arith, x.high, y.high); fits = omega (arith, x.fits, y.fits) })))

-- clauses before others
abbrev pub clauses_joined : Clauses → Clauses → Clauses
clauses_joined closed others = others
clauses_joined (default body cs) others = default body (clauses_joined cs others)
clauses_joined (case c body cs) others = case c body (clauses_joined cs others)

pub default_joined : (cs : Clauses) (ss : Statements) (others : Clauses) → clauses_joined (with_default cs ss) others ≡ clauses_joined cs (default ss others)
default_joined closed ss others = refl
default_joined (default body cs) ss others = ap (default body) (default_joined cs ss others)
default_joined (case c body cs) ss others = ap (case c body) (default_joined cs ss others)

pub case_joined : (cs : Clauses) (c : Comm) (ss : Statements) (others : Clauses) → clauses_joined (with_case cs c ss) others ≡ clauses_joined cs (case c ss others)
case_joined closed c ss others = refl
case_joined (default body cs) c ss others = ap (default body) (case_joined cs c ss others)
case_joined (case d body cs) c ss others = ap (case d body) (case_joined cs c ss others)

pub joined_closed : (cs : Clauses) → clauses_joined cs closed ≡ cs
joined_closed closed = refl
joined_closed (default body cs) = ap (default body) (joined_closed cs)
joined_closed (case c body cs) = ap (case c body) (joined_closed cs)

-- what the turns of a list of clauses answer, after clauses of height k
pub record IsCased (h : ℕ) (acc : Clauses) (k : ℕ) (ts : List Tok) (u : Found Clauses) : Type 0 where
  pub cs : Clauses
  pub all : u.0 ≡ clauses_joined acc cs
  pub spelled : SpellsClauses cs ts u.2
  pub high : u.1 ≡ max k (clauses_height cs)
  pub fits : clauses_height cs ≤ h

module _ (h : ℕ) (rec : List Tok → Reads Statement) (snd : Sounds h rec) where
  abbrev ClausesRun : ℕ → Type 0
  ClausesRun n = (acc : Clauses) (k : ℕ) (ts : List Tok) (u : Found Clauses) → turns (clause_turn h rec) n (acc, k, ts) ≡ Ok u → IsCased h acc k ts u

  abbrev then_turn : ℕ → Turn (Found Clauses) → Reads Clauses
  then_turn n = turned (turns (clause_turn h rec) n)

  case_sound : (n : ℕ) → ClausesRun n → (acc : Clauses) (k : ℕ) (p : Place) (ts : List Tok) (v : Turn (Found Clauses)) (u : Found Clauses) → case_at h rec (acc, k, At p (Sign marks.Case) ∷ ts) ts ≡ Ok v → then_turn n v ≡ Ok u → IsCased h acc k (At p (Sign marks.Case) ∷ ts) u
  case_sound n ih acc k p ts v u ev q =
      on_ok (comm_at h ts) _ v ev (λ c ec ev. on_ok (need marks.Colon c.2) _ v ev (λ r er ev. on_ok (list_at rec r.1) _ v ev (λ ss es ev.
      let x = comm_sound h ts c ec in
      let y = list_sound h rec snd r.1 ss es in
      let b = ih (with_case acc c.0 ss.0) (max k (max c.1 ss.1)) ss.2 u (subst (λ d. then_turn n d ≡ Ok u) (sym (ok_inj ev)) q) in
      let first : SpellsComm c.0 ts (At r.0 (Sign marks.Colon) ∷ r.1) = subst (λ r. SpellsComm c.0 ts r) (need_is marks.Colon c.2 r er) x.spelled in
      record { cs = case c.0 ss.0 b.cs; all = b.all ∙ case_joined acc c.0 ss.0 b.cs; spelled = grammar.case_clause first y.spelled b.spelled; high = omega (arith, b.high, x.high, y.high); fits = omega (arith, b.fits, x.high, x.fits, y.high, y.fits) })))

  default_sound : (n : ℕ) → ClausesRun n → (acc : Clauses) (k : ℕ) (p : Place) (ts : List Tok) (v : Turn (Found Clauses)) (u : Found Clauses) → default_at rec (acc, k, At p (Sign marks.Default) ∷ ts) ts ≡ Ok v → then_turn n v ≡ Ok u → IsCased h acc k (At p (Sign marks.Default) ∷ ts) u
  default_sound n ih acc k p ts v u ev q =
      on_ok (need marks.Colon ts) _ v ev (λ r er ev. on_ok (list_at rec r.1) _ v ev (λ ss es ev.
      let y = list_sound h rec snd r.1 ss es in
      let b = ih (with_default acc ss.0) (max k ss.1) ss.2 u (subst (λ d. then_turn n d ≡ Ok u) (sym (ok_inj ev)) q) in
      subst (λ ts. IsCased h acc k (At p (Sign marks.Default) ∷ ts) u) (sym (need_is marks.Colon ts r er))
      (record { cs = default ss.0 b.cs; all = b.all ∙ default_joined acc ss.0 b.cs; spelled = grammar.default_clause y.spelled b.spelled; high = omega (arith, b.high, y.high); fits = omega (arith, b.fits, y.high, y.fits) })))

  clauses_run_sound : (n : ℕ) → ClausesRun n
  unfolding clause_turn
  clauses_run_sound zero acc k ts u q = absurd (cc)
  clauses_run_sound (suc n) acc k ts u q =
      on_ok (match_after (after_mark marks.Case ts) (λ rest. case_at h rec (acc, k, ts) rest) (match_after (after_mark marks.Default ts) (λ rest. default_at rec (acc, k, ts) rest) (Ok (reading.Stop (acc, k, ts))))) (then_turn n) u q (λ v ev q.
      on_look (after_mark marks.Case ts) _ _ (Ok v) ev
      (λ rest m ev. let o = after_is marks.Case ts rest m in
      subst (λ ts. IsCased h acc k ts u) (sym o.is) (case_sound n (clauses_run_sound n) acc k o.place rest v u ev q))
      (λ m ev. on_look (after_mark marks.Default ts) _ _ (Ok v) ev
      (λ rest m ev. let o = after_is marks.Default ts rest m in
      subst (λ ts. IsCased h acc k ts u) (sym o.is) (default_sound n (clauses_run_sound n) acc k o.place rest v u ev q))
      (λ m ev.
      let done : ◌≡◌ {A = Reads Clauses} (Ok (acc, k, ts)) (Ok u) = subst (λ d. then_turn n d ≡ Ok u) (sym (ok_inj ev)) q in
      subst (λ v. IsCased h acc k ts v) (ok_inj done) (record { cs = closed; all = sym (joined_closed acc); spelled = grammar.no_clause; high = omega arith; fits = omega arith }))))

  select_sound : (p : Place) (ts : List Tok) (u : Found Statement) → select_at h rec p ts ≡ Ok u → IsRead SpellsStatement statement_height (suc h) (At p (Sign marks.Select) ∷ ts) u
  unfolding select_at clauses_at loop
  select_sound p ts u q =
      on_ok (need marks.LeftBrace ts) _ u q (λ a ea q. on_ok (clauses_at h rec a.1) _ u q (λ cs ec q. on_ok (need marks.RightBrace cs.2) _ u q (λ r er q.
      let b = clauses_run_sound (suc (length a.1)) closed 0 a.1 cs ec in
      let all : SpellsClauses cs.0 a.1 (At r.0 (Sign marks.RightBrace) ∷ r.1) = subst (λ r. SpellsClauses cs.0 a.1 r) (need_is marks.RightBrace cs.2 r er) (subst (λ x. SpellsClauses x a.1 cs.2) (sym b.all) b.spelled) in
      subst (IsRead SpellsStatement statement_height (suc h) (At p (Sign marks.Select) ∷ ts)) (ok_inj q)
      (subst (λ ts. IsRead SpellsStatement statement_height (suc h) (At p (Sign marks.Select) ∷ ts) (Select p cs.0, cs.1 + 1, r.1)) (sym (need_is marks.LeftBrace ts a ea))
      (record { spelled = grammar.select all; high = omega (arith, b.high, ap clauses_height b.all); fits = omega (arith, b.high, b.fits) })))))

  labelled_sound : (p q : Place) (x : List ℕ) (ts : List Tok) (u : Found Statement) → labelled_at rec p x ts ≡ Ok u → IsRead SpellsStatement statement_height (suc h) (At p (words.Name x) ∷ At q (Sign marks.Colon) ∷ ts) u
  unfolding labelled_at
  labelled_sound p q x ts u e =
      on_test (done_at ts) _ _ (Ok u) e
      (λ b e. subst (IsRead SpellsStatement statement_height (suc h) (At p (words.Name x) ∷ At q (Sign marks.Colon) ∷ ts)) (ok_inj e) (record { spelled = grammar.empty_label; high = refl; fits = omega arith }))
      (λ b e. on_ok (rec ts) _ u e (λ s es e.
      let t = snd ts s es in
      subst (IsRead SpellsStatement statement_height (suc h) (At p (words.Name x) ∷ At q (Sign marks.Colon) ∷ ts)) (ok_inj e) (record { spelled = grammar.label t.spelled; high = omega (arith, t.high); fits = omega (arith, t.fits) })))

  -- a statement without its own parts
  does_sound : (p : Place) (ts : List Tok) (a : Found Act) (u : Found Statement) → Begins p ts → IsAct (suc h) ts a → ◌≡◌ {A = Reads Statement} (Ok (placed p a)) (Ok u) → IsRead SpellsStatement statement_height (suc h) ts u
  does_sound p ts a u b s q =
      subst (IsRead SpellsStatement statement_height (suc h) ts) (ok_inj q)
      (subst (λ ts. IsRead SpellsStatement statement_height (suc h) ts (placed p a)) (sym b.is)
      (record { spelled = grammar.does (subst (λ ts. SpellsAct a.0 ts a.2) b.is s.spelled); high = s.high; fits = s.fits }))

  plain_sound : (p : Place) (ts : List Tok) (e : Found Tree) (u : Found Statement) → Begins p ts → IsExpr (suc h) 1 ts e → plain_after (suc h) p e ≡ Ok u → IsRead SpellsStatement statement_height (suc h) ts u
  unfolding plain_after
  plain_sound p ts e u b s q =
      on_ok (simple_after (suc h) true e) _ u q (λ v ev q.
      let t = simple_sound (suc h) true ts e v s ev in
      does_sound p ts (Plain v.0, v.1, v.2) u b (record { spelled = grammar.plain t.spelled.spelled; high = t.high; fits = t.fits }) q)

  name_sound : (p : Place) (ts : List Tok) (e : Found Tree) (x : List ℕ) (u : Found Statement) → Begins p ts → IsExpr (suc h) 1 ts e → bare e.0 ≡ Some x → name_open (suc h) rec p e x ≡ Ok u → IsRead SpellsStatement statement_height (suc h) ts u
  unfolding name_open
  name_sound p ts e x u b s bx q =
      on_look (after_mark marks.Colon e.2) _ _ (Ok u) q
      (λ rest m q.
      let n = bare_tokens e.0 x ts e.2 bx s.tree in
      let o = after_is marks.Colon e.2 rest m in
      let all : ts ≡ At p (words.Name x) ∷ At o.place (Sign marks.Colon) ∷ rest = named b n.1 ∙ ap (λ r. At p (words.Name x) ∷ r) o.is in
      subst (λ ts. IsRead SpellsStatement statement_height (suc h) ts u) (sym all) (labelled_sound p o.place x rest u q))
      (λ m q. plain_sound p ts e u b s q)

  open_sound : (p : Place) (ts : List Tok) (u : Found Statement) → Begins p ts → open_at (suc h) rec p ts ≡ Ok u → IsRead SpellsStatement statement_height (suc h) ts u
  unfolding open_at open_after
  open_sound p ts u b q =
      on_ok (expr_at (suc h) 1 ts) _ u q (λ e ee q.
      let s = expr_sound (suc h) 1 ts e (omega arith) ee in
      on_look (bare e.0) _ _ (Ok u) q
      (λ x m q. name_sound p ts e x u b s m q)
      (λ m q. plain_sound p ts e u b s q))

  begins_mark : (p : Place) (m : Mark) (ts : List Tok) → Begins p (At p (Sign m) ∷ ts)
  begins_mark p m ts = record { word = Sign m; others = ts; is = refl }

  act_sound : (p : Place) (m : Mark) (ts : List Tok) (r : Reads Act) (u : Found Statement) → ((a : Found Act) → r ≡ Ok a → IsAct (suc h) (At p (Sign m) ∷ ts) a) → (r >>= λ a. Ok (placed p a)) ≡ Ok u → IsRead SpellsStatement statement_height (suc h) (At p (Sign m) ∷ ts) u
  act_sound p m ts r u f q = on_ok r (λ a. Ok (placed p a)) u q (λ a ea q. does_sound p (At p (Sign m) ∷ ts) a u (begins_mark p m ts) (f a ea) q)

  keyed_sound : (p : Place) (k : Keyword) (ts : List Tok) (u : Found Statement) → keyed_at h rec p k (At p (Sign (keyword_mark k)) ∷ ts) ts ≡ Ok u → IsStatement (suc h) (At p (Sign (keyword_mark k)) ∷ ts) u
  unfolding keyed_at braced_at after_mark
  keyed_sound p keywords.Var ts u q = let s = act_sound p marks.Var ts (var_at (suc h) ts) u (λ a ea. var_sound (suc h) p ts a ea) q in record { spelled = s.spelled; branch = λ rest m. absurd (cc); high = s.high; fits = s.fits }
  keyed_sound p keywords.Go ts u q = let s = act_sound p marks.Go ts (go_at (suc h) ts) u (λ a ea. go_sound (suc h) p ts a ea) q in record { spelled = s.spelled; branch = λ rest m. absurd (cc); high = s.high; fits = s.fits }
  keyed_sound p keywords.Return ts u q = let s = act_sound p marks.Return ts (return_at (suc h) ts) u (λ a ea. return_sound (suc h) p ts a (omega arith) ea) q in record { spelled = s.spelled; branch = λ rest m. absurd (cc); high = s.high; fits = s.fits }
  keyed_sound p keywords.Break ts u q = let s = act_sound p marks.Break ts (jump_at Break ts) u (λ a ea. break_sound (suc h) p ts a (omega arith) ea) q in record { spelled = s.spelled; branch = λ rest m. absurd (cc); high = s.high; fits = s.fits }
  keyed_sound p keywords.Continue ts u q = let s = act_sound p marks.Continue ts (jump_at Continue ts) u (λ a ea. continue_sound (suc h) p ts a (omega arith) ea) q in record { spelled = s.spelled; branch = λ rest m. absurd (cc); high = s.high; fits = s.fits }
  keyed_sound p keywords.Block ts u q =
      on_ok (block_at rec (At p (Sign marks.LeftBrace) ∷ ts)) _ u q (λ b eb q.
      let s = block_sound h rec snd (At p (Sign marks.LeftBrace) ∷ ts) b eb in
      subst (IsStatement (suc h) (At p (Sign marks.LeftBrace) ∷ ts)) (ok_inj q)
      (record { spelled = grammar.block s.spelled; branch = λ rest m. absurd (cc); high = omega (arith, s.high); fits = omega (arith, s.fits) }))
  keyed_sound p keywords.If ts u q = let s = if_sound h rec snd p ts u q in record { spelled = grammar.branch s.spelled; branch = λ rest m. s.spelled; high = s.high; fits = s.fits }
  keyed_sound p keywords.For ts u q = let s = for_sound h rec snd p ts u q in record { spelled = s.spelled; branch = λ rest m. absurd (cc); high = s.high; fits = s.fits }
  keyed_sound p keywords.Select ts u q = let s = select_sound p ts u q in record { spelled = s.spelled; branch = λ rest m. absurd (cc); high = s.high; fits = s.fits }

  -- what begins with no keyword does not begin with `if`
  no_if : {Z : Type 0} (ts rest : List Tok) → operator_at keyword_of ts ≡ None → after_mark marks.If ts ≡ Some rest → Z
  unfolding keyword_of
  no_if ts rest k m = let o = after_is marks.If ts rest m in absurd (let e : operator_at keyword_of (At o.place (Sign marks.If) ∷ rest) ≡ None = subst (λ ts. operator_at keyword_of ts ≡ None) o.is k in cc)

  tier_sound : Sounds (suc h) (tier_at h rec)
  unfolding tier_at
  tier_sound ts u q =
      on_ok (place_at ts) _ u q (λ p ep q.
      let b = place_is ts p ep in
      on_look (operator_at keyword_of ts) _ _ (Ok u) q
      (λ k is q.
      let t = opened b (operator_is keyword_of keyword_mark keyword_is ts k is) in
      subst (λ ts. IsStatement (suc h) ts u) (sym t) (keyed_sound p k.0 k.1 u (subst (λ ts. keyed_at h rec p k.0 ts k.1 ≡ Ok u) t q)))
      (λ is q. let s = open_sound p ts u b q in record { spelled = s.spelled; branch = λ rest m. no_if ts rest is m; high = s.high; fits = s.fits }))

pub statement_sound : (h : ℕ) → Sounds h (statement_at h)
unfolding statement_at
statement_sound zero ts u q = absurd (cc)
statement_sound (suc h) ts u q = tier_sound h (statement_at h) (statement_sound h) ts u q
