-- A statement that is refused as too high is long: a level takes a token at least.
use Rattle.std.proofs.Common.{◌≡◌, ℕ, zero, suc, ◌<◌, ◌≤◌, max, true, cond, List, length, refl, ap, sym, subst, arith}
use Rattle.std.specs.Prelude.{Ok, Err}
use Rattle.gr_scan.specs.declared.token.Place.{Place}
use Rattle.gr_scan.specs.declared.token.Mark.TheVariants as marks
use Rattle.gr_scan.specs.Tokens.{Tok}
use Rattle.gr_tree.specs.Exprs.{Tree}
use Rattle.gr_tree.specs.Statements.{Act, Break, Continue, Statement, Statements, Clauses, end, closed}
use Rattle.gr_syntax.specs.declared.opening.Keyword.{Keyword}
use Rattle.gr_syntax.specs.declared.opening.Keyword.TheVariants as keywords
use Rattle.gr_syntax.specs.Grammar.{after_mark}
use Rattle.gr_syntax.specs.Reading.{High, Found, Reads, ◌>>=◌, Turn, turned, turns, loop, match_after, operator_at, need, expr_at}
use Rattle.gr_syntax.specs.Reading as reading
use Rattle.gr_syntax.specs.SimpleReading.{keyword_of, done_at, stops_at, place_at, bare, simple_after, var_at, go_at, return_at, jump_at}
use Rattle.gr_syntax.specs.StatementReading.{if_head_at, for_head_at, comm_at, past_semicolon, added, list_more, list_turn, list_at, block_at, else_at, if_at, for_at, with_default, with_case, case_at, default_at, clause_turn, clauses_at, select_at, placed, labelled_at, plain_after, name_open, open_after, open_at, braced_at, keyed_at, tier_at, statement_at}
use Rattle.gr_syntax.proofs.Cases.{ok_inj, on_ok, on_high, stop_low, on_look, on_test, after_is, need_is, need_low}
use Rattle.gr_syntax.proofs.Chains.{IsExpr}
use Rattle.gr_syntax.proofs.Sizes.{expr_shrinks}
use Rattle.gr_syntax.proofs.SoundExprs.{expr_sound}
use Rattle.gr_syntax.proofs.SoundHeads.{if_head_sound, for_head_sound, comm_sound}
use Rattle.gr_syntax.proofs.SoundStatements.{Sounds, block_sound, list_sound, statement_sound}
use Rattle.gr_syntax.proofs.StatementSizes.{if_head_shrunk, for_head_shrunk, comm_shrunk, statement_shrunk, block_shrunk, list_shrunk, past_shrinks}
use Rattle.gr_syntax.proofs.ExprsLong.{expr_high}
use Rattle.gr_syntax.proofs.FirstTokens.{marked}
use Rattle.gr_syntax.proofs.HeadsLong.{simple_high, var_high, go_high, return_high, jump_low, place_low, if_head_high, for_head_high, comm_high}

-- a statement is refused as too high after as many tokens as it may have levels
abbrev Long : ℕ → (List Tok → Reads Statement) → Type 0
Long h rec = (ts : List Tok) → rec ts ≡ Err High → h ≤ length ts

past_low : {Z : Type 0} (ts : List Tok) → past_semicolon ts ≡ Err High → Z
unfolding past_semicolon
past_low ts q =
    on_look (after_mark marks.RightBrace ts) _ _ (Err High) q (λ rest m q. absurd (cc))
    (λ m q. on_high (need marks.Semicolon ts) _ q (λ q. need_low marks.Semicolon ts q) (λ r er q. absurd (cc)))

module _ (h : ℕ) (rec : List Tok → Reads Statement) (snd : Sounds h rec) (long : Long h rec) where
  list_run_high : (n m : ℕ) (s : Found Statements) → length s.2 ≤ m → turns (list_turn rec) n s ≡ Err High → h ≤ m
  unfolding list_turn
  list_run_high zero m s le q = absurd (cc)
  list_run_high (suc n) m s le q =
      let next : Turn (Found Statements) → Reads Statements = turned (turns (list_turn rec) n) in
      on_high (cond (stops_at s.2) (Ok (reading.Stop s)) (list_more rec s)) next q
      (λ q. on_test (stops_at s.2) _ _ (Err High) q (λ b q. absurd (cc))
      (λ b q. on_look (after_mark marks.Semicolon s.2) _ _ (Err High) q (λ rest c q. absurd (cc))
      (λ c q. on_high (rec s.2) _ q (λ q. omega (arith, le, long s.2 q)) (λ x ex q.
      on_high (past_semicolon x.2) _ q (λ q. past_low x.2 q) (λ rest er q. absurd (cc))))))
      (λ v ev q. on_test (stops_at s.2) _ _ (Ok v) ev
      (λ b ev. stop_low next s v (ok_inj ev) (λ s. refl) q)
      (λ b ev. on_look (after_mark marks.Semicolon s.2) _ _ (Ok v) ev
      (λ rest c ev. let shorter : length rest ≤ m = omega (arith, le, ap length (after_is marks.Semicolon s.2 rest c).is) in
      list_run_high n m (s.0, s.1, rest) shorter (subst (λ d. next d ≡ Err High) (sym (ok_inj ev)) q))
      (λ c ev. on_ok (rec s.2) _ v ev (λ x ex ev. on_ok (past_semicolon x.2) _ v ev (λ rest er ev.
      let shorter : length rest ≤ m = omega (arith, le, statement_shrunk (snd s.2 x ex).spelled, past_shrinks x.2 rest er) in
      list_run_high n m (added s.0 x.0, max s.1 x.1, rest) shorter (subst (λ d. next d ≡ Err High) (sym (ok_inj ev)) q))))))

  list_high : (ts : List Tok) → list_at rec ts ≡ Err High → h ≤ length ts
  unfolding list_at loop
  list_high ts q = list_run_high (suc (length ts)) (length ts) (end, 0, ts) (omega arith) q

  pub block_high : (ts : List Tok) → block_at rec ts ≡ Err High → suc h ≤ length ts
  unfolding block_at
  block_high ts q =
      on_high (need marks.LeftBrace ts) _ q (λ q. need_low marks.LeftBrace ts q) (λ a ea q.
      on_high (list_at rec a.1) _ q (λ q. omega (arith, list_high a.1 q, ap length (need_is marks.LeftBrace ts a ea))) (λ ss es q.
      on_high (need marks.RightBrace ss.2) _ q (λ q. need_low marks.RightBrace ss.2 q) (λ b eb q. absurd (cc))))

  if_high : (p : Place) (ts : List Tok) → if_at h rec p ts ≡ Err High → h ≤ length ts
  unfolding if_at else_at
  if_high p ts q =
      on_high (if_head_at h ts) _ q (λ q. if_head_high h ts q) (λ c ec q.
      let x = if_head_shrunk (if_head_sound h ts c ec).spelled in
      on_high (block_at rec c.2) _ q (λ q. omega (arith, x, block_high c.2 q)) (λ b eb q.
      let y = block_shrunk (block_sound h rec snd c.2 b eb).spelled in
      on_look (after_mark marks.Else b.2) _ _ (Err High) q
      (λ rest m q. on_look (after_mark marks.If rest) _ _ (Err High) q
      (λ tail n q. on_high (rec rest) _ q (λ q. omega (arith, x, y, long rest q, ap length (after_is marks.Else b.2 rest m).is)) (λ s es q. absurd (cc)))
      (λ n q. on_high (block_at rec rest) _ q (λ q. omega (arith, x, y, block_high rest q, ap length (after_is marks.Else b.2 rest m).is)) (λ s es q. absurd (cc))))
      (λ m q. absurd (cc))))

  for_high : (p : Place) (ts : List Tok) → for_at h rec p ts ≡ Err High → h ≤ length ts
  unfolding for_at
  for_high p ts q =
      on_high (for_head_at h ts) _ q (λ q. for_head_high h ts q) (λ c ec q.
      let x = for_head_shrunk (for_head_sound h ts c ec).spelled in
      on_high (block_at rec c.2) _ q (λ q. omega (arith, x, block_high c.2 q)) (λ b eb q. absurd (cc)))

  case_high : (cs : Found Clauses) (rest : List Tok) → case_at h rec cs rest ≡ Err High → h ≤ length rest
  case_high cs rest q =
      on_high (comm_at h rest) _ q (λ q. comm_high h rest q) (λ c ec q.
      on_high (need marks.Colon c.2) _ q (λ q. need_low marks.Colon c.2 q) (λ r er q.
      on_high (list_at rec r.1) _ q (λ q. omega (arith, comm_shrunk (comm_sound h rest c ec).spelled, list_high r.1 q, ap length (need_is marks.Colon c.2 r er))) (λ ss es q. absurd (cc))))

  default_high : (cs : Found Clauses) (rest : List Tok) → default_at rec cs rest ≡ Err High → h ≤ length rest
  default_high cs rest q =
      on_high (need marks.Colon rest) _ q (λ q. need_low marks.Colon rest q) (λ r er q.
      on_high (list_at rec r.1) _ q (λ q. omega (arith, list_high r.1 q, ap length (need_is marks.Colon rest r er))) (λ ss es q. absurd (cc)))

  case_reads : (cs t : Found Clauses) (rest : List Tok) (next : Turn (Found Clauses)) (again : Turn (Found Clauses) → Reads Clauses) (m : ℕ) → case_at h rec cs rest ≡ Ok next → length rest ≤ m → ((s : Found Clauses) → length s.2 ≤ m → again (reading.Go s) ≡ Err High → h ≤ m) → again next ≡ Err High → h ≤ m
  case_reads cs t rest next again m ev le ih q =
      on_ok (comm_at h rest) _ next ev (λ c ec ev. on_ok (need marks.Colon c.2) _ next ev (λ r er ev. on_ok (list_at rec r.1) _ next ev (λ ss es ev.
      ih (with_case cs.0 c.0 ss.0, max cs.1 (max c.1 ss.1), ss.2)
      (omega (arith, le, comm_shrunk (comm_sound h rest c ec).spelled, ap length (need_is marks.Colon c.2 r er), list_shrunk (list_sound h rec snd r.1 ss es).spelled))
      (subst (λ d. again d ≡ Err High) (sym (ok_inj ev)) q))))

  default_reads : (cs : Found Clauses) (rest : List Tok) (next : Turn (Found Clauses)) (again : Turn (Found Clauses) → Reads Clauses) (m : ℕ) → default_at rec cs rest ≡ Ok next → length rest ≤ m → ((s : Found Clauses) → length s.2 ≤ m → again (reading.Go s) ≡ Err High → h ≤ m) → again next ≡ Err High → h ≤ m
  default_reads cs rest next again m ev le ih q =
      on_ok (need marks.Colon rest) _ next ev (λ r er ev. on_ok (list_at rec r.1) _ next ev (λ ss es ev.
      ih (with_default cs.0 ss.0, max cs.1 ss.1, ss.2)
      (omega (arith, le, ap length (need_is marks.Colon rest r er), list_shrunk (list_sound h rec snd r.1 ss es).spelled))
      (subst (λ d. again d ≡ Err High) (sym (ok_inj ev)) q)))

  clauses_run_high : (n m : ℕ) (s : Found Clauses) → length s.2 ≤ m → turns (clause_turn h rec) n s ≡ Err High → h ≤ m
  unfolding clause_turn
  clauses_run_high zero m s le q = absurd (cc)
  clauses_run_high (suc n) m s le q =
      let next : Turn (Found Clauses) → Reads Clauses = turned (turns (clause_turn h rec) n) in
      on_high (match_after (after_mark marks.Case s.2) (λ rest. case_at h rec s rest) (match_after (after_mark marks.Default s.2) (λ rest. default_at rec s rest) (Ok (reading.Stop s)))) next q
      (λ q. on_look (after_mark marks.Case s.2) _ _ (Err High) q
      (λ rest c q. omega (arith, le, case_high s rest q, ap length (after_is marks.Case s.2 rest c).is))
      (λ c q. on_look (after_mark marks.Default s.2) _ _ (Err High) q
      (λ rest c q. omega (arith, le, default_high s rest q, ap length (after_is marks.Default s.2 rest c).is))
      (λ c q. absurd (cc))))
      (λ v ev q. on_look (after_mark marks.Case s.2) _ _ (Ok v) ev
      (λ rest c ev. case_reads s s rest v next m ev (omega (arith, le, ap length (after_is marks.Case s.2 rest c).is)) (λ t lt e. clauses_run_high n m t lt e) q)
      (λ c ev. on_look (after_mark marks.Default s.2) _ _ (Ok v) ev
      (λ rest c ev. default_reads s rest v next m ev (omega (arith, le, ap length (after_is marks.Default s.2 rest c).is)) (λ t lt e. clauses_run_high n m t lt e) q)
      (λ c ev. stop_low next s v (ok_inj ev) (λ s. refl) q)))

  select_high : (p : Place) (ts : List Tok) → select_at h rec p ts ≡ Err High → h ≤ length ts
  unfolding select_at clauses_at loop
  select_high p ts q =
      on_high (need marks.LeftBrace ts) _ q (λ q. need_low marks.LeftBrace ts q) (λ a ea q.
      on_high (clauses_at h rec a.1) _ q (λ q. omega (arith, clauses_run_high (suc (length a.1)) (length a.1) (closed, 0, a.1) (omega arith) q, ap length (need_is marks.LeftBrace ts a ea))) (λ cs ec q.
      on_high (need marks.RightBrace cs.2) _ q (λ q. need_low marks.RightBrace cs.2 q) (λ r er q. absurd (cc))))

  labelled_high : (p : Place) (x : List ℕ) (ts : List Tok) → labelled_at rec p x ts ≡ Err High → h ≤ length ts
  unfolding labelled_at
  labelled_high p x ts q = on_test (done_at ts) _ _ (Err High) q (λ b q. absurd (cc)) (λ b q. on_high (rec ts) _ q (λ q. long ts q) (λ s es q. absurd (cc)))

  plain_high : (p : Place) (ts : List Tok) (e : Found Tree) → IsExpr (suc h) 1 ts e → plain_after (suc h) p e ≡ Err High → suc h ≤ length ts
  unfolding plain_after
  plain_high p ts e s q = on_high (simple_after (suc h) true e) _ q (λ q. simple_high (suc h) true ts e s q) (λ v ev q. absurd (cc))

  open_high : (p : Place) (ts : List Tok) → open_at (suc h) rec p ts ≡ Err High → suc h ≤ length ts
  unfolding open_at open_after name_open
  open_high p ts q =
      on_high (expr_at (suc h) 1 ts) _ q (λ q. expr_high (suc h) 1 ts (omega arith) q) (λ e ee q.
      let s = expr_sound (suc h) 1 ts e (omega arith) ee in
      on_look (bare e.0) _ _ (Err High) q
      (λ x b q. on_look (after_mark marks.Colon e.2) _ _ (Err High) q
      (λ rest m q. omega (arith, expr_shrinks s.tree, labelled_high p x rest q, ap length (after_is marks.Colon e.2 rest m).is))
      (λ m q. plain_high p ts e s q))
      (λ b q. plain_high p ts e s q))

  act_low : {P : Type 0} (p : Place) (r : Reads Act) → (r >>= λ a. Ok (placed p a)) ≡ Err High → (r ≡ Err High → P) → P
  act_low p r q k = on_high r (λ a. Ok (placed p a)) q k (λ a ea q. absurd (cc))

  keyed_high : (p : Place) (k : Keyword) (from ts : List Tok) → length ts < length from → keyed_at h rec p k from ts ≡ Err High → suc h ≤ length from
  unfolding keyed_at braced_at
  keyed_high p keywords.Var from ts lt q = act_low p (var_at (suc h) ts) q (λ q. omega (arith, lt, var_high (suc h) ts q))
  keyed_high p keywords.Go from ts lt q = act_low p (go_at (suc h) ts) q (λ q. omega (arith, lt, go_high (suc h) ts q))
  keyed_high p keywords.Return from ts lt q = act_low p (return_at (suc h) ts) q (λ q. omega (arith, lt, return_high (suc h) ts q))
  keyed_high p keywords.Break from ts lt q = act_low p (jump_at Break ts) q (λ q. jump_low Break ts q)
  keyed_high p keywords.Continue from ts lt q = act_low p (jump_at Continue ts) q (λ q. jump_low Continue ts q)
  keyed_high p keywords.Block from ts lt q = on_high (block_at rec from) _ q (λ q. block_high from q) (λ b eb q. absurd (cc))
  keyed_high p keywords.If from ts lt q = omega (arith, lt, if_high p ts q)
  keyed_high p keywords.For from ts lt q = omega (arith, lt, for_high p ts q)
  keyed_high p keywords.Select from ts lt q = omega (arith, lt, select_high p ts q)

  tier_high : Long (suc h) (tier_at h rec)
  unfolding tier_at
  tier_high ts q =
      on_high (place_at ts) _ q (λ q. place_low ts q) (λ p ep q.
      on_look (operator_at keyword_of ts) _ _ (Err High) q
      (λ k is q. keyed_high p k.0 ts k.1 (omega (arith, ap length (marked keyword_of ts k is).is)) q)
      (λ is q. open_high p ts q))

pub statement_high : (h : ℕ) (ts : List Tok) → statement_at h ts ≡ Err High → h ≤ length ts
unfolding statement_at
statement_high zero ts q = omega arith
statement_high (suc h) ts q = tier_high h (statement_at h) (statement_sound h) (statement_high h) ts q
