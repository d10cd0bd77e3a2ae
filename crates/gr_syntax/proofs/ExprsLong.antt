-- An expression that is refused as too high is long: a level takes a token at least.
use Rattle.std.proofs.Common.{◌≡◌, ℕ, zero, suc, ◌+◌, ◌<◌, ◌≤◌, max, Bool, true, cond, List, ◌∷◌, length, refl, ap, sym, subst, arith, ltb-true}
use Rattle.std.specs.Prelude.{Option, Some, None, Ok, Err, nat_lt}
use Rattle.gr_scan.specs.declared.token.Mark.TheVariants as marks
use Rattle.gr_scan.specs.Tokens.{Tok, At, Sign}
use Rattle.gr_scan.specs.Tokens as words
use Rattle.gr_tree.specs.declared.expr.BinaryOp.{BinaryOp}
use Rattle.gr_tree.specs.Exprs.{WrittenType, Tree, Trees, Call, Make, MakeSized, Paren, Unary, none}
use Rattle.gr_syntax.specs.Grammar.{level, after_mark, is_make, binary_mark, unary_mark}
use Rattle.gr_syntax.specs.Reading.{High, Found, Reads, ◌>>=◌, Turn, Stop, Go, turned, turns, loop, need, binary_of, unary_of, operator_at, joined, chain_at, chain_turn, snoc, ends_at, exprs_after, exprs_turn, exprs_at, arguments_at, call_at, close_at, size_at, make_after, make_at, named_at, unit_at, paren_at, word_at, tight, unary_at, type_at, expr_at}
use Rattle.gr_syntax.proofs.Cases.{ok_inj, on_ok, on_high, on_look, on_test, stop_low, after_is, need_low, binary_is, unary_is, operator_is}
use Rattle.gr_syntax.proofs.WrittenTypes.{type_sound, type_shrinks, type_high}
use Rattle.gr_syntax.proofs.SoundExprs.{unary_sound, expr_sound}
use Rattle.gr_syntax.proofs.Sizes.{unary_long, expr_long, expr_reads}

-- an expression is refused as too high after as many tokens as it may have levels
abbrev Long : ℕ → (ℕ → List Tok → Reads Tree) → Type 0
Long h rec = (l : ℕ) (ts : List Tok) → 0 < l → rec l ts ≡ Err High → h ≤ length ts

-- the arguments of a call, and a make
module _ (h : ℕ) (long : Long h (expr_at h)) where
  turns_high : (n m : ℕ) (t : Bool) (s : Found Trees) → length s.2 ≤ m → turns (exprs_turn (expr_at h) t) n s ≡ Err High → h ≤ m
  unfolding exprs_turn
  turns_high zero m t s le q = absurd (cc)
  turns_high (suc n) m t s le q =
      let next : Turn (Found Trees) → Reads Trees = turned (turns (exprs_turn (expr_at h) t) n) in
      on_high (expr_at h 1 s.2 >>= λ e. exprs_after t s e e.2) next q
      (λ q. on_high (expr_at h 1 s.2) (λ e. exprs_after t s e e.2) q
      (λ q. omega (arith, le, long 1 s.2 (omega arith) q))
      (λ e ee q. on_look (after_mark marks.Comma e.2) _ _ (Err High) q
      (λ rest m q. on_test (ends_at t rest) _ _ (Err High) q (λ b q. absurd (cc)) (λ b q. absurd (cc)))
      (λ m q. absurd (cc))))
      (λ v ev q. on_ok (expr_at h 1 s.2) (λ e. exprs_after t s e e.2) v ev (λ e ee ev.
      on_look (after_mark marks.Comma e.2) _ _ (Ok v) ev
      (λ rest c ev. on_test (ends_at t rest) _ _ (Ok v) ev
      (λ b ev. stop_low next (snoc s.0 e.0, max s.1 e.1, rest) v (ok_inj ev) (λ s. refl) q)
      (λ b ev. let shorter : length rest ≤ m = omega (arith, le, expr_reads h 1 s.2 e (omega arith) ee, ap length (after_is marks.Comma e.2 rest c).is) in
      turns_high n m t (snoc s.0 e.0, max s.1 e.1, rest) shorter (subst (λ d. next d ≡ Err High) (sym (ok_inj ev)) q)))
      (λ c ev. stop_low next (snoc s.0 e.0, max s.1 e.1, e.2) v (ok_inj ev) (λ s. refl) q)))

  exprs_at_high : (t : Bool) (ts : List Tok) → exprs_at (expr_at h) t ts ≡ Err High → h ≤ length ts
  unfolding exprs_at loop
  exprs_at_high t ts q = turns_high (suc (length ts)) (length ts) t (none, 0, ts) (omega arith) q

  arguments_at_high : (ts : List Tok) → arguments_at (expr_at h) ts ≡ Err High → h ≤ length ts
  unfolding arguments_at
  arguments_at_high ts q =
      on_look (after_mark marks.RightParen ts) _ _ (Err High) q (λ rest m q. absurd (cc))
      (λ m q. on_high (exprs_at (expr_at h) true ts) (λ es. need marks.RightParen es.2 >>= λ r. Ok (es.0, es.1, r.1)) q (λ q. exprs_at_high true ts q) (λ es ees q.
      on_high (need marks.RightParen es.2) (λ r. Ok (es.0, es.1, r.1)) q (λ q. need_low marks.RightParen es.2 q) (λ r er q. absurd (cc))))

  call_at_high : (x : List ℕ) (ts : List Tok) → call_at (expr_at h) x ts ≡ Err High → h ≤ length ts
  unfolding call_at
  call_at_high x ts q = on_high (arguments_at (expr_at h) ts) (λ es. Ok (Call x es.0, es.1 + 1, es.2)) q (λ q. arguments_at_high ts q) (λ es ees q. absurd (cc))

  close_low : {Z : Type 0} (ts : List Tok) → close_at ts ≡ Err High → Z
  unfolding close_at
  close_low ts q =
      on_look (after_mark marks.Comma ts) _ _ (Err High) q
      (λ rest m q. on_high (need marks.RightParen rest) (λ r. Ok r.1) q (λ q. need_low marks.RightParen rest q) (λ r er q. absurd (cc)))
      (λ m q. on_high (need marks.RightParen ts) (λ r. Ok r.1) q (λ q. need_low marks.RightParen ts q) (λ r er q. absurd (cc)))

  size_high : (t : Found WrittenType) (ts : List Tok) → size_at (expr_at h) t ts ≡ Err High → h ≤ length ts
  unfolding size_at
  size_high t ts q =
      on_high (expr_at h 1 ts) (λ v. close_at v.2 >>= λ rest. Ok (MakeSized t.0 v.0, max t.1 v.1 + 1, rest)) q (λ q. long 1 ts (omega arith) q) (λ v ev q.
      on_high (close_at v.2) (λ rest. Ok (MakeSized t.0 v.0, max t.1 v.1 + 1, rest)) q (λ q. close_low v.2 q) (λ r er q. absurd (cc)))

  make_after_high : (t : Found WrittenType) (ts : List Tok) → make_after (expr_at h) t ts ≡ Err High → h ≤ length ts
  unfolding make_after
  make_after_high t ts q = on_look (after_mark marks.RightParen ts) _ _ (Err High) q (λ rest m q. absurd (cc)) (λ m q. size_high t ts q)

  make_high : (ts : List Tok) → make_at (type_at h) (expr_at h) ts ≡ Err High → h ≤ length ts
  unfolding make_at
  make_high ts q =
      on_high (type_at h ts) _ q (λ q. type_high h ts q) (λ t et q.
      let shorter = type_shrinks (type_sound h ts t et).tree in
      on_look (after_mark marks.Comma t.2) _ _ (Err High) q
      (λ rest m q. omega (arith, make_after_high t rest q, ap length (after_is marks.Comma t.2 rest m).is, shorter))
      (λ m q. on_high (need marks.RightParen t.2) (λ r. Ok (Make t.0, t.1 + 1, r.1)) q (λ q. need_low marks.RightParen t.2 q) (λ r er q. absurd (cc))))

  named_high : (x : List ℕ) (ts : List Tok) → named_at (type_at h) (expr_at h) x ts ≡ Err High → h ≤ length ts
  unfolding named_at
  named_high x ts q =
      on_look (after_mark marks.LeftParen ts) _ _ (Err High) q
      (λ rest m q. on_test (is_make x) _ _ (Err High) q
      (λ b q. omega (arith, make_high rest q, ap length (after_is marks.LeftParen ts rest m).is))
      (λ b q. omega (arith, call_at_high x rest q, ap length (after_is marks.LeftParen ts rest m).is)))
      (λ m q. absurd (cc))

  word_high : (ts : List Tok) → word_at (type_at h) (expr_at h) ts ≡ Err High → suc h ≤ length ts
  unfolding word_at
  word_high (At p (words.Name x) ∷ ts) q = omega (arith, named_high x ts q)
  word_high _ q = absurd (cc)

  unit_low : {Z : Type 0} (ts : List Tok) → unit_at ts ≡ Err High → Z
  unfolding unit_at
  unit_low ts q =
      on_high (need marks.LeftBrace ts) _ q (λ q. need_low marks.LeftBrace ts q) (λ a ea q.
      on_high (need marks.RightBrace a.1) _ q (λ q. need_low marks.RightBrace a.1 q) (λ b eb q.
      on_high (need marks.LeftBrace b.1) _ q (λ q. need_low marks.LeftBrace b.1 q) (λ c ec q.
      on_high (need marks.RightBrace c.1) _ q (λ q. need_low marks.RightBrace c.1 q) (λ d ed q. absurd (cc)))))

  paren_high : (ts : List Tok) → paren_at (expr_at h) ts ≡ Err High → h ≤ length ts
  unfolding paren_at
  paren_high ts q =
      on_high (expr_at h 1 ts) (λ e. need marks.RightParen e.2 >>= λ r. Ok (Paren e.0, e.1 + 1, r.1)) q (λ q. long 1 ts (omega arith) q) (λ e ee q.
      on_high (need marks.RightParen e.2) (λ r. Ok (Paren e.0, e.1 + 1, r.1)) q (λ q. need_low marks.RightParen e.2 q) (λ r er q. absurd (cc)))

  unary_from_high : (ts : List Tok) → unary_at (type_at h) (expr_at h) ts ≡ Err High → suc h ≤ length ts
  unfolding unary_at
  unary_from_high ts q =
      on_look (after_mark marks.LeftParen ts) _ _ (Err High) q
      (λ rest m q. omega (arith, paren_high rest q, ap length (after_is marks.LeftParen ts rest m).is))
      (λ m q. on_look (operator_at unary_of ts) _ _ (Err High) q
      (λ o is q. on_high (expr_at h tight o.1) (λ e. Ok (Unary o.0 e.0, e.1 + 1, e.2)) q
      (λ q. omega (arith, long tight o.1 (omega arith) q, ap length (operator_is unary_of unary_mark unary_is ts o is).is))
      (λ e ee q. absurd (cc)))
      (λ is q. on_look (after_mark marks.Struct ts) _ _ (Err High) q
      (λ rest m q. unit_low rest q)
      (λ m q. word_high ts q)))

abbrev ChainRuns : ℕ → ℕ → ℕ → ℕ → Type 0
ChainRuns h l n m = (a : Found Tree) → a.1 + length a.2 ≤ m → turns (chain_turn (expr_at h) h l) n a ≡ Err High → suc h ≤ m

joined_fits : (h m : ℕ) (a b : Found Tree) (o : BinaryOp × List Tok) → operator_at binary_of a.2 ≡ Some o → a.1 + length a.2 ≤ m → expr_at h (level o.0 + 1) o.1 ≡ Ok b → max a.1 b.1 + 1 + length b.2 ≤ m
joined_fits h m a b o is le eb =
    let s = expr_sound h (level o.0 + 1) o.1 b (omega arith) eb in
    omega (arith, le, s.high, expr_long s.tree, ap length (operator_is binary_of binary_mark binary_is a.2 o is).is)

chain_case : (h l n m : ℕ) → ChainRuns h l n m → Long h (expr_at h) → (a : Found Tree) → a.1 + length a.2 ≤ m → (o : Option (BinaryOp × List Tok)) → operator_at binary_of a.2 ≡ o → (chain_at (expr_at h) h l a o >>= turned (turns (chain_turn (expr_at h) h l) n)) ≡ Err High → suc h ≤ m
chain_case h l n m ih long a le None is q = absurd (cc)
chain_case h l n m ih long a le (Some o) is q =
    let next : Turn (Found Tree) → Reads Tree = turned (turns (chain_turn (expr_at h) h l) n) in
    on_high (chain_at (expr_at h) h l a (Some o)) next q
    (λ q. on_test (nat_lt (level o.0) l) (Ok (Stop a)) (cond (nat_lt h a.1) (Err High) (expr_at h (level o.0 + 1) o.1 >>= λ b. Ok (Go (joined o.0 a b)))) (Err High) q
    (λ lt q. absurd (cc))
    (λ ge q. on_test (nat_lt h a.1) (Err High) (expr_at h (level o.0 + 1) o.1 >>= λ b. Ok (Go (joined o.0 a b))) (Err High) q
    (λ lt q. omega (arith, ltb-true h a.1 lt, le))
    (λ fit q. on_high (expr_at h (level o.0 + 1) o.1) (λ b. Ok (Go (joined o.0 a b))) q
    (λ q. omega (arith, le, long (level o.0 + 1) o.1 (omega arith) q, ap length (operator_is binary_of binary_mark binary_is a.2 o is).is))
    (λ b eb q. absurd (cc)))))
    (λ t et q. on_test (nat_lt (level o.0) l) (Ok (Stop a)) (cond (nat_lt h a.1) (Err High) (expr_at h (level o.0 + 1) o.1 >>= λ b. Ok (Go (joined o.0 a b)))) (Ok t) et
    (λ lt et. stop_low next a t (ok_inj et) (λ s. refl) q)
    (λ ge et. on_test (nat_lt h a.1) (Err High) (expr_at h (level o.0 + 1) o.1 >>= λ b. Ok (Go (joined o.0 a b))) (Ok t) et
    (λ lt et. absurd (cc))
    (λ fit et. on_ok (expr_at h (level o.0 + 1) o.1) (λ b. Ok (Go (joined o.0 a b))) t et (λ b eb et.
    ih (joined o.0 a b) (joined_fits h m a b o is le eb) (subst (λ d. next d ≡ Err High) (sym (ok_inj et)) q)))))

chain_high : (h l n m : ℕ) → Long h (expr_at h) → ChainRuns h l n m
unfolding chain_turn
chain_high h l zero m long a le q = absurd (cc)
chain_high h l (suc n) m long a le q = chain_case h l n m (chain_high h l n m long) long a le (operator_at binary_of a.2) refl q

pub expr_high : (h : ℕ) → Long h (expr_at h)
unfolding expr_at loop
expr_high zero l ts pos q = omega arith
expr_high (suc h) l ts pos q =
    on_high (unary_at (type_at h) (expr_at h) ts) (loop (chain_turn (expr_at h) h l)) q
    (λ q. unary_from_high h (expr_high h) ts q)
    (λ a ea q. let s = unary_sound h ts a ea in
    chain_high h l (suc (length a.2)) (length ts) (expr_high h) a (omega (arith, s.high, unary_long s.tree)) q)

pub unary_high : (h : ℕ) (ts : List Tok) → unary_at (type_at h) (expr_at h) ts ≡ Err High → suc h ≤ length ts
unary_high h ts q = unary_from_high h (expr_high h) ts q

pub exprs_high : (h : ℕ) (t : Bool) (ts : List Tok) → exprs_at (expr_at h) t ts ≡ Err High → h ≤ length ts
exprs_high h t ts q = exprs_at_high h (expr_high h) t ts q

pub arguments_high : (h : ℕ) (ts : List Tok) → arguments_at (expr_at h) ts ≡ Err High → h ≤ length ts
arguments_high h ts q = arguments_at_high h (expr_high h) ts q

pub call_high : (h : ℕ) (x : List ℕ) (ts : List Tok) → call_at (expr_at h) x ts ≡ Err High → h ≤ length ts
call_high h x ts q = call_at_high h (expr_high h) x ts q
