-- How many tokens a tree takes, and what the loops over trees leave.
use Rattle.std.proofs.Common.{◌≡◌, ℕ, ◌+◌, ◌<◌, ◌≤◌, max, Bool, cond, List, length, refl, ap, arith}
use Rattle.std.specs.Prelude.{Option, Some, None, Ok, Err, nat_lt}
use Rattle.gr_scan.specs.declared.token.Mark.TheVariants as marks
use Rattle.gr_scan.specs.Tokens.{Tok}
use Rattle.gr_tree.specs.declared.expr.BinaryOp.{BinaryOp}
use Rattle.gr_tree.specs.Exprs.{Tree, Number, Text, Name, UnitValue, Paren, Call, Make, MakeSized, Unary, Binary, height, heights}
use Rattle.gr_syntax.specs.Grammar.{level, after_mark, binary_mark, SpellsUnary, SpellsExpr, SpellsExprs, number, text, name, unit, paren, call_none, call, call_comma, make, make_comma, make_sized, make_sized_comma, unary, alone, binary, last_expr, comma_expr}
use Rattle.gr_syntax.specs.Reading.{High, Found, ◌>>=◌, Stop, Go, binary_of, operator_at, joined, chain_at, chain_turn, expr_at, snoc, ends_at, exprs_after, exprs_turn}
use Rattle.gr_syntax.proofs.Loops.{Shrinks}
use Rattle.gr_syntax.proofs.Cases.{on_ok, on_look, on_test, after_is, binary_is, operator_is, go_inj, stop≢go}
use Rattle.gr_syntax.proofs.WrittenTypes.{type_long}
use Rattle.gr_syntax.proofs.SoundExprs.{expr_sound}

pub height_pos : (e : Tree) → 0 < height e
height_pos (Number n) = omega arith
height_pos (Text s) = omega arith
height_pos (Name x) = omega arith
height_pos UnitValue = omega arith
height_pos (Paren e) = omega arith
height_pos (Call x es) = omega arith
height_pos (Make t) = omega arith
height_pos (MakeSized t e) = omega arith
height_pos (Unary op e) = omega arith
height_pos (Binary op a b) = omega arith

-- a tree takes as many tokens as it has levels
mutual
  pub unary_long : {e : Tree} {ts rest : List Tok} → SpellsUnary e ts rest → height e + length rest ≤ length ts
  unary_long number = omega arith
  unary_long text = omega arith
  unary_long name = omega arith
  unary_long unit = omega arith
  unary_long (paren d) = omega (arith, expr_long d)
  unary_long (call_none b) = omega arith
  unary_long (call b d) = omega (arith, exprs_long d)
  unary_long (call_comma b d) = omega (arith, exprs_long d)
  unary_long (make b d) = omega (arith, type_long d)
  unary_long (make_comma b d) = omega (arith, type_long d)
  unary_long (make_sized b d e) = omega (arith, type_long d, expr_long e)
  unary_long (make_sized_comma b d e) = omega (arith, type_long d, expr_long e)
  unary_long (unary d) = omega (arith, unary_long d)

  pub expr_long : {l : ℕ} {e : Tree} {ts rest : List Tok} → SpellsExpr l e ts rest → height e + length rest ≤ length ts
  expr_long (alone d) = unary_long d
  expr_long (binary le a b) = omega (arith, expr_long a, expr_long b)

  pub exprs_long : {es : _} {ts rest : List Tok} → SpellsExprs es ts rest → heights es + length rest ≤ length ts
  exprs_long (last_expr d) = omega (arith, expr_long d)
  exprs_long (comma_expr d ds) = omega (arith, expr_long d, exprs_long ds)

-- a tree takes at least one token
pub unary_shrinks : {e : Tree} {ts rest : List Tok} → SpellsUnary e ts rest → length rest < length ts
unary_shrinks {e} d = omega (arith, unary_long d, height_pos e)

pub expr_shrinks : {l : ℕ} {e : Tree} {ts rest : List Tok} → SpellsExpr l e ts rest → length rest < length ts
expr_shrinks {l} {e} d = omega (arith, expr_long d, height_pos e)

pub exprs_shrunk : {es : _} {ts rest : List Tok} → SpellsExprs es ts rest → length rest < length ts
exprs_shrunk (last_expr d) = expr_shrinks d
exprs_shrunk (comma_expr d ds) = omega (arith, expr_shrinks d, exprs_shrunk ds)

-- a reading that answers takes a token at least
pub expr_reads : (h l : ℕ) (ts : List Tok) (u : Found Tree) → 0 < l → expr_at h l ts ≡ Ok u → length u.2 < length ts
expr_reads h l ts u pos q = expr_shrinks (expr_sound h l ts u pos q).tree

chain_shrinks_go : (h : ℕ) (a t : Found Tree) (o : BinaryOp × List Tok) → operator_at binary_of a.2 ≡ Some o → (expr_at h (level o.0 + 1) o.1 >>= λ b. Ok (Go (joined o.0 a b))) ≡ Ok (Go t) → length t.2 < length a.2
chain_shrinks_go h a t o is q =
    on_ok (expr_at h (level o.0 + 1) o.1) (λ b. Ok (Go (joined o.0 a b))) (Go t) q (λ b eb q.
    omega (arith, expr_reads h (level o.0 + 1) o.1 b (omega arith) eb, ap length (go_inj (joined o.0 a b) t q), ap length (operator_is binary_of binary_mark binary_is a.2 o is).is))

chain_shrinks_case : (h l : ℕ) (a t : Found Tree) (o : Option (BinaryOp × List Tok)) → operator_at binary_of a.2 ≡ o → chain_at (expr_at h) h l a o ≡ Ok (Go t) → length t.2 < length a.2
chain_shrinks_case h l a t None is q = stop≢go a t q
chain_shrinks_case h l a t (Some o) is q =
    on_test (nat_lt (level o.0) l) (Ok (Stop a)) (cond (nat_lt h a.1) (Err High) (expr_at h (level o.0 + 1) o.1 >>= λ b. Ok (Go (joined o.0 a b)))) (Ok (Go t)) q
    (λ lt q. stop≢go a t q)
    (λ ge q. on_test (nat_lt h a.1) (Err High) (expr_at h (level o.0 + 1) o.1 >>= λ b. Ok (Go (joined o.0 a b))) (Ok (Go t)) q
    (λ lt q. absurd (cc))
    (λ le q. chain_shrinks_go h a t o is q))

pub chain_shrinks : (h l : ℕ) → Shrinks (chain_turn (expr_at h) h l)
unfolding chain_turn
chain_shrinks h l a t q = chain_shrinks_case h l a t (operator_at binary_of a.2) refl q

pub exprs_shrinks : (h : ℕ) (t : Bool) → Shrinks (exprs_turn (expr_at h) t)
unfolding exprs_turn
exprs_shrinks h t s v q =
    on_ok (expr_at h 1 s.2) (λ e. exprs_after t s e e.2) (Go v) q (λ e ee q.
    let d = expr_reads h 1 s.2 e (omega arith) ee in
    on_look (after_mark marks.Comma e.2) _ _ (Ok (Go v)) q
    (λ rest m q. on_test (ends_at t rest) _ _ (Ok (Go v)) q
    (λ b q. stop≢go (snoc s.0 e.0, max s.1 e.1, rest) v q)
    (λ b q. omega (arith, d, ap length (after_is marks.Comma e.2 rest m).is, ap length (go_inj (snoc s.0 e.0, max s.1 e.1, rest) v q))))
    (λ m q. stop≢go (snoc s.0 e.0, max s.1 e.1, e.2) v q))
