-- A chain of binary operators of the grammar is read, where it is not too high.
use Rattle.std.proofs.Common.{◌≡◌, ℕ, zero, suc, ◌+◌, ◌<◌, ◌≤◌, max, List, ◌∷◌, refl, ap, sym, ◌∙◌, arith, le-ltb, lt-ltb}
use Rattle.std.specs.Prelude.{Option, Some, None, Result, Ok}
use Rattle.gr_scan.specs.declared.token.Place.{Place}
use Rattle.gr_scan.specs.declared.token.Mark.TheVariants as marks
use Rattle.gr_scan.specs.Tokens.{Tok, At, Sign}
use Rattle.gr_tree.specs.declared.expr.BinaryOp.{BinaryOp}
use Rattle.gr_tree.specs.declared.expr.BinaryOp.TheVariants as binaries
use Rattle.gr_tree.specs.Exprs.{Tree, Binary, height}
use Rattle.gr_syntax.specs.Grammar.{level, after_mark, binary_mark}
use Rattle.gr_syntax.specs.Reading.{ReadError, Found, Reads, ◌>>=◌, Turn, Stop, Go, turned, loop, binary_of, operator_at, joined, chain_at, chain_turn, tight, expr_at, operand_at}
use Rattle.gr_syntax.proofs.Bound.{bound, above, bound_bind, bound_suc, bound_max, bound_looser}
use Rattle.gr_syntax.proofs.Loops.{loop_is}
use Rattle.gr_syntax.proofs.Chains.{strength_of, strength, strength_low}
use Rattle.gr_syntax.proofs.Sizes.{chain_shrinks, height_pos}

-- the operators after what was read
pub chain : ℕ → ℕ → Found Tree → Reads Tree
chain zero l u = Ok u
chain (suc h) l u = loop (chain_turn (expr_at h) h l) u

chain_stops_case : (h l : ℕ) (u : Found Tree) (o : Option (BinaryOp × List Tok)) → strength_of o < l → chain_at (expr_at h) h l u o ≡ Ok (Stop u)
chain_stops_case h l u None lt = refl
chain_stops_case h l u (Some o) lt = rw (lt-ltb (level o.0) l lt) refl

chain_stops : (h l : ℕ) (u : Found Tree) → strength u.2 < l → chain h l u ≡ Ok u
unfolding chain chain_turn
chain_stops zero l u lt = refl
chain_stops (suc h) l u lt = loop_is (chain_turn (expr_at h) h l) (chain_shrinks h l) u ∙ ap (λ r. r >>= turned (loop (chain_turn (expr_at h) h l))) (chain_stops_case h l u (operator_at binary_of u.2) lt)

operator_symbol : (op : BinaryOp) (p : Place) (ts : List Tok) → operator_at binary_of (At p (Sign (binary_mark op)) ∷ ts) ≡ Some (op, ts)
unfolding binary_of
operator_symbol binaries.Multiply p ts = refl
operator_symbol binaries.Divide p ts = refl
operator_symbol binaries.Remainder p ts = refl
operator_symbol binaries.ShiftLeft p ts = refl
operator_symbol binaries.ShiftRight p ts = refl
operator_symbol binaries.BitAnd p ts = refl
operator_symbol binaries.AndNot p ts = refl
operator_symbol binaries.Add p ts = refl
operator_symbol binaries.Subtract p ts = refl
operator_symbol binaries.BitOr p ts = refl
operator_symbol binaries.BitXor p ts = refl
operator_symbol binaries.Equal p ts = refl
operator_symbol binaries.NotEqual p ts = refl
operator_symbol binaries.Less p ts = refl
operator_symbol binaries.LessEqual p ts = refl
operator_symbol binaries.Greater p ts = refl
operator_symbol binaries.GreaterEqual p ts = refl
operator_symbol binaries.LogicalAnd p ts = refl
operator_symbol binaries.LogicalOr p ts = refl

chain_goes_at : (h l : ℕ) (u : Found Tree) (op : BinaryOp) (mid : List Tok) → l ≤ level op → chain_at (expr_at h) h l u (Some (op, mid)) ≡ bound h u.1 (expr_at h (level op + 1) mid >>= λ b. Ok (Go (joined op u b)))
chain_goes_at h l u op mid le = rw (le-ltb (level op) l le) refl

-- an operator, and its right side
chain_goes : (h l : ℕ) (a b : Tree) (j k : ℕ) (p : Place) (op : BinaryOp) (mid rest : List Tok) → l ≤ level op → expr_at h (level op + 1) mid ≡ bound h k (Ok (b, k, rest)) → chain (suc h) l (a, j, At p (Sign (binary_mark op)) ∷ mid) ≡ bound h j (bound h k (chain (suc h) l (Binary op a b, max j k + 1, rest)))
unfolding chain chain_turn
chain_goes h l a b j k p op mid rest le e =
    let u : Found Tree = (a, j, At p (Sign (binary_mark op)) ∷ mid) in
    let step : Found Tree → Result (Turn (Found Tree)) ReadError = chain_turn (expr_at h) h l in
    loop_is step (chain_shrinks h l) u
    ∙ ap (λ o. chain_at (expr_at h) h l u o >>= turned (loop step)) (operator_symbol op p mid)
    ∙ ap (λ r. r >>= turned (loop step)) (chain_goes_at h l u op mid le)
    ∙ ap (λ r. bound h j (r >>= λ b. Ok (Go (joined op u b))) >>= turned (loop step)) e
    ∙ ap (λ r. bound h j r >>= turned (loop step)) (bound_bind h k (Ok (b, k, rest)) (λ b. Ok (Go (joined op u b))))
    ∙ bound_bind h j (bound h k (Ok (Go (joined op u (b, k, rest))))) (turned (loop step))
    ∙ ap (bound h j) (bound_bind h k (Ok (Go (joined op u (b, k, rest)))) (turned (loop step)))

-- what reading answers at a tree: it goes on from there with the operators that follow
abbrev pub ReadsTo : ℕ → ℕ → Tree → List Tok → List Tok → Type 0
ReadsTo h l e ts rest = expr_at h l ts ≡ bound h (height e) (chain h l (e, height e, rest))

pub from_unary : (e : Tree) (ts rest : List Tok) → ((h : ℕ) → operand_at h ts ≡ bound (suc h) (height e) (Ok (e, height e, rest))) → (h l : ℕ) → ReadsTo h l e ts rest
unfolding expr_at chain
from_unary e ts rest f zero l = sym (above zero (height e) _ (height_pos e))
from_unary e ts rest f (suc h) l =
    ap (λ r. r >>= loop (chain_turn (expr_at h) h l)) (f h) ∙ bound_bind (suc h) (height e) (Ok (e, height e, rest)) (loop (chain_turn (expr_at h) h l))

pub whole : (h l : ℕ) (e : Tree) (ts rest : List Tok) → ReadsTo h l e ts rest → strength rest < l → expr_at h l ts ≡ bound h (height e) (Ok (e, height e, rest))
whole h l e ts rest r lt = r ∙ ap (bound h (height e)) (chain_stops h l (e, height e, rest) lt)

by_binary_suc : (h l : ℕ) (p : Place) (op : BinaryOp) (a b : Tree) (ts mid rest : List Tok) → l ≤ level op → strength rest < level op + 1 → ReadsTo (suc h) l a ts (At p (Sign (binary_mark op)) ∷ mid) → ReadsTo h (level op + 1) b mid rest → ReadsTo (suc h) l (Binary op a b) ts rest
by_binary_suc h l p op a b ts mid rest le lt ra rb =
    let x : Reads Tree = chain (suc h) l (Binary op a b, max (height a) (height b) + 1, rest) in
    ra
    ∙ ap (bound (suc h) (height a)) (chain_goes h l a b (height a) (height b) p op mid rest le (whole h (level op + 1) b mid rest rb lt))
    ∙ bound_looser h (height a) (bound h (height b) x)
    ∙ bound_max h (height a) (height b) x
    ∙ bound_suc h (max (height a) (height b)) x

above_zero : (l : ℕ) (op : BinaryOp) (a b : Tree) (ts rest : List Tok) → ReadsTo zero l (Binary op a b) ts rest
unfolding expr_at
above_zero l op a b ts rest = sym (above zero (max (height a) (height b) + 1) _ (omega arith))

pub by_binary : (l : ℕ) (p : Place) (op : BinaryOp) (a b : Tree) (ts mid rest : List Tok) → l ≤ level op → strength rest < level op + 1 → ((h : ℕ) → ReadsTo h l a ts (At p (Sign (binary_mark op)) ∷ mid)) → ((h : ℕ) → ReadsTo h (level op + 1) b mid rest) → (h : ℕ) → ReadsTo h l (Binary op a b) ts rest
by_binary l p op a b ts mid rest le lt ra rb zero = above_zero l op a b ts rest
by_binary l p op a b ts mid rest le lt ra rb (suc h) = by_binary_suc h l p op a b ts mid rest le lt (ra (suc h)) (rb h)

pub tightly : (h : ℕ) (e : Tree) (ts rest : List Tok) → ((h : ℕ) → operand_at h ts ≡ bound (suc h) (height e) (Ok (e, height e, rest))) → expr_at h tight ts ≡ bound h (height e) (Ok (e, height e, rest))
tightly h e ts rest f = whole h tight e ts rest (from_unary e ts rest f h tight) (omega (arith, strength_low rest))

pub symbol_strength : (op : BinaryOp) (p : Place) (ts : List Tok) → strength (At p (Sign (binary_mark op)) ∷ ts) ≤ level op
unfolding binary_of
symbol_strength binaries.Multiply p ts = omega arith
symbol_strength binaries.Divide p ts = omega arith
symbol_strength binaries.Remainder p ts = omega arith
symbol_strength binaries.ShiftLeft p ts = omega arith
symbol_strength binaries.ShiftRight p ts = omega arith
symbol_strength binaries.BitAnd p ts = omega arith
symbol_strength binaries.AndNot p ts = omega arith
symbol_strength binaries.Add p ts = omega arith
symbol_strength binaries.Subtract p ts = omega arith
symbol_strength binaries.BitOr p ts = omega arith
symbol_strength binaries.BitXor p ts = omega arith
symbol_strength binaries.Equal p ts = omega arith
symbol_strength binaries.NotEqual p ts = omega arith
symbol_strength binaries.Less p ts = omega arith
symbol_strength binaries.LessEqual p ts = omega arith
symbol_strength binaries.Greater p ts = omega arith
symbol_strength binaries.GreaterEqual p ts = omega arith
symbol_strength binaries.LogicalAnd p ts = omega arith
symbol_strength binaries.LogicalOr p ts = omega arith

-- no operator is a "("
pub symbol_open : (op : BinaryOp) (p : Place) (ts : List Tok) → after_mark marks.LeftParen (At p (Sign (binary_mark op)) ∷ ts) ≡ None
unfolding after_mark
symbol_open binaries.Multiply p ts = refl
symbol_open binaries.Divide p ts = refl
symbol_open binaries.Remainder p ts = refl
symbol_open binaries.ShiftLeft p ts = refl
symbol_open binaries.ShiftRight p ts = refl
symbol_open binaries.BitAnd p ts = refl
symbol_open binaries.AndNot p ts = refl
symbol_open binaries.Add p ts = refl
symbol_open binaries.Subtract p ts = refl
symbol_open binaries.BitOr p ts = refl
symbol_open binaries.BitXor p ts = refl
symbol_open binaries.Equal p ts = refl
symbol_open binaries.NotEqual p ts = refl
symbol_open binaries.Less p ts = refl
symbol_open binaries.LessEqual p ts = refl
symbol_open binaries.Greater p ts = refl
symbol_open binaries.GreaterEqual p ts = refl
symbol_open binaries.LogicalAnd p ts = refl
symbol_open binaries.LogicalOr p ts = refl
