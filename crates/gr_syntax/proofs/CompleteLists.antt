-- The turns of a loop over the expressions of a list.
use Rattle.std.proofs.Common.{◌≡◌, ℕ, max, Bool, true, false, List, ◌∷◌, refl, ap, sym, ◌∙◌, arith}
use Rattle.std.specs.Prelude.{Some, None, Result, Ok}
use Rattle.gr_scan.specs.declared.token.Place.{Place}
use Rattle.gr_scan.specs.declared.token.Mark.TheVariants as marks
use Rattle.gr_scan.specs.Tokens.{Tok, At, Sign}
use Rattle.gr_tree.specs.declared.expr.UnaryOp.{UnaryOp}
use Rattle.gr_tree.specs.declared.expr.UnaryOp.TheVariants as unaries
use Rattle.gr_tree.specs.Exprs.{Tree, Trees, none, more, height, heights}
use Rattle.gr_syntax.specs.Grammar.{after_mark, unary_mark, SpellsUnary, SpellsExpr, SpellsExprs, number, text, name, unit, paren, call_none, call, call_comma, make, make_comma, make_sized, make_sized_comma, unary, alone, binary, last_expr, comma_expr}
use Rattle.gr_syntax.specs.Reading.{ReadError, Found, Reads, ◌>>=◌, Turn, Stop, Go, turned, loop, binary_of, need, snoc, ends_at, exprs_after, exprs_turn, exprs_at, arguments_at, expr_at}
use Rattle.gr_syntax.proofs.Bound.{bound, bound_bind, bound_max}
use Rattle.gr_syntax.proofs.Loops.{loop_is}
use Rattle.gr_syntax.proofs.Chains.{Quiet}
use Rattle.gr_syntax.proofs.SoundLists.{append, append_snoc, snoc_append}
use Rattle.gr_syntax.proofs.Sizes.{exprs_shrinks}

-- what can follow a list of expressions, and what is left then
pub data Follows : Bool → List Tok → List Tok → Type 0 where
  plain : {t : Bool} {rest : List Tok} → after_mark marks.Comma rest ≡ None → Quiet rest → Follows t rest rest
  trailing : {p : Place} {rest tail : List Tok} → after_mark marks.RightParen rest ≡ Some tail → Follows true (At p (Sign marks.Comma) ∷ rest) rest

pub comma_quiet : (p : Place) (ts : List Tok) → Quiet (At p (Sign marks.Comma) ∷ ts)
unfolding binary_of after_mark
comma_quiet p ts = (refl, refl)

pub follow_quiet : {t : Bool} {after rest : List Tok} → Follows t after rest → Quiet after
follow_quiet (plain m w) = w
follow_quiet (trailing {p = p} {rest = rest} m) = comma_quiet p rest

after_last : {t : Bool} {after rest : List Tok} (es : Found Trees) (e : Found Tree) → Follows t after rest → exprs_after t es e after ≡ Ok (Stop (snoc es.0 e.0, max es.1 e.1, rest))
unfolding after_mark ends_at
after_last es e (plain m w) = rw m refl
after_last es e (trailing m) = rw m refl

ends_false : (t : Bool) (ts : List Tok) → after_mark marks.RightParen ts ≡ None → ends_at t ts ≡ false
unfolding ends_at
ends_false false ts m = refl
ends_false true ts m = rw m refl

after_comma : (t : Bool) (es : Found Trees) (e : Found Tree) (p : Place) (ts : List Tok) → after_mark marks.RightParen ts ≡ None → exprs_after t es e (At p (Sign marks.Comma) ∷ ts) ≡ Ok (Go (snoc es.0 e.0, max es.1 e.1, ts))
unfolding after_mark
after_comma t es e p ts m = rw (ends_false t ts m) refl

-- no expression begins with `)`
unary_begins : (op : UnaryOp) (p : Place) (ts : List Tok) → after_mark marks.RightParen (At p (Sign (unary_mark op)) ∷ ts) ≡ None
unfolding after_mark
unary_begins unaries.Plus p ts = refl
unary_begins unaries.Negate p ts = refl
unary_begins unaries.Not p ts = refl
unary_begins unaries.Complement p ts = refl
unary_begins unaries.Receive p ts = refl

operand_begins : {e : Tree} {ts rest : List Tok} → SpellsUnary e ts rest → after_mark marks.RightParen ts ≡ None
unfolding after_mark
operand_begins number = refl
operand_begins text = refl
operand_begins name = refl
operand_begins unit = refl
operand_begins (paren d) = refl
operand_begins (call_none b) = refl
operand_begins (call b d) = refl
operand_begins (call_comma b d) = refl
operand_begins (make b d) = refl
operand_begins (make_comma b d) = refl
operand_begins (make_sized b d e) = refl
operand_begins (make_sized_comma b d e) = refl
operand_begins (unary {p = p} {op = op} {ts = ts} d) = unary_begins op p ts

pub expr_begins : {l : ℕ} {e : Tree} {ts rest : List Tok} → SpellsExpr l e ts rest → after_mark marks.RightParen ts ≡ None
expr_begins (alone d) = operand_begins d
expr_begins (binary le a b) = expr_begins a

pub exprs_begin : {es : Trees} {ts rest : List Tok} → SpellsExprs es ts rest → after_mark marks.RightParen ts ≡ None
exprs_begin (last_expr d) = expr_begins d
exprs_begin (comma_expr d ds) = expr_begins d

abbrev pub ExprsTo : ℕ → Bool → Trees → ℕ → Trees → List Tok → List Tok → Type 0
ExprsTo h t acc k es ts rest = loop (exprs_turn (expr_at h) t) (acc, k, ts) ≡ bound h (heights es) (Ok (append acc es, max k (heights es), rest))

one_expr : (h : ℕ) (t : Bool) (acc : Trees) (k : ℕ) (e : Tree) (ts after : List Tok) → expr_at h 1 ts ≡ bound h (height e) (Ok (e, height e, after)) → loop (exprs_turn (expr_at h) t) (acc, k, ts) ≡ bound h (height e) (exprs_after t (acc, k, ts) (e, height e, after) after >>= turned (loop (exprs_turn (expr_at h) t)))
unfolding exprs_turn
one_expr h t acc k e ts after r =
    let step : Found Trees → Result (Turn (Found Trees)) ReadError = exprs_turn (expr_at h) t in
    loop_is step (exprs_shrinks h t) (acc, k, ts)
    ∙ ap (λ r. (r >>= λ (e : Found Tree). exprs_after t (acc, k, ts) e e.2) >>= turned (loop step)) r
    ∙ ap (λ r. r >>= turned (loop step)) (bound_bind h (height e) (Ok (e, height e, after)) (λ (e : Found Tree). exprs_after t (acc, k, ts) e e.2))
    ∙ bound_bind h (height e) (exprs_after t (acc, k, ts) (e, height e, after) after) (turned (loop step))

pub last_turn : (h : ℕ) (t : Bool) (acc : Trees) (k : ℕ) (e : Tree) (ts after rest : List Tok) → Follows t after rest → expr_at h 1 ts ≡ bound h (height e) (Ok (e, height e, after)) → ExprsTo h t acc k (more e none) ts rest
last_turn h t acc k e ts after rest f r =
    let high : max (height e) 0 ≡ height e = omega arith in
    one_expr h t acc k e ts after r
    ∙ ap (λ r. bound h (height e) (r >>= turned (loop (exprs_turn (expr_at h) t)))) (after_last (acc, k, ts) (e, height e, after) f)
    ∙ ap (λ xs. bound h (height e) (Ok (xs, max k (height e), rest))) (snoc_append acc e)
    ∙ ap (λ n. bound h n (Ok (append acc (more e none), max k n, rest))) (sym high)

highest : (k a b : ℕ) → max (max k a) b ≡ max k (max a b)
highest k a b = omega arith

pub comma_turn : (h : ℕ) (t : Bool) (acc : Trees) (k : ℕ) (e : Tree) (es : Trees) (p : Place) (ts mid rest : List Tok) → after_mark marks.RightParen mid ≡ None → expr_at h 1 ts ≡ bound h (height e) (Ok (e, height e, At p (Sign marks.Comma) ∷ mid)) → ((acc : Trees) (k : ℕ) → ExprsTo h t acc k es mid rest) → ExprsTo h t acc k (more e es) ts rest
comma_turn h t acc k e es p ts mid rest b r ih =
    one_expr h t acc k e ts (At p (Sign marks.Comma) ∷ mid) r
    ∙ ap (λ r. bound h (height e) (r >>= turned (loop (exprs_turn (expr_at h) t)))) (after_comma t (acc, k, ts) (e, height e, At p (Sign marks.Comma) ∷ mid) p mid b)
    ∙ ap (bound h (height e)) (ih (snoc acc e) (max k (height e)))
    ∙ bound_max h (height e) (heights es) _
    ∙ ap (λ xs. bound h (max (height e) (heights es)) (Ok (xs, max (max k (height e)) (heights es), rest))) (append_snoc acc e es)
    ∙ ap (λ n. bound h (max (height e) (heights es)) (Ok (append acc (more e es), n, rest))) (highest k (height e) (heights es))

-- from the turns to the whole list
pub whole_list : (h : ℕ) (t : Bool) (es : Trees) (ts rest : List Tok) → ExprsTo h t none 0 es ts rest → exprs_at (expr_at h) t ts ≡ bound h (heights es) (Ok (es, heights es, rest))
unfolding exprs_at
whole_list h t es ts rest r =
    let high : max 0 (heights es) ≡ heights es = omega arith in
    r ∙ ap (λ n. bound h (heights es) (Ok (es, n, rest))) high

abbrev closed_list : Found Trees → Reads Trees
closed_list es = need marks.RightParen es.2 >>= λ r. Ok (es.0, es.1, r.1)

list_closes : (es : Trees) (k : ℕ) (r : Place) (rest : List Tok) → closed_list (es, k, At r (Sign marks.RightParen) ∷ rest) ≡ Ok (es, k, rest)
unfolding need after_mark
list_closes es k r rest = refl

-- the arguments of a call, after its "("
pub arguments_none : (rec : ℕ → List Tok → Reads Tree) (r : Place) (rest : List Tok) → arguments_at rec (At r (Sign marks.RightParen) ∷ rest) ≡ Ok (none, 0, rest)
unfolding arguments_at after_mark
arguments_none rec r rest = refl

pub arguments_closed : (h : ℕ) (es : Trees) (r : Place) (ts rest : List Tok) → after_mark marks.RightParen ts ≡ None → exprs_at (expr_at h) true ts ≡ bound h (heights es) (Ok (es, heights es, At r (Sign marks.RightParen) ∷ rest)) → arguments_at (expr_at h) ts ≡ bound h (heights es) (Ok (es, heights es, rest))
unfolding arguments_at
arguments_closed h es r ts rest m e =
    rw m refl
    ∙ ap (λ r. r >>= closed_list) e
    ∙ bound_bind h (heights es) (Ok (es, heights es, At r (Sign marks.RightParen) ∷ rest)) closed_list
    ∙ ap (bound h (heights es)) (list_closes es (heights es) r rest)

pub paren_follows : (r : Place) (rest : List Tok) → Follows true (At r (Sign marks.RightParen) ∷ rest) (At r (Sign marks.RightParen) ∷ rest)
unfolding after_mark binary_of
paren_follows r rest = plain refl (refl, refl)

pub comma_follows : (r s : Place) (rest : List Tok) → Follows true (At r (Sign marks.Comma) ∷ At s (Sign marks.RightParen) ∷ rest) (At s (Sign marks.RightParen) ∷ rest)
unfolding after_mark
comma_follows r s rest = trailing {tail = rest} refl
