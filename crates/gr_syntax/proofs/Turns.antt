-- What the turns of the loops give, and what the code needs of the functions on lists.
use Rattle.std.proofs.Common.{◌≡◌, ℕ, suc, ◌+◌, ◌<◌, ◌≤◌, max, Bool, true, false, List, [], ◌∷◌, ◌++◌, length, refl, ap, ◌∙◌, arith, lt-ltb, le-ltb, Global}
use Rattle.std.specs.Prelude.{Option, Some, None, Result, Ok, Err, Vec, Box, not}
use Rattle.std.specs.Option.{is_some}
use Rattle.std.specs.Borrow.{Bor}
use Rattle.gr_scan.specs.declared.token.Token.{Token}
use Rattle.gr_scan.specs.declared.token.Mark.TheVariants as marks
use Rattle.gr_scan.specs.Tokens.{Tok, tokens_of}
use Rattle.gr_tree.specs.declared.expr.BinaryOp.{BinaryOp}
use Rattle.gr_tree.specs.declared.expr.Expr.{Expr, Row_of-Expr, end_of-Expr, more_of-Expr, items-the_row-Expr, items_hidden-the_row-Expr-0}
use Rattle.gr_tree.specs.declared.expr.Expr.TheBlock.{hidden-the_row-Expr-0}
use Rattle.gr_tree.specs.declared.expr.Expr.TheVariants as exprs
use Rattle.gr_tree.specs.Exprs.{WrittenType, Tree, Call, tree_of, row_trees, Trees, trees_of, more, names_of}
use Rattle.gr_syntax.specs.declared.look.ReadError as code_fault
use Rattle.gr_syntax.specs.declared.look.ReadError.TheVariants as faults
use Rattle.gr_syntax.specs.Grammar.{level, after_mark, is_make}
use Rattle.gr_syntax.specs.Reading.{ReadError, Wrong, High, Found, Reads, ◌>>=◌, turned, loop, binary_of, operator_at, joined, chain_at, chain_turn, expr_at, snoc, ends_at, exprs_after, exprs_turn, arguments_at, call_at, named_at, name_at, names_turn}
use Rattle.gr_syntax.specs.Views.{Fails, Sees}
use Rattle.gr_syntax.proofs.Loops.{loop_is}
use Rattle.gr_syntax.proofs.Sizes.{chain_shrinks, expr_reads, exprs_shrinks}
use Rattle.gr_syntax.proofs.Names.{names_step}

pub tokens_length : (ts : List Token) → length (tokens_of ts) ≡ length ts
tokens_length [] = refl
tokens_length (t ∷ ts) = ap suc (tokens_length ts)

pub expr_shorter : (h l : ℕ) (ts rest : List Token) (e : Tree) (k : ℕ) → 0 < l → expr_at h l (tokens_of ts) ≡ Ok (e, k, tokens_of rest) → length rest < length ts
expr_shorter h l ts rest e k pos q = omega (arith, tokens_length ts, tokens_length rest, expr_reads h l (tokens_of ts) (e, k, tokens_of rest) pos q)

-- the exit of a `?`
pub fails_on : {X Y : Type 0} (f : code_fault.ReadError) (r : Result X ReadError) (s : Result Y ReadError) → ((d : ReadError) → r ≡ Err d → s ≡ Err d) → Fails f r → Fails f s
fails_on (faults.Wrong left) r s h q = h Wrong q
fails_on (faults.TooHigh left) r s h q = h High q
fails_on faults.Memory r s h q = tt

chain_step : (h l : ℕ) (a : Found Tree) → loop (chain_turn (expr_at h) h l) a ≡ (chain_at (expr_at h) h l a (operator_at binary_of a.2) >>= turned (loop (chain_turn (expr_at h) h l)))
unfolding chain_turn
chain_step h l a = loop_is (chain_turn (expr_at h) h l) (chain_shrinks h l) a

-- one turn of a chain
module _ (h l : ℕ) (a : Found Tree) where
  pub chain_end : operator_at binary_of a.2 ≡ None → loop (chain_turn (expr_at h) h l) a ≡ Ok a
  chain_end e = chain_step h l a ∙ ap (λ o. chain_at (expr_at h) h l a o >>= turned (loop (chain_turn (expr_at h) h l))) e

  pub chain_weak : (op : BinaryOp) (mid : List Tok) → operator_at binary_of a.2 ≡ Some (op, mid) → level op < l → loop (chain_turn (expr_at h) h l) a ≡ Ok a
  chain_weak op mid e lt = chain_step h l a ∙ ap (λ o. chain_at (expr_at h) h l a o >>= turned (loop (chain_turn (expr_at h) h l))) e ∙ rw (lt-ltb (level op) l lt) refl

  pub chain_high : (op : BinaryOp) (mid : List Tok) → operator_at binary_of a.2 ≡ Some (op, mid) → l ≤ level op → h < a.1 → loop (chain_turn (expr_at h) h l) a ≡ Err High
  chain_high op mid e le lt = chain_step h l a ∙ ap (λ o. chain_at (expr_at h) h l a o >>= turned (loop (chain_turn (expr_at h) h l))) e ∙ rw (le-ltb (level op) l le, lt-ltb h a.1 lt) refl

  pub chain_err : (op : BinaryOp) (mid : List Tok) (f : ReadError) → operator_at binary_of a.2 ≡ Some (op, mid) → l ≤ level op → a.1 ≤ h → expr_at h (level op + 1) mid ≡ Err f → loop (chain_turn (expr_at h) h l) a ≡ Err f
  chain_err op mid f e le fit q = chain_step h l a ∙ ap (λ o. chain_at (expr_at h) h l a o >>= turned (loop (chain_turn (expr_at h) h l))) e ∙ rw (le-ltb (level op) l le, le-ltb h a.1 fit, q) refl

  pub chain_go : (op : BinaryOp) (mid : List Tok) (b : Found Tree) → operator_at binary_of a.2 ≡ Some (op, mid) → l ≤ level op → a.1 ≤ h → expr_at h (level op + 1) mid ≡ Ok b → loop (chain_turn (expr_at h) h l) a ≡ loop (chain_turn (expr_at h) h l) (joined op a b)
  chain_go op mid b e le fit q = chain_step h l a ∙ ap (λ o. chain_at (expr_at h) h l a o >>= turned (loop (chain_turn (expr_at h) h l))) e ∙ rw (le-ltb (level op) l le, le-ltb h a.1 fit, q) refl

exprs_step : (h : ℕ) (t : Bool) (es : Found Trees) → loop (exprs_turn (expr_at h) t) es ≡ ((expr_at h 1 es.2 >>= λ e. exprs_after t es e e.2) >>= turned (loop (exprs_turn (expr_at h) t)))
unfolding exprs_turn
exprs_step h t es = loop_is (exprs_turn (expr_at h) t) (exprs_shrinks h t) es

-- one turn of a list of expressions
module _ (h : ℕ) (t : Bool) (es : Found Trees) where
  pub exprs_err : (f : ReadError) → expr_at h 1 es.2 ≡ Err f → loop (exprs_turn (expr_at h) t) es ≡ Err f
  exprs_err f q = exprs_step h t es ∙ rw q refl

  pub exprs_last : (e : Found Tree) → expr_at h 1 es.2 ≡ Ok e → after_mark marks.Comma e.2 ≡ None → loop (exprs_turn (expr_at h) t) es ≡ Ok (snoc es.0 e.0, max es.1 e.1, e.2)
  exprs_last e q m = exprs_step h t es ∙ rw (q, m) refl

  pub exprs_trail : (e : Found Tree) (mid : List Tok) → expr_at h 1 es.2 ≡ Ok e → after_mark marks.Comma e.2 ≡ Some mid → ends_at t mid ≡ true → loop (exprs_turn (expr_at h) t) es ≡ Ok (snoc es.0 e.0, max es.1 e.1, mid)
  exprs_trail e mid q m b = exprs_step h t es ∙ rw (q, m, b) refl

  pub exprs_go : (e : Found Tree) (mid : List Tok) → expr_at h 1 es.2 ≡ Ok e → after_mark marks.Comma e.2 ≡ Some mid → ends_at t mid ≡ false → loop (exprs_turn (expr_at h) t) es ≡ loop (exprs_turn (expr_at h) t) (snoc es.0 e.0, max es.1 e.1, mid)
  exprs_go e mid q m b = exprs_step h t es ∙ rw (q, m, b) refl

pub trees_push : (xs : List Expr) (x : Expr) → trees_of (xs ++ (x ∷ [])) ≡ snoc (trees_of xs) (tree_of x)
trees_push [] x = refl
trees_push (y ∷ xs) x = ap (more (tree_of y)) (trees_push xs x)

-- one turn of a list of names
module _ (xs : Found (List (List ℕ))) where
  pub names_err : (f : ReadError) → name_at xs.2 ≡ Err f → loop names_turn xs ≡ Err f
  names_err f q = names_step xs ∙ rw q refl

  pub names_last : (x : List ℕ × List Tok) → name_at xs.2 ≡ Ok x → after_mark marks.Comma x.1 ≡ None → loop names_turn xs ≡ Ok (xs.0 ++ (x.0 ∷ []), 0, x.1)
  names_last x q m = names_step xs ∙ rw (q, m) refl

  pub names_go : (x : List ℕ × List Tok) (mid : List Tok) → name_at xs.2 ≡ Ok x → after_mark marks.Comma x.1 ≡ Some mid → loop names_turn xs ≡ loop names_turn (xs.0 ++ (x.0 ∷ []), 0, mid)
  names_go x mid q m = names_step xs ∙ rw (q, m) refl

pub names_push : (xs : List (Vec ℕ Global)) (x : Vec ℕ Global) → names_of (xs ++ (x ∷ [])) ≡ names_of xs ++ (x.items ∷ [])
names_push [] x = refl
names_push (y ∷ xs) x = ap (λ r. y.items ∷ r) (names_push xs x)

-- the parts of a call
row_list : {n : _} (k : Row_of-Expr n) → row_trees k ≡ trees_of (items-the_row-Expr n k)
row_list end_of-Expr = refl
row_list (more_of-Expr e k) = ap (more (tree_of e)) (row_list k)

pub call_is : (x : Box (Vec ℕ Global) Global) (v : Vec Expr Global) → tree_of (exprs.Call x v) ≡ Call x.value.items (trees_of v.items)
call_is x v = ap (Call x.value.items) (row_list (hidden-the_row-Expr-0 v) ∙ ap trees_of (items_hidden-the_row-Expr-0 v))

pub named_call : (types : List Tok → Reads WrittenType) (rec : ℕ → List Tok → Reads Tree) (x : List ℕ) (ts rest : List Tok) (es : Found Trees) → after_mark marks.LeftParen ts ≡ Some rest → is_make x ≡ false → arguments_at rec rest ≡ Ok es → named_at types rec x ts ≡ Ok (Call x es.0, es.1 + 1, es.2)
unfolding named_at call_at
named_call types rec x ts rest es m b q = rw (m, b, q) refl

-- what a look-up that is only tested says
pub unseen : (o : Option (Bor (List Token))) (x : Option (List Tok)) (t : Bool) → Sees o x → is_some o ≡ not t → t ≡ true → x ≡ None
unseen (Some r) x true s e k = absurd (cc)
unseen (Some r) x false s e k = absurd (cc)
unseen None x t s e k = s

pub seen : (o : Option (Bor (List Token))) (x : Option (List Tok)) (t : Bool) → Sees o x → is_some o ≡ not t → t ≡ false → (rest : List Tok) × (x ≡ Some rest)
seen (Some r) x t s e k = (tokens_of r.now, s)
seen None x true s e k = absurd (cc)
seen None x false s e k = absurd (cc)
