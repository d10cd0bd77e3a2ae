-- An expression of the grammar is read, where it is not too high.
use Rattle.std.proofs.Common.{◌≡◌, ℕ, suc, ◌+◌, ◌≤◌, max, Bool, true, false, List, ◌∷◌, refl, ap, sym, ◌∙◌, arith}
use Rattle.std.specs.Prelude.{None, Ok}
use Rattle.gr_scan.specs.declared.token.Place.{Place}
use Rattle.gr_scan.specs.declared.token.Mark.TheVariants as marks
use Rattle.gr_scan.specs.Tokens.{Tok, At, Sign}
use Rattle.gr_scan.specs.Tokens as words
use Rattle.gr_tree.specs.declared.expr.UnaryOp.{UnaryOp}
use Rattle.gr_tree.specs.declared.expr.UnaryOp.TheVariants as unaries
use Rattle.gr_tree.specs.Exprs.{WrittenType, type_height, Tree, Trees, none, Number, Text, Name, UnitValue, Paren, Call, Make, MakeSized, Unary, height, heights}
use Rattle.gr_syntax.specs.Grammar.{level, after_mark, is_make, unary_mark, SpellsUnary, SpellsExpr, SpellsExprs, number, text, name, unit, paren, call_none, call, call_comma, make, make_comma, make_sized, make_sized_comma, unary, alone, binary, last_expr, comma_expr}
use Rattle.gr_syntax.specs.Reading.{Found, Reads, ◌>>=◌, match_after, binary_of, unary_of, need, exprs_at, arguments_at, call_at, close_at, size_at, make_after, make_at, named_at, unit_at, paren_at, word_at, tight, unary_at, type_at, expr_at, operand_at}
use Rattle.gr_syntax.proofs.Bound.{bound, within, bound_bind, bound_suc, bound_max, under}
use Rattle.gr_syntax.proofs.WrittenTypes.{TypeReads, type_whole}
use Rattle.gr_syntax.proofs.Chains.{strength, Quiet}
use Rattle.gr_syntax.proofs.CompleteChains.{ReadsTo, from_unary, whole, by_binary, tightly, symbol_strength, symbol_open}
use Rattle.gr_syntax.proofs.CompleteLists.{Follows, plain, comma_quiet, follow_quiet, expr_begins, exprs_begin, ExprsTo, last_turn, comma_turn, whole_list, arguments_none, arguments_closed, paren_follows, comma_follows}

-- what reading answers at what no binary operator joins
abbrev pub Operand : ℕ → Tree → List Tok → List Tok → Type 0
Operand h e ts rest = operand_at h ts ≡ bound (suc h) (height e) (Ok (e, height e, rest))

-- what reading answers at an expression that no operator follows
abbrev pub Whole : ℕ → Tree → List Tok → List Tok → Type 0
Whole h e ts rest = expr_at h 1 ts ≡ bound h (height e) (Ok (e, height e, rest))

pub paren_quiet : (p : Place) (ts : List Tok) → Quiet (At p (Sign marks.RightParen) ∷ ts)
unfolding binary_of after_mark
paren_quiet p ts = (refl, refl)

-- a leaf
number_reads : (h : ℕ) (p : Place) (n : ℕ) (rest : List Tok) → operand_at h (At p (words.Number n) ∷ rest) ≡ Ok (Number n, 1, rest)
unfolding unary_at word_at after_mark
number_reads h p n rest = refl

text_reads : (h : ℕ) (p : Place) (s : List ℕ) (rest : List Tok) → operand_at h (At p (words.Text s) ∷ rest) ≡ Ok (Text s, 1, rest)
unfolding unary_at word_at after_mark
text_reads h p s rest = refl

name_reads : (h : ℕ) (p : Place) (x : List ℕ) (rest : List Tok) → after_mark marks.LeftParen rest ≡ None → operand_at h (At p (words.Name x) ∷ rest) ≡ Ok (Name x, 1, rest)
unfolding unary_at word_at named_at after_mark
name_reads h p x rest m = rw m refl

unit_reads : (h : ℕ) (p q r s t : Place) (rest : List Tok) → operand_at h (At p (Sign marks.Struct) ∷ At q (Sign marks.LeftBrace) ∷ At r (Sign marks.RightBrace) ∷ At s (Sign marks.LeftBrace) ∷ At t (Sign marks.RightBrace) ∷ rest) ≡ Ok (UnitValue, 1, rest)
unfolding unary_at unit_at need after_mark unary_of
unit_reads h p q r s t rest = refl

-- parentheses
paren_opens : (h : ℕ) (p : Place) (ts : List Tok) → operand_at h (At p (Sign marks.LeftParen) ∷ ts) ≡ paren_at (expr_at h) ts
unfolding unary_at after_mark
paren_opens h p ts = refl

abbrev closed_paren : Found Tree → Reads Tree
closed_paren e = need marks.RightParen e.2 >>= λ r. Ok (Paren e.0, e.1 + 1, r.1)

paren_closes : (e : Tree) (k : ℕ) (q : Place) (rest : List Tok) → closed_paren (e, k, At q (Sign marks.RightParen) ∷ rest) ≡ Ok (Paren e, k + 1, rest)
unfolding need after_mark
paren_closes e k q rest = refl

by_paren : (h : ℕ) (p q : Place) (e : Tree) (ts rest : List Tok) → Whole h e ts (At q (Sign marks.RightParen) ∷ rest) → Operand h (Paren e) (At p (Sign marks.LeftParen) ∷ ts) rest
unfolding paren_at
by_paren h p q e ts rest r =
    paren_opens h p ts
    ∙ under h (height e) (expr_at h 1 ts) (e, height e, At q (Sign marks.RightParen) ∷ rest) closed_paren r
    ∙ ap (bound (suc h) (height e + 1)) (paren_closes e (height e) q rest)

-- a unary operator
unary_opens : (h : ℕ) (op : UnaryOp) (p : Place) (ts : List Tok) → operand_at h (At p (Sign (unary_mark op)) ∷ ts) ≡ (expr_at h tight ts >>= λ e. Ok (Unary op e.0, e.1 + 1, e.2))
unfolding unary_at after_mark unary_of
unary_opens h unaries.Plus p ts = refl
unary_opens h unaries.Negate p ts = refl
unary_opens h unaries.Not p ts = refl
unary_opens h unaries.Complement p ts = refl
unary_opens h unaries.Receive p ts = refl

by_unary : (h : ℕ) (op : UnaryOp) (p : Place) (e : Tree) (ts rest : List Tok) → ((h : ℕ) → Operand h e ts rest) → Operand h (Unary op e) (At p (Sign (unary_mark op)) ∷ ts) rest
by_unary h op p e ts rest f =
    unary_opens h op p ts
    ∙ under h (height e) (expr_at h tight ts) (e, height e, rest) (λ e. Ok (Unary op e.0, e.1 + 1, e.2)) (tightly h e ts rest f)

-- a call
call_opens : (h : ℕ) (p q : Place) (x : List ℕ) (ts : List Tok) → is_make x ≡ false → operand_at h (At p (words.Name x) ∷ At q (Sign marks.LeftParen) ∷ ts) ≡ call_at (expr_at h) x ts
unfolding unary_at word_at named_at after_mark
call_opens h p q x ts b = rw b refl

pub call_of : (h : ℕ) (x : List ℕ) (es : Trees) (ts rest : List Tok) → arguments_at (expr_at h) ts ≡ bound h (heights es) (Ok (es, heights es, rest)) → call_at (expr_at h) x ts ≡ bound (suc h) (heights es + 1) (Ok (Call x es, heights es + 1, rest))
unfolding call_at
call_of h x es ts rest r = under h (heights es) (arguments_at (expr_at h) ts) (es, heights es, rest) (λ es. Ok (Call x es.0, es.1 + 1, es.2)) r

by_call : (h : ℕ) (p q : Place) (x : List ℕ) (es : Trees) (ts rest : List Tok) → is_make x ≡ false → arguments_at (expr_at h) ts ≡ bound h (heights es) (Ok (es, heights es, rest)) → Operand h (Call x es) (At p (words.Name x) ∷ At q (Sign marks.LeftParen) ∷ ts) rest
by_call h p q x es ts rest b r = call_opens h p q x ts b ∙ call_of h x es ts rest r

none_closed : (h : ℕ) (r : Place) (rest : List Tok) → arguments_at (expr_at h) (At r (Sign marks.RightParen) ∷ rest) ≡ bound h (heights none) (Ok (none, heights none, rest))
none_closed h r rest = arguments_none (expr_at h) r rest ∙ sym (within h 0 _ (omega arith))

-- a make
make_opens : (h : ℕ) (p q : Place) (x : List ℕ) (ts : List Tok) → is_make x ≡ true → operand_at h (At p (words.Name x) ∷ At q (Sign marks.LeftParen) ∷ ts) ≡ make_at (type_at h) (expr_at h) ts
unfolding unary_at word_at named_at after_mark
make_opens h p q x ts b = rw b refl

-- what follows the type
abbrev made : (ℕ → List Tok → Reads Tree) → Found WrittenType → Reads Tree
made rec t = match_after (after_mark marks.Comma t.2) (λ rest. make_after rec t rest) (need marks.RightParen t.2 >>= λ r. Ok (Make t.0, t.1 + 1, r.1))

made_plain : (rec : ℕ → List Tok → Reads Tree) (t : WrittenType) (k : ℕ) (r : Place) (rest : List Tok) → made rec (t, k, At r (Sign marks.RightParen) ∷ rest) ≡ Ok (Make t, k + 1, rest)
unfolding need after_mark
made_plain rec t k r rest = refl

made_comma : (rec : ℕ → List Tok → Reads Tree) (t : WrittenType) (k : ℕ) (c r : Place) (rest : List Tok) → made rec (t, k, At c (Sign marks.Comma) ∷ At r (Sign marks.RightParen) ∷ rest) ≡ Ok (Make t, k + 1, rest)
unfolding make_after after_mark
made_comma rec t k c r rest = refl

made_sized : (rec : ℕ → List Tok → Reads Tree) (t : WrittenType) (k : ℕ) (c : Place) (mid : List Tok) → after_mark marks.RightParen mid ≡ None → made rec (t, k, At c (Sign marks.Comma) ∷ mid) ≡ size_at rec (t, k, At c (Sign marks.Comma) ∷ mid) mid
unfolding make_after after_mark
made_sized rec t k c mid m = rw m refl

by_type : (h : ℕ) (p q : Place) (x : List ℕ) (t : WrittenType) (ts mid : List Tok) (r : Reads Tree) → is_make x ≡ true → TypeReads h t ts mid → made (expr_at h) (t, type_height t, mid) ≡ r → operand_at h (At p (words.Name x) ∷ At q (Sign marks.LeftParen) ∷ ts) ≡ bound h (type_height t) r
unfolding make_at
by_type h p q x t ts mid r b d m =
    make_opens h p q x ts b
    ∙ ap (λ r. r >>= made (expr_at h)) d
    ∙ bound_bind h (type_height t) (Ok (t, type_height t, mid)) (made (expr_at h))
    ∙ ap (bound h (type_height t)) m

close_plain : (r : Place) (rest : List Tok) → close_at (At r (Sign marks.RightParen) ∷ rest) ≡ Ok rest
unfolding close_at need after_mark
close_plain r rest = refl

close_comma : (c r : Place) (rest : List Tok) → close_at (At c (Sign marks.Comma) ∷ At r (Sign marks.RightParen) ∷ rest) ≡ Ok rest
unfolding close_at need after_mark
close_comma c r rest = refl

sized : (h : ℕ) (t : WrittenType) (k : ℕ) (all : List Tok) (e : Tree) (mid last rest : List Tok) → Whole h e mid last → close_at last ≡ Ok rest → size_at (expr_at h) (t, k, all) mid ≡ bound h (height e) (Ok (MakeSized t e, max k (height e) + 1, rest))
unfolding size_at
sized h t k all e mid last rest r c =
    let f : Found Tree → Reads Tree = λ v. close_at v.2 >>= λ rest. Ok (MakeSized t v.0, max k v.1 + 1, rest) in
    ap (λ r. r >>= f) r
    ∙ bound_bind h (height e) (Ok (e, height e, last)) f
    ∙ ap (λ c. bound h (height e) (c >>= λ rest. Ok (MakeSized t e, max k (height e) + 1, rest))) c

by_make : (h : ℕ) (p q : Place) (x : List ℕ) (t : WrittenType) (ts mid rest : List Tok) → is_make x ≡ true → TypeReads h t ts mid → ((k : ℕ) → made (expr_at h) (t, k, mid) ≡ Ok (Make t, k + 1, rest)) → Operand h (Make t) (At p (words.Name x) ∷ At q (Sign marks.LeftParen) ∷ ts) rest
by_make h p q x t ts mid rest b d m = by_type h p q x t ts mid _ b d (m (type_height t)) ∙ bound_suc h (type_height t) (Ok (Make t, type_height t + 1, rest))

by_size : (h : ℕ) (p q c : Place) (x : List ℕ) (t : WrittenType) (e : Tree) (ts mid last rest : List Tok) → is_make x ≡ true → TypeReads h t ts (At c (Sign marks.Comma) ∷ mid) → after_mark marks.RightParen mid ≡ None → Whole h e mid last → close_at last ≡ Ok rest → Operand h (MakeSized t e) (At p (words.Name x) ∷ At q (Sign marks.LeftParen) ∷ ts) rest
by_size h p q c x t e ts mid last rest b d m r k =
    let x : Reads Tree = Ok (MakeSized t e, max (type_height t) (height e) + 1, rest) in
    by_type h p q _ t ts (At c (Sign marks.Comma) ∷ mid) _ b d (made_sized (expr_at h) t (type_height t) c mid m ∙ sized h t (type_height t) (At c (Sign marks.Comma) ∷ mid) e mid last rest r k)
    ∙ bound_max h (type_height t) (height e) x
    ∙ bound_suc h (max (type_height t) (height e)) x

quietly : (e : Tree) (ts rest : List Tok) → Quiet rest → (strength rest ≤ 1 → after_mark marks.LeftParen rest ≡ None → (h l : ℕ) → l ≤ 1 → ReadsTo h l e ts rest) → (h : ℕ) → Whole h e ts rest
quietly e ts rest quiet f h = whole h 1 e ts rest (f (omega (arith, quiet.0)) quiet.1 h 1 (omega arith)) (omega (arith, quiet.0))

mutual
  pub unary_whole : {e : Tree} {ts rest : List Tok} → SpellsUnary e ts rest → after_mark marks.LeftParen rest ≡ None → (h : ℕ) → Operand h e ts rest
  unary_whole (number {p = p} {n = n} {rest = rest}) o h = number_reads h p n rest ∙ sym (within (suc h) 1 _ (omega arith))
  unary_whole (text {p = p} {s = s} {rest = rest}) o h = text_reads h p s rest ∙ sym (within (suc h) 1 _ (omega arith))
  unary_whole (name {p = p} {x = x} {rest = rest}) o h = name_reads h p x rest o ∙ sym (within (suc h) 1 _ (omega arith))
  unary_whole (unit {p = p} {q = q} {r = r} {s = s} {t = t} {rest = rest}) o h = unit_reads h p q r s t rest ∙ sym (within (suc h) 1 _ (omega arith))
  unary_whole (paren {p = p} {q = q} {e = e} {ts = ts} {rest = rest} d) o h = by_paren h p q e ts rest (quietly e ts (At q (Sign marks.RightParen) ∷ rest) (paren_quiet q rest) (expr_complete d) h)
  unary_whole (call_none {p = p} {q = q} {r = r} {x = x} {rest = rest} b) o h = by_call h p q x none (At r (Sign marks.RightParen) ∷ rest) rest b (none_closed h r rest)
  unary_whole (call {p = p} {q = q} {r = r} {x = x} {es = es} {ts = ts} {rest = rest} b d) o h =
      by_call h p q x es ts rest b (arguments_closed h es r ts rest (exprs_begin d) (whole_list h true es ts (At r (Sign marks.RightParen) ∷ rest) (list_whole d (paren_follows r rest) h none 0)))
  unary_whole (call_comma {p = p} {q = q} {r = r} {s = s} {x = x} {es = es} {ts = ts} {rest = rest} b d) o h =
      by_call h p q x es ts rest b (arguments_closed h es s ts rest (exprs_begin d) (whole_list h true es ts (At s (Sign marks.RightParen) ∷ rest) (list_whole d (comma_follows r s rest) h none 0)))
  unary_whole (make {p = p} {q = q} {r = r} {x = x} {t = t} {ts = ts} {rest = rest} b d) o h =
      by_make h p q x t ts (At r (Sign marks.RightParen) ∷ rest) rest b (type_whole d h) (λ k. made_plain (expr_at h) t k r rest)
  unary_whole (make_comma {p = p} {q = q} {r = r} {s = s} {x = x} {t = t} {ts = ts} {rest = rest} b d) o h =
      by_make h p q x t ts (At r (Sign marks.Comma) ∷ At s (Sign marks.RightParen) ∷ rest) rest b (type_whole d h) (λ k. made_comma (expr_at h) t k r s rest)
  unary_whole (make_sized {p = p} {q = q} {r = r} {s = s} {x = x} {t = t} {e = e} {ts = ts} {mid = mid} {rest = rest} b d v) o h =
      by_size h p q r x t e ts mid (At s (Sign marks.RightParen) ∷ rest) rest b (type_whole d h) (expr_begins v) (quietly e mid (At s (Sign marks.RightParen) ∷ rest) (paren_quiet s rest) (expr_complete v) h) (close_plain s rest)
  unary_whole (make_sized_comma {p = p} {q = q} {r = r} {s = s} {u = u} {x = x} {t = t} {e = e} {ts = ts} {mid = mid} {rest = rest} b d v) o h =
      by_size h p q r x t e ts mid (At s (Sign marks.Comma) ∷ At u (Sign marks.RightParen) ∷ rest) rest b (type_whole d h) (expr_begins v) (quietly e mid (At s (Sign marks.Comma) ∷ At u (Sign marks.RightParen) ∷ rest) (comma_quiet s (At u (Sign marks.RightParen) ∷ rest)) (expr_complete v) h) (close_comma s u rest)
  unary_whole (unary {p = p} {op = op} {e = e} {ts = ts} {rest = rest} d) o h = by_unary h op p e ts rest (unary_whole d o)

  expr_complete : {k : ℕ} {e : Tree} {ts rest : List Tok} → SpellsExpr k e ts rest → strength rest ≤ k → after_mark marks.LeftParen rest ≡ None → (h l : ℕ) → l ≤ k → ReadsTo h l e ts rest
  expr_complete (alone {e = e} {ts = ts} {rest = rest} d) s o h l le = from_unary e ts rest (unary_whole d o) h l
  expr_complete (binary {p = p} {op = op} {a = a} {b = b} {ts = ts} {mid = mid} {rest = rest} le2 da db) s o h l le =
      by_binary l p op a b ts mid rest (omega arith) (omega arith)
      (λ h. expr_complete da (symbol_strength op p mid) (symbol_open op p mid) h l (omega arith))
      (λ h. expr_complete db (omega arith) o h (level op + 1) (omega arith)) h

  list_whole : {es : Trees} {ts after : List Tok} → SpellsExprs es ts after → {t : Bool} {rest : List Tok} → Follows t after rest → (h : ℕ) (acc : Trees) (k : ℕ) → ExprsTo h t acc k es ts rest
  list_whole (last_expr {e = e} {ts = ts} {rest = after} d) {t} {rest} f h acc k = last_turn h t acc k e ts after rest f (quietly e ts after (follow_quiet f) (expr_complete d) h)
  list_whole (comma_expr {p = p} {e = e} {es = es} {ts = ts} {mid = mid} d ds) {t} {rest} f h acc k =
      comma_turn h t acc k e es p ts mid rest (exprs_begin ds) (quietly e ts (At p (Sign marks.Comma) ∷ mid) (comma_quiet p mid) (expr_complete d) h) (list_whole ds f h)

-- an expression that no operator follows
pub expr_whole : {e : Tree} {ts rest : List Tok} → SpellsExpr 1 e ts rest → Quiet rest → (h : ℕ) → Whole h e ts rest
expr_whole {e} {ts} {rest} d quiet h = quietly e ts rest quiet (expr_complete d) h

-- expressions that no comma follows
pub exprs_whole : {es : Trees} {ts rest : List Tok} → SpellsExprs es ts rest → Quiet rest → after_mark marks.Comma rest ≡ None → (h : ℕ) → exprs_at (expr_at h) false ts ≡ bound h (heights es) (Ok (es, heights es, rest))
exprs_whole {es} {ts} {rest} d quiet m h = whole_list h false es ts rest (list_whole d (plain m quiet) h none 0)

-- a call, after its "("
pub arguments_whole : {f x : List ℕ} {es : Trees} {p q : Place} {ts rest : List Tok} → SpellsUnary (Call f es) (At p (words.Name x) ∷ At q (Sign marks.LeftParen) ∷ ts) rest → (h : ℕ) → arguments_at (expr_at h) ts ≡ bound h (heights es) (Ok (es, heights es, rest))
arguments_whole (call_none {r = r} {rest = rest} b) h = none_closed h r rest
arguments_whole (call {r = r} {es = es} {ts = ts} {rest = rest} b d) h =
    arguments_closed h es r ts rest (exprs_begin d) (whole_list h true es ts (At r (Sign marks.RightParen) ∷ rest) (list_whole d (paren_follows r rest) h none 0))
arguments_whole (call_comma {r = r} {s = s} {es = es} {ts = ts} {rest = rest} b d) h =
    arguments_closed h es s ts rest (exprs_begin d) (whole_list h true es ts (At s (Sign marks.RightParen) ∷ rest) (list_whole d (comma_follows r s rest) h none 0))

pub call_whole : {f x : List ℕ} {es : Trees} {p q : Place} {ts rest : List Tok} → SpellsUnary (Call f es) (At p (words.Name x) ∷ At q (Sign marks.LeftParen) ∷ ts) rest → (h : ℕ) → call_at (expr_at h) x ts ≡ bound (suc h) (heights es + 1) (Ok (Call x es, heights es + 1, rest))
call_whole {f} {x} {es} {p} {q} {ts} {rest} d h = call_of h x es ts rest (arguments_whole d h)
