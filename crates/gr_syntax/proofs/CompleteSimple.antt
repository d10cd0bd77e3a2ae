-- A simple statement of the grammar is read, where it is not too high.
use Rattle.std.proofs.Common.{◌≡◌, ℕ, ◌+◌, ◌<◌, ◌≤◌, max, Bool, true, false, List, [], ◌∷◌, refl, ap, sym, ◌∙◌, subst, arith, ⊎_elim}
use Rattle.std.specs.Prelude.{Option, Some, None, Result, Ok}
use Rattle.std.proofs.lemmas.Bool.{cases_lt}
use Rattle.std.proofs.lemmas.Option.{same_Some}
use Rattle.gr_scan.specs.declared.token.Place.{Place}
use Rattle.gr_scan.specs.declared.token.Mark.{Mark}
use Rattle.gr_scan.specs.declared.token.Mark.TheVariants as marks
use Rattle.gr_scan.specs.Tokens.{Tok, At, Sign}
use Rattle.gr_scan.specs.Tokens as words
use Rattle.gr_tree.specs.declared.expr.UnaryOp.{UnaryOp}
use Rattle.gr_tree.specs.declared.expr.UnaryOp.TheVariants as unaries
use Rattle.gr_tree.specs.declared.expr.BinaryOp.{BinaryOp}
use Rattle.gr_tree.specs.declared.expr.BinaryOp.TheVariants as binaries
use Rattle.gr_tree.specs.Exprs.{Tree, Name, Trees, height, heights}
use Rattle.gr_tree.specs.Statements.{Simple, Eval, Send, Assign, Define, Update, Increment, Decrement, Heading, Heads, simple_height}
use Rattle.gr_syntax.specs.Grammar.{SpellsUnary, SpellsExpr, SpellsExprs, SpellsNames, number, text, name, unit, paren, call_none, call, call_comma, make, make_comma, make_sized, make_sized_comma, unary, alone, binary, last_expr, comma_expr, last_name, comma_name, after_mark, unary_mark}
use Rattle.gr_syntax.specs.StatementGrammar as grammar
use Rattle.gr_syntax.specs.StatementGrammar.{update_mark, SpellsSimple, SpellsHeading, heads, defines}
use Rattle.gr_syntax.specs.Reading.{ReadError, Found, Reads, ◌>>=◌, match_after, binary_of, operator_at, need, expr_at, exprs_at}
use Rattle.gr_syntax.specs.SimpleReading.{up_to, keyword_of, joint_of, done_at, stops_at, place_at, bare, define_at, values_at, names_from, update_at, joined_at, alone_at, simple_named, sent_at, simple_after}
use Rattle.gr_syntax.specs.StatementReading.{heading_after, target_at}
use Rattle.gr_syntax.proofs.Bound.{bound, within, above, bound_bind}
use Rattle.gr_syntax.proofs.Chains.{Quiet}
use Rattle.gr_syntax.proofs.Names.{names_whole}
use Rattle.gr_syntax.proofs.CompleteExprs.{expr_whole, exprs_whole}

-- an outer limit that asks for less
pub absorb : {B : Type 0} (j k h m : ℕ) (x : Result B ReadError) → (j < k → h < m) → bound j k (bound h m x) ≡ bound h m x
absorb j k h m x f = ⊎_elim (λ lt. above j k _ lt ∙ sym (above h m x (f lt))) (λ le. within j k _ le) (cases_lt j k)

-- a reading that is known, and what goes on from there to a height that is no less
pub goes_on : {A B : Type 0} (j k h m : ℕ) (r : Result A ReadError) (x : A) (f : A → Result B ReadError) (y : Result B ReadError) → r ≡ bound j k (Ok x) → (k ≤ j → f x ≡ bound h m y) → (j < k → h < m) → (r >>= f) ≡ bound h m y
goes_on j k h m r x f y e g le =
    ap (λ r. r >>= f) e ∙ bound_bind j k (Ok x) f
    ∙ ⊎_elim (λ lt. above j k _ lt ∙ sym (above h m y (le lt))) (λ fit. within j k _ fit ∙ g fit) (cases_lt j k)

-- where either way gives the same
pub either : {A B : Type 0} (o : Option A) (f : A → B) (y : B) → ((x : A) → f x ≡ y) → match_after o f y ≡ y
either (Some x) f y e = e x
either None f y e = refl

-- what may follow a simple statement
pub record Over (ts : List Tok) : Type 0 where
  pub quiet : Quiet ts
  pub comma : after_mark marks.Comma ts ≡ None
  pub arrow : after_mark marks.Arrow ts ≡ None
  pub assign : after_mark marks.Assign ts ≡ None
  pub define : after_mark marks.Define ts ≡ None
  pub colon : after_mark marks.Colon ts ≡ None
  pub joint : operator_at joint_of ts ≡ None

pub over_brace : (p : Place) (ts : List Tok) → Over (At p (Sign marks.LeftBrace) ∷ ts)
unfolding after_mark binary_of joint_of
over_brace p ts = record { quiet = (refl, refl); comma = refl; arrow = refl; assign = refl; define = refl; colon = refl; joint = refl }

pub over_semicolon : (p : Place) (ts : List Tok) → Over (At p (Sign marks.Semicolon) ∷ ts)
unfolding after_mark binary_of joint_of
over_semicolon p ts = record { quiet = (refl, refl); comma = refl; arrow = refl; assign = refl; define = refl; colon = refl; joint = refl }

pub over_closing : (p : Place) (ts : List Tok) → Over (At p (Sign marks.RightBrace) ∷ ts)
unfolding after_mark binary_of joint_of
over_closing p ts = record { quiet = (refl, refl); comma = refl; arrow = refl; assign = refl; define = refl; colon = refl; joint = refl }

pub over_colon_quiet : (p : Place) (ts : List Tok) → Quiet (At p (Sign marks.Colon) ∷ ts)
unfolding after_mark binary_of
over_colon_quiet p ts = (refl, refl)

-- what an expression does not begin with
pub record Opened (ts : List Tok) : Type 0 where
  pub keyword : operator_at keyword_of ts ≡ None
  pub semicolon : after_mark marks.Semicolon ts ≡ None
  pub brace : after_mark marks.LeftBrace ts ≡ None
  pub range : after_mark marks.Range ts ≡ None
  pub done : done_at ts ≡ false
  pub stops : stops_at ts ≡ false
  pub place : Place
  pub placed : place_at ts ≡ Ok place

unary_opened : (op : UnaryOp) (p : Place) (ts : List Tok) → Opened (At p (Sign (unary_mark op)) ∷ ts)
unfolding after_mark keyword_of done_at stops_at place_at
unary_opened unaries.Plus p ts = record { keyword = refl; semicolon = refl; brace = refl; range = refl; done = refl; stops = refl; place = p; placed = refl }
unary_opened unaries.Negate p ts = record { keyword = refl; semicolon = refl; brace = refl; range = refl; done = refl; stops = refl; place = p; placed = refl }
unary_opened unaries.Not p ts = record { keyword = refl; semicolon = refl; brace = refl; range = refl; done = refl; stops = refl; place = p; placed = refl }
unary_opened unaries.Complement p ts = record { keyword = refl; semicolon = refl; brace = refl; range = refl; done = refl; stops = refl; place = p; placed = refl }
unary_opened unaries.Receive p ts = record { keyword = refl; semicolon = refl; brace = refl; range = refl; done = refl; stops = refl; place = p; placed = refl }

name_opened : (p : Place) (x : List ℕ) (ts : List Tok) → Opened (At p (words.Name x) ∷ ts)
unfolding after_mark done_at stops_at place_at
name_opened p x ts = record { keyword = refl; semicolon = refl; brace = refl; range = refl; done = refl; stops = refl; place = p; placed = refl }

struct_opened : (p : Place) (ts : List Tok) → Opened (At p (Sign marks.Struct) ∷ ts)
unfolding after_mark keyword_of done_at stops_at place_at
struct_opened p ts = record { keyword = refl; semicolon = refl; brace = refl; range = refl; done = refl; stops = refl; place = p; placed = refl }

paren_opened : (p : Place) (ts : List Tok) → Opened (At p (Sign marks.LeftParen) ∷ ts)
unfolding after_mark keyword_of done_at stops_at place_at
paren_opened p ts = record { keyword = refl; semicolon = refl; brace = refl; range = refl; done = refl; stops = refl; place = p; placed = refl }

number_opened : (p : Place) (n : ℕ) (ts : List Tok) → Opened (At p (words.Number n) ∷ ts)
unfolding after_mark done_at stops_at place_at
number_opened p n ts = record { keyword = refl; semicolon = refl; brace = refl; range = refl; done = refl; stops = refl; place = p; placed = refl }

text_opened : (p : Place) (s : List ℕ) (ts : List Tok) → Opened (At p (words.Text s) ∷ ts)
unfolding after_mark done_at stops_at place_at
text_opened p s ts = record { keyword = refl; semicolon = refl; brace = refl; range = refl; done = refl; stops = refl; place = p; placed = refl }

operand_opened : {e : Tree} {ts rest : List Tok} → SpellsUnary e ts rest → Opened ts
operand_opened (number {p = p} {n = n} {rest = rest}) = number_opened p n rest
operand_opened (text {p = p} {s = s} {rest = rest}) = text_opened p s rest
operand_opened (name {p = p} {x = x} {rest = rest}) = name_opened p x rest
operand_opened unit = struct_opened _ _
operand_opened (paren d) = paren_opened _ _
operand_opened (call_none m) = name_opened _ _ _
operand_opened (call m d) = name_opened _ _ _
operand_opened (call_comma m d) = name_opened _ _ _
operand_opened (make m d) = name_opened _ _ _
operand_opened (make_comma m d) = name_opened _ _ _
operand_opened (make_sized m d e) = name_opened _ _ _
operand_opened (make_sized_comma m d e) = name_opened _ _ _
operand_opened (unary {op = op} d) = unary_opened op _ _

pub expr_opened : {l : ℕ} {e : Tree} {ts rest : List Tok} → SpellsExpr l e ts rest → Opened ts
expr_opened (alone d) = operand_opened d
expr_opened (binary le a b) = expr_opened a

pub exprs_opened : {es : Trees} {ts rest : List Tok} → SpellsExprs es ts rest → Opened ts
exprs_opened (last_expr d) = expr_opened d
exprs_opened (comma_expr d ds) = expr_opened d

-- values, under one more level
pub values_raised : {A : Type 0} (h : ℕ) (of : Trees → A) (es : Trees) (ts rest : List Tok) → SpellsExprs es ts rest → Over rest → (exprs_at (expr_at h) false ts >>= λ es. up_to h (of es.0, es.1 + 1, es.2)) ≡ bound h (heights es + 1) (Ok (of es, heights es + 1, rest))
values_raised {A} h of es ts rest d o =
    let f : Found Trees → Reads A = λ es. up_to h (of es.0, es.1 + 1, es.2) in
    goes_on h (heights es) h (heights es + 1) (exprs_at (expr_at h) false ts) (es, heights es, rest) f (Ok (of es, heights es + 1, rest)) (exprs_whole d o.quiet o.comma h) (λ le. refl) (λ lt. omega arith)

-- an expression, under one more level
pub expr_raised : {A : Type 0} (h : ℕ) (of : Tree → A) (e : Tree) (ts rest : List Tok) → SpellsExpr 1 e ts rest → Quiet rest → (expr_at h 1 ts >>= λ e. up_to h (of e.0, e.1 + 1, e.2)) ≡ bound h (height e + 1) (Ok (of e, height e + 1, rest))
expr_raised {A} h of e ts rest d o =
    let f : Found Tree → Reads A = λ e. up_to h (of e.0, e.1 + 1, e.2) in
    goes_on h (height e) h (height e + 1) (expr_at h 1 ts) (e, height e, rest) f (Ok (of e, height e + 1, rest)) (expr_whole d o h) (λ le. refl) (λ lt. omega arith)

assigned : (h : ℕ) (may : Bool) (xs : List (List ℕ)) (es : Trees) (p : Place) (ts rest : List Tok) → SpellsExprs es ts rest → Over rest → values_at h may xs (At p (Sign marks.Assign) ∷ ts) ≡ bound h (heights es + 1) (Ok (Assign xs es, heights es + 1, rest))
unfolding values_at define_at need after_mark
assigned h true xs es p ts rest d o = values_raised h (Assign xs) es ts rest d o
assigned h false xs es p ts rest d o = values_raised h (Assign xs) es ts rest d o

defined : (h : ℕ) (xs : List (List ℕ)) (es : Trees) (p : Place) (ts rest : List Tok) → SpellsExprs es ts rest → Over rest → values_at h true xs (At p (Sign marks.Define) ∷ ts) ≡ bound h (heights es + 1) (Ok (Define xs es, heights es + 1, rest))
unfolding values_at define_at after_mark
defined h xs es p ts rest d o = values_raised h (Define xs) es ts rest d o

-- the expression that a simple statement begins with, and how it goes on
pub record First (s : Simple) (ts rest : List Tok) : Type 0 where
  pub e : Tree
  pub mid : List Tok
  pub spelled : SpellsExpr 1 e ts mid
  pub quiet : Quiet mid
  pub low : height e ≤ simple_height s
  pub goes : (h : ℕ) (may : Bool) (p : Place) → (may ≡ false → defines (Heads p s) ≡ false) → simple_after h may (e, height e, mid) ≡ bound h (simple_height s) (Ok (s, simple_height s, rest))
  pub label : after_mark marks.Colon mid ≡ None
  pub range : (x : List ℕ) → bare e ≡ Some x → target_at x mid ≡ None
  pub brace : after_mark marks.LeftBrace rest ≡ None → after_mark marks.LeftBrace mid ≡ None

eval_goes : (e : Tree) (rest : List Tok) → Over rest → (h : ℕ) (may : Bool) → simple_after h may (e, height e, rest) ≡ alone_at h (e, height e, rest)
unfolding simple_after simple_named
eval_goes e rest o h may = rw o.arrow (either (bare e) (λ x. simple_named h may (e, height e, rest) x) (alone_at h (e, height e, rest)) (λ x. rw o.joint refl))

no_range : (rest : List Tok) → after_mark marks.Assign rest ≡ None → after_mark marks.Define rest ≡ None → (x : List ℕ) → target_at x rest ≡ None
unfolding target_at
no_range rest m n x = rw (m, n) refl

first_eval : (e : Tree) (ts rest : List Tok) → SpellsExpr 1 e ts rest → Over rest → First (Eval e) ts rest
first_eval e ts rest d o = record {
  e = e;
  mid = rest;
  spelled = d;
  quiet = o.quiet;
  low = omega arith;
  goes = λ h may p k. eval_goes e rest o h may;
  label = o.colon;
  range = λ x b. no_range rest o.assign o.define x;
  brace = λ m. m;
}

-- what follows a channel
record Arrowed (p : Place) (ts : List Tok) : Type 0 where
  pub quiet : Quiet (At p (Sign marks.Arrow) ∷ ts)
  pub assign : after_mark marks.Assign (At p (Sign marks.Arrow) ∷ ts) ≡ None
  pub define : after_mark marks.Define (At p (Sign marks.Arrow) ∷ ts) ≡ None
  pub colon : after_mark marks.Colon (At p (Sign marks.Arrow) ∷ ts) ≡ None
  pub brace : after_mark marks.LeftBrace (At p (Sign marks.Arrow) ∷ ts) ≡ None

arrowed : (p : Place) (ts : List Tok) → Arrowed p ts
unfolding after_mark binary_of
arrowed p ts = record { quiet = (refl, refl); assign = refl; define = refl; colon = refl; brace = refl }

send_goes : (h : ℕ) (may : Bool) (p : Place) (c : Tree) (ts : List Tok) → simple_after h may (c, height c, At p (Sign marks.Arrow) ∷ ts) ≡ sent_at h (c, height c, At p (Sign marks.Arrow) ∷ ts) ts
unfolding simple_after after_mark
send_goes h may p c ts = refl

sent_whole : (h : ℕ) (c e : Tree) (from ts rest : List Tok) → SpellsExpr 1 e ts rest → Quiet rest → sent_at h (c, height c, from) ts ≡ bound h (max (height c) (height e) + 1) (Ok (Send c e, max (height c) (height e) + 1, rest))
sent_whole h c e from ts rest d o =
    let f : Found Tree → Reads Simple = λ e. up_to h (Send c e.0, max (height c) e.1 + 1, e.2) in
    goes_on h (height e) h (max (height c) (height e) + 1) (expr_at h 1 ts) (e, height e, rest) f (Ok (Send c e, max (height c) (height e) + 1, rest)) (expr_whole d o h) (λ le. refl) (λ lt. omega arith)

first_send : (p : Place) (c e : Tree) (ts mid rest : List Tok) → SpellsExpr 1 c ts (At p (Sign marks.Arrow) ∷ mid) → SpellsExpr 1 e mid rest → Over rest → First (Send c e) ts rest
first_send p c e ts mid rest d de o =
    let a = arrowed p mid in record {
      e = c;
      mid = At p (Sign marks.Arrow) ∷ mid;
      spelled = d;
      quiet = a.quiet;
      low = omega arith;
      goes = λ h may q k. send_goes h may p c mid ∙ sent_whole h c e (At p (Sign marks.Arrow) ∷ mid) mid rest de o.quiet;
      label = a.colon;
      range = λ x b. no_range (At p (Sign marks.Arrow) ∷ mid) a.assign a.define x;
      brace = λ m. a.brace;
    }

-- a name and what comes after it
name_first : {p : Place} {x : List ℕ} {mid : List Tok} → SpellsExpr 1 (Name x) (At p (words.Name x) ∷ mid) mid
name_first = alone name

by_assign : (h : ℕ) (may : Bool) (x : List ℕ) (p : Place) (ts : List Tok) → simple_after h may (Name x, 1, At p (Sign marks.Assign) ∷ ts) ≡ values_at h may (x ∷ []) (At p (Sign marks.Assign) ∷ ts)
unfolding simple_after simple_named joined_at bare joint_of after_mark
by_assign h may x p ts = refl

by_define : (h : ℕ) (may : Bool) (x : List ℕ) (p : Place) (ts : List Tok) → simple_after h may (Name x, 1, At p (Sign marks.Define) ∷ ts) ≡ values_at h may (x ∷ []) (At p (Sign marks.Define) ∷ ts)
unfolding simple_after simple_named joined_at bare joint_of after_mark
by_define h may x p ts = refl

by_comma : (h : ℕ) (may : Bool) (x : List ℕ) (p : Place) (ts : List Tok) → simple_after h may (Name x, 1, At p (Sign marks.Comma) ∷ ts) ≡ (names_from x ts >>= λ xs. values_at h may xs.0 xs.2)
unfolding simple_after simple_named joined_at bare joint_of after_mark
by_comma h may x p ts = refl

-- what does not follow a name in a simple statement
record Named (x : List ℕ) (mid : List Tok) : Type 0 where
  pub quiet : Quiet mid
  pub label : after_mark marks.Colon mid ≡ None
  pub range : (y : List ℕ) → target_at y mid ≡ None
  pub brace : after_mark marks.LeftBrace mid ≡ None

named_comma : (x : List ℕ) (p : Place) (ts : List Tok) → Named x (At p (Sign marks.Comma) ∷ ts)
unfolding after_mark binary_of target_at bare
named_comma x p ts = record { quiet = (refl, refl); label = refl; range = λ y. refl; brace = refl }

named_assign : (x : List ℕ) (p : Place) (ts : List Tok) → after_mark marks.Range ts ≡ None → Named x (At p (Sign marks.Assign) ∷ ts)
unfolding after_mark binary_of target_at bare
named_assign x p ts m = record { quiet = (refl, refl); label = refl; range = λ y. rw m refl; brace = refl }

named_define : (x : List ℕ) (p : Place) (ts : List Tok) → after_mark marks.Range ts ≡ None → Named x (At p (Sign marks.Define) ∷ ts)
unfolding after_mark binary_of target_at bare
named_define x p ts m = record { quiet = (refl, refl); label = refl; range = λ y. rw m refl; brace = refl }

named_first : (s : Simple) (p : Place) (x : List ℕ) (mid rest : List Tok) → Named x mid → 1 ≤ simple_height s → ((h : ℕ) (may : Bool) (p : Place) → (may ≡ false → defines (Heads p s) ≡ false) → simple_after h may (Name x, 1, mid) ≡ bound h (simple_height s) (Ok (s, simple_height s, rest))) → First s (At p (words.Name x) ∷ mid) rest
named_first s p x mid rest n low g = record { e = Name x; mid = mid; spelled = name_first; quiet = n.quiet; low = low; goes = g; label = n.label; range = λ y b. n.range y; brace = λ m. n.brace }

no_comma : (m : Mark) (p : Place) (ts : List Tok) → (after_mark marks.Comma (At p (Sign marks.Assign) ∷ ts) ≡ None) × (after_mark marks.Comma (At p (Sign marks.Define) ∷ ts) ≡ None)
unfolding after_mark
no_comma m p ts = (refl, refl)

from_whole : (x : List ℕ) {xs : List (List ℕ)} {ts rest : List Tok} → SpellsNames xs ts rest → after_mark marks.Comma rest ≡ None → names_from x ts ≡ Ok (x ∷ xs, 0, rest)
unfolding names_from
from_whole x d m = ap (λ r. r >>= λ (xs : Found (List (List ℕ))). Ok (x ∷ xs.0, 0, xs.2)) (names_whole d m)

-- after names, by a `=`
assign_first : {xs : List (List ℕ)} {ts : List Tok} {p : Place} {mid : List Tok} → SpellsNames xs ts (At p (Sign marks.Assign) ∷ mid) → (es : Trees) (rest : List Tok) → SpellsExprs es mid rest → Over rest → First (Assign xs es) ts rest
assign_first {p = p} {mid = mid} (last_name {p = q} {x = x}) es rest d o =
    named_first (Assign (x ∷ []) es) q x (At p (Sign marks.Assign) ∷ mid) rest (named_assign x p mid (exprs_opened d).range) (omega arith) (λ h may r k. by_assign h may x p mid ∙ assigned h may (x ∷ []) es p mid rest d o)
assign_first {p = p} {mid = mid} (comma_name {p = q} {q = r} {x = x} {xs = xs} {ts = ts} ds) es rest d o =
    named_first (Assign (x ∷ xs) es) q x (At r (Sign marks.Comma) ∷ ts) rest (named_comma x r ts) (omega arith) (λ h may s k.
    by_comma h may x r ts ∙ ap (λ r. r >>= λ (xs : Found (List (List ℕ))). values_at h may xs.0 xs.2) (from_whole x ds (no_comma marks.Comma p mid).0) ∙ assigned h may (x ∷ xs) es p mid rest d o)

may_define : {B : Type 0} (may : Bool) (xs : List (List ℕ)) (es : Trees) (p : Place) (f : Bool → B) (y : B) → (may ≡ false → defines (Heads p (Define xs es)) ≡ false) → f true ≡ y → f may ≡ y
may_define true xs es p f y k e = e
may_define false xs es p f y k e = absurd (let c : true ≡ false = k refl in cc)

define_first : {xs : List (List ℕ)} {ts : List Tok} {p : Place} {mid : List Tok} → SpellsNames xs ts (At p (Sign marks.Define) ∷ mid) → (es : Trees) (rest : List Tok) → SpellsExprs es mid rest → Over rest → First (Define xs es) ts rest
define_first {p = p} {mid = mid} (last_name {p = q} {x = x}) es rest d o =
    named_first (Define (x ∷ []) es) q x (At p (Sign marks.Define) ∷ mid) rest (named_define x p mid (exprs_opened d).range) (omega arith) (λ h may r k. by_define h may x p mid ∙
    may_define may (x ∷ []) es r (λ may. values_at h may (x ∷ []) (At p (Sign marks.Define) ∷ mid)) _ k (defined h (x ∷ []) es p mid rest d o))
define_first {p = p} {mid = mid} (comma_name {p = q} {q = r} {x = x} {xs = xs} {ts = ts} ds) es rest d o =
    named_first (Define (x ∷ xs) es) q x (At r (Sign marks.Comma) ∷ ts) rest (named_comma x r ts) (omega arith) (λ h may s k.
    by_comma h may x r ts ∙ ap (λ r. r >>= λ (xs : Found (List (List ℕ))). values_at h may xs.0 xs.2) (from_whole x ds (no_comma marks.Comma p mid).1) ∙
    may_define may (x ∷ xs) es s (λ may. values_at h may (x ∷ xs) (At p (Sign marks.Define) ∷ mid)) _ k (defined h (x ∷ xs) es p mid rest d o))

-- what the mark of an update says
record Updates (op : BinaryOp) (m : Mark) (x : List ℕ) (p : Place) (ts : List Tok) : Type 0 where
  pub named : Named x (At p (Sign m) ∷ ts)
  pub goes : (h : ℕ) (may : Bool) → simple_after h may (Name x, 1, At p (Sign m) ∷ ts) ≡ (expr_at h 1 ts >>= λ e. up_to h (Update x op e.0, e.1 + 1, e.2))

updates : (op : BinaryOp) (m : Mark) (x : List ℕ) (p : Place) (ts : List Tok) → update_mark op ≡ Some m → Updates op m x p ts
unfolding after_mark binary_of target_at bare simple_after simple_named joined_at update_at joint_of
updates binaries.Multiply m x p ts e = subst (λ m. Updates binaries.Multiply m x p ts) (same_Some _ _ e) (record { named = record { quiet = (refl, refl); label = refl; range = λ y. refl; brace = refl }; goes = λ h may. refl })
updates binaries.Divide m x p ts e = subst (λ m. Updates binaries.Divide m x p ts) (same_Some _ _ e) (record { named = record { quiet = (refl, refl); label = refl; range = λ y. refl; brace = refl }; goes = λ h may. refl })
updates binaries.Remainder m x p ts e = subst (λ m. Updates binaries.Remainder m x p ts) (same_Some _ _ e) (record { named = record { quiet = (refl, refl); label = refl; range = λ y. refl; brace = refl }; goes = λ h may. refl })
updates binaries.ShiftLeft m x p ts e = subst (λ m. Updates binaries.ShiftLeft m x p ts) (same_Some _ _ e) (record { named = record { quiet = (refl, refl); label = refl; range = λ y. refl; brace = refl }; goes = λ h may. refl })
updates binaries.ShiftRight m x p ts e = subst (λ m. Updates binaries.ShiftRight m x p ts) (same_Some _ _ e) (record { named = record { quiet = (refl, refl); label = refl; range = λ y. refl; brace = refl }; goes = λ h may. refl })
updates binaries.BitAnd m x p ts e = subst (λ m. Updates binaries.BitAnd m x p ts) (same_Some _ _ e) (record { named = record { quiet = (refl, refl); label = refl; range = λ y. refl; brace = refl }; goes = λ h may. refl })
updates binaries.AndNot m x p ts e = subst (λ m. Updates binaries.AndNot m x p ts) (same_Some _ _ e) (record { named = record { quiet = (refl, refl); label = refl; range = λ y. refl; brace = refl }; goes = λ h may. refl })
updates binaries.Add m x p ts e = subst (λ m. Updates binaries.Add m x p ts) (same_Some _ _ e) (record { named = record { quiet = (refl, refl); label = refl; range = λ y. refl; brace = refl }; goes = λ h may. refl })
updates binaries.Subtract m x p ts e = subst (λ m. Updates binaries.Subtract m x p ts) (same_Some _ _ e) (record { named = record { quiet = (refl, refl); label = refl; range = λ y. refl; brace = refl }; goes = λ h may. refl })
updates binaries.BitOr m x p ts e = subst (λ m. Updates binaries.BitOr m x p ts) (same_Some _ _ e) (record { named = record { quiet = (refl, refl); label = refl; range = λ y. refl; brace = refl }; goes = λ h may. refl })
updates binaries.BitXor m x p ts e = subst (λ m. Updates binaries.BitXor m x p ts) (same_Some _ _ e) (record { named = record { quiet = (refl, refl); label = refl; range = λ y. refl; brace = refl }; goes = λ h may. refl })
updates _ m x p ts e = absurd (cc)

step_first : (p q : Place) (x : List ℕ) (rest : List Tok) → First (Increment x) (At p (words.Name x) ∷ At q (Sign marks.PlusPlus) ∷ rest) rest
unfolding after_mark binary_of target_at bare simple_after simple_named joined_at update_at joint_of
step_first p q x rest = named_first (Increment x) p x (At q (Sign marks.PlusPlus) ∷ rest) rest (record { quiet = (refl, refl); label = refl; range = λ y. refl; brace = refl }) (omega arith) (λ h may r k. refl)

back_first : (p q : Place) (x : List ℕ) (rest : List Tok) → First (Decrement x) (At p (words.Name x) ∷ At q (Sign marks.MinusMinus) ∷ rest) rest
unfolding after_mark binary_of target_at bare simple_after simple_named joined_at update_at joint_of
back_first p q x rest = named_first (Decrement x) p x (At q (Sign marks.MinusMinus) ∷ rest) rest (record { quiet = (refl, refl); label = refl; range = λ y. refl; brace = refl }) (omega arith) (λ h may r k. refl)

pub simple_first : {s : Simple} {ts rest : List Tok} → SpellsSimple s ts rest → Over rest → First s ts rest
simple_first (grammar.eval {e = e} {ts = ts} {rest = rest} d) o = first_eval e ts rest d o
simple_first (grammar.send {p = p} {c = c} {e = e} {ts = ts} {mid = mid} {rest = rest} d de) o = first_send p c e ts mid rest d de o
simple_first (grammar.assign {es = es} {rest = rest} d ds) o = assign_first d es rest ds o
simple_first (grammar.define {es = es} {rest = rest} d ds) o = define_first d es rest ds o
simple_first (grammar.update {p = p} {q = q} {x = x} {op = op} {m = m} {e = e} {ts = ts} {rest = rest} k d) o =
    let u = updates op m x q ts k in
    named_first (Update x op e) p x (At q (Sign m) ∷ ts) rest u.named (omega arith) (λ h may r k. u.goes h may ∙ expr_raised h (Update x op) e ts rest d o.quiet)
simple_first (grammar.increment {p = p} {q = q} {x = x} {rest = rest}) o = step_first p q x rest
simple_first (grammar.decrement {p = p} {q = q} {x = x} {rest = rest}) o = back_first p q x rest

-- where the first expression is read, and what goes on from there is no lower
pub from_first : {B : Type 0} (h : ℕ) (e : Tree) (ts mid : List Tok) (f : Found Tree → Result B ReadError) (m : ℕ) (y : Result B ReadError) → SpellsExpr 1 e ts mid → Quiet mid → height e ≤ m → (height e ≤ h → f (e, height e, mid) ≡ bound h m y) → (expr_at h 1 ts >>= f) ≡ bound h m y
from_first h e ts mid f m y d n le g = goes_on h (height e) h m (expr_at h 1 ts) (e, height e, mid) f y (expr_whole d n h) g (λ lt. omega arith)

pub heading_goes : (h : ℕ) (may : Bool) (p : Place) (s : Simple) (ts rest : List Tok) (d : First s ts rest) → (may ≡ false → defines (Heads p s) ≡ false) → heading_after h may p (d.e, height d.e, d.mid) ≡ bound h (simple_height s) (Ok (Heads p s, simple_height s, rest))
unfolding heading_after
heading_goes h may p s ts rest d k =
    let f : Found Simple → Reads Heading = λ s. Ok (Heads p s.0, s.1, s.2) in
    ap (λ r. r >>= f) (d.goes h may p k) ∙ bound_bind h (simple_height s) (Ok (s, simple_height s, rest)) f
