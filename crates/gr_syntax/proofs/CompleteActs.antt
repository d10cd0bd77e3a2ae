-- What has no statements in it is read, where it is not too high: declarations, `go`, `return` and jumps.
use Rattle.std.proofs.Common.{◌≡◌, ℕ, ◌+◌, ◌≤◌, max, true, false, List, ◌∷◌, refl, ap, sym, ◌∙◌, arith}
use Rattle.std.specs.Prelude.{Option, Some, None, Ok}
use Rattle.gr_scan.specs.declared.token.Place.{Place}
use Rattle.gr_scan.specs.declared.token.Mark.TheVariants as marks
use Rattle.gr_scan.specs.Tokens.{Tok, At, Sign}
use Rattle.gr_scan.specs.Tokens as words
use Rattle.gr_tree.specs.Exprs.{WrittenType, type_height, Tree, Call, Trees, heights}
use Rattle.gr_tree.specs.Statements.{Act, Var, VarValues, Go, Return, act_height}
use Rattle.gr_syntax.specs.Grammar.{SpellsType, type_name, type_unit, type_chan, type_send, type_receive, type_paren, SpellsUnary, SpellsExpr, SpellsExprs, SpellsNames, call_none, call, call_comma, after_mark, is_make}
use Rattle.gr_syntax.specs.Reading.{Found, Reads, ◌>>=◌, name_at, need, type_at, expr_at, exprs_at, arguments_at}
use Rattle.gr_syntax.specs.SimpleReading.{up_to, done_at, first_name, var_typed, var_after, var_at, go_at, return_at, jump_at}
use Rattle.gr_syntax.proofs.Bound.{bound, within}
use Rattle.gr_syntax.proofs.Names.{names_whole}
use Rattle.gr_syntax.proofs.WrittenTypes.{type_whole}
use Rattle.gr_syntax.proofs.CompleteExprs.{exprs_whole, arguments_whole}
use Rattle.gr_syntax.proofs.CompleteSimple.{goes_on, Over, over_semicolon, over_closing, expr_opened, values_raised, expr_raised}

-- what may follow a statement
pub record Ends (ts : List Tok) : Type 0 where
  pub over : Over ts
  pub done : done_at ts ≡ true
  pub name : first_name ts ≡ None
  pub otherwise : after_mark marks.Else ts ≡ None

pub ends_semicolon : (p : Place) (ts : List Tok) → Ends (At p (Sign marks.Semicolon) ∷ ts)
unfolding done_at first_name after_mark
ends_semicolon p ts = record { over = over_semicolon p ts; done = refl; name = refl; otherwise = refl }

pub ends_brace : (p : Place) (ts : List Tok) → Ends (At p (Sign marks.RightBrace) ∷ ts)
unfolding done_at first_name after_mark
ends_brace p ts = record { over = over_closing p ts; done = refl; name = refl; otherwise = refl }

abbrev pub ActReads : (List Tok → Reads Act) → ℕ → Act → List Tok → List Tok → Type 0
ActReads read h a ts rest = read ts ≡ bound h (act_height a) (Ok (a, act_height a, rest))

type_opened : {t : WrittenType} {ts rest : List Tok} → SpellsType t ts rest → (after_mark marks.Comma ts ≡ None) × (after_mark marks.Assign ts ≡ None)
unfolding after_mark
type_opened type_name = (refl, refl)
type_opened type_unit = (refl, refl)
type_opened (type_chan m d) = (refl, refl)
type_opened (type_send d) = (refl, refl)
type_opened (type_receive d) = (refl, refl)
type_opened (type_paren d) = (refl, refl)

after_names : (h : ℕ) (xs : List (List ℕ)) (ts mid : List Tok) → SpellsNames xs ts mid → after_mark marks.Comma mid ≡ None → var_at h ts ≡ var_after h xs mid
unfolding var_at
after_names h xs ts mid d m = ap (λ r. r >>= λ (xs : Found (List (List ℕ))). var_after h xs.0 xs.2) (names_whole d m)

after_type : (h : ℕ) (xs : List (List ℕ)) (ts : List Tok) → after_mark marks.Assign ts ≡ None → var_after h xs ts ≡ (type_at h ts >>= λ t. var_typed h xs t)
unfolding var_after
after_type h xs ts m = rw m refl

only_type : (h : ℕ) (xs : List (List ℕ)) (t : WrittenType) (rest : List Tok) → after_mark marks.Assign rest ≡ None → var_typed h xs (t, type_height t, rest) ≡ bound h (type_height t + 1) (Ok (Var xs t, type_height t + 1, rest))
unfolding var_typed
only_type h xs t rest m = rw m refl

typed_values : (h : ℕ) (xs : List (List ℕ)) (t : WrittenType) (es : Trees) (p : Place) (ts rest : List Tok) → SpellsExprs es ts rest → Over rest → var_typed h xs (t, type_height t, At p (Sign marks.Assign) ∷ ts) ≡ bound h (max (type_height t) (heights es) + 1) (Ok (VarValues xs (Some t) es, max (type_height t) (heights es) + 1, rest))
unfolding var_typed after_mark
typed_values h xs t es p ts rest d o =
    let f : Found Trees → Reads Act = λ es. up_to h (VarValues xs (Some t) es.0, max (type_height t) es.1 + 1, es.2) in
    goes_on h (heights es) h (max (type_height t) (heights es) + 1) (exprs_at (expr_at h) false ts) (es, heights es, rest) f (Ok (VarValues xs (Some t) es, max (type_height t) (heights es) + 1, rest)) (exprs_whole d o.quiet o.comma h) (λ le. refl) (λ lt. omega arith)

untyped_values : (h : ℕ) (xs : List (List ℕ)) (es : Trees) (p : Place) (ts rest : List Tok) → SpellsExprs es ts rest → Over rest → var_after h xs (At p (Sign marks.Assign) ∷ ts) ≡ bound h (heights es + 1) (Ok (VarValues xs None es, heights es + 1, rest))
unfolding var_after after_mark
untyped_values h xs es p ts rest d o = values_raised h (VarValues xs None) es ts rest d o

assign_mark : (p : Place) (ts : List Tok) → after_mark marks.Comma (At p (Sign marks.Assign) ∷ ts) ≡ None
unfolding after_mark
assign_mark p ts = refl

pub var_whole : (h : ℕ) (xs : List (List ℕ)) (t : WrittenType) (ts mid rest : List Tok) → SpellsNames xs ts mid → SpellsType t mid rest → Over rest → ActReads (var_at h) h (Var xs t) ts rest
var_whole h xs t ts mid rest d dt o =
    after_names h xs ts mid d (type_opened dt).0 ∙ after_type h xs mid (type_opened dt).1
    ∙ goes_on h (type_height t) h (type_height t + 1) (type_at h mid) (t, type_height t, rest) (λ t. var_typed h xs t) (Ok (Var xs t, type_height t + 1, rest)) (type_whole dt h) (λ le. only_type h xs t rest o.assign) (λ lt. omega arith)

pub var_typed_whole : (h : ℕ) (xs : List (List ℕ)) (t : WrittenType) (es : Trees) (q : Place) (ts mid values rest : List Tok) → SpellsNames xs ts mid → SpellsType t mid (At q (Sign marks.Assign) ∷ values) → SpellsExprs es values rest → Over rest → ActReads (var_at h) h (VarValues xs (Some t) es) ts rest
var_typed_whole h xs t es q ts mid values rest d dt ds o =
    after_names h xs ts mid d (type_opened dt).0 ∙ after_type h xs mid (type_opened dt).1
    ∙ goes_on h (type_height t) h (max (type_height t) (heights es) + 1) (type_at h mid) (t, type_height t, At q (Sign marks.Assign) ∷ values) (λ t. var_typed h xs t) (Ok (VarValues xs (Some t) es, max (type_height t) (heights es) + 1, rest)) (type_whole dt h) (λ le. typed_values h xs t es q values rest ds o) (λ lt. omega arith)

pub var_values_whole : (h : ℕ) (xs : List (List ℕ)) (es : Trees) (q : Place) (ts values rest : List Tok) → SpellsNames xs ts (At q (Sign marks.Assign) ∷ values) → SpellsExprs es values rest → Over rest → ActReads (var_at h) h (VarValues xs None es) ts rest
var_values_whole h xs es q ts values rest d ds o =
    let z : max 0 (heights es) ≡ heights es = omega arith in
    after_names h xs ts (At q (Sign marks.Assign) ∷ values) d (assign_mark q values) ∙ untyped_values h xs es q values rest ds o
    ∙ ap (λ n. bound h (n + 1) (Ok (VarValues xs None es, n + 1, rest))) (sym z)

go_reads : (h : ℕ) (p q : Place) (f : List ℕ) (ts : List Tok) → is_make f ≡ false → go_at h (At p (words.Name f) ∷ At q (Sign marks.LeftParen) ∷ ts) ≡ (arguments_at (expr_at h) ts >>= λ es. up_to h (Go f es.0, es.1 + 2, es.2))
unfolding go_at name_at need after_mark
go_reads h p q f ts m = rw m refl

gone : (h : ℕ) (p q : Place) (f : List ℕ) (es : Trees) (ts rest : List Tok) → is_make f ≡ false → SpellsUnary (Call f es) (At p (words.Name f) ∷ At q (Sign marks.LeftParen) ∷ ts) rest → ActReads (go_at h) h (Go f es) (At p (words.Name f) ∷ At q (Sign marks.LeftParen) ∷ ts) rest
gone h p q f es ts rest m d =
    let k : Found Trees → Reads Act = λ es. up_to h (Go f es.0, es.1 + 2, es.2) in
    go_reads h p q f ts m
    ∙ goes_on h (heights es) h (heights es + 2) (arguments_at (expr_at h) ts) (es, heights es, rest) k (Ok (Go f es, heights es + 2, rest)) (arguments_whole d h) (λ le. refl) (λ lt. omega arith)

pub go_whole : {f : List ℕ} {es : Trees} {ts rest : List Tok} → SpellsUnary (Call f es) ts rest → (h : ℕ) → ActReads (go_at h) h (Go f es) ts rest
go_whole (call_none {p = p} {q = q} {r = r} {x = x} {rest = rest} m) h = gone h p q x _ (At r (Sign marks.RightParen) ∷ rest) rest m (call_none m)
go_whole (call {p = p} {q = q} {x = x} {es = es} {ts = ts} {rest = rest} m d) h = gone h p q x es ts rest m (call m d)
go_whole (call_comma {p = p} {q = q} {x = x} {es = es} {ts = ts} {rest = rest} m d) h = gone h p q x es ts rest m (call_comma m d)

pub return_whole : (h : ℕ) (e : Tree) (ts rest : List Tok) → SpellsExpr 1 e ts rest → Over rest → ActReads (return_at h) h (Return (Some e)) ts rest
unfolding return_at
return_whole h e ts rest d o = let n = (expr_opened d).done in rw n (expr_raised h (λ e. Return (Some e)) e ts rest d o.quiet)

pub return_none_whole : (h : ℕ) (rest : List Tok) → 1 ≤ h → Ends rest → ActReads (return_at h) h (Return None) rest rest
unfolding return_at
return_none_whole h rest pos n = let m = n.done in rw m (sym (within h 1 (Ok (Return None, 1, rest)) pos))

pub jump_none_whole : (h : ℕ) (act : Option (List ℕ) → Act) (rest : List Tok) → act_height (act None) ≡ 1 → 1 ≤ h → Ends rest → ActReads (jump_at act) h (act None) rest rest
unfolding jump_at
jump_none_whole h act rest one pos n = let m = n.name in rw (m, one) (sym (within h 1 (Ok (act None, 1, rest)) pos))

pub jump_whole : (h : ℕ) (act : Option (List ℕ) → Act) (q : Place) (x : List ℕ) (rest : List Tok) → act_height (act (Some x)) ≡ 1 → 1 ≤ h → ActReads (jump_at act) h (act (Some x)) (At q (words.Name x) ∷ rest) rest
unfolding jump_at first_name
jump_whole h act q x rest one pos = rw one (sym (within h 1 (Ok (act (Some x), 1, rest)) pos))
