-- What is refused as too high is long, since a level takes a token at least: statements with no statements in them, headings
-- and communications.
use Rattle.std.proofs.Common.{◌≡◌, ℕ, zero, suc, ◌+◌, ◌<◌, ◌≤◌, max, Bool, true, false, List, [], ◌∷◌, length, ap, arith, ltb-true}
use Rattle.std.specs.Prelude.{Option, Some, None, Ok, Err, nat_lt}
use Rattle.std.proofs.lemmas.Option.{same_Some}
use Rattle.gr_scan.specs.declared.token.Place.{Place}
use Rattle.gr_scan.specs.declared.token.Mark.TheVariants as marks
use Rattle.gr_scan.specs.Tokens.{Tok, At}
use Rattle.gr_tree.specs.Exprs.{Tree, Trees}
use Rattle.gr_tree.specs.Statements.{Simple, Act, Heading, Target, Nothing, Assign, Define, Eval, Send, Update, VarValues}
use Rattle.gr_syntax.specs.declared.opening.Joint.{Joint}
use Rattle.gr_syntax.specs.declared.opening.Joint.TheVariants as joints
use Rattle.gr_syntax.specs.Grammar.{after_mark, is_make}
use Rattle.gr_syntax.specs.Reading.{High, Found, ◌>>=◌, operator_at, name_at, need, names_at, type_at, expr_at, exprs_at, arguments_at}
use Rattle.gr_syntax.specs.SimpleReading.{up_to, joint_of, done_at, first_name, place_at, bare, define_at, values_at, names_from, update_at, joined_at, alone_at, simple_named, simple_after, var_typed, var_after, var_at, go_at, return_at, jump_at}
use Rattle.gr_syntax.specs.StatementReading.{heading_after, tested, if_after, if_head_at, ranged, condition_at, post_at, parts_at, target_at, for_init, for_named, for_after, for_head_at, is_receive, receive_at, received_at, comm_names, comm_after, comm_at}
use Rattle.gr_syntax.proofs.Cases.{ok_inj, on_ok, on_high, on_look, on_test, after_is, name_is, need_is, need_low, name_low}
use Rattle.gr_syntax.proofs.Chains.{IsExpr}
use Rattle.gr_syntax.proofs.Names.{names_sound, names_shrunk, names_low}
use Rattle.gr_syntax.proofs.WrittenTypes.{type_sound, type_long, type_high}
use Rattle.gr_syntax.proofs.Sizes.{unary_long, expr_long, exprs_long, expr_shrinks}
use Rattle.gr_syntax.proofs.SoundExprs.{expr_sound, exprs_sound, arguments_sound}
use Rattle.gr_syntax.proofs.SoundSimple.{heading_sound}
use Rattle.gr_syntax.proofs.StatementSizes.{heading_shrunk}
use Rattle.gr_syntax.proofs.ExprsLong.{expr_high, unary_high, exprs_high, arguments_high}
use Rattle.gr_syntax.proofs.FirstTokens.{marked, define_is, place_is}

up_high : {A : Type 0} (h : ℕ) (f : Found A) → up_to h f ≡ Err High → h < f.1
up_high h f q = on_test (nat_lt h f.1) (Err High) (Ok f) (Err High) q (λ t e. omega (arith, ltb-true h f.1 t)) (λ t e. absurd (cc))

-- an expression, under one more level
raised_high : {A : Type 0} (h : ℕ) (of : Tree → A) (ts : List Tok) → (expr_at h 1 ts >>= λ e. up_to h (of e.0, e.1 + 1, e.2)) ≡ Err High → h ≤ length ts
raised_high {A} h of ts q =
    on_high (expr_at h 1 ts) _ q (λ q. expr_high h 1 ts (omega arith) q) (λ e ee q.
    let s = expr_sound h 1 ts e (omega arith) ee in
    let f : Found A = (of e.0, e.1 + 1, e.2) in
    omega (arith, up_high h f q, s.high, expr_long s.tree))

values_up : {A : Type 0} (h k : ℕ) (of : Trees → A) (ts : List Tok) → k ≤ length ts → (exprs_at (expr_at h) false ts >>= λ es. up_to h (of es.0, max k es.1 + 1, es.2)) ≡ Err High → h ≤ length ts
values_up {A} h k of ts le q =
    on_high (exprs_at (expr_at h) false ts) _ q (λ q. exprs_high h false ts q) (λ es ee q.
    let s = exprs_sound h ts es ee in
    let f : Found A = (of es.0, max k es.1 + 1, es.2) in
    omega (arith, le, up_high h f q, s.high, exprs_long s.spelled))

values_raised_high : {A : Type 0} (h : ℕ) (of : Trees → A) (ts : List Tok) → (exprs_at (expr_at h) false ts >>= λ es. up_to h (of es.0, es.1 + 1, es.2)) ≡ Err High → h ≤ length ts
values_raised_high {A} h of ts q =
    on_high (exprs_at (expr_at h) false ts) _ q (λ q. exprs_high h false ts q) (λ es ee q.
    let s = exprs_sound h ts es ee in
    let f : Found A = (of es.0, es.1 + 1, es.2) in
    omega (arith, up_high h f q, s.high, exprs_long s.spelled))

values_high : (h : ℕ) (may : Bool) (xs : List (List ℕ)) (ts : List Tok) → values_at h may xs ts ≡ Err High → h ≤ length ts
unfolding values_at
values_high h may xs ts q =
    on_look (define_at may ts) _ _ (Err High) q
    (λ rest m q. omega (arith, values_raised_high h (Define xs) rest q, ap length (define_is may ts rest m).1.is))
    (λ m q. on_high (need marks.Assign ts) _ q (λ q. need_low marks.Assign ts q) (λ r er q.
    omega (arith, values_raised_high h (Assign xs) r.1 q, ap length (need_is marks.Assign ts r er))))

from_low : {Z : Type 0} (x : List ℕ) (ts : List Tok) → names_from x ts ≡ Err High → Z
unfolding names_from
from_low x ts q = on_high (names_at ts) _ q (λ q. names_low ts q) (λ xs ex q. absurd (cc))

from_shrinks : (x : List ℕ) (ts : List Tok) (u : Found (List (List ℕ))) → names_from x ts ≡ Ok u → length u.2 < length ts
unfolding names_from
from_shrinks x ts u q = on_ok (names_at ts) _ u q (λ xs ex q. let same : (x ∷ xs.0, 0, xs.2) ≡ u = ok_inj q in omega (arith, names_shrunk (names_sound ts xs ex), ap (λ (u : Found (List (List ℕ))). length u.2) same))

joined_high : (h : ℕ) (may : Bool) (x : List ℕ) (j : Joint) (from ts : List Tok) → length ts < length from → joined_at h may x j from ts ≡ Err High → h ≤ length from
unfolding joined_at update_at
joined_high h may x joints.Comma from ts lt q = on_high (names_from x ts) _ q (λ q. from_low x ts q) (λ xs ex q. omega (arith, lt, from_shrinks x ts xs ex, values_high h may xs.0 xs.2 q))
joined_high h may x joints.Values from ts lt q = values_high h may (x ∷ []) from q
joined_high h may x (joints.Update op) from ts lt q = omega (arith, lt, raised_high h (Update x op) ts q)
joined_high h may x joints.Increment from ts lt q = let f : Found Simple = (Rattle.gr_tree.specs.Statements.Increment x, 1, ts) in omega (arith, up_high h f q)
joined_high h may x joints.Decrement from ts lt q = let f : Found Simple = (Rattle.gr_tree.specs.Statements.Decrement x, 1, ts) in omega (arith, up_high h f q)

alone_high : (h : ℕ) (ts : List Tok) (e : Found Tree) → IsExpr h 1 ts e → alone_at h e ≡ Err High → h ≤ length ts
alone_high h ts e s q = let f : Found Simple = (Eval e.0, e.1 + 1, e.2) in omega (arith, up_high h f q, s.high, expr_long s.tree)

pub simple_high : (h : ℕ) (may : Bool) (ts : List Tok) (e : Found Tree) → IsExpr h 1 ts e → simple_after h may e ≡ Err High → h ≤ length ts
unfolding simple_after simple_named
simple_high h may ts e s q =
    on_look (after_mark marks.Arrow e.2) _ _ (Err High) q
    (λ rest m q. on_high (expr_at h 1 rest) _ q
    (λ q. omega (arith, expr_high h 1 rest (omega arith) q, ap length (after_is marks.Arrow e.2 rest m).is, expr_shrinks s.tree))
    (λ v ev q. let t = expr_sound h 1 rest v (omega arith) ev in
    let f : Found Simple = (Send e.0 v.0, max e.1 v.1 + 1, v.2) in
    omega (arith, up_high h f q, s.high, t.high, expr_long s.tree, expr_long t.tree, ap length (after_is marks.Arrow e.2 rest m).is, expr_shrinks s.tree)))
    (λ m q. on_look (bare e.0) _ _ (Err High) q
    (λ x b q. on_look (operator_at joint_of e.2) _ _ (Err High) q
    (λ j is q. let k = marked joint_of e.2 j is in omega (arith, expr_shrinks s.tree, joined_high h may x j.0 e.2 j.1 (omega (arith, ap length k.is)) q))
    (λ is q. alone_high h ts e s q))
    (λ b q. alone_high h ts e s q))

pub var_high : (h : ℕ) (ts : List Tok) → var_at h ts ≡ Err High → h ≤ length ts
unfolding var_at var_after var_typed
var_high h ts q =
    on_high (names_at ts) _ q (λ q. names_low ts q) (λ xs ex q.
    let d = names_shrunk (names_sound ts xs ex) in
    on_look (after_mark marks.Assign xs.2) _ _ (Err High) q
    (λ rest m q. omega (arith, d, values_raised_high h (VarValues xs.0 None) rest q, ap length (after_is marks.Assign xs.2 rest m).is))
    (λ m q. on_high (type_at h xs.2) _ q (λ q. omega (arith, d, type_high h xs.2 q)) (λ t et q.
    let k = type_sound h xs.2 t et in
    on_look (after_mark marks.Assign t.2) _ _ (Err High) q
    (λ rest m q. on_high (exprs_at (expr_at h) false rest) _ q
    (λ q. omega (arith, d, type_long k.tree, exprs_high h false rest q, ap length (after_is marks.Assign t.2 rest m).is))
    (λ es ee q. let s = exprs_sound h rest es ee in
    let f : Found Act = (VarValues xs.0 (Some t.0) es.0, max t.1 es.1 + 1, es.2) in
    omega (arith, d, type_long k.tree, k.high, up_high h f q, s.high, exprs_long s.spelled, ap length (after_is marks.Assign t.2 rest m).is)))
    (λ m q. let f : Found Act = (Rattle.gr_tree.specs.Statements.Var xs.0 t.0, t.1 + 1, t.2) in omega (arith, d, type_long k.tree, k.high, up_high h f q)))))

pub go_high : (h : ℕ) (ts : List Tok) → go_at h ts ≡ Err High → h ≤ length ts
unfolding go_at
go_high h ts q =
    on_high (name_at ts) _ q (λ q. name_low ts q) (λ f ef q.
    on_test (is_make f.0) _ _ (Err High) q
    (λ b q. absurd (cc))
    (λ b q. on_high (need marks.LeftParen f.1) _ q (λ q. need_low marks.LeftParen f.1 q) (λ r er q.
    let n = name_is ts f ef in
    on_high (arguments_at (expr_at h) r.1) _ q
    (λ q. omega (arith, arguments_high h r.1 q, ap length n.1, ap length (need_is marks.LeftParen f.1 r er)))
    (λ es ee q. let s = arguments_sound h r.1 es ee in
    let g : Found Act = (Rattle.gr_tree.specs.Statements.Go f.0 es.0, es.1 + 2, es.2) in
    omega (arith, up_high h g q, s.high, unary_long (s.spelled n.0 r.0 f.0 b), ap length n.1, ap length (need_is marks.LeftParen f.1 r er))))))

pub return_high : (h : ℕ) (ts : List Tok) → return_at h ts ≡ Err High → h ≤ length ts
unfolding return_at
return_high h ts q = on_test (done_at ts) _ _ (Err High) q (λ b q. absurd (cc)) (λ b q. raised_high h (λ e. Rattle.gr_tree.specs.Statements.Return (Some e)) ts q)

pub jump_low : {Z : Type 0} (act : Option (List ℕ) → Act) (ts : List Tok) → jump_at act ts ≡ Err High → Z
unfolding jump_at
jump_low act ts q = on_look (first_name ts) _ _ (Err High) q (λ x is q. absurd (cc)) (λ is q. absurd (cc))

pub place_low : {Z : Type 0} (ts : List Tok) → place_at ts ≡ Err High → Z
unfolding place_at
place_low [] q = absurd (cc)
place_low (At p w ∷ ts) q = absurd (cc)

heading_high : (h : ℕ) (may : Bool) (p : Place) (ts : List Tok) (e : Found Tree) → IsExpr h 1 ts e → heading_after h may p e ≡ Err High → h ≤ length ts
unfolding heading_after
heading_high h may p ts e s q = on_high (simple_after h may e) _ q (λ q. simple_high h may ts e s q) (λ v ev q. absurd (cc))

-- a heading takes tokens
heading_reads : (h : ℕ) (may : Bool) (p : Place) (ts : List Tok) (e : Found Tree) (i : Found Heading) → place_at ts ≡ Ok p → IsExpr h 1 ts e → heading_after h may p e ≡ Ok i → length i.2 < length ts
heading_reads h may p ts e i w s q = heading_shrunk (heading_sound h may p ts e i (place_is ts p w) s q).spelled.0

tested_high : (h : ℕ) (init : Option Heading) (k : ℕ) (ts : List Tok) → tested h init k ts ≡ Err High → h ≤ length ts
unfolding tested
tested_high h init k ts q = on_high (expr_at h 1 ts) _ q (λ q. expr_high h 1 ts (omega arith) q) (λ e ee q. absurd (cc))

pub if_head_high : (h : ℕ) (ts : List Tok) → if_head_at h ts ≡ Err High → h ≤ length ts
unfolding if_head_at if_after
if_head_high h ts q =
    on_look (after_mark marks.Semicolon ts) _ _ (Err High) q
    (λ rest m q. omega (arith, tested_high h None 0 rest q, ap length (after_is marks.Semicolon ts rest m).is))
    (λ m q. on_high (place_at ts) _ q (λ q. place_low ts q) (λ p ep q.
    on_high (expr_at h 1 ts) _ q (λ q. expr_high h 1 ts (omega arith) q) (λ e ee q.
    let s = expr_sound h 1 ts e (omega arith) ee in
    on_look (after_mark marks.LeftBrace e.2) _ _ (Err High) q (λ rest m q. absurd (cc))
    (λ m q. on_high (heading_after h true p e) _ q (λ q. heading_high h true p ts e s q) (λ i ei q.
    on_high (need marks.Semicolon i.2) _ q (λ q. need_low marks.Semicolon i.2 q) (λ r er q.
    omega (arith, heading_reads h true p ts e i ep s ei, tested_high h (Some i.0) i.1 r.1 q, ap length (need_is marks.Semicolon i.2 r er))))))))

ranged_high : (h : ℕ) (t : Target) (ts : List Tok) → ranged h t ts ≡ Err High → h ≤ length ts
unfolding ranged
ranged_high h t ts q = on_high (expr_at h 1 ts) _ q (λ q. expr_high h 1 ts (omega arith) q) (λ e ee q. absurd (cc))

condition_high : (h : ℕ) (ts : List Tok) → condition_at h ts ≡ Err High → h ≤ length ts
unfolding condition_at
condition_high h ts q =
    on_look (after_mark marks.Semicolon ts) _ _ (Err High) q (λ rest m q. absurd (cc))
    (λ m q. on_high (expr_at h 1 ts) _ q (λ q. expr_high h 1 ts (omega arith) q) (λ e ee q. absurd (cc)))

condition_reads : (h : ℕ) (ts : List Tok) (c : Found (Option Tree)) → condition_at h ts ≡ Ok c → length c.2 ≤ length ts
unfolding condition_at
condition_reads h ts c q =
    on_look (after_mark marks.Semicolon ts) _ _ (Ok c) q
    (λ rest m q. let same : (None, 0, ts) ≡ c = ok_inj q in omega (arith, ap (λ (c : Found (Option Tree)). length c.2) same))
    (λ m q. on_ok (expr_at h 1 ts) _ c q (λ e ee q. let same : (Some e.0, e.1, e.2) ≡ c = ok_inj q in omega (arith, expr_shrinks (expr_sound h 1 ts e (omega arith) ee).tree, ap (λ (c : Found (Option Tree)). length c.2) same)))

post_high : (h : ℕ) (ts : List Tok) → post_at h ts ≡ Err High → h ≤ length ts
unfolding post_at
post_high h ts q =
    on_look (after_mark marks.LeftBrace ts) _ _ (Err High) q (λ rest m q. absurd (cc))
    (λ m q. on_high (place_at ts) _ q (λ q. place_low ts q) (λ p ep q.
    on_high (expr_at h 1 ts) _ q (λ q. expr_high h 1 ts (omega arith) q) (λ e ee q.
    on_high (heading_after h false p e) _ q (λ q. heading_high h false p ts e (expr_sound h 1 ts e (omega arith) ee) q) (λ i ei q. absurd (cc)))))

parts_high : (h : ℕ) (init : Option Heading) (k : ℕ) (ts : List Tok) → parts_at h init k ts ≡ Err High → h ≤ length ts
unfolding parts_at
parts_high h init k ts q =
    on_high (condition_at h ts) _ q (λ q. condition_high h ts q) (λ c ec q.
    on_high (need marks.Semicolon c.2) _ q (λ q. need_low marks.Semicolon c.2 q) (λ r er q.
    on_high (post_at h r.1) _ q (λ q. omega (arith, condition_reads h ts c ec, post_high h r.1 q, ap length (need_is marks.Semicolon c.2 r er))) (λ s es q. absurd (cc))))

for_init_high : (h : ℕ) (p : Place) (ts : List Tok) (e : Found Tree) → place_at ts ≡ Ok p → IsExpr h 1 ts e → for_init h p e ≡ Err High → h ≤ length ts
unfolding for_init
for_init_high h p ts e w s q =
    on_high (heading_after h true p e) _ q (λ q. heading_high h true p ts e s q) (λ i ei q.
    on_high (need marks.Semicolon i.2) _ q (λ q. need_low marks.Semicolon i.2 q) (λ r er q.
    omega (arith, heading_reads h true p ts e i w s ei, parts_high h (Some i.0) i.1 r.1 q, ap length (need_is marks.Semicolon i.2 r er))))

target_reads : (x : List ℕ) (ts : List Tok) (t : Target × List Tok) → target_at x ts ≡ Some t → length t.1 < length ts
unfolding target_at
target_reads x ts t k =
    on_look (after_mark marks.Assign ts) _ _ (Some t) k
    (λ mid m k. on_look (after_mark marks.Range mid) _ _ (Some t) k
    (λ rest n k. omega (arith, ap length (after_is marks.Assign ts mid m).is, ap length (after_is marks.Range mid rest n).is, ap (λ (t : Target × List Tok). length t.1) (same_Some _ _ k)))
    (λ n k. absurd (cc)))
    (λ m k. on_look (after_mark marks.Define ts) _ _ (Some t) k
    (λ mid m k. on_look (after_mark marks.Range mid) _ _ (Some t) k
    (λ rest n k. omega (arith, ap length (after_is marks.Define ts mid m).is, ap length (after_is marks.Range mid rest n).is, ap (λ (t : Target × List Tok). length t.1) (same_Some _ _ k)))
    (λ n k. absurd (cc)))
    (λ m k. absurd (cc)))

for_after_high : (h : ℕ) (p : Place) (ts : List Tok) (e : Found Tree) → place_at ts ≡ Ok p → IsExpr h 1 ts e → for_after h p e ≡ Err High → h ≤ length ts
unfolding for_after for_named
for_after_high h p ts e w s q =
    on_look (after_mark marks.LeftBrace e.2) _ _ (Err High) q (λ rest m q. absurd (cc))
    (λ m q. on_look (bare e.0) _ _ (Err High) q
    (λ x b q. on_look (target_at x e.2) _ _ (Err High) q
    (λ t k q. omega (arith, expr_shrinks s.tree, target_reads x e.2 t k, ranged_high h t.0 t.1 q))
    (λ k q. for_init_high h p ts e w s q))
    (λ b q. for_init_high h p ts e w s q))

pub for_head_high : (h : ℕ) (ts : List Tok) → for_head_at h ts ≡ Err High → h ≤ length ts
unfolding for_head_at
for_head_high h ts q =
    on_look (after_mark marks.LeftBrace ts) _ _ (Err High) q (λ rest m q. absurd (cc))
    (λ m q. on_look (after_mark marks.Range ts) _ _ (Err High) q
    (λ rest m q. omega (arith, ranged_high h Nothing rest q, ap length (after_is marks.Range ts rest m).is))
    (λ m q. on_look (after_mark marks.Semicolon ts) _ _ (Err High) q
    (λ rest m q. omega (arith, parts_high h None 0 rest q, ap length (after_is marks.Semicolon ts rest m).is))
    (λ m q. on_high (place_at ts) _ q (λ q. place_low ts q) (λ p ep q.
    on_high (expr_at h 1 ts) _ q (λ q. expr_high h 1 ts (omega arith) q) (λ e ee q.
    for_after_high h p ts e ep (expr_sound h 1 ts e (omega arith) ee) q)))))

receive_high : (h : ℕ) (ts : List Tok) → receive_at h ts ≡ Err High → h ≤ length ts
unfolding receive_at
receive_high zero ts q = omega arith
receive_high (suc h) ts q =
    on_look (after_mark marks.LeftParen ts) _ _ (Err High) q
    (λ rest m q. on_high (receive_at h rest) _ q (λ q. omega (arith, receive_high h rest q, ap length (after_is marks.LeftParen ts rest m).is)) (λ e ee q.
    on_high (need marks.RightParen e.2) _ q (λ q. need_low marks.RightParen e.2 q) (λ r er q. absurd (cc))))
    (λ m q. on_look (after_mark marks.Arrow ts) _ _ (Err High) q (λ rest m q. unary_high h ts q) (λ m q. absurd (cc)))

received_high : (h : ℕ) (xs : List (List ℕ)) (ts : List Tok) → received_at h xs ts ≡ Err High → h ≤ length ts
unfolding received_at
received_high h xs ts q =
    on_look (after_mark marks.Define ts) _ _ (Err High) q
    (λ rest m q. on_high (receive_at h rest) _ q (λ q. omega (arith, receive_high h rest q, ap length (after_is marks.Define ts rest m).is)) (λ e ee q. absurd (cc)))
    (λ m q. on_high (need marks.Assign ts) _ q (λ q. need_low marks.Assign ts q) (λ r er q.
    on_high (receive_at h r.1) _ q (λ q. omega (arith, receive_high h r.1 q, ap length (need_is marks.Assign ts r er))) (λ e ee q. absurd (cc))))

pub comm_high : (h : ℕ) (ts : List Tok) → comm_at h ts ≡ Err High → h ≤ length ts
unfolding comm_at comm_after comm_names
comm_high h ts q =
    on_high (expr_at h 1 ts) _ q (λ q. expr_high h 1 ts (omega arith) q) (λ c ec q.
    let s = expr_sound h 1 ts c (omega arith) ec in
    on_look (after_mark marks.Arrow c.2) _ _ (Err High) q
    (λ rest m q. on_high (expr_at h 1 rest) _ q (λ q. omega (arith, expr_shrinks s.tree, expr_high h 1 rest (omega arith) q, ap length (after_is marks.Arrow c.2 rest m).is)) (λ e ee q. absurd (cc)))
    (λ m q. on_look (bare c.0) _ _ (Err High) q
    (λ x b q. on_look (after_mark marks.Comma c.2) _ _ (Err High) q
    (λ rest m q. on_high (name_at rest) _ q (λ q. name_low rest q) (λ y ey q.
    omega (arith, expr_shrinks s.tree, received_high h (x ∷ y.0 ∷ []) y.1 q, ap length (after_is marks.Comma c.2 rest m).is, ap length (name_is rest y ey).1)))
    (λ m q. omega (arith, expr_shrinks s.tree, received_high h (x ∷ []) c.2 q)))
    (λ b q. on_test (is_receive c.0) _ _ (Err High) q (λ t q. absurd (cc)) (λ t q. absurd (cc)))))
