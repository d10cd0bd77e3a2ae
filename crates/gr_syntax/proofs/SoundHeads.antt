-- What stands before the block of an if or a for, and what a clause of a select waits for: what is read is in the grammar.
use Rattle.std.proofs.Common.{◌≡◌, ℕ, zero, suc, ◌+◌, ◌≤◌, true, false, List, [], ◌∷◌, length, refl, ap, sym, ◌∙◌, subst, arith}
use Rattle.std.specs.Prelude.{Option, Some, None, Ok}
use Rattle.std.proofs.lemmas.Option.{same_Some}
use Rattle.gr_scan.specs.declared.token.Place.{Place}
use Rattle.gr_scan.specs.declared.token.Mark.TheVariants as marks
use Rattle.gr_scan.specs.Tokens.{Tok, At, Sign}
use Rattle.gr_scan.specs.Tokens as words
use Rattle.gr_tree.specs.declared.expr.UnaryOp.TheVariants as unaries
use Rattle.gr_tree.specs.Exprs.{Tree, Paren, height}
use Rattle.gr_tree.specs.Statements.{Heading, IfHead, Target, Nothing, Old, New, ForHead, Range, Comm, heading_height, if_height, for_height, comm_height, part_height}
use Rattle.gr_syntax.specs.Grammar.{SpellsUnary, SpellsExpr, SpellsNames, alone, paren, unary, comma_name, last_name, after_mark}
use Rattle.gr_syntax.specs.StatementGrammar as grammar
use Rattle.gr_syntax.specs.StatementGrammar.{SpellsHeading, SpellsPart, missing, there, SpellsIfHead, SpellsPost, SpellsForHead, SpellsReceive, SpellsComm, defines}
use Rattle.gr_syntax.specs.Reading.{Found, name_at, need, expr_at}
use Rattle.gr_syntax.specs.SimpleReading.{place_at, bare}
use Rattle.gr_syntax.specs.StatementReading.{heading_after, tested, if_after, if_head_at, ranged, condition_at, post_at, parts_at, target_at, for_init, for_named, for_after, for_head_at, is_receive, receive_at, received_at, comm_names, comm_after, comm_at}
use Rattle.gr_syntax.proofs.Cases.{ok_inj, on_ok, on_look, on_test, after_is, name_is, need_is}
use Rattle.gr_syntax.proofs.Chains.{IsExpr}
use Rattle.gr_syntax.proofs.SoundExprs.{expr_sound, unary_sound}
use Rattle.gr_syntax.proofs.FirstTokens.{bare_tokens, Begins, place_is}
use Rattle.gr_syntax.proofs.SoundSimple.{IsRead, heading_sound}

abbrev pub IsIfHead : ℕ → List Tok → Found IfHead → Type 0
IsIfHead h ts u = IsRead SpellsIfHead if_height h ts u

-- a condition after what stands before it
tested_sound : (h : ℕ) (init : Option Heading) (k : ℕ) (start : List Tok) (p : Place) (ts : List Tok) (u : Found IfHead) → SpellsPart SpellsHeading init start (At p (Sign marks.Semicolon) ∷ ts) → k ≡ part_height heading_height init → k ≤ h → tested h init k ts ≡ Ok u → IsIfHead h start u
unfolding tested
tested_sound h init k start p ts u d e le q =
    on_ok (expr_at h 1 ts) _ u q (λ c ec q.
    let s = expr_sound h 1 ts c (omega arith) ec in
    subst (IsIfHead h start) (ok_inj q) (record { spelled = grammar.part_test d s.tree; high = omega (arith, e, s.high); fits = omega (arith, le, s.fits) }))

if_after_sound : (h : ℕ) (p : Place) (ts : List Tok) (e : Found Tree) (u : Found IfHead) → Begins p ts → IsExpr h 1 ts e → if_after h p e ≡ Ok u → IsIfHead h ts u
unfolding if_after
if_after_sound h p ts e u b s q =
    on_look (after_mark marks.LeftBrace e.2) _ _ (Ok u) q
    (λ rest m q. subst (IsIfHead h ts) (ok_inj q) (record { spelled = grammar.test s.tree; high = omega (arith, s.high); fits = s.fits }))
    (λ m q. on_ok (heading_after h true p e) _ u q (λ i ei q. on_ok (need marks.Semicolon i.2) _ u q (λ r er q.
    let t = heading_sound h true p ts e i b s ei in
    tested_sound h (Some i.0) i.1 ts r.0 r.1 u (there (subst (λ r. SpellsHeading i.0 ts r) (need_is marks.Semicolon i.2 r er) t.spelled.0)) t.high t.fits q)))

pub if_head_sound : (h : ℕ) (ts : List Tok) (u : Found IfHead) → if_head_at h ts ≡ Ok u → IsIfHead h ts u
unfolding if_head_at
if_head_sound h ts u q =
    on_look (after_mark marks.Semicolon ts) _ _ (Ok u) q
    (λ rest m q. let o = after_is marks.Semicolon ts rest m in
    tested_sound h None 0 ts o.place rest u (subst (λ r. SpellsPart SpellsHeading None ts r) o.is missing) refl (omega arith) q)
    (λ m q. on_ok (place_at ts) _ u q (λ p ep q. on_ok (expr_at h 1 ts) _ u q (λ e ee q.
    if_after_sound h p ts e u (place_is ts p ep) (expr_sound h 1 ts e (omega arith) ee) q)))

abbrev pub IsForHead : ℕ → List Tok → Found ForHead → Type 0
IsForHead h ts u = IsRead SpellsForHead for_height h ts u

condition_sound : (h : ℕ) (ts : List Tok) (u : Found (Option Tree)) → condition_at h ts ≡ Ok u → IsRead (SpellsPart (SpellsExpr 1)) (part_height height) h ts u
unfolding condition_at
condition_sound h ts u q =
    on_look (after_mark marks.Semicolon ts) _ _ (Ok u) q
    (λ rest m q. subst (λ u. IsRead (SpellsPart (SpellsExpr 1)) (part_height height) h ts u) (ok_inj q) (record { spelled = missing; high = refl; fits = omega arith }))
    (λ m q. on_ok (expr_at h 1 ts) _ u q (λ e ee q.
    let s = expr_sound h 1 ts e (omega arith) ee in
    subst (λ u. IsRead (SpellsPart (SpellsExpr 1)) (part_height height) h ts u) (ok_inj q) (record { spelled = there s.tree; high = s.high; fits = s.fits })))

post_sound : (h : ℕ) (ts : List Tok) (u : Found (Option Heading)) → post_at h ts ≡ Ok u → IsRead (SpellsPart SpellsPost) (part_height heading_height) h ts u
unfolding post_at
post_sound h ts u q =
    on_look (after_mark marks.LeftBrace ts) _ _ (Ok u) q
    (λ rest m q. subst (λ u. IsRead (SpellsPart SpellsPost) (part_height heading_height) h ts u) (ok_inj q) (record { spelled = missing; high = refl; fits = omega arith }))
    (λ m q. on_ok (place_at ts) _ u q (λ p ep q. on_ok (expr_at h 1 ts) _ u q (λ e ee q. on_ok (heading_after h false p e) _ u q (λ s es q.
    let t = heading_sound h false p ts e s (place_is ts p ep) (expr_sound h 1 ts e (omega arith) ee) es in
    subst (λ u. IsRead (SpellsPart SpellsPost) (part_height heading_height) h ts u) (ok_inj q) (record { spelled = there (grammar.post (t.spelled.1 refl) t.spelled.0); high = t.high; fits = t.fits })))))

parts_sound : (h : ℕ) (init : Option Heading) (k : ℕ) (start : List Tok) (p : Place) (ts : List Tok) (u : Found ForHead) → SpellsPart SpellsHeading init start (At p (Sign marks.Semicolon) ∷ ts) → k ≡ part_height heading_height init → k ≤ h → parts_at h init k ts ≡ Ok u → IsForHead h start u
unfolding parts_at
parts_sound h init k start p ts u d e le q =
    on_ok (condition_at h ts) _ u q (λ c ec q. on_ok (need marks.Semicolon c.2) _ u q (λ r er q. on_ok (post_at h r.1) _ u q (λ s es q.
    let t = condition_sound h ts c ec in
    let v = post_sound h r.1 s es in
    subst (IsForHead h start) (ok_inj q)
    (record { spelled = grammar.parts d (subst (λ r. SpellsPart (SpellsExpr 1) c.0 ts r) (need_is marks.Semicolon c.2 r er) t.spelled) v.spelled; high = omega (arith, e, t.high, v.high); fits = omega (arith, le, t.fits, v.fits) }))))

ranged_sound : (h : ℕ) (target : Target) (start ts : List Tok) (u : Found ForHead) → ((e : Tree) (rest : List Tok) → SpellsExpr 1 e ts rest → SpellsForHead (Range target e) start rest) → ranged h target ts ≡ Ok u → IsForHead h start u
unfolding ranged
ranged_sound h target start ts u d q =
    on_ok (expr_at h 1 ts) _ u q (λ e ee q.
    let s = expr_sound h 1 ts e (omega arith) ee in
    subst (IsForHead h start) (ok_inj q) (record { spelled = d e.0 e.2 s.tree; high = s.high; fits = s.fits }))

-- a name, `=` or `:=`, and `range`
target_sound : (h : ℕ) (p : Place) (x : List ℕ) (ts : List Tok) (t : Target × List Tok) (u : Found ForHead) → target_at x ts ≡ Some t → ranged h t.0 t.1 ≡ Ok u → IsForHead h (At p (words.Name x) ∷ ts) u
unfolding target_at
target_sound h p x ts t u k q =
    on_look (after_mark marks.Assign ts) _ _ (Some t) k
    (λ mid m k. on_look (after_mark marks.Range mid) _ _ (Some t) k
    (λ rest n k.
    let a = after_is marks.Assign ts mid m in
    let b = after_is marks.Range mid rest n in
    let all : ts ≡ At a.place (Sign marks.Assign) ∷ At b.place (Sign marks.Range) ∷ rest = a.is ∙ ap (λ r. At a.place (Sign marks.Assign) ∷ r) b.is in
    subst (λ ts. IsForHead h (At p (words.Name x) ∷ ts) u) (sym all)
    (ranged_sound h (Old x) (At p (words.Name x) ∷ At a.place (Sign marks.Assign) ∷ At b.place (Sign marks.Range) ∷ rest) rest u (λ e rest d. grammar.range_old d)
    (subst (λ (t : Target × List Tok). ranged h t.0 t.1 ≡ Ok u) (sym (same_Some _ _ k)) q)))
    (λ n k. absurd (cc)))
    (λ m k. on_look (after_mark marks.Define ts) _ _ (Some t) k
    (λ mid m k. on_look (after_mark marks.Range mid) _ _ (Some t) k
    (λ rest n k.
    let a = after_is marks.Define ts mid m in
    let b = after_is marks.Range mid rest n in
    let all : ts ≡ At a.place (Sign marks.Define) ∷ At b.place (Sign marks.Range) ∷ rest = a.is ∙ ap (λ r. At a.place (Sign marks.Define) ∷ r) b.is in
    subst (λ ts. IsForHead h (At p (words.Name x) ∷ ts) u) (sym all)
    (ranged_sound h (New x) (At p (words.Name x) ∷ At a.place (Sign marks.Define) ∷ At b.place (Sign marks.Range) ∷ rest) rest u (λ e rest d. grammar.range_new d)
    (subst (λ (t : Target × List Tok). ranged h t.0 t.1 ≡ Ok u) (sym (same_Some _ _ k)) q)))
    (λ n k. absurd (cc)))
    (λ m k. absurd (cc)))

for_init_sound : (h : ℕ) (p : Place) (ts : List Tok) (e : Found Tree) (u : Found ForHead) → Begins p ts → IsExpr h 1 ts e → for_init h p e ≡ Ok u → IsForHead h ts u
unfolding for_init
for_init_sound h p ts e u b s q =
    on_ok (heading_after h true p e) _ u q (λ i ei q. on_ok (need marks.Semicolon i.2) _ u q (λ r er q.
    let t = heading_sound h true p ts e i b s ei in
    parts_sound h (Some i.0) i.1 ts r.0 r.1 u (there (subst (λ r. SpellsHeading i.0 ts r) (need_is marks.Semicolon i.2 r er) t.spelled.0)) t.high t.fits q))

for_named_sound : (h : ℕ) (p : Place) (ts : List Tok) (e : Found Tree) (x : List ℕ) (u : Found ForHead) → Begins p ts → IsExpr h 1 ts e → bare e.0 ≡ Some x → for_named h p e x ≡ Ok u → IsForHead h ts u
unfolding for_named
for_named_sound h p ts e x u b s bx q =
    on_look (target_at x e.2) _ _ (Ok u) q
    (λ t k q. let n = bare_tokens e.0 x ts e.2 bx s.tree in
    subst (λ ts. IsForHead h ts u) (sym n.1) (target_sound h n.0 x e.2 t u k q))
    (λ k q. for_init_sound h p ts e u b s q)

for_after_sound : (h : ℕ) (p : Place) (ts : List Tok) (e : Found Tree) (u : Found ForHead) → Begins p ts → IsExpr h 1 ts e → for_after h p e ≡ Ok u → IsForHead h ts u
unfolding for_after
for_after_sound h p ts e u b s q =
    on_look (after_mark marks.LeftBrace e.2) _ _ (Ok u) q
    (λ rest m q. subst (IsForHead h ts) (ok_inj q) (record { spelled = grammar.while (there s.tree); high = omega (arith, s.high); fits = s.fits }))
    (λ m q. on_look (bare e.0) _ _ (Ok u) q
    (λ x k q. for_named_sound h p ts e x u b s k q)
    (λ k q. for_init_sound h p ts e u b s q))

pub for_head_sound : (h : ℕ) (ts : List Tok) (u : Found ForHead) → for_head_at h ts ≡ Ok u → IsForHead h ts u
unfolding for_head_at
for_head_sound h ts u q =
    on_look (after_mark marks.LeftBrace ts) _ _ (Ok u) q
    (λ rest m q. subst (IsForHead h ts) (ok_inj q) (record { spelled = grammar.while missing; high = refl; fits = omega arith }))
    (λ m q. on_look (after_mark marks.Range ts) _ _ (Ok u) q
    (λ rest m q. let o = after_is marks.Range ts rest m in
    subst (λ ts. IsForHead h ts u) (sym o.is) (ranged_sound h Nothing (At o.place (Sign marks.Range) ∷ rest) rest u (λ e rest d. grammar.range d) q))
    (λ m q. on_look (after_mark marks.Semicolon ts) _ _ (Ok u) q
    (λ rest m q. let o = after_is marks.Semicolon ts rest m in
    parts_sound h None 0 ts o.place rest u (subst (λ r. SpellsPart SpellsHeading None ts r) o.is missing) refl (omega arith) q)
    (λ m q. on_ok (place_at ts) _ u q (λ p ep q. on_ok (expr_at h 1 ts) _ u q (λ e ee q.
    for_after_sound h p ts e u (place_is ts p ep) (expr_sound h 1 ts e (omega arith) ee) q)))))

-- an expression that is a receive
mutual
  unfolding after_mark

  unary_receive : {e : Tree} {ts rest : List Tok} → SpellsUnary e ts rest → is_receive e ≡ true → SpellsReceive e ts rest
  unary_receive (paren d) q = grammar.receive_paren (expr_receive d q)
  unary_receive (unary {op = unaries.Receive} d) q = grammar.receive d
  unary_receive _ q = absurd (cc)

  expr_receive : {l : ℕ} {e : Tree} {ts rest : List Tok} → SpellsExpr l e ts rest → is_receive e ≡ true → SpellsReceive e ts rest
  expr_receive (alone d) q = unary_receive d q
  expr_receive _ q = absurd (cc)

-- what begins with `<-` is a receive
arrow_receive : {e : Tree} {ts rest : List Tok} (mid : List Tok) → SpellsUnary e ts rest → after_mark marks.Arrow ts ≡ Some mid → SpellsReceive e ts rest
unfolding after_mark
arrow_receive mid (unary {op = unaries.Receive} d) q = grammar.receive d
arrow_receive mid _ q = absurd (cc)

abbrev IsReceive : ℕ → List Tok → Found Tree → Type 0
IsReceive h ts u = IsRead SpellsReceive height h ts u

receive_sound : (h : ℕ) (ts : List Tok) (u : Found Tree) → receive_at h ts ≡ Ok u → IsReceive h ts u
unfolding receive_at
receive_sound zero ts u q = absurd (cc)
receive_sound (suc h) ts u q =
    on_look (after_mark marks.LeftParen ts) _ _ (Ok u) q
    (λ rest m q. on_ok (receive_at h rest) _ u q (λ e ee q. on_ok (need marks.RightParen e.2) _ u q (λ r er q.
    let s = receive_sound h rest e ee in
    let o = after_is marks.LeftParen ts rest m in
    subst (IsReceive (suc h) ts) (ok_inj q)
    (subst (λ ts. IsReceive (suc h) ts (Paren e.0, e.1 + 1, r.1)) (sym o.is)
    (record { spelled = grammar.receive_paren (subst (λ r. SpellsReceive e.0 rest r) (need_is marks.RightParen e.2 r er) s.spelled); high = omega (arith, s.high); fits = omega (arith, s.fits) })))))
    (λ m q. on_look (after_mark marks.Arrow ts) _ _ (Ok u) q
    (λ rest m q. let s = unary_sound h ts u q in record { spelled = arrow_receive rest s.tree m; high = s.high; fits = s.fits })
    (λ m q. absurd (cc)))

abbrev pub IsComm : ℕ → List Tok → Found Comm → Type 0
IsComm h ts u = IsRead SpellsComm comm_height h ts u

received_sound : (h : ℕ) (xs : List (List ℕ)) (start ts : List Tok) (u : Found Comm) → SpellsNames xs start ts → length xs ≤ 2 → received_at h xs ts ≡ Ok u → IsComm h start u
unfolding received_at
received_sound h xs start ts u d two q =
    on_look (after_mark marks.Define ts) _ _ (Ok u) q
    (λ rest m q. on_ok (receive_at h rest) _ u q (λ e ee q.
    let s = receive_sound h rest e ee in
    subst (IsComm h start) (ok_inj q) (record { spelled = grammar.define_case (subst (λ r. SpellsNames xs start r) (after_is marks.Define ts rest m).is d) two s.spelled; high = s.high; fits = s.fits })))
    (λ m q. on_ok (need marks.Assign ts) _ u q (λ r er q. on_ok (receive_at h r.1) _ u q (λ e ee q.
    let s = receive_sound h r.1 e ee in
    subst (IsComm h start) (ok_inj q) (record { spelled = grammar.assign_case (subst (λ r. SpellsNames xs start r) (need_is marks.Assign ts r er) d) two s.spelled; high = s.high; fits = s.fits }))))

comm_names_sound : (h : ℕ) (p : Place) (x : List ℕ) (ts : List Tok) (u : Found Comm) → comm_names h x ts ≡ Ok u → IsComm h (At p (words.Name x) ∷ ts) u
unfolding comm_names
comm_names_sound h p x ts u q =
    on_look (after_mark marks.Comma ts) _ _ (Ok u) q
    (λ rest m q. on_ok (name_at rest) _ u q (λ y ey q.
    let o = after_is marks.Comma ts rest m in
    let n = name_is rest y ey in
    let all : ts ≡ At o.place (Sign marks.Comma) ∷ At n.0 (words.Name y.0) ∷ y.1 = o.is ∙ ap (λ r. At o.place (Sign marks.Comma) ∷ r) n.1 in
    subst (λ ts. IsComm h (At p (words.Name x) ∷ ts) u) (sym all)
    (received_sound h (x ∷ y.0 ∷ []) (At p (words.Name x) ∷ At o.place (Sign marks.Comma) ∷ At n.0 (words.Name y.0) ∷ y.1) y.1 u (comma_name last_name) (omega arith) q)))
    (λ m q. received_sound h (x ∷ []) (At p (words.Name x) ∷ ts) ts u last_name (omega arith) q)

pub comm_sound : (h : ℕ) (ts : List Tok) (u : Found Comm) → comm_at h ts ≡ Ok u → IsComm h ts u
unfolding comm_at comm_after
comm_sound h ts u q =
    on_ok (expr_at h 1 ts) _ u q (λ c ec q.
    let s = expr_sound h 1 ts c (omega arith) ec in
    on_look (after_mark marks.Arrow c.2) _ _ (Ok u) q
    (λ rest m q. on_ok (expr_at h 1 rest) _ u q (λ e ee q.
    let t = expr_sound h 1 rest e (omega arith) ee in
    subst (IsComm h ts) (ok_inj q) (record { spelled = grammar.send_case (subst (λ r. SpellsExpr 1 c.0 ts r) (after_is marks.Arrow c.2 rest m).is s.tree) t.tree; high = omega (arith, s.high, t.high); fits = omega (arith, s.fits, t.fits) })))
    (λ m q. on_look (bare c.0) _ _ (Ok u) q
    (λ x b q. let n = bare_tokens c.0 x ts c.2 b s.tree in
    subst (λ ts. IsComm h ts u) (sym n.1) (comm_names_sound h n.0 x c.2 u q))
    (λ b q. on_test (is_receive c.0) _ _ (Ok u) q
    (λ t q. subst (IsComm h ts) (ok_inj q) (record { spelled = grammar.receive_case (expr_receive s.tree t); high = s.high; fits = s.fits }))
    (λ t q. absurd (cc)))))
