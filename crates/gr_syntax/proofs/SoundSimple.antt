-- Simple statements and what else has no statements in it: what is read is in the grammar.
use Rattle.std.proofs.Common.{◌≡◌, ℕ, ◌+◌, ◌≤◌, max, Bool, false, List, [], ◌∷◌, refl, sym, subst, arith}
use Rattle.std.specs.Prelude.{Option, Some, None, Ok}
use Rattle.gr_scan.specs.declared.token.Place.{Place}
use Rattle.gr_scan.specs.declared.token.Mark.{Mark}
use Rattle.gr_scan.specs.declared.token.Mark.TheVariants as marks
use Rattle.gr_scan.specs.Tokens.{Tok, At, Sign}
use Rattle.gr_scan.specs.Tokens as words
use Rattle.gr_tree.specs.Exprs.{Tree, Trees, height, heights}
use Rattle.gr_tree.specs.Statements.{Simple, Eval, Send, Assign, Define, Update, Increment, Decrement, Act, Var, VarValues, Go, Return, Break, Continue, Heading, Heads, simple_height, act_height, heading_height}
use Rattle.gr_syntax.specs.declared.opening.Joint.{Joint}
use Rattle.gr_syntax.specs.declared.opening.Joint.TheVariants as joints
use Rattle.gr_syntax.specs.Grammar.{SpellsExpr, SpellsNames, comma_name, last_name, after_mark, is_make}
use Rattle.gr_syntax.specs.StatementGrammar as grammar
use Rattle.gr_syntax.specs.StatementGrammar.{SpellsSimple, SpellsAct, SpellsHeading, defines, heads}
use Rattle.gr_syntax.specs.Reading.{Found, operator_at, name_at, need, names_at, type_at, expr_at, exprs_at, arguments_at}
use Rattle.gr_syntax.specs.SimpleReading.{joint_of, done_at, first_name, bare, valued, define_at, values_at, names_from, update_at, joined_at, alone_at, simple_named, sent_at, simple_after, var_typed, var_after, var_at, go_at, return_at, jump_at}
use Rattle.gr_syntax.specs.StatementReading.{heading_after}
use Rattle.gr_syntax.proofs.Cases.{ok_inj, on_ok, on_look, on_test, Opens, after_is, name_is, need_is}
use Rattle.gr_syntax.proofs.Names.{names_sound}
use Rattle.gr_syntax.proofs.WrittenTypes.{type_sound}
use Rattle.gr_syntax.proofs.Chains.{IsExpr}
use Rattle.gr_syntax.proofs.SoundExprs.{expr_sound, exprs_sound, arguments_sound}
use Rattle.gr_syntax.proofs.FirstTokens.{up_is, Joins, joint_is, marked, define_is, first_is, bare_tokens, Begins}

-- what was read is in the grammar, and its height is right and at most h
pub record IsRead {A : Type 0} (Spells : A → List Tok → List Tok → Type 0) (of : A → ℕ) (h : ℕ) (ts : List Tok) (u : Found A) : Type 0 where
  pub spelled : Spells u.0 ts u.2
  pub high : u.1 ≡ of u.0
  pub fits : u.1 ≤ h

-- a simple statement, and a `:=` only where one may stand
pub record SpellsMay (may : Bool) (s : Simple) (ts rest : List Tok) : Type 0 where
  pub spelled : SpellsSimple s ts rest
  pub kept : (p : Place) → may ≡ false → defines (Heads p s) ≡ false

abbrev pub IsSimple : ℕ → Bool → List Tok → Found Simple → Type 0
IsSimple h may ts u = IsRead (SpellsMay may) simple_height h ts u

values_sound : (h : ℕ) (may : Bool) (xs : List (List ℕ)) (start ts : List Tok) (u : Found Simple) → SpellsNames xs start ts → values_at h may xs ts ≡ Ok u → IsSimple h may start u
unfolding values_at
values_sound h may xs start ts u d q =
    on_look (define_at may ts) _ _ (Ok u) q
    (λ rest m q. on_ok (exprs_at (expr_at h) false rest) _ u q (λ es ee q.
    let s = exprs_sound h rest es ee in
    let o = define_is may ts rest m in
    up_is (IsSimple h may start) h (valued (Define xs) es) u q (λ le.
    record { spelled = record { spelled = grammar.define (subst (λ r. SpellsNames xs start r) o.1.is d) s.spelled; kept = λ p e. absurd (cc) }; high = omega (arith, s.high); fits = le })))
    (λ m q. on_ok (need marks.Assign ts) _ u q (λ r er q. on_ok (exprs_at (expr_at h) false r.1) _ u q (λ es ee q.
    let s = exprs_sound h r.1 es ee in
    up_is (IsSimple h may start) h (valued (Assign xs) es) u q (λ le.
    record { spelled = record { spelled = grammar.assign (subst (λ r. SpellsNames xs start r) (need_is marks.Assign ts r er) d) s.spelled; kept = λ p e. refl }; high = omega (arith, s.high); fits = le }))))

from_sound : (p q : Place) (x : List ℕ) (ts : List Tok) (u : Found (List (List ℕ))) → names_from x ts ≡ Ok u → SpellsNames u.0 (At p (words.Name x) ∷ At q (Sign marks.Comma) ∷ ts) u.2
unfolding names_from
from_sound p q x ts u e =
    on_ok (names_at ts) _ u e (λ xs ex e.
    subst (λ (u : Found (List (List ℕ))). SpellsNames u.0 (At p (words.Name x) ∷ At q (Sign marks.Comma) ∷ ts) u.2) (ok_inj e) (comma_name (names_sound ts xs ex)))

-- from a name and a mark on
joined_sound : (h : ℕ) (may : Bool) (p q : Place) (x : List ℕ) (m : Mark) (j : Joint) (ts : List Tok) (u : Found Simple) → Joins m j → joined_at h may x j (At q (Sign m) ∷ ts) ts ≡ Ok u → IsSimple h may (At p (words.Name x) ∷ At q (Sign m) ∷ ts) u
unfolding joined_at update_at
joined_sound h may p q x m joints.Comma ts u d e =
    on_ok (names_from x ts) _ u e (λ xs ex e.
    values_sound h may xs.0 (At p (words.Name x) ∷ At q (Sign m) ∷ ts) xs.2 u
    (subst (λ m. SpellsNames xs.0 (At p (words.Name x) ∷ At q (Sign m) ∷ ts) xs.2) (sym d) (from_sound p q x ts xs ex)) e)
joined_sound h may p q x m joints.Values ts u d e =
    values_sound h may (x ∷ []) (At p (words.Name x) ∷ At q (Sign m) ∷ ts) (At q (Sign m) ∷ ts) u last_name e
joined_sound h may p q x m (joints.Update op) ts u d e =
    on_ok (expr_at h 1 ts) _ u e (λ v ev e.
    let s = expr_sound h 1 ts v (omega arith) ev in
    up_is (IsSimple h may (At p (words.Name x) ∷ At q (Sign m) ∷ ts)) h (Update x op v.0, v.1 + 1, v.2) u e (λ le.
    record { spelled = record { spelled = grammar.update d s.tree; kept = λ p e. refl }; high = omega (arith, s.high); fits = le }))
joined_sound h may p q x m joints.Increment ts u d e =
    up_is (IsSimple h may (At p (words.Name x) ∷ At q (Sign m) ∷ ts)) h (Increment x, 1, ts) u e (λ le.
    subst (λ m. IsSimple h may (At p (words.Name x) ∷ At q (Sign m) ∷ ts) (Increment x, 1, ts)) (sym d)
    (record { spelled = record { spelled = grammar.increment; kept = λ p e. refl }; high = refl; fits = le }))
joined_sound h may p q x m joints.Decrement ts u d e =
    up_is (IsSimple h may (At p (words.Name x) ∷ At q (Sign m) ∷ ts)) h (Decrement x, 1, ts) u e (λ le.
    subst (λ m. IsSimple h may (At p (words.Name x) ∷ At q (Sign m) ∷ ts) (Decrement x, 1, ts)) (sym d)
    (record { spelled = record { spelled = grammar.decrement; kept = λ p e. refl }; high = refl; fits = le }))

alone_sound : (h : ℕ) (may : Bool) (ts : List Tok) (e : Found Tree) (u : Found Simple) → IsExpr h 1 ts e → alone_at h e ≡ Ok u → IsSimple h may ts u
alone_sound h may ts e u s q =
    up_is (IsSimple h may ts) h (Eval e.0, e.1 + 1, e.2) u q (λ le.
    record { spelled = record { spelled = grammar.eval s.tree; kept = λ p e. refl }; high = omega (arith, s.high); fits = le })

sent_sound : (h : ℕ) (may : Bool) (ts : List Tok) (c : Found Tree) (rest : List Tok) (u : Found Simple) → IsExpr h 1 ts c → Opens marks.Arrow c.2 rest → sent_at h c rest ≡ Ok u → IsSimple h may ts u
sent_sound h may ts c rest u s o q =
    on_ok (expr_at h 1 rest) _ u q (λ e ee q.
    let t = expr_sound h 1 rest e (omega arith) ee in
    up_is (IsSimple h may ts) h (Send c.0 e.0, max c.1 e.1 + 1, e.2) u q (λ le.
    record { spelled = record { spelled = grammar.send (subst (λ r. SpellsExpr 1 c.0 ts r) o.is s.tree) t.tree; kept = λ p e. refl }; high = omega (arith, s.high, t.high); fits = le }))

both_tokens : {p q : Place} {x : List ℕ} {m : Mark} {ts mid rest : List Tok} → ts ≡ At p (words.Name x) ∷ mid → mid ≡ At q (Sign m) ∷ rest → ts ≡ At p (words.Name x) ∷ At q (Sign m) ∷ rest
both_tokens e f = cc

named_sound : (h : ℕ) (may : Bool) (ts : List Tok) (e : Found Tree) (x : List ℕ) (u : Found Simple) → IsExpr h 1 ts e → bare e.0 ≡ Some x → simple_named h may e x ≡ Ok u → IsSimple h may ts u
unfolding simple_named
named_sound h may ts e x u s b q =
    on_look (operator_at joint_of e.2) _ _ (Ok u) q
    (λ j is q.
    let m = marked joint_of e.2 j is in
    let t = bare_tokens e.0 x ts e.2 b s.tree in
    let all = both_tokens t.1 m.is in
    subst (λ ts. IsSimple h may ts u) (sym all)
    (joined_sound h may t.0 m.place x m.mark j.0 j.1 u (joint_is m.mark j.0 m.known)
    (subst (λ r. joined_at h may x j.0 r j.1 ≡ Ok u) m.is q)))
    (λ is q. alone_sound h may ts e u s q)

pub simple_sound : (h : ℕ) (may : Bool) (ts : List Tok) (e : Found Tree) (u : Found Simple) → IsExpr h 1 ts e → simple_after h may e ≡ Ok u → IsSimple h may ts u
unfolding simple_after
simple_sound h may ts e u s q =
    on_look (after_mark marks.Arrow e.2) _ _ (Ok u) q
    (λ rest m q. sent_sound h may ts e rest u s (after_is marks.Arrow e.2 rest m) q)
    (λ m q. on_look (bare e.0) _ _ (Ok u) q
    (λ x b q. named_sound h may ts e x u s b q)
    (λ b q. alone_sound h may ts e u s q))

-- a heading, where it begins at this place
pub heading_sound : (h : ℕ) (may : Bool) (p : Place) (ts : List Tok) (e : Found Tree) (u : Found Heading) → Begins p ts → IsExpr h 1 ts e → heading_after h may p e ≡ Ok u → IsRead (λ i ts rest. SpellsHeading i ts rest × (may ≡ false → defines i ≡ false)) heading_height h ts u
unfolding heading_after
heading_sound h may p ts e u b s q =
    on_ok (simple_after h may e) _ u q (λ v ev q.
    let t = simple_sound h may ts e v s ev in
    subst (λ u. IsRead (λ i ts rest. SpellsHeading i ts rest × (may ≡ false → defines i ≡ false)) heading_height h ts u) (ok_inj q)
    (subst (λ ts. IsRead (λ i ts rest. SpellsHeading i ts rest × (may ≡ false → defines i ≡ false)) heading_height h ts (Heads p v.0, v.1, v.2)) (sym b.is)
    (record { spelled = (heads (subst (λ ts. SpellsSimple v.0 ts v.2) b.is t.spelled.spelled), t.spelled.kept p); high = t.high; fits = t.fits })))

abbrev pub IsAct : ℕ → List Tok → Found Act → Type 0
IsAct h ts u = IsRead SpellsAct act_height h ts u

pub var_sound : (h : ℕ) (p : Place) (ts : List Tok) (u : Found Act) → var_at h ts ≡ Ok u → IsAct h (At p (Sign marks.Var) ∷ ts) u
unfolding var_at var_after var_typed
var_sound h p ts u q =
    on_ok (names_at ts) _ u q (λ xs ex q.
    let d = names_sound ts xs ex in
    on_look (after_mark marks.Assign xs.2) _ _ (Ok u) q
    (λ rest m q. on_ok (exprs_at (expr_at h) false rest) _ u q (λ es ee q.
    let s = exprs_sound h rest es ee in
    up_is (IsAct h (At p (Sign marks.Var) ∷ ts)) h (VarValues xs.0 None es.0, es.1 + 1, es.2) u q (λ le.
    record { spelled = grammar.var_values (subst (λ r. SpellsNames xs.0 ts r) (after_is marks.Assign xs.2 rest m).is d) s.spelled; high = omega (arith, s.high); fits = le })))
    (λ m q. on_ok (type_at h xs.2) _ u q (λ t et q.
    let k = type_sound h xs.2 t et in
    on_look (after_mark marks.Assign t.2) _ _ (Ok u) q
    (λ rest m q. on_ok (exprs_at (expr_at h) false rest) _ u q (λ es ee q.
    let s = exprs_sound h rest es ee in
    up_is (IsAct h (At p (Sign marks.Var) ∷ ts)) h (VarValues xs.0 (Some t.0) es.0, max t.1 es.1 + 1, es.2) u q (λ le.
    record { spelled = grammar.var_typed d (subst (λ r. Rattle.gr_syntax.specs.Grammar.SpellsType t.0 xs.2 r) (after_is marks.Assign t.2 rest m).is k.tree) s.spelled; high = omega (arith, s.high, k.high); fits = le })))
    (λ m q. up_is (IsAct h (At p (Sign marks.Var) ∷ ts)) h (Var xs.0 t.0, t.1 + 1, t.2) u q (λ le.
    record { spelled = grammar.var d k.tree; high = omega (arith, k.high); fits = le })))))

pub go_sound : (h : ℕ) (p : Place) (ts : List Tok) (u : Found Act) → go_at h ts ≡ Ok u → IsAct h (At p (Sign marks.Go) ∷ ts) u
unfolding go_at
go_sound h p ts u q =
    on_ok (name_at ts) _ u q (λ f ef q.
    on_test (is_make f.0) _ _ (Ok u) q
    (λ b q. absurd (cc))
    (λ b q. on_ok (need marks.LeftParen f.1) _ u q (λ r er q. on_ok (arguments_at (expr_at h) r.1) _ u q (λ es ee q.
    let s = arguments_sound h r.1 es ee in
    let n = name_is ts f ef in
    let all = both_tokens n.1 (need_is marks.LeftParen f.1 r er) in
    up_is (IsAct h (At p (Sign marks.Go) ∷ ts)) h (Go f.0 es.0, es.1 + 2, es.2) u q (λ le.
    record { spelled = grammar.go (subst (λ ts. Rattle.gr_syntax.specs.Grammar.SpellsUnary (Rattle.gr_tree.specs.Exprs.Call f.0 es.0) ts es.2) (sym all) (s.spelled n.0 r.0 f.0 b)); high = omega (arith, s.high); fits = le })))))

pub return_sound : (h : ℕ) (p : Place) (ts : List Tok) (u : Found Act) → 1 ≤ h → return_at h ts ≡ Ok u → IsAct h (At p (Sign marks.Return) ∷ ts) u
unfolding return_at
return_sound h p ts u pos q =
    on_test (done_at ts) _ _ (Ok u) q
    (λ b q. subst (IsAct h (At p (Sign marks.Return) ∷ ts)) (ok_inj q) (record { spelled = grammar.return_none; high = refl; fits = pos }))
    (λ b q. on_ok (expr_at h 1 ts) _ u q (λ e ee q.
    let s = expr_sound h 1 ts e (omega arith) ee in
    up_is (IsAct h (At p (Sign marks.Return) ∷ ts)) h (Return (Some e.0), e.1 + 1, e.2) u q (λ le.
    record { spelled = grammar.return s.tree; high = omega (arith, s.high); fits = le })))

jump_sound : (h : ℕ) (act : Option (List ℕ) → Act) (start : List Tok → List Tok) → ((x : Option (List ℕ)) → act_height (act x) ≡ 1) → ((rest : List Tok) → SpellsAct (act None) (start rest) rest) → ((q : Place) (x : List ℕ) (rest : List Tok) → SpellsAct (act (Some x)) (start (At q (words.Name x) ∷ rest)) rest) → (ts : List Tok) (u : Found Act) → 1 ≤ h → jump_at act ts ≡ Ok u → IsAct h (start ts) u
unfolding jump_at
jump_sound h act start one none some ts u pos q =
    on_look (first_name ts) _ _ (Ok u) q
    (λ x is q. let n = first_is ts x is in
    subst (IsAct h (start ts)) (ok_inj q) (record { spelled = subst (λ ts. SpellsAct (act (Some x.0)) (start ts) x.1) (sym n.1) (some n.0 x.0 x.1); high = sym (one (Some x.0)); fits = pos }))
    (λ is q. subst (IsAct h (start ts)) (ok_inj q) (record { spelled = none ts; high = sym (one None); fits = pos }))

pub break_sound : (h : ℕ) (p : Place) (ts : List Tok) (u : Found Act) → 1 ≤ h → jump_at Break ts ≡ Ok u → IsAct h (At p (Sign marks.Break) ∷ ts) u
break_sound h p ts u pos q = jump_sound h Break (λ ts. At p (Sign marks.Break) ∷ ts) (λ x. refl) (λ rest. grammar.break_none) (λ q x rest. grammar.break) ts u pos q

pub continue_sound : (h : ℕ) (p : Place) (ts : List Tok) (u : Found Act) → 1 ≤ h → jump_at Continue ts ≡ Ok u → IsAct h (At p (Sign marks.Continue) ∷ ts) u
continue_sound h p ts u pos q = jump_sound h Continue (λ ts. At p (Sign marks.Continue) ∷ ts) (λ x. refl) (λ rest. grammar.continue_none) (λ q x rest. grammar.continue) ts u pos q
