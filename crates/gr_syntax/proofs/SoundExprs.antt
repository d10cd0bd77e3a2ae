-- What is read of expressions is in the grammar.
use Rattle.std.proofs.Common.{◌≡◌, ℕ, zero, suc, ◌+◌, ◌≤◌, max, true, false, List, ◌∷◌, length, refl, ap, sym, ◌∙◌, subst, arith}
use Rattle.std.specs.Prelude.{Ok}
use Rattle.gr_scan.specs.declared.token.Place.{Place}
use Rattle.gr_scan.specs.declared.token.Mark.TheVariants as marks
use Rattle.gr_scan.specs.Tokens.{Tok, At, Sign}
use Rattle.gr_scan.specs.Tokens as words
use Rattle.gr_tree.specs.declared.expr.UnaryOp.{UnaryOp}
use Rattle.gr_tree.specs.Exprs.{WrittenType, type_height, Tree, Trees, UnitValue, Paren, Call, Make, MakeSized, Unary}
use Rattle.gr_syntax.specs.Grammar.{after_mark, is_make, unary_mark, SpellsType, SpellsUnary, SpellsExpr, number, text, name, unit, paren, make, make_comma, make_sized, make_sized_comma, unary, alone}
use Rattle.gr_syntax.specs.Reading.{Found, Reads, ◌>>=◌, loop, need, unary_of, operator_at, chain_turn, arguments_at, call_at, close_at, size_at, make_after, make_at, named_at, unit_at, paren_at, word_at, tight, unary_at, type_at, expr_at, exprs_at}
use Rattle.gr_syntax.proofs.Cases.{ok_inj, on_ok, on_look, on_test, Opens, after_is, need_is, unary_is, operator_is}
use Rattle.gr_syntax.proofs.WrittenTypes.{TypeSounds, type_sound}
use Rattle.gr_syntax.proofs.Chains.{strength_low, IsExpr, IsUnary, Sounds, tight_unary, chain_sound}
use Rattle.gr_syntax.proofs.SoundLists.{IsArguments, arguments_from_sound, IsExprList, plain_list_sound}

-- a `)`, perhaps after a comma
on_close : {P : Type 0} (ts rest : List Tok) → close_at ts ≡ Ok rest → ((r : Place) → ts ≡ At r (Sign marks.RightParen) ∷ rest → P) → ((c r : Place) → ts ≡ At c (Sign marks.Comma) ∷ At r (Sign marks.RightParen) ∷ rest → P) → P
unfolding close_at
on_close ts rest q one two =
    on_look (after_mark marks.Comma ts) _ _ (Ok rest) q
    (λ more m q. on_ok (need marks.RightParen more) (λ r. Ok r.1) rest q (λ r er q.
    let o = after_is marks.Comma ts more m in
    two o.place r.0 (o.is ∙ ap (λ ts. At o.place (Sign marks.Comma) ∷ ts) (need_is marks.RightParen more r er ∙ ap (λ ts. At r.0 (Sign marks.RightParen) ∷ ts) (ok_inj q)))))
    (λ m q. on_ok (need marks.RightParen ts) (λ r. Ok r.1) rest q (λ r er q.
    one r.0 (need_is marks.RightParen ts r er ∙ ap (λ ts. At r.0 (Sign marks.RightParen) ∷ ts) (ok_inj q))))

call_from_sound : (h : ℕ) (rec : ℕ → List Tok → Reads Tree) → Sounds h rec → (p q : Place) (x : List ℕ) → is_make x ≡ false → (ts : List Tok) (u : Found Tree) → call_at rec x ts ≡ Ok u → IsUnary (suc h) (At p (words.Name x) ∷ At q (Sign marks.LeftParen) ∷ ts) u
unfolding call_at
call_from_sound h rec snd p q x b ts u e =
    on_ok (arguments_at rec ts) (λ es. Ok (Call x es.0, es.1 + 1, es.2)) u e (λ es ees e.
    let s = arguments_from_sound h rec snd ts es ees in
    subst (λ v. IsUnary (suc h) (At p (words.Name x) ∷ At q (Sign marks.LeftParen) ∷ ts) v) (ok_inj e)
    (record { tree = s.spelled p q x b; high = omega (arith, s.high); fits = omega (arith, s.fits) }))

-- after "make" "(", a type and a comma
module _ (h : ℕ) (rec : ℕ → List Tok → Reads Tree) (snd : Sounds h rec) (p q c : Place) (x : List ℕ) (b : is_make x ≡ true) (ts mid : List Tok) (t : Found WrittenType) (d : SpellsType t.0 ts (At c (Sign marks.Comma) ∷ mid)) (high : t.1 ≡ type_height t.0) (fits : t.1 ≤ h) where
  size_sound : (u : Found Tree) → size_at rec t mid ≡ Ok u → IsUnary (suc h) (At p (words.Name x) ∷ At q (Sign marks.LeftParen) ∷ ts) u
  unfolding size_at
  size_sound u e =
      on_ok (rec 1 mid) (λ v. close_at v.2 >>= λ rest. Ok (MakeSized t.0 v.0, max t.1 v.1 + 1, rest)) u e (λ v ev e.
      on_ok (close_at v.2) (λ rest. Ok (MakeSized t.0 v.0, max t.1 v.1 + 1, rest)) u e (λ rest el e.
      let s = snd 1 mid v (omega arith) ev in
      let tree : SpellsUnary (MakeSized t.0 v.0) (At p (words.Name x) ∷ At q (Sign marks.LeftParen) ∷ ts) rest =
      on_close v.2 rest el
      (λ r is. make_sized b d (subst (λ r. SpellsExpr 1 v.0 mid r) is s.tree))
      (λ k r is. make_sized_comma b d (subst (λ r. SpellsExpr 1 v.0 mid r) is s.tree)) in
      subst (λ v. IsUnary (suc h) (At p (words.Name x) ∷ At q (Sign marks.LeftParen) ∷ ts) v) (ok_inj e)
      (record { tree = tree; high = omega (arith, high, s.high); fits = omega (arith, fits, s.fits) })))

  after_sound : (u : Found Tree) → make_after rec t mid ≡ Ok u → IsUnary (suc h) (At p (words.Name x) ∷ At q (Sign marks.LeftParen) ∷ ts) u
  unfolding make_after
  after_sound u e =
      on_look (after_mark marks.RightParen mid) _ _ (Ok u) e
      (λ rest m e. let o = after_is marks.RightParen mid rest m in
      let tree : SpellsUnary (Make t.0) (At p (words.Name x) ∷ At q (Sign marks.LeftParen) ∷ ts) rest = make_comma b (subst (λ mid. SpellsType t.0 ts (At c (Sign marks.Comma) ∷ mid)) o.is d) in
      subst (λ v. IsUnary (suc h) (At p (words.Name x) ∷ At q (Sign marks.LeftParen) ∷ ts) v) (ok_inj e)
      (record { tree = tree; high = omega (arith, high); fits = omega (arith, fits) }))
      (λ m e. size_sound u e)

make_sound : (h : ℕ) (types : List Tok → Reads WrittenType) (rec : ℕ → List Tok → Reads Tree) → TypeSounds h types → Sounds h rec → (p q : Place) (x : List ℕ) → is_make x ≡ true → (ts : List Tok) (u : Found Tree) → make_at types rec ts ≡ Ok u → IsUnary (suc h) (At p (words.Name x) ∷ At q (Sign marks.LeftParen) ∷ ts) u
unfolding make_at
make_sound h types rec tsnd snd p q x b ts u e =
    on_ok (types ts) _ u e (λ t et e.
    let s = tsnd ts t et in
    on_look (after_mark marks.Comma t.2) _ _ (Ok u) e
    (λ rest m e. let o = after_is marks.Comma t.2 rest m in
    after_sound h rec snd p q o.place x b ts rest t (subst (λ r. SpellsType t.0 ts r) o.is s.tree) s.high s.fits u e)
    (λ m e. on_ok (need marks.RightParen t.2) (λ r. Ok (Make t.0, t.1 + 1, r.1)) u e (λ r er e.
    subst (λ v. IsUnary (suc h) (At p (words.Name x) ∷ At q (Sign marks.LeftParen) ∷ ts) v) (ok_inj e)
    (record { tree = make b (subst (λ r. SpellsType t.0 ts r) (need_is marks.RightParen t.2 r er) s.tree); high = omega (arith, s.high); fits = omega (arith, s.fits) }))))

named_sound : (h : ℕ) (types : List Tok → Reads WrittenType) (rec : ℕ → List Tok → Reads Tree) → TypeSounds h types → Sounds h rec → (p : Place) (x : List ℕ) (ts : List Tok) (u : Found Tree) → named_at types rec x ts ≡ Ok u → IsUnary (suc h) (At p (words.Name x) ∷ ts) u
unfolding named_at
named_sound h types rec tsnd snd p x ts u q =
    on_look (after_mark marks.LeftParen ts) _ _ (Ok u) q
    (λ rest m q. let o = after_is marks.LeftParen ts rest m in
    subst (λ ts. IsUnary (suc h) (At p (words.Name x) ∷ ts) u) (sym o.is)
    (on_test (is_make x) _ _ (Ok u) q
    (λ b q. make_sound h types rec tsnd snd p o.place x b rest u q)
    (λ b q. call_from_sound h rec snd p o.place x b rest u q)))
    (λ m q. subst (λ v. IsUnary (suc h) (At p (words.Name x) ∷ ts) v) (ok_inj q) (record { tree = name; high = refl; fits = omega arith }))

word_sound : (h : ℕ) (types : List Tok → Reads WrittenType) (rec : ℕ → List Tok → Reads Tree) → TypeSounds h types → Sounds h rec → (ts : List Tok) (u : Found Tree) → word_at types rec ts ≡ Ok u → IsUnary (suc h) ts u
unfolding word_at
word_sound h types rec tsnd snd (At p (words.Number n) ∷ ts) u q = subst (λ v. IsUnary (suc h) (At p (words.Number n) ∷ ts) v) (ok_inj q) (record { tree = number; high = refl; fits = omega arith })
word_sound h types rec tsnd snd (At p (words.Text s) ∷ ts) u q = subst (λ v. IsUnary (suc h) (At p (words.Text s) ∷ ts) v) (ok_inj q) (record { tree = text; high = refl; fits = omega arith })
word_sound h types rec tsnd snd (At p (words.Name x) ∷ ts) u q = named_sound h types rec tsnd snd p x ts u q
word_sound h types rec tsnd snd _ u q = absurd (cc)

unit_sound : (h : ℕ) (p : Place) (ts : List Tok) (u : Found Tree) → unit_at ts ≡ Ok u → IsUnary (suc h) (At p (Sign marks.Struct) ∷ ts) u
unfolding unit_at
unit_sound h p ts u q =
    on_ok (need marks.LeftBrace ts) _ u q (λ a ea q.
    on_ok (need marks.RightBrace a.1) _ u q (λ b eb q.
    on_ok (need marks.LeftBrace b.1) _ u q (λ c ec q.
    on_ok (need marks.RightBrace c.1) _ u q (λ d ed q.
    let inner : a.1 ≡ At b.0 (Sign marks.RightBrace) ∷ At c.0 (Sign marks.LeftBrace) ∷ At d.0 (Sign marks.RightBrace) ∷ d.1 =
    need_is marks.RightBrace a.1 b eb ∙ ap (λ r. At b.0 (Sign marks.RightBrace) ∷ r) (need_is marks.LeftBrace b.1 c ec ∙ ap (λ r. At c.0 (Sign marks.LeftBrace) ∷ r) (need_is marks.RightBrace c.1 d ed)) in
    let all : ts ≡ At a.0 (Sign marks.LeftBrace) ∷ At b.0 (Sign marks.RightBrace) ∷ At c.0 (Sign marks.LeftBrace) ∷ At d.0 (Sign marks.RightBrace) ∷ d.1 =
    need_is marks.LeftBrace ts a ea ∙ ap (λ r. At a.0 (Sign marks.LeftBrace) ∷ r) inner in
    subst (λ v. IsUnary (suc h) (At p (Sign marks.Struct) ∷ ts) v) (ok_inj q)
    (record { tree = subst (λ ts. SpellsUnary UnitValue (At p (Sign marks.Struct) ∷ ts) d.1) (sym all) unit; high = refl; fits = omega arith })))))

paren_sound : (h : ℕ) (rec : ℕ → List Tok → Reads Tree) → Sounds h rec → (p : Place) (ts : List Tok) (u : Found Tree) → paren_at rec ts ≡ Ok u → IsUnary (suc h) (At p (Sign marks.LeftParen) ∷ ts) u
unfolding paren_at
paren_sound h rec snd p ts u q =
    on_ok (rec 1 ts) (λ e. need marks.RightParen e.2 >>= λ r. Ok (Paren e.0, e.1 + 1, r.1)) u q (λ e ee q.
    on_ok (need marks.RightParen e.2) (λ r. Ok (Paren e.0, e.1 + 1, r.1)) u q (λ r er q.
    let s = snd 1 ts e (omega arith) ee in
    subst (λ v. IsUnary (suc h) (At p (Sign marks.LeftParen) ∷ ts) v) (ok_inj q)
    (record { tree = paren (subst (λ r. SpellsExpr 1 e.0 ts r) (need_is marks.RightParen e.2 r er) s.tree); high = omega (arith, s.high); fits = omega (arith, s.fits) })))

operand_sound : (h : ℕ) (ts : List Tok) (op : UnaryOp) (mid : List Tok) (e u : Found Tree) → Opens (unary_mark op) ts mid → IsExpr h tight mid e → ◌≡◌ {A = Reads Tree} (Ok (Unary op e.0, e.1 + 1, e.2)) (Ok u) → IsUnary (suc h) ts u
operand_sound h ts op mid e u o s q =
    subst (λ ts. IsUnary (suc h) ts u) (sym o.is) (subst (λ v. IsUnary (suc h) (At o.place (Sign (unary_mark op)) ∷ mid) v) (ok_inj q) (record { tree = unary (tight_unary (omega arith) s.tree); high = omega (arith, s.high); fits = omega (arith, s.fits) }))

pub unary_from_sound : (h : ℕ) (types : List Tok → Reads WrittenType) (rec : ℕ → List Tok → Reads Tree) → TypeSounds h types → Sounds h rec → (ts : List Tok) (u : Found Tree) → unary_at types rec ts ≡ Ok u → IsUnary (suc h) ts u
unfolding unary_at
unary_from_sound h types rec tsnd snd ts u q =
    on_look (after_mark marks.LeftParen ts) _ _ (Ok u) q
    (λ rest m q. let o = after_is marks.LeftParen ts rest m in subst (λ ts. IsUnary (suc h) ts u) (sym o.is) (paren_sound h rec snd o.place rest u q))
    (λ m q. on_look (operator_at unary_of ts) _ _ (Ok u) q
    (λ o is q. on_ok (rec tight o.1) (λ e. Ok (Unary o.0 e.0, e.1 + 1, e.2)) u q (λ e ee q. operand_sound h ts o.0 o.1 e u (operator_is unary_of unary_mark unary_is ts o is) (snd tight o.1 e (omega arith) ee) q))
    (λ is q. on_look (after_mark marks.Struct ts) _ _ (Ok u) q
    (λ rest m q. let o = after_is marks.Struct ts rest m in subst (λ ts. IsUnary (suc h) ts u) (sym o.is) (unit_sound h o.place rest u q))
    (λ m q. word_sound h types rec tsnd snd ts u q)))

pub expr_sound : (h : ℕ) → Sounds h (expr_at h)
unfolding expr_at loop
expr_sound zero l ts u pos q = absurd (cc)
expr_sound (suc h) l ts u pos q =
    on_ok (unary_at (type_at h) (expr_at h) ts) (loop (chain_turn (expr_at h) h l)) u q (λ a ea q.
    let f = unary_from_sound h (type_at h) (expr_at h) (type_sound h) (expr_sound h) ts a ea in
    chain_sound h l (expr_at h) (expr_sound h) pos (suc (length a.2)) ts a u
    (record { k = max l 5; le = omega arith; tree = alone f.tree; binds = omega (arith, strength_low a.2); high = f.high; fits = f.fits })
    q)

pub unary_sound : (h : ℕ) (ts : List Tok) (u : Found Tree) → unary_at (type_at h) (expr_at h) ts ≡ Ok u → IsUnary (suc h) ts u
unary_sound h ts u q = unary_from_sound h (type_at h) (expr_at h) (type_sound h) (expr_sound h) ts u q

pub exprs_sound : (h : ℕ) (ts : List Tok) (u : Found Trees) → exprs_at (expr_at h) false ts ≡ Ok u → IsExprList h ts u
exprs_sound h ts u q = plain_list_sound h (expr_at h) (expr_sound h) ts u q

pub arguments_sound : (h : ℕ) (ts : List Tok) (u : Found Trees) → arguments_at (expr_at h) ts ≡ Ok u → IsArguments h ts u
arguments_sound h ts u q = arguments_from_sound h (expr_at h) (expr_sound h) ts u q

-- a call, its name and its "(" before it
pub call_sound : (h : ℕ) (p q : Place) (x : List ℕ) → is_make x ≡ false → (ts : List Tok) (u : Found Tree) → call_at (expr_at h) x ts ≡ Ok u → IsUnary (suc h) (At p (words.Name x) ∷ At q (Sign marks.LeftParen) ∷ ts) u
call_sound h p q x b ts u e = call_from_sound h (expr_at h) (expr_sound h) p q x b ts u e
