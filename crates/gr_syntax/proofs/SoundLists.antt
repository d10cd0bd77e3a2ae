-- Lists of expressions and arguments of calls: what is read is in the grammar.
use Rattle.std.proofs.Common.{◌≡◌, ℕ, zero, suc, ◌≤◌, max, Bool, true, false, List, ◌∷◌, length, refl, ap, sym, ◌∙◌, subst, arith}
use Rattle.std.specs.Prelude.{Ok}
use Rattle.gr_scan.specs.declared.token.Place.{Place}
use Rattle.gr_scan.specs.declared.token.Mark.TheVariants as marks
use Rattle.gr_scan.specs.Tokens.{Tok, At, Sign}
use Rattle.gr_scan.specs.Tokens as words
use Rattle.gr_tree.specs.Exprs.{Tree, Call, Trees, none, more, height, heights}
use Rattle.gr_syntax.specs.Grammar.{after_mark, is_make, SpellsUnary, SpellsExpr, SpellsExprs, call_none, call, call_comma, last_expr, comma_expr}
use Rattle.gr_syntax.specs.Reading.{Found, Reads, ◌>>=◌, Turn, turned, turns, loop, need, snoc, ends_at, exprs_after, exprs_turn, exprs_at, arguments_at}
use Rattle.gr_syntax.proofs.Cases.{ok_inj, on_ok, on_look, on_test, after_is, need_is}
use Rattle.gr_syntax.proofs.Chains.{IsExpr, Sounds}

abbrev pub append : Trees → Trees → Trees
append none es = es
append (more x xs) es = more x (append xs es)

pub append_snoc : (xs : Trees) (x : Tree) (es : Trees) → append (snoc xs x) es ≡ append xs (more x es)
append_snoc none x es = refl
append_snoc (more y xs) x es = ap (more y) (append_snoc xs x es)

pub snoc_append : (xs : Trees) (x : Tree) → snoc xs x ≡ append xs (more x none)
snoc_append none x = refl
snoc_append (more y xs) x = ap (more y) (snoc_append xs x)

-- expressions, and a comma after them where one may stand
pub data Listed : Bool → Trees → List Tok → List Tok → Type 0 where
  plain : {t : Bool} {es : Trees} {ts rest : List Tok} → SpellsExprs es ts rest → Listed t es ts rest
  trailing : {p : Place} {es : Trees} {ts rest : List Tok} → SpellsExprs es ts (At p (Sign marks.Comma) ∷ rest) → Listed true es ts rest

-- what reading expressions answers
pub record IsExprs (t : Bool) (h : ℕ) (acc : Trees) (k : ℕ) (ts : List Tok) (u : Found Trees) : Type 0 where
  pub es : Trees
  pub all : u.0 ≡ append acc es
  pub listed : Listed t es ts u.2
  pub high : u.1 ≡ max k (heights es)
  pub fits : heights es ≤ h

before : {t : Bool} {x : Tree} {es : Trees} {ts mid rest : List Tok} {p : Place} → SpellsExpr 1 x ts (At p (Sign marks.Comma) ∷ mid) → Listed t es mid rest → Listed t (more x es) ts rest
before d (plain ds) = plain (comma_expr d ds)
before d (trailing ds) = trailing (comma_expr d ds)

one_more : {t : Bool} {h : ℕ} {acc : Trees} {k : ℕ} {ts mid : List Tok} {x : Tree} {p : Place} {u : Found Trees} → SpellsExpr 1 x ts (At p (Sign marks.Comma) ∷ mid) → height x ≤ h → IsExprs t h (snoc acc x) (max k (height x)) mid u → IsExprs t h acc k ts u
one_more {acc = acc} {x = x} d le a = record {
  es = more x a.es;
  all = a.all ∙ append_snoc acc x a.es;
  listed = before d a.listed;
  high = omega (arith, a.high);
  fits = omega (arith, a.fits);
}

ends_trailing : (t : Bool) (ts : List Tok) → ends_at t ts ≡ true → t ≡ true
unfolding ends_at
ends_trailing false ts e = absurd (cc)
ends_trailing true ts e = refl

exprs_last : (t : Bool) (h : ℕ) (acc : Trees) (k : ℕ) (ts : List Tok) (x : Found Tree) (rest : List Tok) (u : Found Trees) → IsExpr h 1 ts x → Listed t (more x.0 none) ts rest → ◌≡◌ {A = Reads Trees} (Ok (snoc acc x.0, max k x.1, rest)) (Ok u) → IsExprs t h acc k ts u
exprs_last t h acc k ts x rest u s l q =
    subst (λ v. IsExprs t h acc k ts v) (ok_inj q) (record { es = more x.0 none; all = snoc_append acc x.0; listed = l; high = omega (arith, s.high); fits = omega (arith, s.high, s.fits) })

abbrev ExprsRun : Bool → ℕ → (ℕ → List Tok → Reads Tree) → ℕ → Type 0
ExprsRun t h rec n = (acc : Trees) (k : ℕ) (ts : List Tok) (u : Found Trees) → turns (exprs_turn rec t) n (acc, k, ts) ≡ Ok u → IsExprs t h acc k ts u

expr_done : (t : Bool) (h : ℕ) (rec : ℕ → List Tok → Reads Tree) (n : ℕ) → ExprsRun t h rec n → (acc : Trees) (k : ℕ) (ts : List Tok) (x : Found Tree) (u : Found Trees) → IsExpr h 1 ts x → (exprs_after t (acc, k, ts) x x.2 >>= turned (turns (exprs_turn rec t) n)) ≡ Ok u → IsExprs t h acc k ts u
expr_done t h rec n ih acc k ts x u s q =
    let next : Turn (Found Trees) → Reads Trees = turned (turns (exprs_turn rec t) n) in
    on_ok (exprs_after t (acc, k, ts) x x.2) next u q (λ v ev q.
    on_look (after_mark marks.Comma x.2) _ _ (Ok v) ev
    (λ rest m ev. let o = after_is marks.Comma x.2 rest m in
    let d : SpellsExpr 1 x.0 ts (At o.place (Sign marks.Comma) ∷ rest) = subst (λ r. SpellsExpr 1 x.0 ts r) o.is s.tree in
    on_test (ends_at t rest) _ _ (Ok v) ev
    (λ e ev. exprs_last t h acc k ts x rest u s
    (subst (λ t. Listed t (more x.0 none) ts rest) (sym (ends_trailing t rest e)) (trailing (last_expr d)))
    (subst (λ d. next d ≡ Ok u) (sym (ok_inj ev)) q))
    (λ e ev. let more_of : IsExprs t h (snoc acc x.0) (max k x.1) rest u = ih (snoc acc x.0) (max k x.1) rest u (subst (λ d. next d ≡ Ok u) (sym (ok_inj ev)) q) in
    one_more d (omega (arith, s.high, s.fits)) (subst (λ j. IsExprs t h (snoc acc x.0) (max k j) rest u) s.high more_of)))
    (λ m ev. exprs_last t h acc k ts x x.2 u s (plain (last_expr s.tree)) (subst (λ d. next d ≡ Ok u) (sym (ok_inj ev)) q)))

exprs_sound_run : (t : Bool) (h : ℕ) (rec : ℕ → List Tok → Reads Tree) → Sounds h rec → (n : ℕ) → ExprsRun t h rec n
unfolding exprs_turn
exprs_sound_run t h rec snd zero acc k ts u q = absurd (cc)
exprs_sound_run t h rec snd (suc n) acc k ts u q =
    on_ok (rec 1 ts >>= λ e. exprs_after t (acc, k, ts) e e.2) (turned (turns (exprs_turn rec t) n)) u q (λ v ev q.
    on_ok (rec 1 ts) (λ e. exprs_after t (acc, k, ts) e e.2) v ev (λ x ex ev.
    expr_done t h rec n (exprs_sound_run t h rec snd n) acc k ts x u (snd 1 ts x (omega arith) ex) (rw ev q)))

-- what reading a whole list answers
pub record IsList (t : Bool) (h : ℕ) (ts : List Tok) (u : Found Trees) : Type 0 where
  pub listed : Listed t u.0 ts u.2
  pub high : u.1 ≡ heights u.0
  pub fits : u.1 ≤ h

pub list_sound : (t : Bool) (h : ℕ) (rec : ℕ → List Tok → Reads Tree) → Sounds h rec → (ts : List Tok) (u : Found Trees) → exprs_at rec t ts ≡ Ok u → IsList t h ts u
unfolding exprs_at loop
list_sound t h rec snd ts u q =
    let s = exprs_sound_run t h rec snd (suc (length ts)) none 0 ts u q in
    let same : heights u.0 ≡ heights s.es = ap heights s.all in
    record { listed = subst (λ es. Listed t es ts u.2) (sym s.all) s.listed; high = omega (arith, s.high, same); fits = omega (arith, s.high, s.fits) }

only_plain : {es : Trees} {ts rest : List Tok} → Listed false es ts rest → SpellsExprs es ts rest
only_plain (plain d) = d

-- what reading expressions with commas between them answers
pub record IsExprList (h : ℕ) (ts : List Tok) (u : Found Trees) : Type 0 where
  pub spelled : SpellsExprs u.0 ts u.2
  pub high : u.1 ≡ heights u.0
  pub fits : u.1 ≤ h

pub plain_list_sound : (h : ℕ) (rec : ℕ → List Tok → Reads Tree) → Sounds h rec → (ts : List Tok) (u : Found Trees) → exprs_at rec false ts ≡ Ok u → IsExprList h ts u
plain_list_sound h rec snd ts u q = let s = list_sound false h rec snd ts u q in record { spelled = only_plain s.listed; high = s.high; fits = s.fits }

-- what reading the arguments of a call answers
pub record IsArguments (h : ℕ) (ts : List Tok) (u : Found Trees) : Type 0 where
  pub spelled : (p q : Place) (x : List ℕ) → is_make x ≡ false → SpellsUnary (Call x u.0) (At p (words.Name x) ∷ At q (Sign marks.LeftParen) ∷ ts) u.2
  pub high : u.1 ≡ heights u.0
  pub fits : u.1 ≤ h

listed_call : {t : Bool} {es : Trees} {ts mid rest : List Tok} → Listed t es ts mid → (r : Place) → mid ≡ At r (Sign marks.RightParen) ∷ rest → (p q : Place) (x : List ℕ) → is_make x ≡ false → SpellsUnary (Call x es) (At p (words.Name x) ∷ At q (Sign marks.LeftParen) ∷ ts) rest
listed_call (plain {es = es} {ts = ts} d) r e p q x b = call b (subst (λ mid. SpellsExprs es ts mid) e d)
listed_call (trailing {p = c} {es = es} {ts = ts} d) r e p q x b = call_comma b (subst (λ mid. SpellsExprs es ts (At c (Sign marks.Comma) ∷ mid)) e d)

pub arguments_from_sound : (h : ℕ) (rec : ℕ → List Tok → Reads Tree) → Sounds h rec → (ts : List Tok) (u : Found Trees) → arguments_at rec ts ≡ Ok u → IsArguments h ts u
unfolding arguments_at
arguments_from_sound h rec snd ts u q =
    on_look (after_mark marks.RightParen ts) _ _ (Ok u) q
    (λ rest m q. let o = after_is marks.RightParen ts rest m in
    subst (λ v. IsArguments h ts v) (ok_inj q) (record {
      spelled = λ p q x b. subst (λ ts. SpellsUnary (Call x none) (At p (words.Name x) ∷ At q (Sign marks.LeftParen) ∷ ts) rest) (sym o.is) (call_none b);
      high = refl;
      fits = omega arith;
    }))
    (λ m q. on_ok (exprs_at rec true ts) (λ es. need marks.RightParen es.2 >>= λ r. Ok (es.0, es.1, r.1)) u q (λ es ees q.
    on_ok (need marks.RightParen es.2) (λ r. Ok (es.0, es.1, r.1)) u q (λ r er q.
    let s = list_sound true h rec snd ts es ees in
    subst (λ v. IsArguments h ts v) (ok_inj q) (record { spelled = listed_call s.listed r.0 (need_is marks.RightParen es.2 r er); high = s.high; fits = s.fits }))))
