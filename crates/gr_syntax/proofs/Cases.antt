-- Goes by cases on what a reading, a look-up or a test gave.
use Rattle.std.proofs.Common.{◌≡◌, ℕ, Bool, true, false, cond, List, [], ◌∷◌, refl, ap, sym, ◌∙◌, subst}
use Rattle.std.specs.Prelude.{Option, Some, None, Result, Ok, Err}
use Rattle.std.proofs.lemmas.Option.{same_Some}
use Rattle.gr_scan.specs.contracts.token.Mark.{the_type}
use Rattle.gr_scan.specs.declared.token.Place.{Place}
use Rattle.gr_scan.specs.declared.token.Mark.{Mark}
use Rattle.gr_scan.specs.declared.token.Mark.TheVariants as marks
use Rattle.gr_scan.specs.Tokens.{Tok, At, Word, Sign}
use Rattle.gr_scan.specs.Tokens as words
use denote.Enum.Bare.{sameb, same_true}
use Rattle.gr_tree.specs.declared.expr.UnaryOp.{UnaryOp}
use Rattle.gr_tree.specs.declared.expr.BinaryOp.{BinaryOp}
use Rattle.gr_syntax.specs.Grammar.{after_mark, binary_mark, unary_mark}
use Rattle.gr_syntax.specs.Reading.{ReadError, Wrong, High, Found, Reads, ◌>>=◌, Turn, Stop, Go, match_after, binary_of, unary_of, operator_at, name_at, need}

pub ok_inj : {A : Type 0} {x y : A} → ◌≡◌ {A = Result A ReadError} (Ok x) (Ok y) → x ≡ y
ok_inj e = cc

pub wrong≢ok : {A : Type 0} {Z : Type 0} (x : A) → ◌≡◌ {A = Result A ReadError} (Err Wrong) (Ok x) → Z
wrong≢ok x e = absurd (cc)

-- what a reading answered
pub on_ok : {A B P : Type 0} (r : Result A ReadError) (f : A → Result B ReadError) (y : B) → (r >>= f) ≡ Ok y → ((x : A) → r ≡ Ok x → f x ≡ Ok y → P) → P
on_ok (Ok x) f y e k = k x refl e
on_ok (Err d) f y e k = absurd (cc)

-- which of two readings failed
pub on_err : {A B P : Type 0} (r : Result A ReadError) (f : A → Result B ReadError) (d : ReadError) → (r >>= f) ≡ Err d → (r ≡ Err d → P) → ((x : A) → r ≡ Ok x → f x ≡ Err d → P) → P
on_err (Ok x) f d e k n = n x refl e
on_err {A = A} (Err g) f d e k n = let same : ◌≡◌ {A = Result A ReadError} (Err g) (Err d) = cc in k same

-- where a reading went wrong
pub on_high : {A B P : Type 0} (r : Result A ReadError) (f : A → Result B ReadError) → (r >>= f) ≡ Err High → (r ≡ Err High → P) → ((x : A) → r ≡ Ok x → f x ≡ Err High → P) → P
on_high (Ok x) f e k n = n x refl e
on_high (Err Wrong) f e k n = absurd (cc)
on_high (Err High) f e k n = k refl

pub ok≢high : {A Z : Type 0} {x : A} → ◌≡◌ {A = Result A ReadError} (Ok x) (Err High) → Z
ok≢high q = absurd (cc)

-- the last turn of a loop gives no fault
pub stop_low : {A Z : Type 0} (next : Turn (Found A) → Reads A) (s : Found A) (t : Turn (Found A)) → Stop s ≡ t → ((s : Found A) → next (Stop s) ≡ Ok s) → next t ≡ Err High → Z
stop_low next s t e n q = ok≢high (sym (n s) ∙ ap next e ∙ q)

-- what a turn left
pub go_inj : {A : Type 0} (s t : Found A) → ◌≡◌ {A = Result (Turn (Found A)) ReadError} (Ok (Go s)) (Ok (Go t)) → s.2 ≡ t.2
go_inj s t e = let same : s ≡ t = cc in ap (λ u. u.2) same

pub stop≢go : {A : Type 0} {Z : Type 0} (s t : A) → ◌≡◌ {A = Result (Turn A) ReadError} (Ok (Stop s)) (Ok (Go t)) → Z
stop≢go s t e = absurd (cc)

-- whether a look-up found something
pub on_look : {A B P : Type 0} (o : Option A) (f : A → B) (y z : B) → match_after o f y ≡ z → ((x : A) → o ≡ Some x → f x ≡ z → P) → (o ≡ None → y ≡ z → P) → P
on_look (Some x) f y z e k n = k x refl e
on_look None f y z e k n = n refl e

-- which way a test went
pub on_test : {A P : Type 0} (b : Bool) (x y z : A) → cond b x y ≡ z → (b ≡ true → x ≡ z → P) → (b ≡ false → y ≡ z → P) → P
on_test true x y z e t f = t refl e
on_test false x y z e t f = f refl e

-- the mark comes first, and then the rest
pub record Opens (m : Mark) (ts rest : List Tok) : Type 0 where
  pub place : Place
  pub is : ts ≡ At place (Sign m) ∷ rest

pub after_is : (m : Mark) (ts rest : List Tok) → after_mark m ts ≡ Some rest → Opens m ts rest
unfolding after_mark
after_is m (At p (Sign k) ∷ ts) rest q =
    on_test (sameb the_type k m) (Some ts) None (Some rest) q
    (λ t e. let same : k ≡ m = same_true the_type tt k m t in let tail : ts ≡ rest = same_Some _ _ e in record { place = p; is = cc })
    (λ t e. absurd (cc))
after_is m _ rest q = absurd (cc)

pub name_is : (ts : List Tok) (x : List ℕ × List Tok) → name_at ts ≡ Ok x → (p : Place) × (ts ≡ At p (words.Name x.0) ∷ x.1)
unfolding name_at
name_is (At p (words.Name y) ∷ ts) x q = let same : (y, ts) ≡ x = ok_inj q in (p, cc)
name_is _ x q = absurd (cc)

own_place : {p q : Place} {w v : Word} {ts rest : List Tok} → At p w ∷ ts ≡ At q v ∷ rest → At p w ∷ ts ≡ At p v ∷ rest
own_place e = cc

pub need_is : (m : Mark) (ts : List Tok) (r : Place × List Tok) → need m ts ≡ Ok r → ts ≡ At r.0 (Sign m) ∷ r.1
unfolding need
need_is m [] r q = absurd (cc)
need_is m (At p w ∷ ts) r q =
    on_look (after_mark m (At p w ∷ ts)) _ _ (Ok r) q
    (λ rest e is. subst (λ (r : Place × List Tok). At p w ∷ ts ≡ At r.0 (Sign m) ∷ r.1) (ok_inj is) (own_place (after_is m (At p w ∷ ts) rest e).is))
    (λ e is. absurd (cc))

pub binary_is : (m : Mark) (op : BinaryOp) → binary_of m ≡ Some op → m ≡ binary_mark op
unfolding binary_of
binary_is marks.Star op e = ap binary_mark (same_Some _ _ e)
binary_is marks.Slash op e = ap binary_mark (same_Some _ _ e)
binary_is marks.Percent op e = ap binary_mark (same_Some _ _ e)
binary_is marks.ShiftLeft op e = ap binary_mark (same_Some _ _ e)
binary_is marks.ShiftRight op e = ap binary_mark (same_Some _ _ e)
binary_is marks.And op e = ap binary_mark (same_Some _ _ e)
binary_is marks.AndNot op e = ap binary_mark (same_Some _ _ e)
binary_is marks.Plus op e = ap binary_mark (same_Some _ _ e)
binary_is marks.Minus op e = ap binary_mark (same_Some _ _ e)
binary_is marks.Or op e = ap binary_mark (same_Some _ _ e)
binary_is marks.Caret op e = ap binary_mark (same_Some _ _ e)
binary_is marks.Equal op e = ap binary_mark (same_Some _ _ e)
binary_is marks.NotEqual op e = ap binary_mark (same_Some _ _ e)
binary_is marks.Less op e = ap binary_mark (same_Some _ _ e)
binary_is marks.LessEqual op e = ap binary_mark (same_Some _ _ e)
binary_is marks.Greater op e = ap binary_mark (same_Some _ _ e)
binary_is marks.GreaterEqual op e = ap binary_mark (same_Some _ _ e)
binary_is marks.AndAnd op e = ap binary_mark (same_Some _ _ e)
binary_is marks.OrOr op e = ap binary_mark (same_Some _ _ e)
binary_is _ op e = absurd (cc)

pub unary_is : (m : Mark) (op : UnaryOp) → unary_of m ≡ Some op → m ≡ unary_mark op
unfolding unary_of
unary_is marks.Plus op e = ap unary_mark (same_Some _ _ e)
unary_is marks.Minus op e = ap unary_mark (same_Some _ _ e)
unary_is marks.Not op e = ap unary_mark (same_Some _ _ e)
unary_is marks.Caret op e = ap unary_mark (same_Some _ _ e)
unary_is marks.Arrow op e = ap unary_mark (same_Some _ _ e)
unary_is _ op e = absurd (cc)

-- the operator comes first, and then the rest
pub operator_is : {O : Type 0} (of : Mark → Option O) (mark : O → Mark) → ((m : Mark) (op : O) → of m ≡ Some op → m ≡ mark op) → (ts : List Tok) (o : O × List Tok) → operator_at of ts ≡ Some o → Opens (mark o.0) ts o.1
operator_is {O} of mark all (At p (Sign m) ∷ ts) o q =
    on_look (of m) _ _ (Some o) q
    (λ op e is. subst (λ (o : O × List Tok). Opens (mark o.0) (At p (Sign m) ∷ ts) o.1) (same_Some _ _ is) (record { place = p; is = ap (λ k. At p (Sign k) ∷ ts) (all m op e) }))
    (λ e is. absurd (cc))
operator_is {O} of mark all _ o q = absurd (cc)

-- no mark is missed because of too little height
pub need_low : {Z : Type 0} (m : Mark) (ts : List Tok) → need m ts ≡ Err High → Z
unfolding need
need_low m [] q = absurd (cc)
need_low m (At p w ∷ ts) q = on_look (after_mark m (At p w ∷ ts)) _ _ (Err High) q (λ rest e q. absurd (cc)) (λ e q. absurd (cc))

pub name_low : {Z : Type 0} (ts : List Tok) → name_at ts ≡ Err High → Z
unfolding name_at
name_low (At p (words.Name x) ∷ ts) q = absurd (cc)
name_low _ q = absurd (cc)
