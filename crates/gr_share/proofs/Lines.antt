-- Beginnings of lists, and the lines of one asker.
use Rattle.std.proofs.Common.{◌≡◌, ◌≢◌, ◌⊎◌, ℕ, zero, suc, ◌<◌, ◌≤◌, ◌==◌, Bool, true, false, true≢false, if◌then◌else◌, List, [], ◌∷◌, ◌++◌, length, refl, ap, sym, ◌∙◌, arith, inl, inr, append_assoc, length-append, eq-eqb, ne_eqb}
use Rattle.std.proofs.lemmas.List.{append-nil}
use mathlib.Core.List.{IsPrefix}
use mathlib.Core.Option.{some, some-injective, some-ne-none}
use lib.ListN.{get_elem?}
use Rattle.gr_share.specs.Lines.{Line}
use Rattle.gr_share.specs.Ties.{asked, front, settled, AskedUpTo}

pub at_snoc : {A : Type 0} (l : List A) (a b : A) (j : ℕ) → get_elem? (l ++ a ∷ []) j ≡ some b → (get_elem? l j ≡ some b) ⊎ ((j ≡ length l) × (a ≡ b))
at_snoc [] a b zero e = inr (refl, some-injective a b e)
at_snoc [] a b (suc j) e = absurd (some-ne-none b (sym e))
at_snoc (x ∷ xs) a b zero e = inl e
at_snoc (x ∷ xs) a b (suc j) e = elim (at_snoc xs a b j e) [ inl was ↦ inl was | inr t ↦ inr (ap suc t.0, t.1) ]

pub prefix_self : {A : Type 0} (xs : List A) → IsPrefix xs xs
prefix_self xs = ([], append-nil xs)

pub prefix_trans : {A : Type 0} (xs ys zs : List A) → IsPrefix xs ys → IsPrefix ys zs → IsPrefix xs zs
prefix_trans xs ys zs p q = (p.0 ++ q.0, sym (append_assoc xs p.0 q.0) ∙ (ap (λ w. w ++ q.0) p.1 ∙ q.1))

pub prefix_length : {A : Type 0} (xs ys : List A) → IsPrefix xs ys → length xs ≤ length ys
prefix_length xs ys p = omega (arith, sym (ap length p.1) ∙ length-append xs p.0)

-- a beginning as long as the whole is the whole
pub prefix_whole : {A : Type 0} (xs ys : List A) → IsPrefix xs ys → length ys ≤ length xs → xs ≡ ys
prefix_whole [] [] p le = refl
prefix_whole [] (y ∷ ys) p le = absurd (omega arith)
prefix_whole (x ∷ xs) [] p le = absurd (cc (p.1))
prefix_whole (x ∷ xs) (y ∷ ys) p le =
    let rest = prefix_whole xs ys (p.0, cc (p.1)) (omega arith) in cc (p.1, rest)

-- two lists that begin each other are one
pub prefix_both : {A : Type 0} (xs ys : List A) → IsPrefix xs ys → IsPrefix ys xs → xs ≡ ys
prefix_both xs ys p q = prefix_whole xs ys p (prefix_length ys xs q)

asked_step : (b : Bool) (x : Line) (p q r : List Line) → p ≡ q ++ r → (if b then x ∷ p else p) ≡ (if b then x ∷ q else q) ++ r
asked_step true x p q r e = ap (λ l. x ∷ l) e
asked_step false x p q r e = e

pub asked-append : (a : ℕ) (xs ys : List Line) → asked a (xs ++ ys) ≡ asked a xs ++ asked a ys
asked-append a [] ys = refl
asked-append a (x ∷ xs) ys = asked_step (x.asker == a) x (asked a (xs ++ ys)) (asked a xs) (asked a ys) (asked-append a xs ys)

asked_own : (a : ℕ) (x : Line) → x.asker ≡ a → asked a (x ∷ []) ≡ x ∷ []
asked_own a x own = ap (λ (b : Bool). if b then x ∷ [] else []) (eq-eqb x.asker a own)

asked_other : (a : ℕ) (x : Line) → x.asker ≢ a → asked a (x ∷ []) ≡ []
asked_other a x other = ap (λ (b : Bool). if b then x ∷ [] else []) (ne_eqb x.asker a other)

pub asked-own : (a : ℕ) (xs : List Line) (x : Line) → x.asker ≡ a → asked a (xs ++ x ∷ []) ≡ asked a xs ++ x ∷ []
asked-own a xs x own = asked-append a xs (x ∷ []) ∙ ap (λ l. asked a xs ++ l) (asked_own a x own)

pub asked-other : (a : ℕ) (xs : List Line) (x : Line) → x.asker ≢ a → asked a (xs ++ x ∷ []) ≡ asked a xs
asked-other a xs x other = asked-append a xs (x ∷ []) ∙ (ap (λ l. asked a xs ++ l) (asked_other a x other) ∙ append-nil (asked a xs))

pub asked_prefix : (a : ℕ) (xs ys : List Line) → IsPrefix xs ys → IsPrefix (asked a xs) (asked a ys)
asked_prefix a xs ys p = (asked a p.0, sym (asked-append a xs p.0) ∙ ap (asked a) p.1)

pub front-push : (xs : List Line) (x : Line) → front (xs ++ x ∷ []) ≡ xs
front-push [] x = refl
front-push (y ∷ []) x = refl
front-push (y ∷ z ∷ xs) x = ap (λ l. y ∷ l) (front-push (z ∷ xs) x)

front-append : (xs : List Line) (y : Line) (ys : List Line) → front (xs ++ y ∷ ys) ≡ xs ++ front (y ∷ ys)
front-append [] y ys = refl
front-append (x ∷ []) y ys = refl
front-append (x ∷ z ∷ xs) y ys = ap (λ l. x ∷ l) (front-append (z ∷ xs) y ys)

front_prefix : (xs : List Line) → IsPrefix (front xs) xs
front_prefix [] = ([], refl)
front_prefix (x ∷ []) = (x ∷ [], refl)
front_prefix (x ∷ y ∷ ys) = (let r = front_prefix (y ∷ ys) in r.0, ap (λ l. x ∷ l) (front_prefix (y ∷ ys)).1)

pub settled_prefix : (word : ℕ) (log : List Line) → IsPrefix (settled word log) log
settled_prefix zero log = prefix_self log
settled_prefix (suc word) log = front_prefix log

pub settled-push : (word : ℕ) (log : List Line) (x : Line) → 0 < word → settled word (log ++ x ∷ []) ≡ log
settled-push zero log x h = absurd (omega arith)
settled-push (suc word) log x h = front-push log x

pub settled-named : (word : ℕ) (log : List Line) → 0 < word → settled word log ≡ front log
settled-named zero log h = absurd (omega arith)
settled-named (suc word) log h = refl

pub up_to-more : (n m : ℕ) (log : List Line) → n ≤ m → AskedUpTo n log → AskedUpTo m log
up_to-more n m [] le h = tt
up_to-more n m (x ∷ xs) le h = (let first = h.0 in omega arith, up_to-more n m xs le h.1)

pub up_to-push : (n : ℕ) (log : List Line) (x : Line) → AskedUpTo n log → x.asker ≤ n → AskedUpTo n (log ++ x ∷ [])
up_to-push n [] x h le = (le, tt)
up_to-push n (y ∷ ys) x h le = (h.0, up_to-push n ys x h.1 le)

asked_skip : (b : Bool) (x : Line) (p : List Line) → b ≡ false → p ≡ [] → (if b then x ∷ p else p) ≡ []
asked_skip true x p isnt e = absurd (true≢false isnt)
asked_skip false x p isnt e = e

-- a later asker has no line
pub asked_none : (n a : ℕ) (log : List Line) → n < a → AskedUpTo n log → asked a log ≡ []
asked_none n a [] lt h = refl
asked_none n a (x ∷ xs) lt h = asked_skip (x.asker == a) x (asked a xs) (ne_eqb x.asker a (λ e. let first = h.0 in omega arith)) (asked_none n a xs lt h.1)

pub settled_none : (word n a : ℕ) (log : List Line) → n < a → AskedUpTo n log → asked a (settled word log) ≡ []
settled_none word n a log lt h = nothing_before (asked a (settled word log)) (asked a log) (asked_prefix a (settled word log) log (settled_prefix word log)) (asked_none n a log lt h)
  where
    nothing_before : (xs ys : List Line) → IsPrefix xs ys → ys ≡ [] → xs ≡ []
    nothing_before [] ys p e = refl
    nothing_before (x ∷ xs) ys p e = absurd (cc (p.1, e))

-- who knows a beginning that has one line of the asker more than its calls, knows the whole
pub whole : (a : ℕ) (log cs es : List Line) (e : Line) → cs ≡ asked a (front log) → e.asker ≡ a → length cs ≤ length (asked a es)
    → (rest : List Line) → (es ++ e ∷ []) ++ rest ≡ log → log ≡ es ++ e ∷ []
whole a log cs es e calls own le [] is = sym is ∙ append-nil (es ++ e ∷ [])
whole a log cs es e calls own le (r ∷ rs) is =
    let mid : front log ≡ (es ++ e ∷ []) ++ front (r ∷ rs) = ap front (sym is) ∙ front-append (es ++ e ∷ []) r rs in
    let all : cs ≡ (asked a es ++ e ∷ []) ++ asked a (front (r ∷ rs)) =
    calls ∙ (ap (asked a) mid ∙ (asked-append a (es ++ e ∷ []) (front (r ∷ rs)) ∙ ap (λ l. l ++ asked a (front (r ∷ rs))) (asked-own a es e own))) in
    let n : length cs ≡ length ((asked a es ++ e ∷ []) ++ asked a (front (r ∷ rs))) = ap length all in
    absurd (omega (arith, n, length-append (asked a es ++ e ∷ []) (asked a (front (r ∷ rs))), length-append (asked a es) (e ∷ [])))
