-- Names that are declared together are free one after another.
use Rattle.std.proofs.Common.{◌≡◌, ℕ, Bool, true, false, List, [], ◌∷◌, ◌++◌, length, refl, ap, sym, subst, true≢false, inl, inr, nat_eq}
use Rattle.std.specs.Prelude.{Some, is_some, not, ◌&&◌, ◌||◌}
use Rattle.std.specs.Cmp.Lexicographic.{pointwise}
use Rattle.std.specs.List.{list_all}
use Rattle.std.proofs.lemmas.Bool.{not-true, cases_Bool}
use Rattle.gr_program.specs.Types.{Ty}
use Rattle.gr_program.specs.Programs.{Expr, Exprs}
use Rattle.gr_typing.specs.Names.{among, predeclared, is_blank, are_distinct}
use Rattle.gr_typing.specs.Scopes.{Block, Scope, In, in_block, is_here, is_old, is_free, declared}
use Rattle.gr_typing.specs.Values.{Value}
use Rattle.gr_typing.specs.Assignments.{may_define}
use Rattle.gr_exprs.specs.Finding.{◌>>=◌, where_true, typed}
use Rattle.gr_types.specs.Taking.{target, fit, accepts, Taker, Old, New, old_taker, taker, takers, old_share, new_share, share, with_share, shares, settled, may_settle, may_settle_all}
use Rattle.gr_exprs.proofs.Finds.{some_inj, none_some, on_some, on_true}
use Rattle.gr_types.proofs.FindsSimple.{on_cond}

-- tests
both : (a b : Bool) → a ≡ true → b ≡ true → (a && b) ≡ true
both a b e f = rw (e, f) refl

and_left : (a b : Bool) → (a && b) ≡ true → a ≡ true
and_left true b e = refl
and_left false b e = e

and_right : (a b : Bool) → (a && b) ≡ true → b ≡ true
and_right true b e = e
and_right false b e = absurd (true≢false (sym e))

neither : (a b : Bool) → (a || b) ≡ false → (a ≡ false) × (b ≡ false)
neither true b e = absurd (true≢false e)
neither false b e = (refl, e)

-- the names that takers declare are new to a scope
abbrev pub suits : Scope → List ℕ → Taker → Bool
suits s x (Old k) = true
suits s x (New t) = not (is_old s x)

abbrev pub all_suit : Scope → List (List ℕ) → List Taker → Bool
all_suit s [] ks = true
all_suit s (x ∷ xs) [] = true
all_suit s (x ∷ xs) (k ∷ ks) = suits s x k && all_suit s xs ks

new_suits : (s : Scope) (x : List ℕ) (t : Ty) → is_old s x ≡ false → suits s x (New t) ≡ true
new_suits s x t e = ap not e

taker_suits : (s : Scope) (x : List ℕ) (t : Ty) (k : Taker) → taker s x t ≡ Some k → suits s x k ≡ true
taker_suits s x t k q = on_cond (is_old s x) (old_taker s x t) (Some (New t)) k q
    (λ old q. on_some (target s x) (λ j. where_true (accepts s j t) (Old j)) k q (λ j ij q.
    on_true (accepts s j t) (Old j) k q (λ a q. subst (λ k. suits s x k ≡ true) q refl)))
    (λ new q. subst (λ k. suits s x k ≡ true) (some_inj q) (new_suits s x t new))

pub takers_suit : (s : Scope) (xs : List (List ℕ)) (ts : List Ty) (ks : List Taker) → takers s xs ts ≡ Some ks → all_suit s xs ks ≡ true
takers_suit s [] ts ks q = refl
takers_suit s (x ∷ xs) [] ks q = none_some q
takers_suit s (x ∷ xs) (t ∷ ts) ks q = on_some (taker s x t) (λ k. takers s xs ts >>= λ ks. Some (k ∷ ks)) ks q (λ k ik q.
    on_some (takers s xs ts) (λ ks. Some (k ∷ ks)) ks q (λ js ijs q.
    subst (λ ks. all_suit s (x ∷ xs) ks ≡ true) (some_inj q) (both (suits s x k) (all_suit s xs js) (taker_suits s x t k ik) (takers_suit s xs ts js ijs))))

share_suits : (s : Scope) (x : List ℕ) (v : Value) (p : Taker × Expr) → share s x v ≡ Some p → suits s x p.0 ≡ true
share_suits s x v p q = on_cond (is_old s x) (old_share s x v) (typed v >>= new_share) p q
    (λ old q. on_some (target s x) (λ k. fit s k v >>= λ r. Some (Old k, r)) p q (λ k ik q.
    on_some (fit s k v) (λ r. Some (Old k, r)) p q (λ r ir q. subst (λ p. suits s x p.0 ≡ true) (some_inj q) refl)))
    (λ new q. on_some (typed v) new_share p q (λ w iw q. subst (λ p. suits s x p.0 ≡ true) (some_inj q) (new_suits s x w.0 new)))

pub shares_suit : (s : Scope) (xs : List (List ℕ)) (vs : List Value) (p : List Taker × Exprs) → shares s xs vs ≡ Some p → all_suit s xs p.0 ≡ true
shares_suit s [] vs p q = refl
shares_suit s (x ∷ xs) [] p q = none_some q
shares_suit s (x ∷ xs) (v ∷ vs) p q = on_some (share s x v) (λ a. shares s xs vs >>= λ rest. Some (with_share a rest)) p q (λ a ia q.
    on_some (shares s xs vs) (λ rest. Some (with_share a rest)) p q (λ rest irest q.
    subst (λ p. all_suit s (x ∷ xs) p.0 ≡ true) (some_inj q) (both (suits s x a.0) (all_suit s xs rest.0) (share_suits s x v a ia) (shares_suit s xs vs rest irest))))

-- a block after declarations
among_pushed : (before : List (List ℕ)) (x y : List ℕ) → among (before ++ (x ∷ [])) y ≡ false → (among before y ≡ false) × (pointwise nat_eq y x ≡ false)
among_pushed [] x y e = (refl, (neither (pointwise nat_eq y x) false e).0)
among_pushed (z ∷ before) x y e =
    let p = neither (pointwise nat_eq y z) (among (before ++ (x ∷ [])) y) e in
    let q = among_pushed before x y p.1 in
    (rw p.0 q.0, q.1)

still_absent : (here : Block) (x y : List ℕ) (n : ℕ) → is_some (in_block here y) ≡ false → pointwise nat_eq y x ≡ false → is_some (in_block (here ++ ((x, n) ∷ [])) y) ≡ false
still_absent [] x y n e f = rw f refl
still_absent (entry ∷ here) x y n e f = elim (cases_Bool (pointwise nat_eq y entry.0)) [
  | inl t ↦ absurd (true≢false (rw t at e))
  | inr g ↦ rw g (still_absent here x y n (rw g at e) f)
]

absent_after : (m : Scope) (x y : List ℕ) (t : Ty) → is_blank x ≡ false → is_here m y ≡ false → pointwise nat_eq y x ≡ false → is_here (declared m x t) y ≡ false
absent_after (In here around variables) x y t b e f = rw b (still_absent here x y (length variables) e f)

-- the block of m has only names of s and names among those before
abbrev Follows : Scope → Scope → List (List ℕ) → Type 0
Follows s m before = (y : List ℕ) → among before y ≡ false → is_here s y ≡ false → is_here m y ≡ false

follows_on : (s m : Scope) (before : List (List ℕ)) (x : List ℕ) → Follows s m before → Follows s m (before ++ (x ∷ []))
follows_on s m before x f y e h = f y (among_pushed before x y e).0 h

follows_declared : (s m : Scope) (before : List (List ℕ)) (x : List ℕ) (t : Ty) → is_blank x ≡ false → Follows s m before → Follows s (declared m x t) (before ++ (x ∷ []))
follows_declared s m before x t b f y e h =
    let p = among_pushed before x y e in
    absent_after m x y t b (f y p.0 h) p.1

new_free : (m : Scope) (x : List ℕ) → is_blank x ≡ false → is_here m x ≡ false → is_free m x ≡ true
new_free m x b h = rw (b, h) refl

not_old : (s : Scope) (x : List ℕ) → not (is_old s x) ≡ true → (is_blank x ≡ false) × (is_here s x ≡ false)
not_old s x e = elim (cases_Bool (is_blank x)) [
  | inl b ↦ absurd (true≢false (sym (rw b at e)))
  | inr b ↦ (b, not-true (is_here s x) (rw b at e))
]

distinct_named : (before xs : List (List ℕ)) (x : List ℕ) → is_blank x ≡ false → are_distinct before (x ∷ xs) ≡ true → (among before x ≡ false) × (are_distinct (before ++ (x ∷ [])) xs ≡ true)
distinct_named before xs x b d =
    let e : (not (among before x) && are_distinct (before ++ (x ∷ [])) xs) ≡ true = rw b at d in
    (not-true (among before x) (and_left (not (among before x)) (are_distinct (before ++ (x ∷ [])) xs) e), and_right (not (among before x)) (are_distinct (before ++ (x ∷ [])) xs) e)

distinct_blank : (before xs : List (List ℕ)) (x : List ℕ) → is_blank x ≡ true → are_distinct before (x ∷ xs) ≡ true → are_distinct before xs ≡ true
distinct_blank before xs x b d = rw b at d

settles : (s m : Scope) (before xs : List (List ℕ)) (ks : List Taker) → are_distinct before xs ≡ true → Follows s m before → all_suit s xs ks ≡ true → may_settle_all xs ks m ≡ true
settles s m before [] ks d f q = refl
settles s m before (x ∷ xs) [] d f q = refl
settles s m before (x ∷ xs) (Old k ∷ ks) d f q = elim (cases_Bool (is_blank x)) [
  | inl b ↦ settles s m before xs ks (distinct_blank before xs x b d) f q
  | inr b ↦ settles s m (before ++ (x ∷ [])) xs ks (distinct_named before xs x b d).1 (follows_on s m before x f) q
]
settles s m before (x ∷ xs) (New t ∷ ks) d f q =
    let new = not_old s x (and_left (not (is_old s x)) (all_suit s xs ks) q) in
    let named = distinct_named before xs x new.0 d in
    both (is_free m x) (may_settle_all xs ks (declared m x t)) (new_free m x new.0 (f x named.0 new.1))
    (settles s (declared m x t) (before ++ (x ∷ [])) xs ks named.1 (follows_declared s m before x t new.0 f) (and_right (not (is_old s x)) (all_suit s xs ks) q))

distinct_of : (s : Scope) (xs : List (List ℕ)) → may_define s xs ≡ true → are_distinct [] xs ≡ true
distinct_of s xs e =
    let none_predeclared = list_all (λ x. not (among predeclared x)) xs in
    and_left (are_distinct [] xs) none_predeclared (and_left (are_distinct [] xs && none_predeclared) (not (list_all (is_old s) xs)) e)

pub settles_all : (s : Scope) (xs : List (List ℕ)) (ks : List Taker) → may_define s xs ≡ true → all_suit s xs ks ≡ true → may_settle_all xs ks s ≡ true
settles_all s xs ks e q = settles s s [] xs ks (distinct_of s xs e) (λ y n h. h) q

pub settles_by : (s : Scope) (xs : List (List ℕ)) (ts : List Ty) (ks : List Taker) → may_define s xs ≡ true → takers s xs ts ≡ Some ks → may_settle_all xs ks s ≡ true
settles_by s xs ts ks e q = settles_all s xs ks e (takers_suit s xs ts ks q)

pub settles_values : (s : Scope) (xs : List (List ℕ)) (vs : List Value) (p : List Taker × Exprs) → may_define s xs ≡ true → shares s xs vs ≡ Some p → may_settle_all xs p.0 s ≡ true
settles_values s xs vs p e q = settles_all s xs p.0 e (shares_suit s xs vs p q)

-- two names
module _ (s : Scope) (x y : List ℕ) (t u : Ty) (k l : Taker) (e : may_define s (x ∷ (y ∷ [])) ≡ true) (p : taker s x t ≡ Some k) (q : taker s y u ≡ Some l) where
  two_settle : (may_settle x k s && (may_settle y l (settled x k s).1 && true)) ≡ true
  two_settle = settles_all s (x ∷ (y ∷ [])) (k ∷ (l ∷ [])) e (both (suits s x k) (suits s y l && true) (taker_suits s x t k p) (both (suits s y l) true (taker_suits s y u l q) refl))

  pub settles_second : may_settle y l (settled x k s).1 ≡ true
  settles_second = and_left (may_settle y l (settled x k s).1) true (and_right (may_settle x k s) (may_settle y l (settled x k s).1 && true) two_settle)
