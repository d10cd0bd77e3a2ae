-- Variables that names on a left side stand for, new ones among them, and the sorts that may be given to them.
use Rattle.std.proofs.Common.{◌≡◌, ◌⊎◌, ℕ, true, false, not, List, [], ◌∷◌, ◌++◌, map, Option, Some, None, option_map, refl, sym, ◌∙◌, ap, subst, inl, inr, true≢false}
use Rattle.std.proofs.lemmas.Option.{same_Some}
use Rattle.std.specs.List.{list_all}
use Rattle.std.proofs.lemmas.Bool.{cases_Bool, and_parts, not-true}
use Rattle.gr_program.specs.Types.{Ty}
use Rattle.gr_program.specs.Programs.{Declared}
use Rattle.gr_typing.specs.Names.{predeclared, among, is_blank, are_distinct}
use Rattle.gr_typing.specs.Scopes.{Scope, variable_named, type_of_variable, is_here, is_old, is_free, declare, declared, number_of, may_name}
use Rattle.gr_typing.specs.Assignments.{HasVariable, may_define, all_declared}
use Rattle.type_safety.proofs.Sorts.{Sort, sort_of, AreTargets, no_target, blank, target, numbers_of}
use Rattle.type_safety.proofs.Promises.{Live, Begins, Grows}
use Rattle.type_safety.proofs.CheckedExprs.{variable_sorted}
use Rattle.type_safety.proofs.DeclaredNames.{Declarable, among_last, among_kept}
use Rattle.type_safety.proofs.Growing.{grows_self, grows_trans, begins_back, grows_named, declare_grows, next_of, declare_type, declare_new, declare_named, declare_here, declared_here, Reaches, reaches_self, reaches_live, reaches_then}

pub target_then : (ds : List Declared) (k : Option ℕ) (ks : List (Option ℕ)) (l : Sort) (ls : List Sort)
    → AreTargets ds (k ∷ []) (l ∷ []) → AreTargets ds ks ls → AreTargets ds (k ∷ ks) (l ∷ ls)
target_then ds k ks l ls (blank h) rest = blank rest
target_then ds k ks l ls (target e h) rest = target e rest

-- Names of a left side stand for these variables, and values of these sorts may be given to them; the scope grows by them.
pub record Sets (ds : List Declared) (m n : Scope) (ks : List (Option ℕ)) (ls : List Sort) : Type 0 where
  pub grown : Grows m n
  pub reached : Reaches m n ks
  pub targets : Begins n ds → AreTargets ds ks ls

pub sets_live : (ds : List Declared) (m n : Scope) (ks : List (Option ℕ)) (ls : List Sort) (live : List ℕ)
    → Sets ds m n ks ls → Live m live → Live n (numbers_of ks ++ live)
sets_live ds m n ks ls live h lives = reaches_live m n ks live h.reached lives

pub sets_none : (ds : List Declared) (m : Scope) (ls : List Sort) → Sets ds m m [] ls
sets_none ds m ls = record { grown = grows_self m; reached = reaches_self m []; targets = λ begins. no_target }

pub sets_blank : (ds : List Declared) (m : Scope) (l : Sort) → Sets ds m m (None ∷ []) (l ∷ [])
sets_blank ds m l =
    record { grown = grows_self m; reached = reaches_self m (None ∷ []); targets = λ begins. blank no_target }

pub sets_old : (ds : List Declared) (s m : Scope) (x : List ℕ) (k : ℕ) (t : Ty) → Grows s m → HasVariable s x k t
    → Sets ds m m (Some k ∷ []) (sort_of t ∷ [])
sets_old ds s m x k t g h = record {
  grown = grows_self m;
  reached = reaches_self m (Some k ∷ []);
  targets = λ begins. target (variable_sorted ds s x k t (begins_back s m ds g begins) h) no_target;
}

pub sets_new : (ds : List Declared) (m : Scope) (x : List ℕ) (k : ℕ) (t : Ty)
    → is_here m x ≡ false → variable_named (declare m x t) x ≡ Some k
    → Sets ds m (declare m x t) (Some k ∷ []) (sort_of t ∷ [])
sets_new ds m x k t free is = record {
  grown = declare_grows m x t;
  reached = λ y j e. elim (declare_named m x t y j e) [ inl q ↦ inl q | inr q ↦ inr (inl (q.1 ∙ sym same)) ];
  targets =
      λ begins. target
      (ap (option_map sort_of)
      (begins k t (subst (λ j. type_of_variable (declare m x t) j ≡ Some t) (sym same)
      (declare_type m x t)))) no_target;
}
  where
    same : k ≡ next_of m
    same = same_Some k (next_of m) (sym is ∙ declare_new m x t free)

pub sets_declared : (ds : List Declared) (m : Scope) (x : List ℕ) (t : Ty) → is_free m x ≡ true
    → Sets ds m (declared m x t) (number_of (declared m x t) x ∷ []) (sort_of t ∷ [])
sets_declared ds m x t free = elim (cases_Bool (is_blank x)) [
  | inl b ↦ rw b (sets_blank ds m (sort_of t))
  | inr b ↦
      let new = declare_new m x t (not-true (is_here m x) (rw b at free)) in
      rw (b, new) (sets_new ds m x (next_of m) t (not-true (is_here m x) (rw b at free)) new)
]

pub sets_then : (ds : List Declared) (m n o : Scope) (k : Option ℕ) (ks : List (Option ℕ)) (l : Sort) (ls : List Sort)
    → Sets ds m n (k ∷ []) (l ∷ []) → Sets ds n o ks ls → Sets ds m o (k ∷ ks) (l ∷ ls)
sets_then ds m n o k ks l ls first rest = record {
  grown = grows_trans m n o first.grown rest.grown;
  reached = reaches_then m n o k ks first.reached rest.reached;
  targets =
      λ begins. target_then ds k ks l ls (first.targets (begins_back n o ds rest.grown begins)) (rest.targets begins);
}

-- names declared with one type
pub number_kept : (m n : Scope) (x : List ℕ) (t : Ty) → is_free m x ≡ true → Grows (declared m x t) n
    → number_of n x ≡ number_of (declared m x t) x
number_kept m n x t free g = elim (cases_Bool (is_blank x)) [
  | inl b ↦ rw b refl
  | inr b ↦
      let new = declare_new m x t (not-true (is_here m x) (rw b at free)) in
      let later : Grows (declare m x t) n = rw b at g in
      rw b (grows_named (declare m x t) n x (next_of m) later (declared_here m x t (not-true (is_here m x) (rw b at free))) new ∙ sym new)
]

pub all_sets : (ds : List Declared) (m : Scope) (xs : List (List ℕ)) (t : Ty) → Declarable m xs
    → Sets ds m (all_declared m xs t) (map (number_of (all_declared m xs t)) xs) (map (λ x. sort_of t) xs)
all_sets ds m [] t may = sets_none ds m []
all_sets ds m (x ∷ xs) t may =
    let n = declared m x t in
    let rest = all_sets ds n xs t (may.1 t) in
    let o = all_declared n xs t in
    let first =
    subst (λ k. Sets ds m n (k ∷ []) (sort_of t ∷ [])) (sym (number_kept m o x t may.0 rest.grown))
    (sets_declared ds m x t may.0) in
    sets_then ds m n o (number_of o x) (map (number_of o) xs) (sort_of t) (map (λ x. sort_of t) xs) first rest

-- two names declared with a type each
pub both_set : (ds : List Declared) (m : Scope) (x y : List ℕ) (t u : Ty) → Declarable m (x ∷ y ∷ [])
    → let o = declared (declared m x t) y u in Sets ds m o (number_of o x ∷ number_of o y ∷ [])
    (sort_of t ∷ sort_of u ∷ [])
both_set ds m x y t u may =
    let n = declared m x t in
    let o = declared n y u in
    let free = (may.1 t).0 in
    let rest = sets_declared ds n y u free in
    let first =
    subst (λ k. Sets ds m n (k ∷ []) (sort_of t ∷ [])) (sym (number_kept m o x t may.0 rest.grown))
    (sets_declared ds m x t may.0) in
    sets_then ds m n o (number_of o x) (number_of o y ∷ []) (sort_of t) (sort_of u ∷ []) first rest

-- Names on the left of `:=`, seen from the scope s before the statement: no new one stands twice among them.
abbrev pub Definable : Scope → Scope → List (List ℕ) → Type 0
Definable s m [] = Unit {0}
Definable s m (x ∷ xs) =
    (is_blank x ≡ false → is_here s x ≡ false → is_here m x ≡ false) × Definable s m xs × (is_blank x ≡ false
    → (t : Ty) → Definable s (declare m x t) xs)

all_define : (s m : Scope) (before xs : List (List ℕ)) → are_distinct before xs ≡ true
    → ((y : List ℕ) → is_here m y ≡ true → (is_here s y ≡ true) ⊎ (among before y ≡ true)) → Definable s m xs
all_define s m before [] e h = tt
all_define s m before (x ∷ xs) e h = elim (cases_Bool (is_blank x)) [
  | inl b ↦ (
    λ f. absurd (true≢false (sym b ∙ f)),
    all_define s m before xs (rw b at e) h,
    λ f. absurd
        (true≢false (sym b ∙ f)),
  )
  | inr b ↦
      let p = and_parts (not (among before x)) (are_distinct (before ++ (x ∷ [])) xs) (rw b at e) in
      let other = not-true (among before x) p.0 in (
        λ f free. elim (cases_Bool (is_here m x)) [
          | inl here ↦
              elim (h x here) [ inl q ↦ absurd (true≢false (sym q ∙ free)) | inr q ↦ absurd (true≢false (sym q ∙ other)) ]
          | inr q ↦ q
        ],
        all_define s m (before ++ (x ∷ [])) xs p.1 (λ y here. elim (h y here) [ inl q ↦ inl q | inr q ↦ inr (among_kept before y x q) ]),
        λ f t. all_define s (declare m x t) (before ++ (x ∷ [])) xs p.1 (λ y here. elim (declare_here m x t y here) [
          | inl q ↦ elim (h y q) [ inl q ↦ inl q | inr q ↦ inr (among_kept before y x q) ]
          | inr q ↦ inr (subst (λ z. among (before ++ (x ∷ [])) z ≡ true) (sym q) (among_last before x))
        ]),
      )
]

pub may_define_all : (s : Scope) (xs : List (List ℕ)) → may_define s xs ≡ true → Definable s s xs
may_define_all s xs e =
    let p = and_parts (may_name xs) (not (list_all (is_old s) xs)) e in
    all_define s s [] xs ((and_parts (are_distinct [] xs) (list_all (λ x. not (among predeclared x)) xs) p.0).0) (λ y here. inl here)
