-- Functions whose headings fit one after the other: their names are distinct, and their `main` is bare.
use Rattle.std.proofs.lemmas.Bool.{cases_Bool}
use Rattle.std.proofs.Common.{◌≡◌, ℕ, suc, ◌+◌, Bool, true, false, List, [], ◌∷◌, ◌++◌, length, refl, ap, sym, ◌∙◌, subst, arith, inl, inr, nat_eq, cond, true≢false}
use Rattle.std.specs.Prelude.{Option, Some, None, not, ◌&&◌, ◌||◌, is_some, is_none, if◌then◌else◌, codes}
use Rattle.std.specs.List.{list_all}
use Rattle.std.specs.Cmp.Lexicographic.{pointwise, bytes_decides}
use Rattle.std.proofs.Math.Bool.{and-false, and-true, or-false, or-true}
use Rattle.gr_program.specs.Types.{Ty}
use Rattle.gr_typing.specs.Names.{among, predeclared, is_blank, are_distinct}
use Rattle.gr_typing.specs.Scopes.{first_of, next_number, has_name, Signature, Sign, function_in, signature}
use Rattle.gr_typing.specs.FileChecks.{names_of, may_be_functions}
use Rattle.gr_exprs.specs.Finding.{◌>>=◌, where_true, has_text}
use Rattle.gr_types.specs.FindingFiles.{is_bare, main_in}
use Rattle.gr_types.specs.Outlines.{fits_main}
use Rattle.gr_exprs.proofs.Basics.{among_push}
use Rattle.gr_exprs.proofs.Finds.{none_some, some_inj}
use Rattle.gr_exprs.proofs.FunctionNumbers.{name_of, function_push, has_blank, has_other}
use Rattle.gr_types.proofs.Headed.{all_fit}

-- names before, and the functions that have them
abbrev AreKnown : List (List ℕ) → List Signature → Type 0
AreKnown before known = (x : List ℕ) → is_blank x ≡ false → among before x ≡ is_some (function_in known x)

found_or : (o : Option ℕ) (b : Bool) (n : ℕ) → is_some (first_of o (if b then Some n else None)) ≡ (is_some o || b)
found_or (Some k) b n = refl
found_or None true n = refl
found_or None false n = refl

some_more : (known : List Signature) (g : Signature) (x : List ℕ) → is_some (function_in (known ++ (g ∷ [])) x) ≡ (is_some (function_in known x) || has_name g x)
some_more known g x = ap is_some (function_push known g x) ∙ found_or (function_in known x) (has_name g x) (length known)

turned : (x y : List ℕ) → pointwise nat_eq y x ≡ pointwise nat_eq x y
turned x y = elim (cases_Bool (pointwise nat_eq x y)) [
  | inl t ↦ (bytes_decides y x).1 (sym ((bytes_decides x y).0 t)) ∙ sym t
  | inr f ↦ elim (cases_Bool (pointwise nat_eq y x)) [
    | inl t ↦ absurd (true≢false (sym ((bytes_decides x y).1 (sym ((bytes_decides y x).0 t))) ∙ f))
    | inr g ↦ g ∙ sym f
  ]
]

has_text_name : (x : List ℕ) (ts : List Ty) (r : Option Ty) (y : List ℕ) → is_blank y ≡ false → has_name (Sign x ts r) y ≡ pointwise nat_eq y x
has_text_name x ts r y other = ap (λ b. pointwise nat_eq x y && not b) other ∙ and-true (pointwise nat_eq x y) ∙ sym (turned x y)

known_more : (before : List (List ℕ)) (known : List Signature) (x : List ℕ) (ts : List Ty) (r : Option Ty) → AreKnown before known → AreKnown (before ++ (x ∷ [])) (known ++ (Sign x ts r ∷ []))
known_more before known x ts r same y other =
    among_push before x y ∙ ap (λ b. b || pointwise nat_eq y x) (same y other)
    ∙ sym (some_more known (Sign x ts r) y ∙ ap (λ b. is_some (function_in known y) || b) (has_text_name x ts r y other))

known_still : (before : List (List ℕ)) (known : List Signature) (x : List ℕ) (ts : List Ty) (r : Option Ty) → is_blank x ≡ true → AreKnown before known → AreKnown before (known ++ (Sign x ts r ∷ []))
known_still before known x ts r blank same y other =
    same y other ∙ sym (some_more known (Sign x ts r) y ∙ ap (λ b. is_some (function_in known y) || b) no_name ∙ or-false (is_some (function_in known y)))
  where
    no_name : has_name (Sign x ts r) y ≡ false
    no_name = elim (cases_Bool (pointwise nat_eq x y)) [
      | inl t ↦ absurd (true≢false (sym (ap is_blank (sym ((bytes_decides x y).0 t)) ∙ blank) ∙ other))
      | inr f ↦ has_other (Sign x ts r) y f
    ]

blank_unknown : (known : List Signature) (x : List ℕ) → is_blank x ≡ true → function_in known x ≡ None
blank_unknown [] x e = refl
blank_unknown (g ∷ known) x e = rw (has_blank g x e) (ap next_number (blank_unknown known x e))

-- the tests one after the other, and each by itself
abbrev names_fit : List (List ℕ) → List Signature → Bool
names_fit before fs =
    (are_distinct before (names_of fs) && list_all (λ x. not (among predeclared x)) (names_of fs)) && list_all (λ x. not (pointwise nat_eq x (codes "init"))) (names_of fs)

abbrev mains_fit : List Signature → List Signature → Bool
mains_fit known [] = true
mains_fit known (g ∷ gs) = (is_some (function_in known (codes "main")) || fits_main g) && mains_fit (known ++ (g ∷ [])) gs

apart : (new free bare distinct all others rest : Bool) → (((new && (free && true)) && bare) && (((distinct && all) && others) && rest)) ≡ (((distinct && (new && all)) && (free && others)) && (bare && rest))
apart false free bare distinct all others rest = rw (and-false distinct) refl
apart true false bare distinct all others rest = rw (and-false (distinct && all)) refl
apart true true false distinct all others rest = sym (and-false ((distinct && all) && others))
apart true true true distinct all others rest = refl

no_name : (new free bare rest : Bool) → (((new && (free && false)) && bare) && rest) ≡ false
no_name false free bare rest = refl
no_name true false bare rest = refl
no_name true true bare rest = refl

none_is : (o : Option ℕ) → is_none o ≡ not (is_some o)
none_is (Some k) = refl
none_is None = refl

blank_fits : (g : Signature) → is_blank (name_of g) ≡ true → fits_main g ≡ true
blank_fits (Sign x ts r) e = ap (λ b. cond b (is_bare (Sign x ts r)) true) (ap (λ x. has_text x (codes "main")) ((bytes_decides x (codes "_")).0 e))

main_counts : (known : List Signature) (g : Signature) → is_some (function_in known (name_of g)) ≡ false → (is_some (function_in known (codes "main")) || fits_main g) ≡ fits_main g
main_counts known (Sign x ts r) e = elim (cases_Bool (has_text x (codes "main"))) [
  | inl t ↦ ap (λ b. b || fits_main (Sign x ts r)) (ap (λ y. is_some (function_in known y)) (sym ((bytes_decides x (codes "main")).0 t)) ∙ e)
  | inr f ↦
      let free : fits_main (Sign x ts r) ≡ true = ap (λ b. cond b (is_bare (Sign x ts r)) true) f in
      ap (λ b. is_some (function_in known (codes "main")) || b) free ∙ or-true (is_some (function_in known (codes "main"))) ∙ sym free
]

abbrev all_new : List Signature → Bool
all_new fs = list_all (λ x. not (among predeclared x)) (names_of fs)

abbrev all_others : List Signature → Bool
all_others fs = list_all (λ x. not (pointwise nat_eq x (codes "init"))) (names_of fs)

by_name : (before : List (List ℕ)) (known : List Signature) (x : List ℕ) (ts : List Ty) (r : Option Ty) (fs : List Signature) (new free b : Bool) → is_some (function_in known x) ≡ b
    → all_fit (known ++ (Sign x ts r ∷ [])) fs ≡ (names_fit (before ++ (x ∷ [])) fs && mains_fit (known ++ (Sign x ts r ∷ [])) fs)
    → (((new && (free && not b)) && fits_main (Sign x ts r)) && all_fit (known ++ (Sign x ts r ∷ [])) fs)
    ≡ ((((not b && are_distinct (before ++ (x ∷ [])) (names_of fs)) && (new && all_new fs)) && (free && all_others fs)) && ((is_some (function_in known (codes "main")) || fits_main (Sign x ts r)) && mains_fit (known ++ (Sign x ts r ∷ [])) fs))
by_name before known x ts r fs new free true e h = no_name new free (fits_main (Sign x ts r)) (all_fit (known ++ (Sign x ts r ∷ [])) fs)
by_name before known x ts r fs new free false e h =
    let g = Sign x ts r in
    let distinct = are_distinct (before ++ (x ∷ [])) (names_of fs) in
    let rest = mains_fit (known ++ (g ∷ [])) fs in
    ap (λ b. ((new && (free && true)) && fits_main g) && b) h
    ∙ apart new free (fits_main g) distinct (all_new fs) (all_others fs) rest
    ∙ ap (λ b. ((distinct && (new && all_new fs)) && (free && all_others fs)) && (b && rest)) (sym (main_counts known g e))

all_apart : (before : List (List ℕ)) (known fs : List Signature) → AreKnown before known → all_fit known fs ≡ (names_fit before fs && mains_fit known fs)
all_apart before known [] same = refl
all_apart before known (Sign x ts r ∷ fs) same =
    let g = Sign x ts r in
    let new = not (among predeclared x) in
    let free = not (has_text x (codes "init")) in
    let all = list_all (λ x. not (among predeclared x)) (names_of fs) in
    let others = list_all (λ x. not (pointwise nat_eq x (codes "init"))) (names_of fs) in
    let rest = mains_fit (known ++ (g ∷ [])) fs in
    let main = is_some (function_in known (codes "main")) in
    elim (cases_Bool (is_blank x)) [
      | inl blank ↦
          let distinct = are_distinct before (names_of fs) in
          ap (λ o. ((new && (free && is_none o)) && fits_main g) && all_fit (known ++ (g ∷ [])) fs) (blank_unknown known x blank)
          ∙ ap (λ b. ((new && (free && true)) && fits_main g) && b) (all_apart before (known ++ (g ∷ [])) fs (known_still before known x ts r blank same))
          ∙ apart new free (fits_main g) distinct all others rest
          ∙ ap (λ b. ((distinct && (new && all)) && (free && others)) && (b && rest)) (blank_fits g blank ∙ sym (or-true main) ∙ ap (λ b. main || b) (sym (blank_fits g blank)))
          ∙ sym (ap (λ b. ((cond b distinct (not (among before x) && are_distinct (before ++ (x ∷ [])) (names_of fs)) && (new && all)) && (free && others)) && ((main || fits_main g) && rest)) blank)
      | inr named ↦
          let distinct = are_distinct (before ++ (x ∷ [])) (names_of fs) in
          ap (λ b. ((new && (free && b)) && fits_main g) && all_fit (known ++ (g ∷ [])) fs) (none_is (function_in known x) ∙ ap not (sym (same x named)))
          ∙ by_name before known x ts r fs new free (among before x) (sym (same x named)) (all_apart (before ++ (x ∷ [])) (known ++ (g ∷ [])) fs (known_more before known x ts r same))
          ∙ sym (ap (λ b. ((cond b (are_distinct before (names_of fs)) (not (among before x) && distinct) && (new && all)) && (free && others)) && ((main || fits_main g) && rest)) named)
    ]

-- the first `main` decides
abbrev pub first_bare : List Signature → Bool
first_bare [] = true
first_bare (g ∷ gs) = if has_name g (codes "main") then is_bare g else first_bare gs

or_left : (a b : Bool) → a ≡ true → (a || b) ≡ true
or_left true b e = refl
or_left false b e = absurd (true≢false (sym e))

later_mains : (known fs : List Signature) → is_some (function_in known (codes "main")) ≡ true → mains_fit known fs ≡ true
later_mains known [] e = refl
later_mains known (g ∷ fs) e =
    let more = some_more known g (codes "main") ∙ or_left (is_some (function_in known (codes "main"))) (has_name g (codes "main")) e in
    ap (λ b. (b || fits_main g) && mains_fit (known ++ (g ∷ [])) fs) e ∙ later_mains (known ++ (g ∷ [])) fs more

main_named : (g : Signature) → has_name g (codes "main") ≡ has_text (name_of g) (codes "main")
main_named (Sign x ts r) = and-true (pointwise nat_eq x (codes "main"))

fits_named : (g : Signature) (b : Bool) → has_name g (codes "main") ≡ b → fits_main g ≡ (if b then is_bare g else true)
fits_named (Sign x ts r) b e = ap (λ b. cond b (is_bare (Sign x ts r)) true) (sym (main_named (Sign x ts r)) ∙ e)

first_main : (known fs : List Signature) → is_some (function_in known (codes "main")) ≡ false → mains_fit known fs ≡ first_bare fs
first_main known [] e = refl
first_main known (g ∷ fs) e =
    let more = some_more known g (codes "main") ∙ ap (λ b. b || has_name g (codes "main")) e in
    ap (λ b. (b || fits_main g) && mains_fit (known ++ (g ∷ [])) fs) e
    ∙ elim (cases_Bool (has_name g (codes "main"))) [
      | inl t ↦
          ap (λ b. b && mains_fit (known ++ (g ∷ [])) fs) (fits_named g true t) ∙ ap (λ b. is_bare g && b) (later_mains (known ++ (g ∷ [])) fs (more ∙ t)) ∙ and-true (is_bare g)
          ∙ sym (ap (λ b. cond b (is_bare g) (first_bare fs)) t)
      | inr f ↦
          ap (λ b. b && mains_fit (known ++ (g ∷ [])) fs) (fits_named g false f) ∙ first_main (known ++ (g ∷ [])) fs (more ∙ f)
          ∙ sym (ap (λ b. cond b (is_bare g) (first_bare fs)) f)
    ]

nothing_known : AreKnown [] []
nothing_known x other = refl

pub fit_is : (fs : List Signature) → all_fit [] fs ≡ (may_be_functions fs && first_bare fs)
fit_is fs = all_apart [] [] fs nothing_known ∙ ap (λ b. may_be_functions fs && b) (first_main [] fs refl)

bare_at : (fs : List Signature) (k n : ℕ) → function_in fs (codes "main") ≡ Some k → (signature fs k >>= λ g. where_true (is_bare g) n) ≡ where_true (first_bare fs) n
bare_at [] k n e = none_some e
bare_at (g ∷ fs) k n e = elim (cases_Bool (has_name g (codes "main"))) [
  | inl t ↦
      let first : Some 0 ≡ Some k = sym (ap (λ b. cond b (Some 0) (next_number (function_in fs (codes "main")))) t) ∙ e in
      subst (λ k. (signature (g ∷ fs) k >>= λ g. where_true (is_bare g) n) ≡ where_true (first_bare (g ∷ fs)) n) (some_inj first) (sym (ap (λ b. where_true (cond b (is_bare g) (first_bare fs)) n) t))
  | inr f ↦
      next_bare g fs k n (function_in fs (codes "main")) refl f (sym (ap (λ b. cond b (Some 0) (next_number (function_in fs (codes "main")))) f) ∙ e) (λ j is. bare_at fs j n is)
]
  where
    next_bare : (g : Signature) (fs : List Signature) (k n : ℕ) (o : Option ℕ) → function_in fs (codes "main") ≡ o → has_name g (codes "main") ≡ false → next_number o ≡ Some k
        → ((j : ℕ) → function_in fs (codes "main") ≡ Some j → (signature fs j >>= λ g. where_true (is_bare g) n) ≡ where_true (first_bare fs) n)
        → (signature (g ∷ fs) k >>= λ g. where_true (is_bare g) n) ≡ where_true (first_bare (g ∷ fs)) n
    next_bare g fs k n None is f e h = none_some e
    next_bare g fs k n (Some j) is f e h =
        let one : j + 1 ≡ suc j = omega arith in
        let same : suc j ≡ k = sym one ∙ some_inj e in
        subst (λ k. (signature (g ∷ fs) k >>= λ g. where_true (is_bare g) n) ≡ where_true (first_bare (g ∷ fs)) n) same (h j is ∙ sym (ap (λ b. where_true (cond b (is_bare g) (first_bare fs)) n) f))

by_main : (fs : List Signature) (o : Option ℕ) → function_in fs (codes "main") ≡ o → (o >>= λ k. signature fs k >>= λ g. where_true (is_bare g) k) ≡ (o >>= λ k. where_true (first_bare fs) k)
by_main fs None e = refl
by_main fs (Some k) e = bare_at fs k k e

pub main_is : (fs : List Signature) → main_in fs ≡ (function_in fs (codes "main") >>= λ k. where_true (first_bare fs) k)
unfolding main_in
main_is fs = by_main fs (function_in fs (codes "main")) refl
