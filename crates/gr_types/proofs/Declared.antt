-- Names that a `var` declares may be declared one after the other.
use Rattle.std.proofs.Common.{◌≡◌, ℕ, true, false, List, [], ◌∷◌, ◌++◌, refl, ap, sym, ◌∙◌, true≢false, inl, inr, nat_eq}
use Rattle.std.specs.Prelude.{not, ◌&&◌}
use Rattle.std.specs.Cmp.Lexicographic.{pointwise, same_text}
use Rattle.std.specs.List.{list_all}
use Rattle.std.proofs.lemmas.Bool.{and_from, and_parts, not-true, cases_Bool}
use Rattle.gr_program.specs.Types.{Ty}
use Rattle.gr_typing.specs.Names.{among, is_blank, are_distinct, predeclared}
use Rattle.gr_typing.specs.Scopes.{Block, Scope, In, in_block, is_free, declare}
use Rattle.gr_typing.specs.Assignments.{may_declare}
use Rattle.gr_types.specs.Declaring.{Declarable}
use Rattle.gr_exprs.proofs.Basics.{same_name}

among_last : (names : List (List ℕ)) (x : List ℕ) → among (names ++ (x ∷ [])) x ≡ true
among_last [] x = rw (same_name x) refl
among_last (z ∷ names) x = elim (cases_Bool (pointwise nat_eq x z)) [ inl t ↦ rw t refl | inr f ↦ rw f (among_last names x) ]

among_kept : (names : List (List ℕ)) (x y : List ℕ) → among names x ≡ true → among (names ++ (y ∷ [])) x ≡ true
among_kept [] x y e = absurd (true≢false (sym e))
among_kept (z ∷ names) x y e = elim (cases_Bool (pointwise nat_eq x z)) [ inl t ↦ rw t refl | inr f ↦ rw f (among_kept names x y (rw f at e)) ]

-- another name than one of these
other_name : (names : List (List ℕ)) (x y : List ℕ) → among names x ≡ true → among names y ≡ false → pointwise nat_eq y x ≡ false
other_name names x y e f = elim (cases_Bool (pointwise nat_eq y x)) [
  | inl t ↦ absurd (true≢false (sym e ∙ ap (among names) (sym (same_text y x (sym t))) ∙ f))
  | inr g ↦ g
]

-- a declaration leaves every other name free
block_free : (b : Block) (x y : List ℕ) (n : ℕ) → pointwise nat_eq y x ≡ false → in_block (b ++ ((x, n) ∷ [])) y ≡ in_block b y
block_free [] x y n e = rw e refl
block_free (entry ∷ b) x y n e = elim (cases_Bool (pointwise nat_eq y entry.0)) [ inl t ↦ rw t refl | inr f ↦ rw f (block_free b x y n e) ]

other_free : (s : Scope) (x y : List ℕ) (t : Ty) → pointwise nat_eq y x ≡ false → is_free (declare s x t) y ≡ is_free s y
other_free (In here around variables) x y t e = rw (block_free here x y _ e) refl

others_free : (s : Scope) (before : List (List ℕ)) (x : List ℕ) (t : Ty) (ys : List (List ℕ)) → among before x ≡ true → are_distinct before ys ≡ true → list_all (is_free s) ys ≡ true → list_all (is_free (declare s x t)) ys ≡ true
others_free s before x t [] e d f = refl
others_free s before x t (y ∷ ys) e d f =
    let g = and_parts (is_free s y) (list_all (is_free s) ys) f in
    elim (cases_Bool (is_blank y)) [
      | inl b ↦ and_from (is_free (declare s x t) y) (list_all (is_free (declare s x t)) ys) (rw b refl) (others_free s before x t ys e (rw b at d) g.1)
      | inr b ↦
          let p = and_parts (not (among before y)) (are_distinct (before ++ (y ∷ [])) ys) (rw b at d) in
          let other = other_name before x y e (not-true (among before y) p.0) in
          and_from (is_free (declare s x t) y) (list_all (is_free (declare s x t)) ys) (other_free s x y t other ∙ g.0) (others_free s (before ++ (y ∷ [])) x t ys (among_kept before x y e) p.1 g.1)
    ]

all_may : (s : Scope) (before xs : List (List ℕ)) → are_distinct before xs ≡ true → list_all (is_free s) xs ≡ true → Declarable s xs
all_may s before [] d f = tt
all_may s before (x ∷ xs) d f =
    let g = and_parts (is_free s x) (list_all (is_free s) xs) f in (
      g.0,
      λ t. elim (cases_Bool (is_blank x)) [
        | inl b ↦ rw b (all_may s before xs (rw b at d) g.1)
        | inr b ↦
            let p = and_parts (not (among before x)) (are_distinct (before ++ (x ∷ [])) xs) (rw b at d) in
            rw b (all_may (declare s x t) (before ++ (x ∷ [])) xs p.1 (others_free s (before ++ (x ∷ [])) x t xs (among_last before x) p.1 g.1))
      ],
    )

pub may_all : (s : Scope) (xs : List (List ℕ)) → may_declare s xs ≡ true → Declarable s xs
may_all s xs e =
    let p = and_parts (are_distinct [] xs && list_all (λ x. not (among predeclared x)) xs) (list_all (is_free s) xs) e in
    all_may s [] xs ((and_parts (are_distinct [] xs) (list_all (λ x. not (among predeclared x)) xs) p.0).0) p.1
