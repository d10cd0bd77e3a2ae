-- Tables of labels.
use Rattle.std.proofs.lemmas.Bool.{cases_Bool}
use Rattle.std.proofs.Common.{◌≡◌, ℕ, Bool, true, false, List, [], ◌∷◌, ◌++◌, map, refl, ap, sym, ◌∙◌, nat_eq, Bor, inl, inr, append_assoc, append-nil}
use Rattle.std.specs.Prelude.{Option, Some, None, is_some, is_none, not, ◌&&◌, ◌||◌, if◌then◌else◌}
use Rattle.indexmap.specs.IndexSet.{insert_key}
use Rattle.std.specs.Cmp.Lexicographic.{pointwise, same_text}
use Rattle.std.specs.List.{list_any, list_all}
use Rattle.std.proofs.Math.Bool.{and_assoc, or-false, or-true, or_assoc}
use Rattle.gr_tree.specs.declared.stmt.Clause as code_clause
use Rattle.gr_tree.specs.declared.stmt.Clause.TheVariants as clauses
use Rattle.gr_typing.specs.Labels.{uses_in, uses_among, labels_in, labels_among}
use Rattle.gr_types.specs.StatementViews.{clause_body, clauses_of}
use Rattle.gr_typing.specs.Names.{among, is_blank, are_distinct}
use Rattle.gr_types.specs.LabelTables.{with_name, with_names, fit_after}
use Rattle.gr_exprs.proofs.Basics.{among_push}

pub among_keys : (ks : List (Bor (List ℕ))) (x : List ℕ) → list_any (λ k. pointwise nat_eq x k.now) ks ≡ among (map (λ k. k.now) ks) x
among_keys [] x = refl
among_keys (k ∷ ks) x = ap (λ b. pointwise nat_eq x k.now || b) (among_keys ks x)

pub map_append : (ks : List (Bor (List ℕ))) (k : Bor (List ℕ)) → map (λ k. k.now) (ks ++ (k ∷ [])) ≡ map (λ k. k.now) ks ++ (k.now ∷ [])
map_append [] k = refl
map_append (j ∷ ks) k = ap (λ r. j.now ∷ r) (map_append ks k)

pushed : (b : Bool) (ks : List (Bor (List ℕ))) (k : Bor (List ℕ)) → map (λ k. k.now) (if b then ks else ks ++ (k ∷ [])) ≡ (if b then map (λ k. k.now) ks else map (λ k. k.now) ks ++ (k.now ∷ []))
pushed true ks k = refl
pushed false ks k = map_append ks k

pub inserted : (ks : List (Bor (List ℕ))) (k : Bor (List ℕ)) → map (λ k. k.now) (insert_key (λ a b. pointwise nat_eq a.now b.now) ks k) ≡ with_name (map (λ k. k.now) ks) k.now
inserted ks k =
    let names = map (λ k. k.now) ks in
    pushed (list_any (λ j. pointwise nat_eq k.now j.now) ks) ks k ∙ ap (λ b. if b then names else names ++ (k.now ∷ [])) (among_keys ks k.now)

pub names_on : (names xs ys : List (List ℕ)) → with_names names (xs ++ ys) ≡ with_names (with_names names xs) ys
names_on names [] ys = refl
names_on names (x ∷ xs) ys = names_on (with_name names x) xs ys

pub uses_clause : (k : code_clause.Clause) (ks : List code_clause.Clause) → uses_among (clauses_of (k ∷ ks)) ≡ uses_in (clause_body k) ++ uses_among (clauses_of ks)
uses_clause (clauses.Default' shape body) ks = refl
uses_clause (clauses.Case' communication shape body) ks = refl

pub labels_clause : (k : code_clause.Clause) (ks : List code_clause.Clause) → labels_among (clauses_of (k ∷ ks)) ≡ labels_in (clause_body k) ++ labels_among (clauses_of ks)
labels_clause (clauses.Default' shape body) ks = refl
labels_clause (clauses.Case' communication shape body) ks = refl

pub fit_append : (used before xs ys : List (List ℕ)) → fit_after used before (xs ++ ys) ≡ (fit_after used before xs && fit_after used (before ++ xs) ys)
fit_append used before [] ys = rw (append-nil before) refl
fit_append used before (x ∷ xs) ys =
    let one = not (is_blank x) && (not (among before x) && among used x) in
    ap (λ b. one && b) (fit_append used (before ++ (x ∷ [])) xs ys ∙ ap (λ l. fit_after used (before ++ (x ∷ [])) xs && fit_after used l ys) (append_assoc before (x ∷ []) xs)) ∙ sym (and_assoc one (fit_after used (before ++ (x ∷ [])) xs) (fit_after used (before ++ (x ∷ xs)) ys))

-- where the first labels don't fit, the labels don't
pub unfit_on : (used before xs ys : List (List ℕ)) (b : Bool) → b ≡ false → b ≡ fit_after used before xs → fit_after used before (xs ++ ys) ≡ false
unfit_on used before xs ys b e f = fit_append used before xs ys ∙ ap (λ c. c && fit_after used (before ++ xs) ys) (sym f ∙ e)

-- where they do, those after them decide
pub fit_next : (used before xs ys mid : List (List ℕ)) (b : Bool) → b ≡ true → b ≡ fit_after used before xs → mid ≡ before ++ xs → fit_after used before (xs ++ ys) ≡ fit_after used mid ys
fit_next used before xs ys mid b e f g = fit_append used before xs ys ∙ ap (λ c. c && fit_after used (before ++ xs) ys) (sym f ∙ e) ∙ sym (ap (λ l. fit_after used l ys) g)

-- whether labels fit speaks of the names that are used, and not of their order
pub fit_same : (used others before xs : List (List ℕ)) → ((x : List ℕ) → among used x ≡ among others x) → fit_after used before xs ≡ fit_after others before xs
fit_same used others before [] h = refl
fit_same used others before (x ∷ xs) h = cc (h x, fit_same used others (before ++ (x ∷ [])) xs h)

rearranged : (blank old seen first distinct all : Bool) → ((not blank && (not old && seen)) && (distinct && all)) ≡ ((if blank then first else (not old && distinct)) && ((not blank && seen) && all))
rearranged true old seen true distinct all = refl
rearranged true old seen false distinct all = refl
rearranged false true seen first distinct all = refl
rearranged false false true first distinct all = refl
rearranged false false false first true all = refl
rearranged false false false first false all = refl

pub fit_by_name : (used before xs : List (List ℕ)) → fit_after used before xs ≡ (are_distinct before xs && list_all (λ x. not (is_blank x) && among used x) xs)
fit_by_name used before [] = refl
fit_by_name used before (x ∷ xs) =
    let one = not (is_blank x) && (not (among before x) && among used x) in
    let all = list_all (λ y. not (is_blank y) && among used y) xs in
    let more = before ++ (x ∷ []) in
    ap (λ b. one && b) (fit_by_name used more xs) ∙ rearranged (is_blank x) (among before x) (among used x) (are_distinct before xs) (are_distinct more xs) all

pub names_next : (before xs ys mid : List (List ℕ)) → mid ≡ before ++ xs → mid ++ ys ≡ before ++ (xs ++ ys)
names_next before xs ys mid e = ap (λ l. l ++ ys) e ∙ append_assoc before xs ys

pub none_false : {A : Type 0} (o : Option A) → is_some o ≡ true → is_none o ≡ false
none_false None e = sym e
none_false (Some a) e = refl

pub none_true : {A : Type 0} (o : Option A) → is_some o ≡ false → is_none o ≡ true
none_true None e = refl
none_true (Some a) e = sym e

known : (names : List (List ℕ)) (y x : List ℕ) → among names y ≡ true → among names x ≡ (among names x || pointwise nat_eq x y)
known names y x e = elim (cases_Bool (pointwise nat_eq x y)) [
  | inl t ↦ ap (among names) (same_text x y (sym t)) ∙ e ∙ sym (ap (λ b. among names x || b) t ∙ or-true (among names x))
  | inr f ↦ sym (ap (λ b. among names x || b) f ∙ or-false (among names x))
]

among_one : (names : List (List ℕ)) (y x : List ℕ) → among (with_name names y) x ≡ (among names x || pointwise nat_eq x y)
among_one names y x = elim (cases_Bool (among names y)) [
  | inl t ↦ rw t (known names y x t)
  | inr f ↦ rw f (among_push names y x)
]

among_with : (names xs : List (List ℕ)) (x : List ℕ) → among (with_names names xs) x ≡ (among names x || among xs x)
among_with names [] x = sym (or-false (among names x))
among_with names (y ∷ ys) x = among_with (with_name names y) ys x ∙ ap (λ b. b || among ys x) (among_one names y x) ∙ or_assoc (among names x) (pointwise nat_eq x y) (among ys x)

-- the labels of a body fit where the tables say so
pub body_fits : (used uses labels : List (List ℕ)) → used ≡ with_names [] uses → fit_after used [] labels ≡ (are_distinct [] labels && list_all (λ x. not (is_blank x) && among uses x) labels)
body_fits used uses labels e = fit_same used uses [] labels (λ x. ap (λ l. among l x) e ∙ among_with [] uses x) ∙ fit_by_name uses [] labels
