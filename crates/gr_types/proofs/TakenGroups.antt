-- Parameters that are taken one after the other are those of the judgement.
use Rattle.std.proofs.lemmas.Bool.{cases_Bool}
use Rattle.std.proofs.Common.{◌≡◌, ℕ, suc, Bool, true, false, List, [], ◌∷◌, ◌++◌, length, refl, ap, sym, ◌∙◌, arith, inl, inr, nat_eq, append_assoc, append-nil, cond}
use Rattle.std.specs.Prelude.{Option, Some, None, not, ◌&&◌, ◌||◌, is_some}
use Rattle.std.specs.List.{list_all}
use Rattle.std.specs.Cmp.Lexicographic.{pointwise}
use Rattle.std.proofs.Math.Path.{fun_ext}
use Rattle.std.proofs.Math.Bool.{and-false}
use Rattle.gr_tree.specs.Files.{Group, GroupOf}
use Rattle.gr_program.specs.Types.{Ty}
use Rattle.gr_typing.specs.Types.{type_written}
use Rattle.gr_program.specs.Programs.{Declared, Named, Parameter}
use Rattle.gr_typing.specs.Names.{among, predeclared, is_blank, are_distinct}
use Rattle.gr_typing.specs.Scopes.{Block, Scope, In, in_block, first_of, is_here, declared, may_name}
use Rattle.gr_typing.specs.FileChecks.{parameter_names, each, scope_with, parameters_with, empty_scope}
use Rattle.gr_exprs.specs.Finding.{◌>>=◌, where_true}
use Rattle.gr_types.specs.FindingFiles.{types_in}
use Rattle.gr_types.specs.Outlines.{Taken, none_taken, may_take, taken_with, take, take_each, take_groups}
use Rattle.gr_exprs.proofs.Basics.{then_none, among_push, bound_twice}
use Rattle.gr_exprs.proofs.Finds.{on_some, some_inj}
use Rattle.gr_exprs.proofs.FunctionNumbers.{block_push}

-- parameters, each with its type
abbrev take_list : Taken → List (List ℕ) → List Ty → Option Taken
take_list p [] ts = Some p
take_list p (x ∷ xs) [] = Some p
take_list p (x ∷ xs) (t ∷ ts) = take p x t >>= λ p. take_list p xs ts

list_append : (p : Taken) (xs ys : List (List ℕ)) (t : Ty) (ts : List Ty) → take_list p (xs ++ ys) (each xs t ++ ts) ≡ (take_each p xs t >>= λ q. take_list q ys ts)
list_append p [] ys t ts = refl
list_append p (x ∷ xs) ys t ts =
    ap (λ f. take p x t >>= f) (fun_ext (λ q. list_append q xs ys t ts)) ∙ sym (bound_twice (take p x t) (λ q. take_each q xs t) (λ q. take_list q ys ts))

by_group : (p : Taken) (xs : List (List ℕ)) (gs : List Group) (w : Option Ty) (o : Option (List Ty)) → ((q : Taken) → take_groups q gs ≡ (o >>= λ ts. take_list q (parameter_names gs) ts))
    → (w >>= λ t. take_each p xs t >>= λ q. take_groups q gs) ≡ ((w >>= λ t. o >>= λ ts. Some (each xs t ++ ts)) >>= λ ts. take_list p (xs ++ parameter_names gs) ts)
by_group p xs gs None o h = refl
by_group p xs gs (Some t) None h = ap (λ f. take_each p xs t >>= f) (fun_ext h) ∙ then_none (take_each p xs t)
by_group p xs gs (Some t) (Some ts) h = ap (λ f. take_each p xs t >>= f) (fun_ext h) ∙ sym (list_append p xs (parameter_names gs) t ts)

groups_list : (p : Taken) (gs : List Group) → take_groups p gs ≡ (types_in gs >>= λ ts. take_list p (parameter_names gs) ts)
unfolding types_in
groups_list p [] = refl
groups_list p (GroupOf xs w ∷ gs) = by_group p xs gs (type_written w) (types_in gs) (λ q. groups_list q gs)

-- there is a type for each name
each_length : (xs ys : List (List ℕ)) (t : Ty) (ts : List Ty) → length ys ≡ length ts → length (xs ++ ys) ≡ length (each xs t ++ ts)
each_length [] ys t ts e = e
each_length (x ∷ xs) ys t ts e = ap suc (each_length xs ys t ts e)

pub types_length : (gs : List Group) (ts : List Ty) → types_in gs ≡ Some ts → length (parameter_names gs) ≡ length ts
unfolding types_in
types_length [] ts e = ap length (some_inj e)
types_length (GroupOf xs w ∷ gs) ts e = on_some (type_written w) (λ t. types_in gs >>= λ ts. Some (each xs t ++ ts)) ts e (λ t it e.
    on_some (types_in gs) (λ ts. Some (each xs t ++ ts)) ts e (λ rest ir e.
    each_length xs (parameter_names gs) t rest (types_length gs rest ir) ∙ ap length (some_inj e)))

-- what taking them gives
abbrev all_taken : Scope → List (List ℕ) → List Ty → Bool
all_taken s [] ts = true
all_taken s (x ∷ xs) [] = true
all_taken s (x ∷ xs) (t ∷ ts) = may_take s x && all_taken (declared s x t) xs ts

list_is : (us : List Ty) (ps : List Parameter) (s : Scope) (xs : List (List ℕ)) (ts : List Ty) → length xs ≡ length ts
    → take_list (us, (ps, s)) xs ts ≡ where_true (all_taken s xs ts) (us ++ ts, (ps ++ parameters_with s xs ts, scope_with s xs ts))
list_is us ps s [] [] e = rw (append-nil us, append-nil ps) refl
list_is us ps s [] (t ∷ ts) e = absurd (omega (arith, e))
list_is us ps s (x ∷ xs) [] e = absurd (omega (arith, e))
list_is us ps s (x ∷ xs) (t ∷ ts) e = elim (cases_Bool (may_take s x)) [
  | inl may ↦
      let p = taken_with (us, (ps, s)) x t in
      let one : take (us, (ps, s)) x t ≡ Some p = ap (λ b. where_true b p) may in
      let short : length xs ≡ length ts = omega (arith, e) in
      let rest = all_taken (declared s x t) xs ts in
      ap (λ o. o >>= λ p. take_list p xs ts) one ∙ list_is p.0 p.1.0 p.1.1 xs ts short
      ∙ ap (λ l. where_true rest (l, (p.1.0 ++ parameters_with p.1.1 xs ts, scope_with p.1.1 xs ts))) (append_assoc us (t ∷ []) ts)
      ∙ ap (λ l. where_true rest (us ++ (t ∷ ts), (l, scope_with p.1.1 xs ts))) (append_assoc ps _ (parameters_with p.1.1 xs ts))
      ∙ sym (ap (λ b. where_true (b && rest) (us ++ (t ∷ ts), (ps ++ parameters_with s (x ∷ xs) (t ∷ ts), scope_with s (x ∷ xs) (t ∷ ts)))) may)
  | inr not_may ↦
      ap (λ b. where_true b (taken_with (us, (ps, s)) x t) >>= λ p. take_list p xs ts) not_may
      ∙ sym (ap (λ b. where_true (b && all_taken (declared s x t) xs ts) (us ++ (t ∷ ts), (ps ++ parameters_with s (x ∷ xs) (t ∷ ts), scope_with s (x ∷ xs) (t ∷ ts)))) not_may)
]

-- names before, and the scope that declares them
abbrev pub AreHere : List (List ℕ) → Scope → Type 0
AreHere before s = (x : List ℕ) → is_blank x ≡ false → among before x ≡ is_here s x

some_push : (b : Block) (x y : List ℕ) (n : ℕ) → is_some (in_block (b ++ ((x, n) ∷ [])) y) ≡ (is_some (in_block b y) || pointwise nat_eq y x)
some_push b x y n = ap is_some (block_push b x n y) ∙ first (in_block b y) (pointwise nat_eq y x) refl
  where
    first : (o : Option ℕ) (e : Bool) → pointwise nat_eq y x ≡ e → is_some (first_of o (in_block ((x, n) ∷ []) y)) ≡ (is_some o || e)
    first (Some k) e q = refl
    first None true q = rw q refl
    first None false q = rw q refl

here_declared : (before : List (List ℕ)) (here : Block) (around : List Block) (vs : List Declared) (x : List ℕ) (t : Ty) → is_blank x ≡ false → AreHere before (In here around vs) → AreHere (before ++ (x ∷ [])) (declared (In here around vs) x t)
here_declared before here around vs x t named same y other =
    among_push before x y ∙ ap (λ b. b || pointwise nat_eq y x) (same y other) ∙ sym (ap (λ s. is_here s y) (ap (λ b. cond b (In here around vs) (In (here ++ ((x, length vs) ∷ [])) around (vs ++ (Named x t ∷ [])))) named) ∙ some_push here x y (length vs))

blank_first : (new distinct fit : Bool) → ((new && true) && (distinct && fit)) ≡ (distinct && (new && fit))
blank_first true distinct fit = refl
blank_first false distinct fit = sym (and-false distinct)

named_first : (new free distinct fit : Bool) → ((new && free) && (distinct && fit)) ≡ ((free && distinct) && (new && fit))
named_first true true distinct fit = refl
named_first true false distinct fit = refl
named_first false free distinct fit = sym (and-false (free && distinct))

taken_fit : (before : List (List ℕ)) (s : Scope) (xs : List (List ℕ)) (ts : List Ty) → length xs ≡ length ts → AreHere before s → all_taken s xs ts ≡ (are_distinct before xs && list_all (λ x. not (among predeclared x)) xs)
taken_fit before s [] ts e same = refl
taken_fit before s (x ∷ xs) [] e same = absurd (omega (arith, e))
taken_fit before (In here around vs) (x ∷ xs) (t ∷ ts) e same =
    let s = In here around vs in
    let short : length xs ≡ length ts = omega (arith, e) in
    let all = list_all (λ x. not (among predeclared x)) xs in
    let new = not (among predeclared x) in
    elim (cases_Bool (is_blank x)) [
      | inl blank ↦ rw blank (ap (λ b. (new && true) && b) (taken_fit before s xs ts short same) ∙ blank_first new (are_distinct before xs) all)
      | inr named ↦
          let one = ap (λ b. (new && not b) && all_taken (declared s x t) xs ts) (sym (same x named)) in
          let more = ap (λ b. (new && not (among before x)) && b) (taken_fit (before ++ (x ∷ [])) (declared s x t) xs ts short (here_declared before here around vs x t named same)) in
          let last = named_first new (not (among before x)) (are_distinct (before ++ (x ∷ [])) xs) all in
          ap (λ b. (new && cond b true (not (is_here s x))) && all_taken (declared s x t) xs ts) named ∙ one ∙ more ∙ last
          ∙ sym (ap (λ b. cond b (are_distinct before xs) (not (among before x) && are_distinct (before ++ (x ∷ [])) xs) && (new && all)) named)
    ]

none_here : AreHere [] empty_scope
none_here x named = refl

abbrev pub made : List Group → List Ty → List Parameter × Scope
made gs ts = (parameters_with empty_scope (parameter_names gs) ts, scope_with empty_scope (parameter_names gs) ts)

by_types : (gs : List Group) (o : Option (List Ty)) → types_in gs ≡ o → (o >>= λ ts. take_list none_taken (parameter_names gs) ts) ≡ (o >>= λ ts. where_true (may_name (parameter_names gs)) (ts, made gs ts))
by_types gs None e = refl
by_types gs (Some ts) e =
    let xs = parameter_names gs in
    let long = types_length gs ts e in
    list_is [] [] empty_scope xs ts long ∙ ap (λ b. where_true b (ts, made gs ts)) (taken_fit [] empty_scope xs ts long none_here)

pub groups_are : (gs : List Group) → take_groups none_taken gs ≡ (types_in gs >>= λ ts. where_true (may_name (parameter_names gs)) (ts, made gs ts))
groups_are gs = groups_list none_taken gs ∙ by_types gs (types_in gs) refl
