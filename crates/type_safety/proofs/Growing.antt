-- Scopes that grow by declarations: what names stand for, and the types of variables.
use Rattle.std.proofs.Common.{◌≡◌, ◌⊎◌, ℕ, zero, suc, nat_eq, true, false, List, [], ◌∷◌, ◌++◌, length, Option, Some, None, is_some, refl, sym, ◌∙◌, ap, subst, append_assoc, append-nil, inl, inr, true≢false}
use Rattle.std.proofs.lemmas.Bool.{cases_Bool}
use Rattle.std.proofs.lemmas.Option.{same_Some, none-some}
use Rattle.std.specs.Cmp.Lexicographic.{pointwise, same_text, bytes_decides}
use Rattle.gr_causal.specs.Sequences as sequences
use Rattle.gr_causal.proofs.ListLemmas.{In-append_left, In-append_right}
use Rattle.gr_program.specs.Types.{Ty}
use Rattle.gr_program.specs.Programs.{Declared, Named}
use Rattle.gr_typing.specs.Names.{is_blank}
use Rattle.gr_typing.specs.Scopes.{Block, Scope, In, in_block, in_blocks, first_of, numbered, variable_named, type_of, type_of_variable, variables_in, is_here, declare, declared}
use Rattle.type_safety.proofs.Sorts.{numbers_of}
use Rattle.type_safety.proofs.Promises.{Live, Begins, Grows, grows}

pub grows_self : (s : Scope) → Grows s s
grows_self (In here around variables) =
    subst (λ b. Grows (In here around variables) (In b around variables)) (append-nil here)
    (subst (λ vs. Grows (In here around variables) (In (here ++ []) around vs)) (append-nil variables) (grows [] []))

pub grows_trans : (s m n : Scope) → Grows s m → Grows m n → Grows s n
grows_trans s m n (grows {here = here} {around = around} {variables = variables} names more) (grows others rest) =
    subst (λ b. Grows (In here around variables) (In b around ((variables ++ more) ++ rest))) (sym (append_assoc here names others))
    (subst (λ vs. Grows (In here around variables) (In (here ++ (names ++ others)) around vs))
    (sym (append_assoc variables more rest)) (grows (names ++ others) (more ++ rest)))

numbered_more : (vs more : List Declared) (k : ℕ) (t : Ty) → type_of (numbered vs k) ≡ Some t
    → type_of (numbered (vs ++ more) k) ≡ Some t
numbered_more [] more k t e = absurd (none-some _ e)
numbered_more (v ∷ vs) more zero t e = e
numbered_more (v ∷ vs) more (suc k) t e = numbered_more vs more k t e

-- variables keep their types
pub grows_types : (s n : Scope) (k : ℕ) (t : Ty) → Grows s n → type_of_variable s k ≡ Some t
    → type_of_variable n k ≡ Some t
grows_types s n k t (grows {variables = variables} names more) e = numbered_more variables more k t e

pub begins_back : (s n : Scope) (ds : List Declared) → Grows s n → Begins n ds → Begins s ds
begins_back s n ds g begins k t e = begins k t (grows_types s n k t g e)

-- names of a block keep their variables
in_block_more : (here names : Block) (x : List ℕ) (k : ℕ) → in_block here x ≡ Some k
    → in_block (here ++ names) x ≡ Some k
in_block_more [] names x k e = absurd (none-some _ e)
in_block_more (entry ∷ here) names x k e = elim (cases_Bool (pointwise nat_eq x entry.0)) [
  | inl t ↦ rw t (rw t at e)
  | inr f ↦ rw f (in_block_more here names x k (rw f at e))
]

in_block_less : (here names : Block) (x : List ℕ) → in_block (here ++ names) x ≡ None → in_block here x ≡ None
in_block_less [] names x e = refl
in_block_less (entry ∷ here) names x e = elim (cases_Bool (pointwise nat_eq x entry.0)) [
  | inl t ↦ rw t (rw t at e)
  | inr f ↦ rw f (in_block_less here names x (rw f at e))
]

in_pushed : (here : Block) (x y : List ℕ) (n k : ℕ) → in_block (here ++ ((x, n) ∷ [])) y ≡ Some k
    → (in_block here y ≡ Some k) ⊎ ((y ≡ x) × (k ≡ n))
in_pushed [] x y n k e = elim (cases_Bool (pointwise nat_eq y x)) [
  | inl t ↦ inr (same_text y x (sym t), sym (same_Some n k (rw t at e)))
  | inr f ↦ absurd (none-some k (rw f at e))
]
in_pushed (entry ∷ here) x y n k e = elim (cases_Bool (pointwise nat_eq y entry.0)) [
  | inl t ↦ inl (rw t (rw t at e))
  | inr f ↦ rw f (in_pushed here x y n k (rw f at e))
]

pushed_is : (here : Block) (x : List ℕ) (n : ℕ) → is_some (in_block here x) ≡ false
    → in_block (here ++ ((x, n) ∷ [])) x ≡ Some n
pushed_is [] x n e = rw ((bytes_decides x x).1 refl) refl
pushed_is (entry ∷ here) x n e = elim (cases_Bool (pointwise nat_eq x entry.0)) [
  | inl t ↦ absurd (true≢false (rw t at e))
  | inr f ↦ rw f (pushed_is here x n (rw f at e))
]

first_is : (a b : Option ℕ) (k : ℕ) → a ≡ Some k → first_of a b ≡ Some k
first_is a b k e = ap (λ a. first_of a b) e

pub grows_named : (m n : Scope) (x : List ℕ) (k : ℕ) → Grows m n → is_here m x ≡ true → variable_named m x ≡ Some k
    → variable_named n x ≡ Some k
grows_named m n x k (grows {here = here} {around = around} names more) h e = by_block (in_block here x) refl h e
  where
    by_block : (o : Option ℕ) → in_block here x ≡ o → is_some o ≡ true → first_of o (in_blocks around x) ≡ Some k
        → first_of (in_block (here ++ names) x) (in_blocks around x) ≡ Some k
    by_block (Some j) is some same =
        first_is (in_block (here ++ names) x) (in_blocks around x) k (in_block_more here names x j is ∙ same)
    by_block None is some same = absurd (true≢false (sym some))

-- a declaration
length_numbered : (vs : List Declared) (x : List ℕ) (t : Ty)
    → type_of (numbered (vs ++ (Named x t ∷ [])) (length vs)) ≡ Some t
length_numbered [] x t = refl
length_numbered (v ∷ vs) x t = length_numbered vs x t

pub declare_grows : (m : Scope) (x : List ℕ) (t : Ty) → Grows m (declare m x t)
declare_grows (In here around variables) x t = grows ((x, length variables) ∷ []) (Named x t ∷ [])

pub declared_grows : (m : Scope) (x : List ℕ) (t : Ty) → Grows m (declared m x t)
declared_grows m x t =
    elim (cases_Bool (is_blank x)) [ inl b ↦ rw b (grows_self m) | inr b ↦ rw b (declare_grows m x t) ]

-- the number of the next variable
abbrev pub next_of : Scope → ℕ
next_of m = length (variables_in m)

pub declare_type : (m : Scope) (x : List ℕ) (t : Ty) → type_of_variable (declare m x t) (next_of m) ≡ Some t
declare_type (In here around variables) x t = length_numbered variables x t

pub declare_new : (m : Scope) (x : List ℕ) (t : Ty) → is_here m x ≡ false
    → variable_named (declare m x t) x ≡ Some (next_of m)
declare_new (In here around variables) x t h =
    first_is _ (in_blocks around x) _ (pushed_is here x (length variables) h)

pub declared_here : (m : Scope) (x : List ℕ) (t : Ty) → is_here m x ≡ false → is_here (declare m x t) x ≡ true
declared_here (In here around variables) x t h = ap is_some (pushed_is here x (length variables) h)

pub declare_named : (m : Scope) (x : List ℕ) (t : Ty) (y : List ℕ) (k : ℕ)
    → variable_named (declare m x t) y ≡ Some k → (variable_named m y ≡ Some k) ⊎ ((y ≡ x) × (k ≡ next_of m))
declare_named (In here around variables) x t y k e =
    by_block (in_block (here ++ ((x, length variables) ∷ [])) y) refl e
  where
    by_block : (o : Option ℕ) → in_block (here ++ ((x, length variables) ∷ [])) y ≡ o
        → first_of o (in_blocks around y) ≡ Some k → (first_of (in_block here y) (in_blocks around y) ≡ Some k)
        ⊎ ((y ≡ x) × (k ≡ length variables))
    by_block (Some j) is same = elim (in_pushed here x y (length variables) k (is ∙ same)) [
      | inl q ↦ inl (first_is (in_block here y) (in_blocks around y) k q)
      | inr q ↦ inr q
    ]
    by_block None is same = inl (rw (in_block_less here _ y is) same)

pub declare_here : (m : Scope) (x : List ℕ) (t : Ty) (y : List ℕ) → is_here (declare m x t) y ≡ true
    → (is_here m y ≡ true) ⊎ (y ≡ x)
declare_here (In here around variables) x t y h = by_block (in_block (here ++ ((x, length variables) ∷ [])) y) refl h
  where
    by_block : (o : Option ℕ) → in_block (here ++ ((x, length variables) ∷ [])) y ≡ o → is_some o ≡ true
        → (is_some (in_block here y) ≡ true) ⊎ (y ≡ x)
    by_block (Some k) is some =
        elim (in_pushed here x y (length variables) k is) [ inl q ↦ inl (ap is_some q) | inr q ↦ inr q.0 ]
    by_block None is some = absurd (true≢false (sym some))

-- Names of the second scope stand for what they did in the first, or for these variables.
abbrev pub Reaches : Scope → Scope → List (Option ℕ) → Type 0
Reaches m n ks =
    (y : List ℕ) (k : ℕ) → variable_named n y ≡ Some k → (variable_named m y ≡ Some k)
    ⊎ sequences.In k (numbers_of ks)

pub reaches_self : (m : Scope) (ks : List (Option ℕ)) → Reaches m m ks
reaches_self m ks y k e = inl e

pub reaches_live : (m n : Scope) (ks : List (Option ℕ)) (live : List ℕ) → Reaches m n ks → Live m live
    → Live n (numbers_of ks ++ live)
reaches_live m n ks live reaches lives y k e = elim (reaches y k e) [
  | inl q ↦ In-append_right k (numbers_of ks) live (lives y k q)
  | inr i ↦ In-append_left k (numbers_of ks) live i
]

in_first : (j : Option ℕ) (ks : List (Option ℕ)) (k : ℕ) → sequences.In k (numbers_of (j ∷ []))
    → sequences.In k (numbers_of (j ∷ ks))
in_first None ks k i = absurd i
in_first (Some j) ks k (inl e) = inl e
in_first (Some j) ks k (inr i) = absurd i

in_others : (j : Option ℕ) (ks : List (Option ℕ)) (k : ℕ) → sequences.In k (numbers_of ks)
    → sequences.In k (numbers_of (j ∷ ks))
in_others None ks k i = i
in_others (Some j) ks k i = inr i

pub reaches_then : (m n o : Scope) (j : Option ℕ) (ks : List (Option ℕ)) → Reaches m n (j ∷ []) → Reaches n o ks
    → Reaches m o (j ∷ ks)
reaches_then m n o j ks first others y k e = elim (others y k e) [
  | inl q ↦ elim (first y k q) [ inl p ↦ inl p | inr i ↦ inr (in_first j ks k i) ]
  | inr i ↦ inr (in_others j ks k i)
]
