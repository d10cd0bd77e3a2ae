-- Declarations of variables, name by name.
use Rattle.std.proofs.lemmas.Bool.{cases_Bool}
use Rattle.std.proofs.Common.{◌≡◌, ℕ, zero, suc, ◌+◌, List, [], ◌∷◌, ◌++◌, length, get_or, drop, ◌<◌, ◌≤◌, refl, ap, sym, ◌∙◌, subst, arith, inl, inr, add-one, append_assoc, append-nil, Global}
use Rattle.std.specs.Prelude.{Option, Some, None, Vec}
use Rattle.std.proofs.lemmas.List.{drop_all}
use Rattle.gr_tree.specs.declared.expr.Expr as code_expr
use Rattle.gr_tree.specs.Exprs as tree
use Rattle.gr_tree.specs.Exprs.{Tree, Trees, tree_of, trees_of, names_of}
use Rattle.gr_program.specs.declared.program.Expr as checked_expr
use Rattle.gr_exprs.specs.declared.operands.Operand as code_operand
use Rattle.gr_program.specs.Types.{Ty, BoolType}
use Rattle.gr_typing.specs.Types.{assignable}
use Rattle.gr_program.specs.Programs.{Exprs, none, more, Literally, zero_of}
use Rattle.gr_program.specs.Views.{expr_of, exprs_of}
use Rattle.gr_typing.specs.Scopes.{Scope, Signature, declared, number_of}
use Rattle.gr_typing.specs.Values.{Value}
use Rattle.gr_typing.specs.Assignments.{zeros}
use Rattle.gr_exprs.specs.Finding.{◌>>=◌, Typed, value_in}
use Rattle.gr_exprs.specs.Calling.{values_in}
use Rattle.gr_types.specs.FindingStatements.{Given, Defined, Done, with_defined, declared_as, all_declared_as, receive_in, pair_of, var_by, var_pair, assigned}
use Rattle.gr_types.specs.Declaring.{Declarable, placed, all_placed, by_values, type_for, by_receive, both_received, both_declared}
use Rattle.gr_exprs.specs.Checking.{meaning_of, meanings_of}
use Rattle.gr_exprs.proofs.Arguments.{terms_before, before_push, before_none}
use Rattle.gr_types.proofs.Counts.{no_pair}
use Rattle.gr_exprs.proofs.Finds.{some_inj}
use Rattle.gr_types.proofs.NameLists.{front_names}

-- the values for names, each before those after it
abbrev Placed : Type 0
Placed = (List (Option ℕ) × Exprs) × Scope

then_nothing : {A B : Type 0} (o : Option A) (f : A → Option B) → ((a : A) → f a ≡ None) → (o >>= f) ≡ None
then_nothing (Some a) f e = e a
then_nothing None f e = refl

then_same : {A B : Type 0} (o : Option A) (f g : A → Option B) → ((a : A) → f a ≡ g a) → (o >>= f) ≡ (o >>= g)
then_same (Some a) f g e = e a
then_same None f g e = refl

abbrev with_rest : Given → Placed → Option Placed
with_rest g rest = Some (with_defined g rest)

abbrev one : List ℕ → Scope → Typed → Defined
one x m w = ((number_of (declared m x w.0) x, w.1), declared m x w.0)

abbrev others : Option Ty → List (List ℕ) → List Value → Defined → Option Placed
others t xs vs d = all_placed t xs vs d.1 >>= with_rest d.0

abbrev finished : Placed → Option Done
finished g = Some (assigned g.0, g.1)

one_placed : (t : Option Ty) (x : List ℕ) (xs : List (List ℕ)) (vs : List Value) (m : Scope) (q : Option Typed) (r : Scope → Option Placed) → ((n : Scope) → r n ≡ all_placed t xs vs n)
    → (q >>= λ w. r (one x m w).1 >>= with_rest (one x m w).0) ≡ ((q >>= λ w. Some (one x m w)) >>= others t xs vs)
one_placed t x xs vs m None r e = refl
one_placed t x xs vs m (Some w) r e = ap (λ o. o >>= with_rest (one x m w).0) (e (one x m w).1)

first_placed : (o : Option Value) (t : Option Ty) (x : List ℕ) (xs : List (List ℕ)) (m : Scope) (w : Option (List Value)) (r : Scope → Option Placed) → ((n : Scope) → r n ≡ (w >>= λ vs. all_placed t xs vs n))
    → (o >>= declared_as t >>= λ w. r (one x m w).1 >>= with_rest (one x m w).0) ≡ ((o >>= λ v. w >>= λ vs. Some (v ∷ vs)) >>= λ vs. all_placed t (x ∷ xs) vs m)
first_placed None t x xs m w r e = refl
first_placed (Some v) t x xs m None r e = then_nothing (declared_as t v) (λ w. r (one x m w).1 >>= with_rest (one x m w).0) (λ w. ap (λ o. o >>= with_rest (one x m w).0) (e (one x m w).1))
first_placed (Some v) t x xs m (Some vs) r e = one_placed t x xs vs m (declared_as t v) r e

too_many : (o : Option Value) (w : Option (List Value)) (t : Option Ty) (m : Scope) → None ≡ ((o >>= λ v. w >>= λ vs. Some (v ∷ vs)) >>= λ vs. all_placed t [] vs m)
too_many None w t m = refl
too_many (Some v) None t m = refl
too_many (Some v) (Some vs) t m = refl

placed_all : (fs : List Signature) (s : Scope) (t : Option Ty) (xs : List (List ℕ)) (es : Trees) (m : Scope) → all_declared_as fs s t xs es m ≡ (values_in fs s es >>= λ vs. all_placed t xs vs m)
unfolding all_declared_as
placed_all fs s t [] tree.none m = refl
placed_all fs s t [] (tree.more e es) m = too_many (value_in fs s e) (values_in fs s es) t m
placed_all fs s t (x ∷ xs) tree.none m = refl
placed_all fs s t (x ∷ xs) (tree.more e es) m = first_placed (value_in fs s e) t x xs m (values_in fs s es) (all_declared_as fs s t xs es) (placed_all fs s t xs es)

then_finished : (o : Option (List Value)) (t : Option Ty) (xs : List (List ℕ)) (s : Scope) → ((o >>= λ vs. all_placed t xs vs s) >>= finished) ≡ (o >>= λ vs. all_placed t xs vs s >>= finished)
then_finished None t xs s = refl
then_finished (Some vs) t xs s = refl

by_values_is : (fs : List Signature) (s : Scope) (xs : List (List ℕ)) (t : Option Ty) (es : Trees) → var_by fs s xs t es None ≡ by_values fs s xs t es
by_values_is fs s xs t es = ap (λ o. o >>= finished) (placed_all fs s t xs es s) ∙ then_finished (values_in fs s es) t xs s

-- names and expressions of other numbers
other_count : (fs : List Signature) (s : Scope) (t : Option Ty) (names : List (Vec ℕ Global)) (es : List code_expr.Expr) (m : Scope) → (length names ≡ length es → ⊥) → all_declared_as fs s t (names_of names) (trees_of es) m ≡ None
unfolding all_declared_as
other_count fs s t [] [] m other = absurd (other refl)
other_count fs s t [] (e ∷ es) m other = refl
other_count fs s t (x ∷ names) [] m other = refl
other_count fs s t (x ∷ names) (e ∷ es) m other =
    let r = all_declared_as fs s t (names_of names) (trees_of es) in
    then_nothing (value_in fs s (tree_of e) >>= declared_as t) (λ w. r (one x.items m w).1 >>= with_rest (one x.items m w).0)
    (λ w. ap (λ o. o >>= with_rest (one x.items m w).0) (other_count fs s t names es (one x.items m w).1 (λ l. other (omega (arith, l)))))

pub wrong_names : (fs : List Signature) (s : Scope) (names : List (Vec ℕ Global)) (t : Option Ty) (es : List code_expr.Expr) → (length names ≡ length es → ⊥) → by_values fs s (names_of names) t (trees_of es) ≡ None
wrong_names fs s names t es other = sym (by_values_is fs s (names_of names) t (trees_of es)) ∙ ap (λ o. o >>= finished) (other_count fs s t names es s other)

-- two names and a receive
abbrev received_as : Scope → List ℕ → List ℕ → Option Ty → Typed → Option Done
received_as s x y t w = type_for t w.0 >>= λ a. type_for t BoolType >>= λ b. both_received w x y (both_declared s x y a b)

both_is : (s : Scope) (x y : List ℕ) (e : Tree) (t : Option Ty) (w : Typed) → var_pair s (x, (y, e)) t w ≡ received_as s x y t w
both_is s x y e None w = refl
both_is s x y e (Some u) w = elim (cases_Bool (assignable w.0 u)) [
  | inl a ↦ elim (cases_Bool (assignable BoolType u)) [ inl b ↦ rw (a, b) refl | inr b ↦ rw (a, b) refl ]
  | inr a ↦ rw a refl
]

by_receive_is : (fs : List Signature) (s : Scope) (xs : List (List ℕ)) (t : Option Ty) (es : Trees) (x y : List ℕ) (e : Tree) → var_by fs s xs t es (Some (x, (y, e))) ≡ by_receive fs s x y t e
by_receive_is fs s xs t es x y e = then_same (receive_in fs s e) (var_pair s (x, (y, e)) t) (received_as s x y t) (both_is s x y e t)

-- whether there are two names and one expression
pair_at : (names : List (Vec ℕ Global)) (es : List code_expr.Expr) (x y : Vec ℕ Global) (e : code_expr.Expr) → length names ≡ 2 → length es ≡ 1 → x ≡ get_or names 0 x → y ≡ get_or names 1 y → e ≡ get_or es 0 e → pair_of (names_of names) (trees_of es) ≡ Some (x.items, (y.items, tree_of e))
pair_at (a ∷ (b ∷ [])) (f ∷ []) x y e l m ix iy ie =
    sym (ap (λ z. Some (z.items, (y.items, tree_of e))) ix ∙ ap (λ z. Some (a.items, (z.items, tree_of e))) iy ∙ ap (λ z. Some (a.items, (b.items, tree_of z))) ie)
pair_at [] es x y e l m ix iy ie = absurd (omega (arith, l))
pair_at (a ∷ []) es x y e l m ix iy ie = absurd (omega (arith, l))
pair_at (a ∷ (b ∷ (c ∷ names))) es x y e l m ix iy ie = absurd (omega (arith, l))
pair_at (a ∷ (b ∷ [])) [] x y e l m ix iy ie = absurd (omega (arith, m))
pair_at (a ∷ (b ∷ [])) (f ∷ (g ∷ es)) x y e l m ix iy ie = absurd (omega (arith, m))

pub by_pair : (fs : List Signature) (s : Scope) (names : List (Vec ℕ Global)) (t : Option Ty) (es : List code_expr.Expr) (x y : Vec ℕ Global) (e : code_expr.Expr) (a b : List ℕ) → length names ≡ 2 → length es ≡ 1 → x ≡ get_or names 0 x → y ≡ get_or names 1 y → e ≡ get_or es 0 e → a ≡ x.items → b ≡ y.items
    → by_receive fs s a b t (tree_of e) ≡ var_by fs s (names_of names) t (trees_of es) (pair_of (names_of names) (trees_of es))
by_pair fs s names t es x y e a b l m ix iy ie ax by =
    ap (λ z. by_receive fs s z b t (tree_of e)) ax ∙ ap (λ z. by_receive fs s x.items z t (tree_of e)) by
    ∙ sym (ap (var_by fs s (names_of names) t (trees_of es)) (pair_at names es x y e l m ix iy ie) ∙ by_receive_is fs s (names_of names) t (trees_of es) x.items y.items (tree_of e))

pub by_no_pair : (fs : List Signature) (s : Scope) (names : List (Vec ℕ Global)) (t : Option Ty) (es : List code_expr.Expr) → (length names ≡ 2 → length es ≡ 1 → ⊥) → by_values fs s (names_of names) t (trees_of es) ≡ var_by fs s (names_of names) t (trees_of es) (pair_of (names_of names) (trees_of es))
by_no_pair fs s names t es other = sym (ap (var_by fs s (names_of names) t (trees_of es)) (sym (no_pair names es other)) ∙ by_values_is fs s (names_of names) t (trees_of es))

-- the loop over a zero value for each name
zeros_on : (names : List (Vec ℕ Global)) (i : ℕ) (t : Ty) → i < length names → zeros (names_of (drop i names)) t ≡ more (Literally (zero_of t)) (zeros (names_of (drop (suc i) names)) t)
zeros_on [] i t lt = absurd (omega arith)
zeros_on (n ∷ names) zero t lt = refl
zeros_on (n ∷ names) (suc i) t lt = zeros_on names i t (omega arith)

pub one_zero : (names : List (Vec ℕ Global)) (i : ℕ) (t : Ty) (ts new : List checked_expr.Expr) (p : checked_expr.Expr) (o : Exprs) → i < length names → terms_before ts (zeros (names_of (drop i names)) t) ≡ o → expr_of p ≡ Literally (zero_of t) → new ≡ ts ++ (p ∷ []) → terms_before new (zeros (names_of (drop (i + 1) names)) t) ≡ o
one_zero names i t ts new p o lt so_far is pushed =
    let rest = zeros (names_of (drop (suc i) names)) t in
    rw add-one (ap (λ l. terms_before l rest) pushed ∙ before_push ts p rest ∙ ap (λ q. terms_before ts (more q rest)) is ∙ sym (ap (terms_before ts) (zeros_on names i t lt)) ∙ so_far)

pub all_zeros : (names : List (Vec ℕ Global)) (i : ℕ) (t : Ty) (ts : List checked_expr.Expr) (o : Exprs) → length names ≤ i → terms_before ts (zeros (names_of (drop i names)) t) ≡ o → exprs_of ts ≡ o
all_zeros names i t ts o le so_far = sym (before_none ts) ∙ sym (ap (λ l. terms_before ts (zeros (names_of l) t)) (drop_all i names le)) ∙ so_far

-- the loop over names and their values
abbrev pub after_placed : List (Option ℕ) → List checked_expr.Expr → Placed → Option Placed
after_placed ks ts g = Some ((ks ++ g.0.0, terms_before ts g.0.1), g.1)

after_one : (r : Option Placed) (ks : List (Option ℕ)) (k : Option ℕ) (ts : List checked_expr.Expr) (p : checked_expr.Expr) → (r >>= after_placed (ks ++ (k ∷ [])) (ts ++ (p ∷ []))) ≡ ((r >>= with_rest (k, expr_of p)) >>= after_placed ks ts)
after_one None ks k ts p = refl
after_one (Some g) ks k ts p =
    ap (λ l. Some ((l, terms_before (ts ++ (p ∷ [])) g.0.1), g.1)) (append_assoc ks (k ∷ []) g.0.0) ∙ ap (λ q. Some ((ks ++ (k ∷ g.0.0), q), g.1)) (before_push ts p g.0.1)

nothing : {A : Type 0} (a : A) → None ≡ Some a → ⊥
nothing a e = cc

placed_by : (x : List ℕ) (xs : List (List ℕ)) (m n : Scope) (g : Given) (q : Option Typed) → (q >>= λ w. Some (one x m w)) ≡ Some (g, n) → Declarable m (x ∷ xs) → Declarable n xs
placed_by x xs m n g None e free = absurd (nothing (g, n) e)
placed_by x xs m n g (Some w) e free =
    let f : one x m w ≡ (g, n) = some_inj e in
    subst (λ l. Declarable l xs) (ap (λ d. d.1) f) (free.1 w.0)

module _ (names : List (Vec ℕ Global)) (i : ℕ) (t : Option Ty) (vs : List code_operand.Operand) (m : Scope) (ks : List (Option ℕ)) (ts : List checked_expr.Expr) where
  pub free_on : (x : Vec ℕ Global) (y : List ℕ) (v : Value) (g : Given) (n : Scope) → i < length names → x ≡ get_or names i x → y ≡ x.items → placed t y v m ≡ Some (g, n) → Declarable m (names_of (drop i names)) → Declarable n (names_of (drop (i + 1) names))
  free_on x y v g n lt is same gives free =
      let rest = names_of (drop (i + 1) names) in
      placed_by y rest m n g (declared_as t v) gives (subst (λ l. Declarable m l) (front_names names i x lt is ∙ ap (λ z. z ∷ rest) (sym same)) free)

  module _ (o : Option Placed) (so_far : (all_placed t (names_of (drop i names)) (meanings_of vs) m >>= after_placed ks ts) ≡ o) where
    pub place_on : (x : Vec ℕ Global) (y : List ℕ) (v : code_operand.Operand) (rest : List code_operand.Operand) (k : Option ℕ) (p : checked_expr.Expr) (n : Scope) (new_ks : List (Option ℕ)) (new_ts : List checked_expr.Expr) → i < length names → x ≡ get_or names i x → y ≡ x.items → vs ≡ v ∷ rest
        → placed t y (meaning_of v) m ≡ Some ((k, expr_of p), n) → new_ks ≡ ks ++ (k ∷ []) → new_ts ≡ ts ++ (p ∷ []) → (all_placed t (names_of (drop (i + 1) names)) (meanings_of rest) n >>= after_placed new_ks new_ts) ≡ o
    place_on x y v rest k p n new_ks new_ts lt is same popped gives pushed added =
        let xs = names_of (drop (i + 1) names) in
        let r = all_placed t xs (meanings_of rest) n in
        let all = λ (l : List (List ℕ)) (ws : List code_operand.Operand). all_placed t l (meanings_of ws) m >>= after_placed ks ts in
        ap (λ l. r >>= after_placed l new_ts) pushed ∙ ap (λ l. r >>= after_placed (ks ++ (k ∷ [])) l) added ∙ after_one r ks k ts p
        ∙ sym (ap (λ d. (d >>= others t xs (meanings_of rest)) >>= after_placed ks ts) gives)
        ∙ sym (ap (λ ws. all (names_of (drop i names)) ws) popped ∙ ap (λ l. all l (v ∷ rest)) (front_names names i x lt is ∙ ap (λ z. z ∷ xs) (sym same))) ∙ so_far

    pub place_end : length names ≤ i → length vs ≡ 0 → o ≡ Some ((ks, exprs_of ts), m)
    place_end le none_left = sym so_far ∙ ending vs none_left
      where
        ending : (ws : List code_operand.Operand) → length ws ≡ 0 → (all_placed t (names_of (drop i names)) (meanings_of ws) m >>= after_placed ks ts) ≡ Some ((ks, exprs_of ts), m)
        ending [] e = ap (λ l. all_placed t (names_of l) [] m >>= after_placed ks ts) (drop_all i names le) ∙ ap (λ l. Some ((l, terms_before ts none), m)) (append-nil ks) ∙ ap (λ q. Some ((ks, q), m)) (before_none ts)
        ending (w ∷ ws) e = absurd (omega (arith, e))

    pub place_over : length names ≤ i → (length vs ≡ 0 → ⊥) → o ≡ None
    place_over le some_left = sym so_far ∙ over vs some_left
      where
        over : (ws : List code_operand.Operand) → (length ws ≡ 0 → ⊥) → (all_placed t (names_of (drop i names)) (meanings_of ws) m >>= after_placed ks ts) ≡ None
        over [] e = absurd (e refl)
        over (w ∷ ws) e = ap (λ l. all_placed t (names_of l) (meanings_of (w ∷ ws)) m >>= after_placed ks ts) (drop_all i names le)
