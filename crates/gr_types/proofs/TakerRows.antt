-- The loops over names and what takes their values.
use Rattle.std.proofs.Common.{◌≡◌, ℕ, zero, suc, ◌+◌, ◌<◌, ◌≤◌, false, List, [], ◌∷◌, ◌++◌, length, get_or, drop, refl, ap, sym, ◌∙◌, arith, add-one, drop-cons, append-nil, Global}
use Rattle.std.specs.Prelude.{Option, Some, None, Vec}
use Rattle.std.proofs.lemmas.List.{drop_all, nil_from_length}
use Rattle.gr_tree.specs.Exprs.{names_of}
use Rattle.gr_program.specs.declared.types.Type as code_type
use Rattle.gr_types.specs.declared.assigning.definition.Taker as code_taker
use Rattle.gr_program.specs.declared.program.Expr as checked_expr
use Rattle.gr_exprs.specs.declared.operands.Operand as code_operand
use Rattle.gr_program.specs.Programs.{Exprs, none, more}
use Rattle.gr_program.specs.TypeViews.{ty_of, types_of}
use Rattle.gr_program.specs.Views.{expr_of, exprs_of}
use Rattle.gr_typing.specs.Scopes.{Scope}
use Rattle.gr_exprs.specs.Finding.{◌>>=◌}
use Rattle.gr_types.specs.Taking.{fit, fits, Taker, taker, takers, share, with_share, shares, all_accept}
use Rattle.gr_types.specs.TakerViews.{taker_of, takers_of}
use Rattle.gr_exprs.specs.Checking.{meaning_of, meanings_of}
use Rattle.gr_exprs.proofs.Arguments.{terms_before, before_push, before_none, after_terms, front_types}
use Rattle.gr_types.proofs.NameLists.{front_names}

takers_push : (ks : List code_taker.Taker) (k : code_taker.Taker) (rest : List Taker) → takers_of (ks ++ (k ∷ [])) ++ rest ≡ takers_of ks ++ (taker_of k ∷ rest)
takers_push [] k rest = refl
takers_push (j ∷ ks) k rest = ap (λ l. taker_of j ∷ l) (takers_push ks k rest)

after_takers : (o : Option (List Taker)) (ks : List code_taker.Taker) (k : code_taker.Taker) → (o >>= λ r. Some (takers_of (ks ++ (k ∷ [])) ++ r)) ≡ ((o >>= λ r. Some (taker_of k ∷ r)) >>= λ r. Some (takers_of ks ++ r))
after_takers (Some r) ks k = ap Some (takers_push ks k r)
after_takers None ks k = refl

-- fewer types than names
no_type : (s : Scope) (names : List (Vec ℕ Global)) (i : ℕ) → i < length names → takers s (names_of (drop i names)) [] ≡ None
no_type s [] i lt = absurd (omega arith)
no_type s (x ∷ names) zero lt = refl
no_type s (x ∷ names) (suc i) lt = no_type s names i (omega arith)

pub no_acceptance : (s : Scope) (ks : List (Option ℕ)) (ts : List code_type.Type) (i : ℕ) → i < length ks → length ts ≤ i → all_accept s (drop i ks) (types_of (drop i ts)) ≡ false
no_acceptance s ks ts i lt le = ap (λ l. all_accept s (drop i ks) (types_of l)) (drop_all i ts le) ∙ none_left ks i lt
  where
    none_left : (js : List (Option ℕ)) (j : ℕ) → j < length js → all_accept s (drop j js) [] ≡ false
    none_left [] j lt = absurd (omega arith)
    none_left (k ∷ js) zero lt = refl
    none_left (k ∷ js) (suc j) lt = none_left js j (omega arith)

module _ (s : Scope) (names : List (Vec ℕ Global)) (ts : List code_type.Type) (i : ℕ) (ks : List code_taker.Taker) (o : Option (List Taker)) (so_far : (takers s (names_of (drop i names)) (types_of (drop i ts)) >>= λ r. Some (takers_of ks ++ r)) ≡ o) where
  pub taker_on : (x : Vec ℕ Global) (t own : code_type.Type) (k : code_taker.Taker) (new : List code_taker.Taker) → i < length names → x ≡ get_or names i x → i < length ts → t ≡ get_or ts i t → ty_of own ≡ ty_of t → taker s x.items (ty_of own) ≡ Some (taker_of k) → new ≡ ks ++ (k ∷ []) → (takers s (names_of (drop (i + 1) names)) (types_of (drop (i + 1) ts)) >>= λ r. Some (takers_of new ++ r)) ≡ o
  taker_on x t own k new lt is shorter of same gives pushed =
      let rest = takers s (names_of (drop (i + 1) names)) (types_of (drop (i + 1) ts)) in
      let front = ap (λ l. takers s l (types_of (drop i ts))) (front_names names i x lt is) ∙ ap (takers s (x.items ∷ names_of (drop (i + 1) names))) (front_types ts i t shorter of) in
      let step = front ∙ ap (λ u. taker s x.items u >>= λ k. rest >>= λ r. Some (k ∷ r)) (sym same) ∙ ap (λ g. g >>= λ k. rest >>= λ r. Some (k ∷ r)) gives in
      ap (λ l. rest >>= λ r. Some (takers_of l ++ r)) pushed ∙ after_takers rest ks k ∙ sym (ap (λ g. g >>= λ r. Some (takers_of ks ++ r)) step) ∙ so_far

  pub taker_none : i < length names → length ts ≤ i → o ≡ None
  taker_none lt le =
      sym so_far ∙ ap (λ l. takers s (names_of (drop i names)) (types_of l) >>= λ r. Some (takers_of ks ++ r)) (drop_all i ts le) ∙ ap (λ g. g >>= λ r. Some (takers_of ks ++ r)) (no_type s names i lt)

  pub taker_end : length names ≤ i → o ≡ Some (takers_of ks)
  taker_end le =
      sym so_far ∙ ap (λ l. takers s (names_of l) (types_of (drop i ts)) >>= λ r. Some (takers_of ks ++ r)) (drop_all i names le) ∙ ap Some (append-nil (takers_of ks))

-- what is shared before the rest
abbrev pub shares_before : List code_taker.Taker → List checked_expr.Expr → List Taker × Exprs → List Taker × Exprs
shares_before ks ts rest = (takers_of ks ++ rest.0, terms_before ts rest.1)

-- values for what names stand for
module _ (s : Scope) (ks : List (Option ℕ)) (i : ℕ) (vs : List code_operand.Operand) (ts : List checked_expr.Expr) (o : Option Exprs) (so_far : (fits s (drop i ks) (meanings_of vs) >>= λ ps. Some (terms_before ts ps)) ≡ o) where
  pub fit_on : (k : Option ℕ) (v : code_operand.Operand) (rest : List code_operand.Operand) (t : checked_expr.Expr) (new : List checked_expr.Expr) → i < length ks → vs ≡ v ∷ rest → fit s (get_or ks i k) (meaning_of v) ≡ Some (expr_of t) → new ≡ ts ++ (t ∷ []) → (fits s (drop (i + 1) ks) (meanings_of rest) >>= λ ps. Some (terms_before new ps)) ≡ o
  fit_on k v rest t new lt popped gives pushed =
      let r = fits s (drop (i + 1) ks) (meanings_of rest) in
      let front : drop i ks ≡ get_or ks i k ∷ drop (i + 1) ks = rw (add-one, drop-cons ks i k) in
      ap (λ l. r >>= λ ps. Some (terms_before l ps)) pushed ∙ after_terms r ts t ∙ sym (ap (λ g. (g >>= λ q. r >>= λ ps. Some (more q ps)) >>= λ ps. Some (terms_before ts ps)) gives)
      ∙ sym (ap (λ l. fits s (drop i ks) (meanings_of l) >>= λ ps. Some (terms_before ts ps)) popped ∙ ap (λ l. fits s l (meanings_of (v ∷ rest)) >>= λ ps. Some (terms_before ts ps)) front) ∙ so_far

  pub fit_end : length ks ≤ i → o ≡ Some (exprs_of ts)
  fit_end le =
      sym so_far ∙ ap (λ l. fits s l (meanings_of vs) >>= λ ps. Some (terms_before ts ps)) (drop_all i ks le) ∙ ap Some (before_none ts)

  pub fit_none : i < length ks → length vs ≡ 0 → o ≡ None
  fit_none lt empty =
      sym so_far ∙ ap (λ l. fits s (drop i ks) (meanings_of l) >>= λ ps. Some (terms_before ts ps)) (nil_from_length vs empty) ∙ ap (λ g. g >>= λ ps. Some (terms_before ts ps)) (no_value ks i lt)
    where
      no_value : (js : List (Option ℕ)) (j : ℕ) → j < length js → fits s (drop j js) [] ≡ None
      no_value [] j lt = absurd (omega arith)
      no_value (k ∷ js) zero lt = refl
      no_value (k ∷ js) (suc j) lt = no_value js j (omega arith)

-- values that names are defined by
after_shares : (o : Option (List Taker × Exprs)) (ks : List code_taker.Taker) (ts : List checked_expr.Expr) (k : code_taker.Taker) (t : checked_expr.Expr) → (o >>= λ rest. Some (shares_before (ks ++ (k ∷ [])) (ts ++ (t ∷ [])) rest)) ≡ ((o >>= λ rest. Some (with_share (taker_of k, expr_of t) rest)) >>= λ rest. Some (shares_before ks ts rest))
after_shares (Some rest) ks ts k t = ap (λ l. Some (l, terms_before (ts ++ (t ∷ [])) rest.1)) (takers_push ks k rest.0) ∙ ap (λ l. Some (takers_of ks ++ (taker_of k ∷ rest.0), l)) (before_push ts t rest.1)
after_shares None ks ts k t = refl

module _ (s : Scope) (names : List (Vec ℕ Global)) (i : ℕ) (vs : List code_operand.Operand) (ks : List code_taker.Taker) (ts : List checked_expr.Expr) (o : Option (List Taker × Exprs)) (so_far : (shares s (names_of (drop i names)) (meanings_of vs) >>= λ rest. Some (shares_before ks ts rest)) ≡ o) where
  pub share_on : (x : Vec ℕ Global) (v : code_operand.Operand) (rest : List code_operand.Operand) (k : code_taker.Taker) (t : checked_expr.Expr) (takers : List code_taker.Taker) (terms : List checked_expr.Expr) → i < length names → x ≡ get_or names i x → vs ≡ v ∷ rest → share s x.items (meaning_of v) ≡ Some (taker_of k, expr_of t) → takers ≡ ks ++ (k ∷ []) → terms ≡ ts ++ (t ∷ []) → (shares s (names_of (drop (i + 1) names)) (meanings_of rest) >>= λ rest. Some (shares_before takers terms rest)) ≡ o
  share_on x v rest k t takers terms lt is popped gives pushed added =
      let r = shares s (names_of (drop (i + 1) names)) (meanings_of rest) in
      ap (λ l. r >>= λ rest. Some (shares_before l terms rest)) pushed ∙ ap (λ l. r >>= λ rest. Some (shares_before (ks ++ (k ∷ [])) l rest)) added ∙ after_shares r ks ts k t
      ∙ sym (ap (λ g. (g >>= λ p. r >>= λ rest. Some (with_share p rest)) >>= λ rest. Some (shares_before ks ts rest)) gives)
      ∙ sym (ap (λ l. shares s (names_of (drop i names)) (meanings_of l) >>= λ rest. Some (shares_before ks ts rest)) popped ∙ ap (λ l. shares s l (meanings_of (v ∷ rest)) >>= λ rest. Some (shares_before ks ts rest)) (front_names names i x lt is)) ∙ so_far

  pub share_end : length names ≤ i → o ≡ Some (takers_of ks, exprs_of ts)
  share_end le =
      sym so_far ∙ ap (λ l. shares s (names_of l) (meanings_of vs) >>= λ rest. Some (shares_before ks ts rest)) (drop_all i names le)
      ∙ ap (λ l. Some (l, terms_before ts none)) (append-nil (takers_of ks)) ∙ ap (λ l. Some (takers_of ks, l)) (before_none ts)
