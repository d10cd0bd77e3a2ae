-- Expressions as statements.
use Rattle.std.proofs.Common.{◌≡◌, ℕ, ◌+◌, List, [], ◌∷◌, ◌++◌, length, get_or, drop, ◌<◌, ◌≤◌, refl, ap, sym, ◌∙◌, append-nil, Global}
use Rattle.std.specs.Prelude.{Option, Some, None, Vec, Box}
use Rattle.std.proofs.lemmas.List.{drop_all}
use Rattle.gr_tree.specs.Exprs.{tree_of, trees_of}
use Rattle.gr_tree.specs.declared.expr.Expr as code_expr
use Rattle.gr_tree.specs.declared.expr.Expr.TheVariants as exprs
use Rattle.gr_program.specs.declared.program.Printed as code_printed
use Rattle.gr_program.specs.Programs.{Printed}
use Rattle.gr_typing.specs.Scopes.{Scope, Signature}
use Rattle.gr_program.specs.Views.{printed_of, prints_of}
use Rattle.gr_exprs.specs.Finding.{◌>>=◌, only_in}
use Rattle.gr_types.specs.FindingStatements.{printed_in, run_call, runs_in}
use Rattle.gr_types.specs.Evaluating.{printed_one}
use Rattle.gr_exprs.specs.declared.refusal.RuleError.{RuleError}
use Rattle.gr_exprs.specs.declared.refusal.RuleError.TheVariants as faults
use Rattle.gr_exprs.specs.Checking.{Rejects}
use Rattle.gr_exprs.proofs.Arguments.{front_trees}
use Rattle.gr_exprs.proofs.Trees.{tree_call}

pub not_only : (fs : List Signature) (s : Scope) (es : List code_expr.Expr) → (length es ≡ 1 → ⊥) → only_in fs s (trees_of es) ≡ None
unfolding only_in
not_only fs s [] other = refl
not_only fs s (e ∷ []) other = absurd (other refl)
not_only fs s (e ∷ (f ∷ es)) other = refl

pub runs_call : (fs : List Signature) (s : Scope) (x : Box (Vec ℕ Global) Global) (es : Vec code_expr.Expr Global) → runs_in fs s (tree_of (exprs.Call x es)) ≡ run_call fs s x.value.items (trees_of es.items)
unfolding runs_in
runs_call fs s x es = ap (runs_in fs s) (tree_call x es)

-- the loop over what `println` prints
prints_push : (ds : List code_printed.Printed) (d : code_printed.Printed) (ps : List Printed) → prints_of (ds ++ (d ∷ [])) ++ ps ≡ prints_of ds ++ (printed_of d ∷ ps)
prints_push [] d ps = refl
prints_push (c ∷ ds) d ps = ap (λ l. printed_of c ∷ l) (prints_push ds d ps)

after_prints : (o : Option (List Printed)) (ds : List code_printed.Printed) (d : code_printed.Printed) → (o >>= λ ps. Some (prints_of (ds ++ (d ∷ [])) ++ ps)) ≡ ((o >>= λ ps. Some (printed_of d ∷ ps)) >>= λ ps. Some (prints_of ds ++ ps))
after_prints (Some ps) ds d = ap Some (prints_push ds d ps)
after_prints None ds d = refl

first_printed : (fs : List Signature) (s : Scope) (es : List code_expr.Expr) (i : ℕ) (e : code_expr.Expr) → i < length es → e ≡ get_or es i e → printed_in fs s (trees_of (drop i es)) ≡ (printed_one fs s (tree_of e) >>= λ p. printed_in fs s (trees_of (drop (i + 1) es)) >>= λ ps. Some (p ∷ ps))
unfolding printed_in
first_printed fs s es i e lt is = ap (printed_in fs s) (front_trees es i e lt is)

none_printed : (fs : List Signature) (s : Scope) (es : List code_expr.Expr) (i : ℕ) → length es ≤ i → printed_in fs s (trees_of (drop i es)) ≡ Some []
unfolding printed_in
none_printed fs s es i le = ap (λ l. printed_in fs s (trees_of l)) (drop_all i es le)

module _ (fs : List Signature) (s : Scope) (es : List code_expr.Expr) (i : ℕ) (ds : List code_printed.Printed) (o : Option (List Printed)) (so_far : (printed_in fs s (trees_of (drop i es)) >>= λ ps. Some (prints_of ds ++ ps)) ≡ o) where
  pub print_on : (e : code_expr.Expr) (d : code_printed.Printed) (new : List code_printed.Printed) → i < length es → e ≡ get_or es i e → printed_one fs s (tree_of e) ≡ Some (printed_of d) → new ≡ ds ++ (d ∷ []) → (printed_in fs s (trees_of (drop (i + 1) es)) >>= λ ps. Some (prints_of new ++ ps)) ≡ o
  print_on e d new lt is gives pushed =
      let r = printed_in fs s (trees_of (drop (i + 1) es)) in
      ap (λ l. r >>= λ ps. Some (prints_of l ++ ps)) pushed ∙ after_prints r ds d ∙ sym (ap (λ g. (g >>= λ p. r >>= λ ps. Some (p ∷ ps)) >>= λ ps. Some (prints_of ds ++ ps)) gives)
      ∙ sym (ap (λ g. g >>= λ ps. Some (prints_of ds ++ ps)) (first_printed fs s es i e lt is)) ∙ so_far

  pub print_refused : (e : code_expr.Expr) (f : RuleError) → i < length es → e ≡ get_or es i e → Rejects f (printed_one fs s (tree_of e)) → Rejects f o
  print_refused e faults.Memory lt is none = tt
  print_refused e (faults.Broken code) lt is none =
      let r = printed_in fs s (trees_of (drop (i + 1) es)) in
      sym so_far ∙ ap (λ g. g >>= λ ps. Some (prints_of ds ++ ps)) (first_printed fs s es i e lt is ∙ ap (λ g. g >>= λ p. r >>= λ ps. Some (p ∷ ps)) none)

  pub all_printed : length es ≤ i → o ≡ Some (prints_of ds)
  all_printed le = sym so_far ∙ ap (λ g. g >>= λ ps. Some (prints_of ds ++ ps)) (none_printed fs s es i le) ∙ ap Some (append-nil (prints_of ds))
