-- One turn of the loop over groups of parameters.
use Rattle.std.proofs.Common.{◌≡◌, ℕ, ◌+◌, List, ◌∷◌, length, get_or, drop, ◌<◌, ◌≤◌, ap, sym, ◌∙◌, drop-cons, add-one}
use Rattle.std.specs.Prelude.{Option, Some}
use Rattle.std.proofs.lemmas.List.{drop_all}
use Rattle.gr_tree.specs.declared.file.Group as code_group
use Rattle.gr_tree.specs.Exprs.{type_of, names_of}
use Rattle.gr_tree.specs.Files.{groups_of}
use Rattle.gr_program.specs.Types.{Ty}
use Rattle.gr_typing.specs.Types.{type_written}
use Rattle.gr_exprs.specs.Finding.{◌>>=◌}
use Rattle.gr_exprs.specs.Checking.{Rejects}
use Rattle.gr_exprs.specs.declared.refusal.RuleError.{RuleError}
use Rattle.gr_exprs.specs.declared.refusal.RuleError.TheVariants as faults
use Rattle.gr_types.specs.Outlines.{Taken, take_each, take_groups}

module _ (gs : List code_group.Group) (i : ℕ) (p : Taken) (o : Option Taken) (so_far : take_groups p (groups_of (drop i gs)) ≡ o) where
  pub groups_end : length gs ≤ i → o ≡ Some p
  groups_end le = sym so_far ∙ ap (λ l. take_groups p (groups_of l)) (drop_all i gs le)

  module _ (g : code_group.Group) (lt : i < length gs) (is : g ≡ get_or gs i g) where
    abbrev rest : Taken → Option Taken
    rest q = take_groups q (groups_of (drop (i + 1) gs))

    abbrev with_type : Option Ty → Option Taken
    with_type w = w >>= λ t. take_each p (names_of g.names.items) t >>= rest

    turn : with_type (type_written (type_of g.type_tree)) ≡ o
    turn =
        let front : drop i gs ≡ get_or gs i g ∷ drop (i + 1) gs = rw (add-one, drop-cons gs i g) in
        sym (ap (λ l. take_groups p (groups_of l)) (front ∙ ap (λ g. g ∷ drop (i + 1) gs) (sym is))) ∙ so_far

    pub group_on : (t : Ty) (q : Taken) → type_written (type_of g.type_tree) ≡ Some t → take_each p (names_of g.names.items) t ≡ Some q → rest q ≡ o
    group_on t q typed taken = sym (ap with_type typed ∙ ap (λ w. w >>= rest) taken) ∙ turn

    pub type_refused : (f : RuleError) → Rejects f (type_written (type_of g.type_tree)) → Rejects f o
    type_refused faults.Memory none = tt
    type_refused (faults.Broken code) none = sym turn ∙ ap with_type none

    pub names_refused : (t : Ty) (f : RuleError) → type_written (type_of g.type_tree) ≡ Some t → Rejects f (take_each p (names_of g.names.items) t) → Rejects f o
    names_refused t faults.Memory typed none = tt
    names_refused t (faults.Broken code) typed none = sym turn ∙ ap with_type typed ∙ ap (λ w. w >>= rest) none
