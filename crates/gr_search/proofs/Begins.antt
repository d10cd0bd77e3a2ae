-- How a search begins.
use Rattle.std.proofs.Common.{◌≡◌, ℕ, Bool, false, List, [], drop, sym, ◌∙◌, subst, inr}
use Rattle.gr_search.specs.System.{System, Leads, Follows}
use Rattle.gr_search.specs.Going.{Arriving, Known}
use Rattle.gr_search.proofs.Safe.{not_both}
use Rattle.gr_search.specs.declared.search.Task.{Task}

module _ {State Event Key : Type 0} (Y : System State Event Key) where
  pub arriving_first : (Z : System State Event Key) (V : Key → Type 0) (ts : List (Task Event)) (s u : State) (log far : List Event) (steps : ℕ) → Z ≡ Y
      → ((k : Key) → V k → ⊥) → ts ≡ [] → Leads Y log s → log ≡ [] → Follows Y s u → drop steps far ≡ log → Arriving Z V ts (drop steps far) u
  arriving_first Z V ts s u log far steps z v t l e f d =
      let at : s ≡ Y.start = subst (λ x. Leads Y x s) e l in
      let a : Arriving Y V [] (drop steps far) u = record {
        home = d ∙ e;
        begins = inr (subst (λ x. Follows Y x u) at f);
        known = λ k h. absurd (v k h);
      } in
      subst (λ y. Arriving y V ts (drop steps far) u) (sym z) (subst (λ x. Arriving Y V x (drop steps far) u) (sym t) a)

pub none_known : {Matter : Type 0} (means : List ℕ → Matter → Type 0) (seen : List ℕ → Bool) → ((k : List ℕ) → seen k ≡ false) → (a : Matter) → Known means seen a → ⊥
none_known means seen h a w = not_both (seen w.0) w.1 (h w.0)
