-- An order of the steps that is accepted is one of a run.
use Rattle.std.proofs.Common.{◌≡◌, List, refl}
use Rattle.gr_causal.specs.OrderByNames.Ordered.{accepted, other_steps, broken}
use Rattle.gr_causal.proofs.OrderByNamesLemmas.{is_order}
use Rattle.gr_causal.proofs.SwapLemmas.{reordered}
use Rattle.gr_program.specs.Programs.{Program}
use Rattle.gr_rules.specs.States.{State, start}
use Rattle.gr_rules.specs.Steps.{machine}
use Rattle.gr_laws.specs.Dependence.{clash, StepName, step_name, same_name, ordered_by}
use Rattle.gr_laws.specs.Reached.{Logged, IsRun}
use Rattle.gr_laws.proofs.CellLemmas.{machine_laws}
use Rattle.gr_laws.proofs.RunLemmas.{distinct_steps, distinct_log, same_name_is}

pub order_leads_on : (p : Program) (t : State) (log new : List (Logged p)) (names : List StepName) → IsRun p log t → ordered_by p names log ≡ accepted new → IsRun p new t
order_leads_on p t log new names run taken =
    let order = is_order (clash p) (step_name p) same_name (λ m n. (same_name_is m n).0) (λ n. (same_name_is n n).1 refl) log (distinct_steps p log t run) names new taken in
    reordered (machine p) (machine_laws p) (start p) log new t run (distinct_log p log t run) order.0

module _ (p : Program) where
  -- an answer is of one kind
  pub accepted_not_other : (a : List (Logged p)) → accepted a ≡ other_steps → ⊥
  accepted_not_other a e = cc

  pub accepted_not_broken : (a : List (Logged p)) (x y : Logged p) → accepted a ≡ broken x y → ⊥
  accepted_not_broken a x y e = cc

  pub other_not_broken : (x y : Logged p) → other_steps ≡ broken x y → ⊥
  other_not_broken x y e = cc
