use Rattle.std.proofs.Common.{refl}
use Rattle.gr_causal.proofs.OrderByNamesLemmas.{accepts, breaks, refuses, refused, is_order, is_broken}
use Rattle.gr_causal.proofs.SwapLemmas.{reordered}
use Rattle.gr_rules.specs.States.{start}
use Rattle.gr_rules.specs.Steps.{machine}
use Rattle.gr_laws.specs.Dependence.{clash, step_name, same_name}
use Rattle.gr_laws.proofs.CellLemmas.{machine_laws}
use Rattle.gr_laws.proofs.RunLemmas.{distinct_steps, distinct_log, same_name_is}
use Rattle.gr_laws.proofs.law_of_orders.Goals as goal

pub returns-clause-accepted : goal.returns-clause-accepted
returns-clause-accepted c p t log new names l =
    let is = same_name_is in
    let d = distinct_steps p log t l in (
      is_order (clash p) (step_name p) same_name (λ m n. (is m n).0) (λ n. (is n n).1 refl) log d names new,
      λ h. accepts (clash p) (step_name p) same_name (λ m n. (is m n).0) (λ n. (is n n).1 refl) log d names new h.0 h.1,
    )

pub returns-clause-same_end : goal.returns-clause-same_end
returns-clause-same_end c p t log new names l e =
    let is = same_name_is in
    let order = is_order (clash p) (step_name p) same_name (λ m n. (is m n).0) (λ n. (is n n).1 refl) log (distinct_steps p log t l) names new e in
    reordered (machine p) (machine_laws p) (start p) log new t l (distinct_log p log t l) order.0

pub returns-clause-other_names : goal.returns-clause-other_names
returns-clause-other_names c p t log names l =
    let is = same_name_is in
    let d = distinct_steps p log t l in (
      refused (clash p) (step_name p) same_name (λ m n. (is m n).0) (λ n. (is n n).1 refl) log d names,
      refuses (clash p) (step_name p) same_name (λ m n. (is m n).0) (λ n. (is n n).1 refl) log d names,
    )

pub returns-clause-broken : goal.returns-clause-broken
returns-clause-broken c p t log names x y l =
    let is = same_name_is in
    let d = distinct_steps p log t l in (
      is_broken (clash p) (step_name p) same_name (λ m n. (is m n).0) (λ n. (is n n).1 refl) log d names x y,
      λ h. breaks (clash p) (step_name p) same_name (λ m n. (is m n).0) (λ n. (is n n).1 refl) log d names h.0 x y h.2 h.1 h.3,
    )
