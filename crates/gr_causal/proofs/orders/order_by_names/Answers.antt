use Rattle.std.proofs.Common.{refl}
use Rattle.gr_causal.proofs.OrderByNamesLemmas.{accepts, is_order, refuses, refused, breaks, is_broken}
use Rattle.gr_causal.proofs.orders.order_by_names.Goals as goal

pub returns-clause-accepts : goal.returns-clause-accepts
returns-clause-accepts g c clash name same is old names d new = (is_order clash name same (λ m n. (is m n).0) (λ n. (is n n).1 refl) old d names new, λ h. accepts clash name same (λ m n. (is m n).0) (λ n. (is n n).1 refl) old d names new h.0 h.1)

pub returns-clause-refuses : goal.returns-clause-refuses
returns-clause-refuses g c clash name same is old names d = (refused clash name same (λ m n. (is m n).0) (λ n. (is n n).1 refl) old d names, refuses clash name same (λ m n. (is m n).0) (λ n. (is n n).1 refl) old d names)

pub returns-clause-breaks : goal.returns-clause-breaks
returns-clause-breaks g c clash name same is old names d x y = (is_broken clash name same (λ m n. (is m n).0) (λ n. (is n n).1 refl) old d names x y, λ h. breaks clash name same (λ m n. (is m n).0) (λ n. (is n n).1 refl) old d names h.0 x y h.2 h.1 h.3)
