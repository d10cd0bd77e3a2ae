use Rattle.std.proofs.Common.{refl}
use Rattle.gr_causal.specs.Dependence.{Depends}
use Rattle.gr_causal.proofs.ListLemmas.{Before-left, Before-right}
use Rattle.gr_causal.proofs.UniqueLemmas.{same_least, same_others}
use Rattle.gr_causal.proofs.dependence.dependence_is_unique.Goals as goal

pub returns-clause-dependents : goal.returns-clause-dependents
returns-clause-dependents g c clash name same is log x some more d =
    same_least name same (λ m n. (is m n).0) (λ n. (is n n).1 refl) log d (λ a b. Depends clash log b a) (λ a b h. (Before-left log a b h.0, Before-right log a b h.0)) x some more

pub returns-clause-causes : goal.returns-clause-causes
returns-clause-causes g c clash name same is log x some more d =
    same_least name same (λ m n. (is m n).0) (λ n. (is n n).1 refl) log d (λ a b. Depends clash log a b) (λ a b h. (Before-right log b a h.0, Before-left log b a h.0)) x some more

pub returns-clause-others : goal.returns-clause-others
returns-clause-others g c log gone some more d = same_others log d gone some more
