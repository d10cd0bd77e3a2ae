use Rattle.std.proofs.Common.{subst, refl}
use Rattle.gr_channels.specs.Objects.{SameAt}
use Rattle.gr_channels.proofs.Undoing.{taken_back, same_self}
use Rattle.gr_channels.proofs.Written.{changes}
use Rattle.gr_channels.proofs.laws.law_of_changes.Goals as goal

pub returns-clause-kept : goal.returns-clause-kept
returns-clause-kept c u a b change p e =
    subst (λ x. SameAt p x b) (change.back) ((taken_back u a b b change (change.valid) refl (λ q w. same_self q b)).kept p e)

pub returns-clause-changed : goal.returns-clause-changed
returns-clause-changed c u a b change p e same = changes u a b (change.valid) (change.back) (change.fits) p e same
