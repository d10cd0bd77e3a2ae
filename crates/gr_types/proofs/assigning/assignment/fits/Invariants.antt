use Rattle.std.proofs.Common.{◌≡◌, drop}
use Rattle.std.specs.Prelude.{Some}
use Rattle.gr_exprs.specs.Tables.{scope_of}
use Rattle.gr_exprs.specs.Finding.{◌>>=◌}
use Rattle.gr_types.specs.Taking.{fits}
use Rattle.gr_exprs.specs.Checking.{meanings_of}
use Rattle.gr_exprs.proofs.Arguments.{terms_before}
use Rattle.gr_types.proofs.assigning.assignment.fits.Given as goal

abbrev pub invariant-loop-target : goal.invariant-loop-target
invariant-loop-target l =
    (fits (scope_of l.scope) (drop l.target-index l.targets) (meanings_of l.values.items) >>= λ ps. Some (terms_before l.terms.items ps)) ≡ fits (scope_of l.scope) l.targets (meanings_of l.fn.values.items)
