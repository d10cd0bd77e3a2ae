use Rattle.std.proofs.Common.{◌≡◌, drop}
use Rattle.std.specs.Prelude.{Some}
use Rattle.gr_program.specs.TypeViews.{types_of}
use Rattle.gr_exprs.specs.Finding.{◌>>=◌}
use Rattle.gr_exprs.specs.Calling.{given_all}
use Rattle.gr_exprs.specs.Checking.{meanings_of}
use Rattle.gr_exprs.proofs.Arguments.{terms_before}
use Rattle.gr_exprs.proofs.calls.given_all.Given as goal

abbrev pub invariant-loop-parameter : goal.invariant-loop-parameter
invariant-loop-parameter l =
    (given_all (meanings_of l.values.items) (types_of (drop l.parameter-index l.parameters)) >>= λ ps. Some (terms_before l.terms.items ps)) ≡ given_all (meanings_of l.fn.values.items) (types_of l.parameters)
