use Rattle.std.proofs.Common.{Result, Ok, Err, OnErr, ap}
use Rattle.gr_eval.specs.Views.{value_of}
use Rattle.gr_eval.proofs.seen.Seen.to_value.Goals as goal

holds_on_err : {T E P : Type 0} (r : Result T E) → P → OnErr r P
holds_on_err (Ok x) p = tt
holds_on_err (Err e) p = p

pub returns-in_err-copy-in-Channel-clause-needed : goal.returns-in_err-copy-in-Channel-clause-needed
returns-in_err-copy-in-Channel-clause-needed c = holds_on_err c.from_residual.result (c.in-Channel.name.now, ap value_of c.in-Channel.is)
