use Rattle.std.proofs.Common.{◌≡◌, length, map}
use Rattle.gr_typing.specs.Names.{among}
use Rattle.gr_exprs.proofs.names.is_among.Given as goal

abbrev pub invariant-loop-names : goal.invariant-loop-names
invariant-loop-names l = among (map (λ x. x.now) l.names) l.name ≡ among (map (λ x. x.now) l.initial.names) l.name

abbrev pub decreases-loop-names : goal.decreases-loop-names
decreases-loop-names l = length l.names
