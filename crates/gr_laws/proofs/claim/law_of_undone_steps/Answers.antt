use Rattle.gr_causal.proofs.SwapLemmas.{last_undone}
use Rattle.gr_causal.specs.Machine.{undo}
use Rattle.std.proofs.Common.{[], ◌∷◌}
use Rattle.gr_rules.specs.States.{start, put}
use Rattle.gr_rules.specs.Steps.{machine}
use Rattle.gr_laws.proofs.CellLemmas.{machine_laws}
use Rattle.gr_laws.proofs.ClaimLemmas.{alone, rolled_back_with_all, rolled_back_in_part}
use Rattle.gr_laws.proofs.claim.law_of_undone_steps.Goals as goal

pub returns-clause-last : goal.returns-clause-last
returns-clause-last c p t log x l = alone p log x t (undo put t (x ∷ [])) l (last_undone (machine p) (machine_laws p) (start p) t log x l)

pub returns-clause-all : goal.returns-clause-all
returns-clause-all c p t log i x = rolled_back_with_all p t log i x

pub returns-clause-some : goal.returns-clause-some
returns-clause-some c p t log front gone left i x = rolled_back_in_part p t log front gone left i x
