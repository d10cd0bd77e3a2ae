use Rattle.gr_schedules.proofs.AimLemmas.{aim_laws, none_comes, none_comes_within, some_comes, none_later}
use Rattle.gr_schedules.proofs.law_of_aims.Goals as goal

pub returns-clause-laws : goal.returns-clause-laws
returns-clause-laws c = aim_laws

pub returns-clause-safe : goal.returns-clause-safe
returns-clause-safe c = none_comes

pub returns-clause-within : goal.returns-clause-within
returns-clause-within c = none_comes_within

pub returns-clause-found : goal.returns-clause-found
returns-clause-found c = some_comes

pub returns-clause-lost : goal.returns-clause-lost
returns-clause-lost c = none_later
