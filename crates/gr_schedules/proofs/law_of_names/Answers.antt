use Rattle.gr_schedules.proofs.NameLemmas.{all_named}
use Rattle.gr_schedules.proofs.law_of_names.Goals as goal

pub returns : goal.returns
returns c p begins s records log begun kept = all_named p begins begun s records log kept
