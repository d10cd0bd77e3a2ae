use Rattle.gr_record.proofs.ChainLemmas.{chain_of, as_many}
use Rattle.gr_record.proofs.KeptLemmas.{kept_is_log, kept_is_run, runs_on}
use Rattle.gr_record.proofs.laws.law_of_the_log.Goals as goal

pub returns-clause-lengths : goal.returns-clause-lengths
returns-clause-lengths c p s t records log kept = as_many p s t records log (chain_of p s records log t kept)

pub returns-clause-log : goal.returns-clause-log
returns-clause-log c p s t records log kept = kept_is_log p s records log t kept

pub returns-clause-run : goal.returns-clause-run
returns-clause-run c = kept_is_run

pub returns-clause-running : goal.returns-clause-running
returns-clause-running c = runs_on
