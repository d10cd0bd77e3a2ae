use Rattle.gr_record.proofs.ChainLemmas.{chain_of}
use Rattle.gr_depend.proofs.HistoryLemmas.{started, sent_alike, received_alike}
use Rattle.gr_depend.proofs.history.law_of_history.Goals as goal

pub returns-clause-started : goal.returns-clause-started
returns-clause-started c p s t records log g kept = started p s t g records log (chain_of p s records log t kept)

pub returns-clause-sent : goal.returns-clause-sent
returns-clause-sent c p s t records log channel k kept = sent_alike p s t channel k records log (chain_of p s records log t kept)

pub returns-clause-received : goal.returns-clause-received
returns-clause-received c p s t records log channel k kept = received_alike p s t channel k records log (chain_of p s records log t kept)
