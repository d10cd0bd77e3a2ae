use Rattle.gr_facts.proofs.SourceLemmas.{are_causes, tell_written, tell_read}
use Rattle.gr_facts.proofs.sources.law_of_sources.Goals as goal

pub returns-clause-causes : goal.returns-clause-causes
returns-clause-causes c p log place s l at = are_causes p log place s l at

pub returns-clause-written : goal.returns-clause-written
returns-clause-written c p log place s l at = tell_written p log place s l at

pub returns-clause-read : goal.returns-clause-read
returns-clause-read c p log place s l at = tell_read p log place s l at
