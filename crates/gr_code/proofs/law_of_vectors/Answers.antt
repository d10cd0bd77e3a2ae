use Rattle.gr_code.proofs.VectorLemmas.{holds, kept, assigns}
use Rattle.gr_code.proofs.law_of_vectors.Goals as goal

pub returns-clause-holds : goal.returns-clause-holds
returns-clause-holds c = holds

pub returns-clause-keeps : goal.returns-clause-keeps
returns-clause-keeps c = kept

pub returns-clause-assigns : goal.returns-clause-assigns
returns-clause-assigns c = assigns
