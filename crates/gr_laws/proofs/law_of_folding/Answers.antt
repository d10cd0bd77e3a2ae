use Rattle.gr_laws.proofs.FoldingLemmas.{binary_folds, unary_folds, int_fits}
use Rattle.gr_laws.proofs.law_of_folding.Goals as goal

pub returns-clause-binary : goal.returns-clause-binary
returns-clause-binary c = binary_folds

pub returns-clause-unary : goal.returns-clause-unary
returns-clause-unary c = unary_folds

pub returns-clause-fits : goal.returns-clause-fits
returns-clause-fits c = int_fits
