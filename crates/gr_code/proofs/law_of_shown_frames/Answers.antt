use Rattle.gr_code.proofs.Standing.{line, has, bounded, function_fits}
use Rattle.gr_code.proofs.VectorLemmas.{get_take}
use Rattle.gr_code.specs.Programs.{variables_in}
use Rattle.gr_code.proofs.law_of_shown_frames.Goals as goal

pub returns-clause-has : goal.returns-clause-has
returns-clause-has c = λ means p code f fits st. has means p code fits f st

pub returns-clause-bounded : goal.returns-clause-bounded
returns-clause-bounded c = λ means p code f i fits st at. bounded means p code fits f st i at

pub returns-clause-line : goal.returns-clause-line
returns-clause-line c = λ means p code f fits st. line means p code fits f st

pub returns-clause-functions : goal.returns-clause-functions
returns-clause-functions c = λ means p code number k fits is. function_fits means p code fits number k is

pub returns-clause-variable : goal.returns-clause-variable
returns-clause-variable c = λ means code f x below. get_take (variables_in code f.function) f.cells x below
