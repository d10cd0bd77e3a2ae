use Rattle.gr_refine.proofs.GoingLemmas.{moving_moves, evaluating_faults, printing_prints, entering_pushes, entering_too_deep_faults, entering_goes_on, leaving_pops, leaving_goes_on, finishing_ends, finishing_ends_the_program}
use Rattle.gr_refine.proofs.rule_laws.law_of_going.Goals as goal

pub returns-clause-moves : goal.returns-clause-moves
returns-clause-moves c = moving_moves

pub returns-clause-evaluating : goal.returns-clause-evaluating
returns-clause-evaluating c = evaluating_faults

pub returns-clause-prints : goal.returns-clause-prints
returns-clause-prints c = printing_prints

pub returns-clause-enters : goal.returns-clause-enters
returns-clause-enters c = entering_pushes

pub returns-clause-too_deep : goal.returns-clause-too_deep
returns-clause-too_deep c = entering_too_deep_faults

pub returns-clause-enters_on : goal.returns-clause-enters_on
returns-clause-enters_on c = entering_goes_on

pub returns-clause-leaves : goal.returns-clause-leaves
returns-clause-leaves c = leaving_pops

pub returns-clause-leaves_on : goal.returns-clause-leaves_on
returns-clause-leaves_on c = leaving_goes_on

pub returns-clause-finishes : goal.returns-clause-finishes
returns-clause-finishes c = finishing_ends

pub returns-clause-exits : goal.returns-clause-exits
returns-clause-exits c = finishing_ends_the_program
