use Rattle.gr_depend.proofs.InstructionLemmas.{given_by_instruction}
use Rattle.gr_depend.proofs.AssignmentLemmas.{record_gave, last_of_kept}
use Rattle.gr_depend.proofs.assigning.law_of_assignments.Goals as goal

pub returns-clause-instructions : goal.returns-clause-instructions
returns-clause-instructions c = given_by_instruction

pub returns-clause-steps : goal.returns-clause-steps
returns-clause-steps c p s t r running is = record_gave p s t r running is

pub returns-clause-last : goal.returns-clause-last
returns-clause-last c p s t records log g x running kept = last_of_kept p s t records log g x running kept
