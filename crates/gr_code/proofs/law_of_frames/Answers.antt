use Rattle.gr_code.proofs.Standing.{does, after, resumed_alike, past_alike, keeps_standing}
use Rattle.gr_code.proofs.Choices.{has_clause, goes_past}
use Rattle.gr_code.proofs.Entering.{enters, enters_standing}
use Rattle.gr_code.proofs.ProgramExampleLemmas.{fits_program}
use Rattle.gr_code.proofs.law_of_frames.Goals as goal

pub returns-clause-does : goal.returns-clause-does
returns-clause-does c = λ means p code f i fits st at. does means p code fits f st i at

pub returns-clause-after : goal.returns-clause-after
returns-clause-after c = λ means p code f i fits st at. after means p code fits f st i at

pub returns-clause-resumes : goal.returns-clause-resumes
returns-clause-resumes c = λ means p code f i v fits st at. resumed_alike means p code fits f st i at v

pub returns-clause-passes : goal.returns-clause-passes
returns-clause-passes c = λ means p code f i clause got fits st at h. past_alike means p code fits f st i at clause got h

pub returns-clause-goes_past : goal.returns-clause-goes_past
returns-clause-goes_past c = λ means p code f i clause got fits st at h. goes_past means p code fits f st i at clause got h

pub returns-clause-chooses : goal.returns-clause-chooses
returns-clause-chooses c = λ means p code f i cs number fits st at e h. has_clause means code f p fits st i at cs number e h

pub returns-clause-stays : goal.returns-clause-stays
returns-clause-stays c = λ means p code f i fits st at. keeps_standing means p code fits f st i at

pub returns-clause-enters : goal.returns-clause-enters
returns-clause-enters c = λ means p code number vs fits. enters means p code fits number vs

pub returns-clause-begins : goal.returns-clause-begins
returns-clause-begins c = λ means p code number vs fits. enters_standing means p code fits number vs

pub returns-clause-fits : goal.returns-clause-fits
returns-clause-fits c = fits_program
