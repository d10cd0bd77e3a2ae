use Rattle.gr_refine.proofs.AttemptLemmas.{attempt_is_of_the_deed, deed_is_a_step, step_is_of_the_machine, choice_is_refused, select_wants_a_choice, ready_has_a_frame, frame_has_a_deed}
use Rattle.gr_refine.proofs.laws.law_of_deeds.Goals as goal

pub returns-clause-attempt : goal.returns-clause-attempt
returns-clause-attempt c = attempt_is_of_the_deed

pub returns-clause-step : goal.returns-clause-step
returns-clause-step c = deed_is_a_step

pub returns-clause-machine : goal.returns-clause-machine
returns-clause-machine c = step_is_of_the_machine

pub returns-clause-choice : goal.returns-clause-choice
returns-clause-choice c = choice_is_refused

pub returns-clause-select : goal.returns-clause-select
returns-clause-select c = select_wants_a_choice

pub returns-clause-has_frame : goal.returns-clause-has_frame
returns-clause-has_frame c = ready_has_a_frame

pub returns-clause-has_deed : goal.returns-clause-has_deed
returns-clause-has_deed c = frame_has_a_deed
