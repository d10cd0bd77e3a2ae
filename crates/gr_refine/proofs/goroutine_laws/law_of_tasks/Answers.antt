use Rattle.gr_refine.proofs.TaskLemmas.{attempt_is_of_the_rule, rule_is_a_step, rule_is_sound}
use Rattle.gr_refine.proofs.TaskLemmas.{attempt_is_of_the_task, task_is_a_step, task_is_sound, task_has_no_choice, task_wants_a_choice, task_is_there}
use Rattle.gr_refine.proofs.goroutine_laws.law_of_tasks.Goals as goal

pub returns-clause-attempt : goal.returns-clause-attempt
returns-clause-attempt c = attempt_is_of_the_task

pub returns-clause-step : goal.returns-clause-step
returns-clause-step c = task_is_a_step

pub returns-clause-sound : goal.returns-clause-sound
returns-clause-sound c = task_is_sound

pub returns-clause-no_choice : goal.returns-clause-no_choice
returns-clause-no_choice c = task_has_no_choice

pub returns-clause-select : goal.returns-clause-select
returns-clause-select c = task_wants_a_choice

pub returns-clause-is_there : goal.returns-clause-is_there
returns-clause-is_there c = task_is_there

pub returns-clause-rule : goal.returns-clause-rule
returns-clause-rule c = attempt_is_of_the_rule

pub returns-clause-rule_step : goal.returns-clause-rule_step
returns-clause-rule_step c = rule_is_a_step

pub returns-clause-rule_sound : goal.returns-clause-rule_sound
returns-clause-rule_sound c = rule_is_sound
