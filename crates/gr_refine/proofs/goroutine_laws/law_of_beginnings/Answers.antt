use Rattle.gr_refine.proofs.StartingLemmas.{entered_is_ruled, can_be_entered, begun_is_the_start, begun_stands, main_is_entered}
use Rattle.gr_refine.proofs.goroutine_laws.law_of_beginnings.Goals as goal

pub returns-clause-entered : goal.returns-clause-entered
returns-clause-entered c = entered_is_ruled

pub returns-clause-can_be_entered : goal.returns-clause-can_be_entered
returns-clause-can_be_entered c = can_be_entered

pub returns-clause-begun : goal.returns-clause-begun
returns-clause-begun c = begun_is_the_start

pub returns-clause-stands : goal.returns-clause-stands
returns-clause-stands c = begun_stands

pub returns-clause-main : goal.returns-clause-main
returns-clause-main c = main_is_entered
