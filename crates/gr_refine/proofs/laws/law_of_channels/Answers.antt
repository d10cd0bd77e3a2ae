use Rattle.gr_refine.proofs.ChangeLemmas.{gate_is_written, entering_is_written, leaving_is_written, moving_up_is_written, making_is_written, unmaking_is_written}
use Rattle.gr_refine.proofs.laws.law_of_channels.Goals as goal

pub returns-clause-gate : goal.returns-clause-gate
returns-clause-gate c = gate_is_written

pub returns-clause-entering : goal.returns-clause-entering
returns-clause-entering c = entering_is_written

pub returns-clause-leaving : goal.returns-clause-leaving
returns-clause-leaving c = leaving_is_written

pub returns-clause-moving_up : goal.returns-clause-moving_up
returns-clause-moving_up c = moving_up_is_written

pub returns-clause-making : goal.returns-clause-making
returns-clause-making c = making_is_written

pub returns-clause-unmaking : goal.returns-clause-unmaking
returns-clause-unmaking c = unmaking_is_written
