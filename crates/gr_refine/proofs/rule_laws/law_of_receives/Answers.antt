use Rattle.gr_refine.proofs.ReceiveLemmas.{receiving_takes, receiving_moves, receiving_meets, receiving_ends, receiving_cannot, receiving_finds_mover, receiving_finds_sender, receiving_goes_on, receiving_ends_well}
use Rattle.gr_refine.proofs.rule_laws.law_of_receives.Goals as goal

pub returns-clause-takes : goal.returns-clause-takes
returns-clause-takes c = receiving_takes

pub returns-clause-moves : goal.returns-clause-moves
returns-clause-moves c = receiving_moves

pub returns-clause-meets : goal.returns-clause-meets
returns-clause-meets c = receiving_meets

pub returns-clause-ends : goal.returns-clause-ends
returns-clause-ends c = receiving_ends

pub returns-clause-cannot : goal.returns-clause-cannot
returns-clause-cannot c = receiving_cannot

pub returns-clause-finds_mover : goal.returns-clause-finds_mover
returns-clause-finds_mover c = receiving_finds_mover

pub returns-clause-finds_sender : goal.returns-clause-finds_sender
returns-clause-finds_sender c = receiving_finds_sender

pub returns-clause-goes_on : goal.returns-clause-goes_on
returns-clause-goes_on c = receiving_goes_on

pub returns-clause-ends_well : goal.returns-clause-ends_well
returns-clause-ends_well c = receiving_ends_well
