use Rattle.gr_refine.proofs.LookLemmas.{run_is_looked_up, goroutine_is_looked_up, waiter_is_looked_up, gate_is_looked_up, tail_is_looked_up, head_is_looked_up, room_is_looked_up, item_is_looked_up}
use Rattle.gr_refine.proofs.laws.law_of_looks.Goals as goal

pub returns-clause-run : goal.returns-clause-run
returns-clause-run c = run_is_looked_up

pub returns-clause-goroutine : goal.returns-clause-goroutine
returns-clause-goroutine c = goroutine_is_looked_up

pub returns-clause-waiter : goal.returns-clause-waiter
returns-clause-waiter c = waiter_is_looked_up

pub returns-clause-gate : goal.returns-clause-gate
returns-clause-gate c = gate_is_looked_up

pub returns-clause-tail : goal.returns-clause-tail
returns-clause-tail c = tail_is_looked_up

pub returns-clause-head : goal.returns-clause-head
returns-clause-head c = head_is_looked_up

pub returns-clause-room : goal.returns-clause-room
returns-clause-room c = room_is_looked_up

pub returns-clause-item : goal.returns-clause-item
returns-clause-item c = item_is_looked_up
