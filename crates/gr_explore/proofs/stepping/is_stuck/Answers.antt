use Rattle.std.proofs.Common.{ap, option_copied}
use Rattle.gr_explore.proofs.StepLemmas.{turn_some, turn_none, is_told, not_told}
use Rattle.gr_explore.proofs.stepping.is_stuck.Goals as goal

pub returns-in-Some : goal.returns-in-Some
returns-in-Some c = not_told (turn_some c.args.machine.now c.requires (option_copied c.next_turn.result) c.next_turn.ensures _ (ap option_copied c.in-Some.is))

pub returns-in-None : goal.returns-in-None
returns-in-None c = is_told (turn_none c.args.machine.now c.requires (option_copied c.next_turn.result) c.next_turn.ensures (ap option_copied c.in-None.is))
