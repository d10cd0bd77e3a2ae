use Rattle.std.proofs.lemmas.Result.{IfOk-weaker}
use Rattle.gr_protocol.proofs.earlier.take_follower.Goals as goal

pub returns-in-None-clause-machine : goal.returns-in-None-clause-machine
returns-in-None-clause-machine c = IfOk-weaker c.start.result _ _ (λ machine of. of _ c.requires.source) (rw c.as_slice.ensures.value at c.start.ensures)
