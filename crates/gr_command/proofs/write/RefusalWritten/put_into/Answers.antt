use Rattle.gr_command.proofs.write.RefusalWritten.put_into.Goals as goal

pub returns : goal.returns
returns c = rw c.refused.ensures at c.put.ensures
