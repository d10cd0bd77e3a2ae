use Rattle.gr_command.proofs.parts.StatusWritten.put_into.Goals as goal

pub returns : goal.returns
returns c = rw c.status_word.ensures at c.put.ensures
