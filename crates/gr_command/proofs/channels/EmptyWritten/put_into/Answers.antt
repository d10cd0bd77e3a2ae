use Rattle.gr_command.proofs.channels.EmptyWritten.put_into.Goals as goal

pub returns : goal.returns
returns c = rw c.state_word.ensures at c.put_three.ensures
