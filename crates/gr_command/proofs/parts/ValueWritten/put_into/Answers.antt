use Rattle.gr_command.proofs.Growing.{puts_whole}
use Rattle.gr_command.proofs.parts.ValueWritten.put_into.Goals as goal

pub returns : goal.returns
returns c =
    let told = c.print_value.ensures in
    puts_whole c.print_value.result told.ok told.err told.full told.capacity
