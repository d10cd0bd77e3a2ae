use Rattle.gr_command.proofs.Growing.{puts_whole}
use Rattle.gr_command.proofs.parts.KindWritten.put_into.Goals as goal

pub returns : goal.returns
returns c =
    let told = c.print_kind.ensures in
    puts_whole c.print_kind.result told.ok told.err told.full told.capacity
