use Rattle.gr_command.proofs.Growing.{puts_whole}
use Rattle.gr_command.proofs.parts.StepIdWritten.put_into.Goals as goal

pub returns : goal.returns
returns c =
    let told = c.print_step.ensures in
    puts_whole c.print_step.result told.ok told.err told.full told.capacity
