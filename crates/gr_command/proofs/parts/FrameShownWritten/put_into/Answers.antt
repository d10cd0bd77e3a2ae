use Rattle.gr_command.specs.Replies.{variable_in}
use Rattle.gr_command.specs.Texts.{spaced, variable_text}
use Rattle.gr_command.proofs.Views.{each_of_views}
use Rattle.gr_command.proofs.parts.FrameShownWritten.put_into.Goals as goal

pub returns : goal.returns
returns c =
    let told = rw c.as_slice.ensures.value at c.put_two.ensures in
    rw (each_of_views (λ x. spaced (variable_text x)) variable_in c.args.self.now.variables.items) told
