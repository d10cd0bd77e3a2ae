use Rattle.std.proofs.Common.{◌∙◌}
use Rattle.gr_command.specs.Replies.{variable_in}
use Rattle.gr_json.specs.Replies.{variable_data}
use Rattle.gr_json.proofs.Lists.{list_of_map}
use Rattle.gr_json.proofs.stacks.StackFrameTold.value.Goals as goal

pub returns : goal.returns
returns c =
    let held = rw c.as_slice.ensures.value at c.in_ok-variables.ensures in
    let variables = held ∙ list_of_map variable_data variable_in c.args.self.now.shown.variables.items in
    rw (c.in_ok-function.ensures, c.in_ok-line.ensures, variables) at c.in_ok-value.ensures
