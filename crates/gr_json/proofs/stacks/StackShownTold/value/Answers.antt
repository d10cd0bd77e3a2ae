use Rattle.std.proofs.Common.{◌∙◌}
use Rattle.gr_queries.specs.Stacks.{stack_frame_in}
use Rattle.gr_json.specs.Stacks.{stack_frame_data}
use Rattle.gr_json.proofs.Lists.{list_of_map}
use Rattle.gr_json.proofs.stacks.StackShownTold.value.Goals as goal

pub returns : goal.returns
returns c =
    let held = rw c.as_slice.ensures.value at c.in_ok-frames.ensures in
    let frames = held ∙ list_of_map stack_frame_data stack_frame_in c.args.self.now.frames.items in
    rw (frames, c.in_ok-go.ensures, c.name_of_status-status.ensures) at c.in_ok-value.ensures
