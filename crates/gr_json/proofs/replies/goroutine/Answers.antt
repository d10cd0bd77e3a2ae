use Rattle.std.proofs.Common.{◌∙◌}
use Rattle.gr_command.specs.Replies.{frame_in}
use Rattle.gr_json.specs.Replies.{frame_data}
use Rattle.gr_json.proofs.Lists.{list_of_map}
use Rattle.gr_json.proofs.replies.goroutine.Goals as goal

pub returns : goal.returns
returns c =
    let frames = rw c.as_slice.ensures.value at c.in_ok-frames.ensures in
    let told = frames ∙ list_of_map frame_data frame_in c.args.shown.now.frames.items in
    rw (told, c.in_ok-go.ensures, c.in_ok-line.ensures, c.name_of_status-status.ensures) at c.in_ok-value.ensures
