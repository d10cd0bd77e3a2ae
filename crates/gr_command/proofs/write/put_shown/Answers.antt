use Rattle.gr_command.specs.Replies.{frame_in}
use Rattle.gr_command.specs.Texts.{row, frame_text}
use Rattle.gr_command.proofs.Views.{each_of_views}
use Rattle.gr_command.proofs.write.put_shown.Goals as goal

pub returns : goal.returns
returns c =
    let told = rw c.as_slice.ensures.value at c.put_three.ensures in
    rw (each_of_views (λ x. row (frame_text x)) frame_in c.args.goroutine.now.frames.items) told
