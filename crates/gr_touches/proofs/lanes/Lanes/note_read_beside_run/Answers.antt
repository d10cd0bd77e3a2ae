use Rattle.gr_touches.proofs.AddingLemmas.{noted_as, reads_told}
use Rattle.gr_touches.proofs.lanes.Lanes.note_read_beside_run.Goals as goal

pub returns : goal.returns
returns c =
    noted_as c.args.self.now c.note_channel.new.self c.args.touch _ _ (reads_told c.args.beyond.now c.others_read.result.now c.others_read.ensures) c.note_channel.ensures
