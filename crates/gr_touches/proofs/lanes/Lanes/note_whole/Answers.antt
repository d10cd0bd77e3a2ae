use Rattle.gr_touches.proofs.AddingLemmas.{noted_as}
use Rattle.gr_touches.proofs.lanes.Lanes.note_whole.Goals as goal

pub returns : goal.returns
returns c =
    noted_as c.args.self.now c.note_list.new.self c.args.touch _ _ c.parts_of.ensures c.note_list.ensures
