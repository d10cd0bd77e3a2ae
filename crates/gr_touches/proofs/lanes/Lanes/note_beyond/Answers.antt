use Rattle.gr_touches.proofs.AddingLemmas.{read_further, written_further}
use Rattle.gr_touches.proofs.lanes.Lanes.note_beyond.Goals as goal

pub note_reached-requires-clause-read : goal.note_reached-requires-clause-read
note_reached-requires-clause-read c =
    read_further c.args.step.now c.args.beyond.now c.requires.beyond

pub note_reached-requires-clause-written : goal.note_reached-requires-clause-written
note_reached-requires-clause-written c =
    written_further c.args.step.now c.args.beyond.now c.requires.beyond
