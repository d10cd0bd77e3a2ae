use Rattle.gr_touches.proofs.FormLemmas.{read_met, written_met}
use Rattle.gr_touches.proofs.lanes.Lanes.note_exchange.Goals as goal

pub note_reached-requires-clause-read : goal.note_reached-requires-clause-read
note_reached-requires-clause-read c =
    read_met c.args.step.now c.args.exchange.now c.requires.beyond c.channel.result.now c.channel.ensures

pub note_reached-requires-clause-written : goal.note_reached-requires-clause-written
note_reached-requires-clause-written c =
    written_met c.args.step.now c.args.exchange.now c.requires.beyond c.channel.result.now c.channel.ensures
