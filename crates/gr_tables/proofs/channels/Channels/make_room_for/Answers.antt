use Rattle.gr_tables.specs.NamedChannels.{contents_of}
use Rattle.gr_tables.proofs.Reserving.{is_there}
use Rattle.gr_tables.proofs.channels.Channels.make_room_for.Goals as goal

pub reserve-requires : goal.reserve-requires
reserve-requires c = is_there c.args.name.now c.args.undo.now (contents_of c.args.self.now c.args.name.now) c.requires
