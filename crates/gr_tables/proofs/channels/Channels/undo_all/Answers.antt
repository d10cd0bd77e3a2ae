use Rattle.gr_tables.proofs.Joining.{took_after}
use Rattle.gr_tables.proofs.channels.Channels.undo_all.Goals as goal

pub returns-clause-ok : goal.returns-clause-ok
returns-clause-ok c =
    took_after c.args.undos.items c.args.self.now c.make_room.new.self c.put_all_back.new.self c.make_room.ensures.contents
    c.make_room.ensures.grows c.put_all_back.ensures
