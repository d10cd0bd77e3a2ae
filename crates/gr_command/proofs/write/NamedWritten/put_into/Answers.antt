use Rattle.gr_command.proofs.Growing.{puts_roomier}
use Rattle.gr_command.proofs.write.NamedWritten.put_into.Goals as goal

pub returns : goal.returns
returns c =
    let room = c.make_room.ensures in
    puts_roomier c.args.text.now c.make_room.new.text room.items room.capacity c.put_three.ensures
