use Rattle.std.proofs.Common.{◌∙◌, sym, ap, subst}
use Rattle.std.specs.Option.{option_copied_mut}
use Rattle.gr_channels.specs.Channels.{IsChannel}
use Rattle.gr_tables.proofs.SeenLemmas.{lent, same_contents, keeps_rooms}
use Rattle.gr_tables.proofs.Validity.{lent_valid}
use Rattle.gr_tables.proofs.channels.Channels.reserve.Goals as goal

pub returns-clause-contents : goal.returns-clause-contents
returns-clause-contents c =
    let new = c.get_mut.follows.lender c.make_room.new.self in
    let writes = (c.get_mut.follows.holds c.make_room.new.self).3 in
    same_contents (lent c.args.name.now c.get_mut.result c.unwrap.result c.make_room.new.self c.args.self.now.map new c.get_mut.ensures.value
    c.unwrap.ensures writes)
    c.make_room.ensures.content

pub returns-clause-grows : goal.returns-clause-grows
returns-clause-grows c =
    let new = c.get_mut.follows.lender c.make_room.new.self in
    let writes = (c.get_mut.follows.holds c.make_room.new.self).3 in
    keeps_rooms (lent c.args.name.now c.get_mut.result c.unwrap.result c.make_room.new.self c.args.self.now.map new c.get_mut.ensures.value
    c.unwrap.ensures writes)
    c.make_room.ensures.grows

pub invariant_of-self : goal.invariant_of-self
invariant_of-self c =
    let old = c.args.self.now in
    let was = sym c.get_mut.ensures.value ∙ ap option_copied_mut c.unwrap.ensures in
    record {
      are_channels = lent_valid old.map (c.get_mut.follows.lender c.make_room.new.self) c.args.name.now c.unwrap.result.now
          c.make_room.new.self old.are_channels was (c.get_mut.follows.holds c.make_room.new.self).3
          (λ valid. subst IsChannel (sym c.make_room.ensures.content) valid);
    }
