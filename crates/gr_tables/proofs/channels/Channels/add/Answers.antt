use Rattle.std.proofs.Common.{sym, subst}
use Rattle.gr_channels.specs.Channels.{IsChannel}
use Rattle.gr_tables.proofs.SeenLemmas.{added_contents, added_rooms}
use Rattle.gr_tables.proofs.Validity.{inserted_valid, fresh_valid}
use Rattle.gr_tables.proofs.channels.Channels.add.Goals as goal

pub returns-clause-contents : goal.returns-clause-contents
returns-clause-contents c =
    added_contents c.args.name c.new-channel.result c.args.self.now.map c.insert.new.self c.in_ok-insert.ensures.updates.0 c.new-channel.ensures

pub returns-clause-rooms : goal.returns-clause-rooms
returns-clause-rooms c =
    added_rooms c.args.name c.new-channel.result c.args.self.now.map c.insert.new.self c.in_ok-insert.ensures.updates.0 c.requires

pub invariant_of-self : goal.invariant_of-self
invariant_of-self c = record {
  are_channels = inserted_valid c.args.self.now.map c.insert.new.self c.args.name c.new-channel.result c.insert.result c.args.self.now.are_channels
      (subst IsChannel (sym c.new-channel.ensures) (fresh_valid c.args.capacity)) c.insert.ensures.updates c.insert.ensures.err;
}
