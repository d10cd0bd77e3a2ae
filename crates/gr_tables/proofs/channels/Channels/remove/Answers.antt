use Rattle.gr_tables.proofs.SeenLemmas.{removed}
use Rattle.gr_tables.proofs.Validity.{removed_valid}
use Rattle.gr_tables.proofs.channels.Channels.remove.Goals as goal

pub returns : goal.returns
returns c = removed c.args.name.now c.args.self.now.map c.remove.new.self c.remove.ensures.updates.0

pub invariant_of-self : goal.invariant_of-self
invariant_of-self c = record {
  are_channels = removed_valid c.args.self.now.map c.remove.new.self c.args.name.now c.args.self.now.are_channels
      c.remove.ensures.updates;
}
