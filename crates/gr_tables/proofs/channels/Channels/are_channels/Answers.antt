use Rattle.gr_tables.proofs.Validity.{contents_valid}
use Rattle.gr_tables.proofs.channels.Channels.are_channels.Goals as goal

pub returns : goal.returns
returns c = contents_valid c.args.self.now.map c.args.self.now.are_channels
