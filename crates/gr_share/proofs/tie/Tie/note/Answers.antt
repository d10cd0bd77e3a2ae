use Rattle.std.proofs.Common.{arith}
use Rattle.gr_share.proofs.Moves.{notes}
use Rattle.gr_share.proofs.tie.Tie.note.Goals as goal

pub load-requires : goal.load-requires
load-requires c = (c.requires.table, omega (arith, c.args.self.now.one_word), notes _ _ _ c.requires.desk c.requires.full)
