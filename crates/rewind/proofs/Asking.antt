-- What came of a command of a desk.
use Rattle.std.proofs.Common.{Result, Ok, Err, refl}
use Rattle.std.specs.Borrow.{Bor}
use Rattle.gr_command.specs.declared.command.Command.{Command}
use Rattle.gr_share.specs.AskRefused.{AskRefused}
use Rattle.gr_share.specs.AskRefused.TheVariants.{JournalFull, NoMemory}
use Rattle.gr_share.specs.Receipt.{Receipt}
use Rattle.gr_share.specs.Calls.{Asker, Asked}
use Rattle.gr_share.specs.declared.desk.Asked.TheVariants as asks
use Rattle.gr_serve.specs.Replies.{answer_of}
use Rattle.rewind.specs.DeskStreams.{of_desk}

-- a desk that asked a command
pub asked : (old new : Asker) (command : Command) (result : Result (Bor Receipt) AskRefused)
    → Asked old (asks.Command command) result new → of_desk old command (answer_of result) new
asked old new command (Ok receipt) h = (receipt.now, h.0, refl)
asked old new command (Err JournalFull) h = h.1
asked old new command (Err NoMemory) h = h.1
