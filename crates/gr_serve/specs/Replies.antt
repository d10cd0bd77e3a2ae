-- What is written for what came of a command.
use Rattle.std.specs.Prelude.{ℕ, List, codes, Result, Ok, Err}
use Rattle.std.specs.Borrow.{Bor}
use Rattle.gr_command.specs.Replies.{Said, said_of}
use Rattle.gr_command.specs.Texts.{said_text}
use Rattle.gr_session.specs.declared.journal.Receipt.{Receipt}
use Rattle.gr_session.specs.declared.journal.AskRefused.{AskRefused}
use Rattle.gr_session.specs.declared.journal.AskRefused.TheVariants as refused

-- what came of a command: a reply, or no entry, in a full journal or out of memory
pub data Answer : Type 0 where
  Replied : (said : Said) → Answer
  JournalFull : Answer
  NoMemory : Answer

-- what is written for an answer
abbrev pub answer_text : Answer → List ℕ
answer_text (Replied said) = said_text said
answer_text JournalFull = codes "no Q1\n"
answer_text NoMemory = codes "no Q2\n"

-- what came of a command by its receipt, or by why it has none
abbrev pub answer_of : Result (Bor Receipt) AskRefused → Answer
answer_of (Ok receipt) = Replied (said_of receipt.now.reply)
answer_of (Err refused.JournalFull) = JournalFull
answer_of (Err refused.NoMemory) = NoMemory
