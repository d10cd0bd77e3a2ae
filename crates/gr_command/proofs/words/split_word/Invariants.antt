use Rattle.std.proofs.Common.{take}
use Rattle.gr_command.specs.Words.{NoGap}
use Rattle.gr_command.proofs.words.split_word.Given as goal

abbrev pub invariant-loop-i : goal.invariant-loop-i
invariant-loop-i l = NoGap (take l.i l.text)
