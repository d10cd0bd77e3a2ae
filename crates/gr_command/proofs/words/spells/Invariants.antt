use Rattle.std.proofs.Common.{◌≡◌, length}
use Rattle.std.specs.Str.{bytes_eq}
use Rattle.gr_command.proofs.words.spells.Given as goal

-- what is left to compare
abbrev pub invariant-loop-first : goal.invariant-loop-first
invariant-loop-first l = bytes_eq l.left l.expected ≡ bytes_eq l.word l.known

abbrev pub decreases-loop-first : goal.decreases-loop-first
decreases-loop-first l = length l.expected
