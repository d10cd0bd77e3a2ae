use Rattle.std.proofs.Common.{◌≡◌, ◌++◌, length}
use Rattle.std.specs.Prelude.{option_map}
use Rattle.gr_command.specs.Arguments.{steps_named}
use Rattle.gr_command.specs.Commands.{HasNamed}
use Rattle.gr_command.specs.Words.{words_of}
use Rattle.gr_command.proofs.arguments.read_steps.Given as goal

-- the names so far, and those that are left, are all; and what is named among these is named among all
abbrev pub invariant-loop-word : goal.invariant-loop-word
invariant-loop-word l =
    (steps_named (words_of l.text) ≡ option_map (λ later. l.ids.items ++ later) (steps_named (words_of l.left)))
    × (HasNamed (words_of l.left) → HasNamed (words_of l.text))

abbrev pub decreases-loop-word : goal.decreases-loop-word
decreases-loop-word l = length (words_of l.left)
