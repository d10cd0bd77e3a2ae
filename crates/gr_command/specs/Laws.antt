-- What texts do not tell.
use Rattle.std.specs.Prelude.{◌≡◌, ℕ, List}
use Rattle.gr_rules.specs.Tells.{GoroutineShown}
use Rattle.gr_command.specs.Replies.{Shown, told}
use Rattle.gr_command.specs.Texts.{said_text}

-- The text of a goroutine is that of all that the rules show of it: what it waits for has no part in it.
abbrev pub TellsAll : Type 0
TellsAll = (go : List ℕ) (g : GoroutineShown) → said_text (Shown go (told g)) ≡ said_text (Shown go g)
