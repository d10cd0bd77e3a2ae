-- What a goroutine waits for is not told.
use Rattle.std.proofs.Common.{◌≡◌, ℕ, List, refl}
use Rattle.gr_rules.specs.Goroutines.{Status, ready, waiting, finished}
use Rattle.gr_rules.specs.Tells.{GoroutineShown}
use Rattle.gr_command.specs.Replies.{Shown, told, without_waits}
use Rattle.gr_command.specs.Texts.{status_text, said_text}

same_word : (s : Status) → status_text (without_waits s) ≡ status_text s
same_word ready = refl
same_word (waiting waits) = refl
same_word finished = refl

pub tells_all : (go : List ℕ) (g : GoroutineShown) → said_text (Shown go (told g)) ≡ said_text (Shown go g)
tells_all go g = rw (same_word g.status) refl
