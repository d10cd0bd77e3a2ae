-- Moves of the machine of mailboxes, as a program has them.
use Rattle.gr_causal.specs.declared.mailboxes.Event.{Event}
use Rattle.gr_causal.specs.declared.mailbox_trips.Turn.{Turn}
use Rattle.gr_causal.specs.declared.mailbox_trips.Turn.TheVariants.{Forth, Back}
use Rattle.gr_causal.specs.Trips.{Move}
use Rattle.gr_causal.specs.Trips.Move.{forth, back}

-- the move of a turn
abbrev pub move_of : Turn → Move Event
move_of (Forth e) = forth e
move_of (Back e) = back e
