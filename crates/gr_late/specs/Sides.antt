-- Who may wait on one channel at a time.
use Rattle.std.specs.Prelude.{◌≡◌, ℕ, List, Option}
use Rattle.gr_base.specs.declared.names.ChName.{ChName}
use Rattle.gr_causal.specs.Sequences.{In}
use Rattle.gr_rules.specs.Goroutines.{ToSend, ToReceive}
use Rattle.gr_rules.specs.States.{State}
use Rattle.gr_rules.specs.Touches.{waits_at}

-- A goroutine that waits to send on a channel, and one that waits to receive from it, are one: it waits in a select for both.
abbrev pub OneSided : State → Type 0
OneSided s = (n m : List ℕ) (c : ChName) (i j : Option ℕ) → In (ToSend c i) (waits_at (s.goroutines n)) → In (ToReceive c j) (waits_at (s.goroutines m)) → n ≡ m
