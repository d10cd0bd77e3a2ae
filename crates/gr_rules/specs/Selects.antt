-- Select statements (Go: Select statements).
use Rattle.std.specs.Prelude.{ℕ, ◌+◌, Bool, false, ◌||◌, List, [], ◌∷◌, is_some, Option, Some, None, if◌then◌else◌}
use Rattle.gr_base.specs.declared.values.Value.{Value}
use Rattle.gr_base.specs.declared.events.Choice.{Choice}
use Rattle.gr_base.specs.declared.events.Choice.TheVariants as choices
use Rattle.gr_base.specs.declared.kinds.Kind.TheVariants.{Default, SelectWait}
use Rattle.gr_channels.specs.Objects.{has_any}
use Rattle.gr_rules.specs.Outcomes.{Outcome, gives, faults, wrong, ◌>>=◌}
use Rattle.gr_rules.specs.Deeds.{Communication, Sending, Receiving, Otherwise, past}
use Rattle.gr_rules.specs.Attempts.{unsound, no_such_choice, Attempt, refuse, ask_gate, ask_room, ask_item}
use Rattle.gr_rules.specs.Actors.{Actor, onward, simply, fault, given, clause_at}
use Rattle.gr_rules.specs.Communications.{communicate, wait}

-- the values to send, in source order (Go: Select statements, step 1; here after the choice)
abbrev pub values_of : List Communication → Outcome (List Value)
values_of [] = gives []
values_of (Sending c v ∷ cs) = v >>= λ x. values_of cs >>= λ xs. gives (x ∷ xs)
values_of (_ ∷ cs) = values_of cs

-- whether the communication of a clause can proceed (step 2), which a send on a closed channel can: it is a fault
abbrev pub ask_ready : Communication → (Bool → Attempt) → Attempt
ask_ready (Sending (Some c) v) k = ask_gate c (λ gate. ask_room c gate (λ room. k (gate.closed || has_any gate.receivers || is_some room)))
ask_ready (Receiving (Some c) zero) k = ask_gate c (λ gate. ask_item c gate (λ item. k (gate.closed || has_any gate.senders || is_some item)))
ask_ready _ k = k false

-- this outcome, where no clause can proceed
abbrev pub if_none_ready : List Communication → Attempt → Attempt
if_none_ready [] then_this = then_this
if_none_ready (c ∷ cs) then_this = ask_ready c (λ b. if b then refuse no_such_choice else if_none_ready cs then_this)

-- A clause that is ready may be chosen (steps 2, 3). The choice comes before the values, and a fault in a value before the
-- communication.
abbrev pub pick : Actor → ℕ → Outcome (List Value) → Option Communication → Attempt
pick a i vs None = refuse no_such_choice
pick a i (gives vs) (Some c) = communicate a (Some i) c (refuse no_such_choice)
pick a i (faults e) (Some c) = ask_ready c (λ b. if b then fault a None e else refuse no_such_choice)
pick a i wrong (Some c) = refuse unsound

-- the number of the default clause, if there is one, from i on
abbrev pub default_from : ℕ → List Communication → Option ℕ
default_from i [] = None
default_from i (Otherwise ∷ cs) = Some i
default_from i (_ ∷ cs) = default_from (i + 1) cs

-- clauses with their numbers, from i on
abbrev pub numbered : ℕ → List Communication → List (Option ℕ × Communication)
numbered i [] = []
numbered i (c ∷ cs) = (Some i, c) ∷ numbered (i + 1) cs

-- where none is ready: the default clause, if there is one (step 2)
abbrev pub default : Actor → List Communication → Option ℕ → Attempt
default a cs (Some i) = if_none_ready cs (given a (values_of cs) (λ vs. given a (past a.frame (Some i) None) (λ f. simply a Default (onward a f) [])))
default a cs None = refuse no_such_choice

-- where none is ready and there is no default clause: it waits until one can proceed (step 2)
abbrev pub park : Actor → List Communication → Option ℕ → Attempt
park a cs (Some i) = refuse no_such_choice
park a cs None = if_none_ready cs (given a (values_of cs) (λ vs. wait a None SelectWait (numbered 1 cs)))

-- only a choice that the statement allows is a step
abbrev pub choose : Actor → List Communication → Choice → Attempt
choose a cs choices.Plain = refuse no_such_choice
choose a cs (choices.Pick i) = pick a i (values_of cs) (clause_at cs i)
choose a cs choices.Default = default a cs (default_from 1 cs)
choose a cs choices.Park = park a cs (default_from 1 cs)
