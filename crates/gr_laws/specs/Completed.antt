-- Sends and receives that are complete, with numbers as Go counts them ("The Go Memory Model", version of June 6, 2022, Channel
-- communication: the k-th receive from a channel of capacity C, and the k+C-th send).
use Rattle.std.specs.Prelude.{◌≡◌, ℕ, ◌+◌, ◌<◌, ◌≤◌, Bool, false, List, [], ◌∷◌, ◌++◌, filter, length, Option, Some}
use Rattle.gr_base.specs.declared.names.ChName.{ChName}
use Rattle.gr_base.specs.declared.kinds.Kind.{Kind}
use Rattle.gr_base.specs.declared.kinds.Kind.TheVariants.{Hand, Meet}
use Rattle.gr_causal.specs.Machine.{IsLog}
use Rattle.gr_program.specs.Programs.{Program}
use Rattle.gr_rules.specs.Operators.{same_channel}
use Rattle.gr_rules.specs.States.{State}
use Rattle.gr_rules.specs.Attempts.{Operation, sends_on, receives_from}
use Rattle.gr_rules.specs.Steps.{machine}
use Rattle.gr_rules.specs.Touches.{capacity_at}
use Rattle.gr_laws.specs.Reached.{Logged, IsRun}

-- whether a step of this operation and kind hands a value over on the channel: to a receiver that waits, or from a sender that waits
abbrev pub hands_over : ChName → Option Operation → Kind → Bool
hands_over c (Some (sends_on d)) Hand = same_channel c d
hands_over c (Some (receives_from d)) Meet = same_channel c d
hands_over c _ _ = false

-- how many values were handed over, by a log
abbrev pub handed : (p : Program) → ChName → List (Logged p) → ℕ
handed p c log = length (filter (λ r. hands_over c r.note.kind.operation r.note.kind.deed) log)

-- How many sends and receives on the channel are complete after a log that leads to a state. The value of each has entered or left
-- the buffer, or was handed over. A receive that returns because of a close is not counted: no send is complete after it.
abbrev pub sent : (p : Program) → ChName → List (Logged p) → State → ℕ
sent p c log s = s.tails c + handed p c log

abbrev pub received : (p : Program) → ChName → List (Logged p) → State → ℕ
received p c log s = s.heads c + handed p c log

-- the step in a run with this log: the steps before it, and the states before and after it
pub record StandsIn (p : Program) (log : List (Logged p)) (r : Logged p) : Type 0 where
  pub front : List (Logged p)
  pub behind : List (Logged p)
  pub split : log ≡ front ++ r ∷ behind
  pub old : State
  pub new : State
  pub leads : IsRun p front old
  pub step : IsLog (machine p) old (r ∷ []) new

-- with the step, the send with the number n on a channel with so many places is complete; the first one has the number 1
pub record CompletesSend (p : Program) (c : ChName) (places n : ℕ) (log : List (Logged p)) (r : Logged p) : Type 0 where
  pub at : StandsIn p log r
  pub places_are : capacity_at (at.old.gates c) ≡ places
  pub not_before : sent p c at.front at.old < n
  pub now : n ≤ sent p c (at.front ++ r ∷ []) at.new

-- and so the receive with the number n
pub record CompletesReceive (p : Program) (c : ChName) (places n : ℕ) (log : List (Logged p)) (r : Logged p) : Type 0 where
  pub at : StandsIn p log r
  pub places_are : capacity_at (at.old.gates c) ≡ places
  pub not_before : received p c at.front at.old < n
  pub now : n ≤ received p c (at.front ++ r ∷ []) at.new
