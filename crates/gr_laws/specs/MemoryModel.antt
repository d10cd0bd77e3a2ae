-- What Go's memory model orders, as pairs of steps of which the first comes before the second ("The Go Memory Model", version of
-- June 6, 2022: Goroutine creation, Channel communication). Each step is told with the state that it began from.
use Rattle.std.specs.Prelude.{◌≡◌, ℕ, suc, ◌+◌, true, List, [], ◌∷◌, ◌++◌, Some}
use Rattle.gr_base.specs.declared.names.ChName.{ChName}
use Rattle.gr_base.specs.declared.kinds.Kind.TheVariants.{Buffer, Take, Close, Closed}
use Rattle.gr_base.specs.declared.objects.Object.TheVariants.{Go}
use Rattle.gr_causal.specs.Sequences.{In}
use Rattle.gr_program.specs.Programs.{Program}
use Rattle.gr_rules.specs.States.{State}
use Rattle.gr_rules.specs.Attempts.{Report, sends_on, receives_from, closes}
use Rattle.gr_rules.specs.History.{starts}
use Rattle.gr_rules.specs.Touches.{senders_at, capacity_at}
use Rattle.gr_laws.specs.Reached.{Logged, IsRun}

-- The step put a value into the buffer of a channel with so many places. Its number is how many entered before it.
pub record Enters (c : ChName) (places number : ℕ) (s : State) (r : Report) : Type 0 where
  pub on : r.operation ≡ Some (sends_on c)
  pub kind : r.deed ≡ Buffer
  pub places_are : capacity_at (s.gates c) ≡ places
  pub number_is : s.tails c ≡ number

-- the step took the value of a number out of the buffer of a channel with so many places
pub record Leaves (c : ChName) (places number : ℕ) (s : State) (r : Report) : Type 0 where
  pub on : r.operation ≡ Some (receives_from c)
  pub kind : r.deed ≡ Take
  pub places_are : capacity_at (s.gates c) ≡ places
  pub number_is : s.heads c ≡ number

-- a step from s, and a step from t before which the memory model has it
pub data Edge (p : Program) (s t : State) (a b : Logged p) : Type 0 where
  -- steps of one goroutine are sequenced
  sequenced : a.event.go ≡ b.event.go → Edge p s t a b
  -- the `go` statement that starts a goroutine, before what that does
  started : starts p b.event.go a ≡ true → Edge p s t a b
  -- Of an operation that waits and the one that serves it, the first came before the second is complete. That is so for a send and
  -- its receive without a buffer, whichever waits, and for a send that waits for room and the receive that makes it.
  served : In (Go a.event.go) b.note.writes → Edge p s t a b
  -- what serves an operation that waits, before what its goroutine does when that is complete
  complete : In (Go b.event.go) a.note.writes → Edge p s t a b
  -- the closing of a channel, before a receive that returns because of it
  closed : (c : ChName) → a.note.kind.operation ≡ Some (closes c) → a.note.kind.deed ≡ Close
      → b.note.kind.operation ≡ Some (receives_from c) → b.note.kind.deed ≡ Closed → Edge p s t a b
  -- the send of a value into a buffer, before the receive of that value
  received : (c : ChName) (m n : ℕ) → Enters c (suc m) n s a.note.kind → Leaves c (suc m) n t b.note.kind → Edge p s t a b
  -- the receive that moves the value of a send which waits into the buffer, before the receive of that value
  moved_up : (c : ChName) (m n : ℕ) → Leaves c (suc m) n s a.note.kind → ¬ (senders_at (s.gates c) ≡ []) → Leaves c (suc m) (n + suc m) t b.note.kind
      → Edge p s t a b
  -- the receive of a value from a buffer of C places, before the send of the C-th value after it
  made_room : (c : ChName) (m n : ℕ) → Leaves c (suc m) n s a.note.kind → Enters c (suc m) (n + suc m) t b.note.kind → Edge p s t a b

-- In a run with this log, the memory model has one step directly before a later one. The states are those to which the steps before
-- each lead.
pub record IsOrdered (p : Program) (log : List (Logged p)) (a b : Logged p) : Type 0 where
  pub front : List (Logged p)
  pub middle : List (Logged p)
  pub back : List (Logged p)
  pub split : log ≡ front ++ a ∷ (middle ++ b ∷ back)
  pub before_first : State
  pub before_second : State
  pub first : IsRun p front before_first
  pub second : IsRun p (front ++ a ∷ middle) before_second
  pub edge : Edge p before_first before_second a b

-- a step happens before another: over one or more such pairs
pub data HappensBefore (p : Program) (log : List (Logged p)) (a : Logged p) : Logged p → Type 0 where
  directly : (b : Logged p) → IsOrdered p log a b → HappensBefore p log a b
  further : (b c : Logged p) → HappensBefore p log a b → IsOrdered p log b c → HappensBefore p log a c
