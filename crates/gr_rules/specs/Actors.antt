-- What a step leaves of the goroutine that takes it, and of those that it meets.
use Rattle.std.specs.Prelude.{ℕ, zero, suc, ◌+◌, Bool, List, [], ◌∷◌, slice_get, Option, Some, None, if◌then◌else◌}
use Rattle.std.specs.List.{list_any}
use Rattle.gr_base.specs.declared.names.ChName.{ChName}
use Rattle.gr_base.specs.declared.values.Value.{Value}
use Rattle.gr_base.specs.declared.kinds.Fault.{Fault}
use Rattle.gr_base.specs.declared.kinds.Kind.{Kind}
use Rattle.gr_base.specs.declared.kinds.Kind.TheVariants as kinds
use Rattle.gr_channels.specs.declared.waiter.Waiter.{Waiter}
use Rattle.gr_channels.specs.Objects.{GateContent}
use Rattle.gr_channels.specs.Queues.{others}
use Rattle.gr_program.specs.Programs.{Program}
use Rattle.gr_rules.specs.Outcomes.{Outcome, gives, faults, wrong, ◌>>=◌}
use Rattle.gr_rules.specs.Operators.{same_channel}
use Rattle.gr_rules.specs.Frames.{Frame}
use Rattle.gr_rules.specs.Deeds.{Communication, past}
use Rattle.gr_rules.specs.Goroutines.{Wait, channel_of, Status, ready, waiting, Goroutine}
use Rattle.gr_rules.specs.States.{faulted, Cell, run_has, go_has, gate_has}
use Rattle.gr_rules.specs.Attempts.{unsound, Operation, Attempt, refuse, perform, ask_go, if_there, ask_gate}

-- the goroutine that takes a step, its innermost frame, and those below
pub record Actor : Type 0 where
  pub program : Program
  pub name : List ℕ
  pub before : Goroutine
  pub frame : Frame
  pub below : List Frame

-- after a step, with these frames
abbrev pub with_frames : Actor → List Frame → Goroutine
with_frames a fs = record (a.before) { frames = fs; steps = a.before.steps + 1 }

-- after a step in which its innermost frame went on
abbrev pub onward : Actor → Frame → Goroutine
onward a f = with_frames a (f ∷ a.below)

-- A step of this goroutine: the clause that it picked, what it did with a channel and its kind. Beside that, what becomes
-- of the goroutine, and what else the step writes.
abbrev pub does : Actor → Option ℕ → Option Operation → Kind → Goroutine → List Cell → Attempt
does a clause operation kind g cells =
    perform (record { deed = kind; clause = clause; ordinal = a.before.steps + 1; printed = None; operation = operation }) (go_has a.name (Some g) ∷ cells)

abbrev pub simply : Actor → Kind → Goroutine → List Cell → Attempt
simply a kind g cells = does a None None kind g cells

-- a fault stops the program, and leaves the goroutine as it was but for its count of steps (Go: Run-time panics)
abbrev pub fault : Actor → Option Operation → Fault → Attempt
fault a operation e = does a None operation (kinds.Fault e) (with_frames a a.before.frames) (run_has (faulted e) ∷ [])

-- what evaluation gives; a fault in it is a fault of the step
abbrev pub given : {A : Type 0} → Actor → Outcome A → (A → Attempt) → Attempt
given a (gives x) k = k x
given a (faults e) k = fault a None e
given a wrong k = refuse unsound

-- what evaluation gives, where it gives something
abbrev pub if_gives : {A : Type 0} → (A → Attempt) → Outcome A → Attempt
if_gives k (gives x) = k x
if_gives k _ = refuse unsound

-- the gate without the waits of these goroutines
abbrev pub without : List (List ℕ) → GateContent → GateContent
without [] gate = gate
without (name ∷ names) gate = without names (record gate { senders = others name gate.senders; receivers = others name gate.receivers })

-- the channels of these waits, each once, without those that were seen before
abbrev pub channels_but : List ChName → List Wait → List ChName
channels_but seen [] = []
channels_but seen (w ∷ ws) =
    if list_any (same_channel (channel_of w)) seen then channels_but seen ws else channel_of w ∷ channels_but (channel_of w ∷ seen) ws

-- a goroutine that waits, and what it waits for
abbrev pub if_waiting : (List Wait → Attempt) → Status → Attempt
if_waiting k status = elim status [ waiting ws ↦ k ws | _ ↦ refuse unsound ]

abbrev pub ask_waiter : List ℕ → (Goroutine → List Wait → Attempt) → Attempt
ask_waiter name k = ask_go name (if_there (λ g. if_waiting (k g) g.status))

-- the gates of these channels without the waits of these goroutines
abbrev pub ask_withdrawn : List (List ℕ) → List ChName → (List Cell → Attempt) → Attempt
ask_withdrawn names [] k = k []
ask_withdrawn names (c ∷ cs) k = ask_gate c (λ gate. ask_withdrawn names cs (λ cells. k (gate_has c (Some (without names gate)) ∷ cells)))

-- the clause with a number, counted from 1
abbrev pub clause_at : List Communication → ℕ → Option Communication
clause_at cs zero = None
clause_at cs (suc i) = slice_get cs i

-- a goroutine past the communication for which it waits, ready
abbrev pub met : Option ℕ → Option (Value × Bool) → Goroutine → List Frame → Outcome Goroutine
met clause got g [] = wrong
met clause got g (f ∷ fs) = past f clause got >>= λ f. gives (record g { status = ready; frames = f ∷ fs })

-- One that waits on the channel is met. It goes past its operation and is ready, and the other channels on which it waits
-- no longer have it (Go: Select statements: only one communication of a select proceeds).
abbrev pub ask_met : {X : Type 0} → ChName → Waiter X → Option (Value × Bool) → (List Cell → Attempt) → Attempt
ask_met c w got k = ask_waiter w.go (λ g ws. ask_withdrawn (w.go ∷ []) (channels_but (c ∷ []) ws) (λ cells.
    if_gives (λ partner. k (go_has w.go (Some partner) ∷ cells)) (met w.case got g g.frames)))
