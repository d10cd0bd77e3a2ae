-- The steps of a program.
use Rattle.std.specs.Prelude.{ℕ, ℤ, pos, negsuc, ◌+◌, ◌-◌, nat_le, Bool, false, List, [], ◌∷◌, ◌++◌, length, Option, Some, None, if◌then◌else◌}
use Rattle.std.specs.Option.{option_map_or}
use Rattle.gr_base.specs.declared.names.ChName.{ChName}
use Rattle.gr_base.specs.declared.values.Value.{Value}
use Rattle.gr_base.specs.declared.values.Value.TheVariants as values
use Rattle.gr_base.specs.declared.events.Choice.{Choice}
use Rattle.gr_base.specs.declared.events.Choice.TheVariants as choices
use Rattle.gr_base.specs.declared.events.Event.{Event}
use Rattle.gr_base.specs.declared.kinds.Fault.TheVariants.{BadSize, CallDepth, NameDepth, NameCount}
use Rattle.gr_base.specs.declared.kinds.Kind.TheVariants as kinds
use Rattle.gr_base.specs.declared.objects.Object.{Object}
use Rattle.gr_causal.specs.Machine.{Machine}
use Rattle.gr_causal.specs.Rules.{Note, Rulebook, machine_of}
use Rattle.gr_program.specs.Programs.{Program}
use Rattle.gr_rules.specs.Outcomes.{Outcome, gives}
use Rattle.gr_rules.specs.Frames.{Frame, goes_on}
use Rattle.gr_rules.specs.Deeds.{Deed, Moves, Prints, Enters, Leaves, Starts, Makes, TakesLen, TakesCap, Closes, Communicates, Chooses, deed, resumed}
use Rattle.gr_rules.specs.Goroutines.{Status, ready, waiting, finished, Goroutine, started}
use Rattle.gr_rules.specs.States.{Run, live, ended, Cell, run_has, go_has, gate_has, State, same, object_of, look, put, call_of}
use Rattle.gr_rules.specs.Attempts.{program_is_over, no_such_goroutine, goroutine_is_done, goroutine_waits, no_such_choice, unsound, Refusal, Operation, takes_len_of, takes_cap_of, Report, Attempt, refuse, perform, rule_of, refusal_in, ask_run, ask_go, ask_tail, ask_head, if_there, ask_gate}
use Rattle.gr_rules.specs.Actors.{Actor, with_frames, onward, does, simply, fault, given}
use Rattle.gr_rules.specs.Communications.{proceed_or_wait, close}
use Rattle.gr_rules.specs.Selects.{choose}
use Rattle.gr_rules.specs.Limits.{most_frames, most_places, most_counts, greatest_count}

-- whether a goroutine with these frames can have no more: it has at most 1,000
abbrev pub is_deepest : List Frame → Bool
is_deepest fs = nat_le most_frames (length fs)

-- a call pushes a frame (Go: Calls)
abbrev pub enter : Actor → ℕ → List Value → Attempt
enter a function vs =
    if is_deepest a.before.frames
    then fault a None CallDepth
    else given a (call_of a.program function vs) (λ f. simply a kinds.Call (with_frames a (f ∷ a.before.frames)) [])

abbrev pub done : Actor → Goroutine
done a = record (a.before) { status = finished; frames = []; steps = a.before.steps + 1 }

-- out of the outermost frame: the goroutine of `main` ends the program (Go: Program execution, Go statements)
abbrev pub finish : Actor → List ℕ → Attempt
finish a [] = simply a kinds.Exit (done a) (run_has ended ∷ [])
finish a (n ∷ ns) = simply a kinds.Return (done a) []

-- Go: Return statements
abbrev pub leave : Actor → Value → List Frame → Attempt
leave a v [] = finish a a.name
leave a v (f ∷ fs) = given a (resumed f v) (λ f. simply a kinds.Return (with_frames a (f ∷ fs)) [])

abbrev pub child : Actor → List ℕ
child a = a.name ++ (a.before.children + 1) ∷ []

abbrev pub if_absent : Attempt → Option Goroutine → Attempt
if_absent then_this child = elim child [ None ↦ then_this | Some g ↦ refuse unsound ]

-- The child is named after its parent, by how many children the parent has started. A name has at most 32 counts, each
-- below 2^32 (Go: Go statements).
abbrev pub go : Actor → ℕ → List Value → Attempt
go a function vs =
    if nat_le most_counts (length a.name)
    then fault a None NameDepth
    else (if nat_le greatest_count a.before.children
    then fault a None NameCount
    else ask_go (child a) (if_absent (given a (call_of a.program function vs) (λ f.
    simply a kinds.Go (record (onward a (goes_on a.frame)) { children = a.before.children + 1 }) (go_has (child a) (Some (started f)) ∷ [])))))

abbrev pub new_channel : Actor → ChName
new_channel a = record { go = a.name; n = a.before.channels + 1 }

-- a channel is named after the goroutine that makes it; its size is at most 1,000,000 (Go: Making slices, maps and channels)
abbrev pub make : Actor → ℤ → Attempt
make a (negsuc n) = fault a None BadSize
make a (pos n) =
    if nat_le (most_places + 1) n
    then fault a None BadSize
    else (if nat_le greatest_count a.before.channels
    then fault a None NameCount
    else given a (resumed a.frame (values.Chan (Some (new_channel a)))) (λ f.
    simply a kinds.Make (record (onward a f) { channels = a.before.channels + 1 })
    (gate_has (new_channel a) (Some (record { capacity = n; closed = false; senders = []; receivers = [] })) ∷ [])))

-- Go: Length and capacity; of nil they are 0
abbrev pub counted : Actor → Option Operation → ℕ → Attempt
counted a operation n = given a (resumed a.frame (values.Int (pos n))) (λ f. does a None operation kinds.Length (onward a f) [])

abbrev pub take_len : Actor → Option ChName → Attempt
take_len a None = counted a None 0
take_len a (Some c) = ask_gate c (λ gate. ask_head c (λ left. ask_tail c (λ entered. counted a (Some (takes_len_of c)) (entered - left))))

abbrev pub take_cap : Actor → Option ChName → Attempt
take_cap a None = counted a None 0
take_cap a (Some c) = ask_gate c (λ gate. counted a (Some (takes_cap_of c)) gate.capacity)

-- a line is printed to the text of the goroutine (Go: Bootstrapping)
abbrev pub print : Actor → List ℕ → Attempt
print a line = perform (record { deed = kinds.Pure; clause = None; ordinal = a.before.steps + 1; printed = Some line; operation = None })
    (go_has a.name (Some (record (onward a (goes_on a.frame)) { text = a.before.text ++ line ∷ [] })) ∷ [])

-- one rule for each deed; only a select has a choice
abbrev pub act : Actor → Deed → Attempt
act a (Moves on) = simply a kinds.Pure (onward a on) []
act a (Prints line) = print a line
act a (Enters function vs) = enter a function vs
act a (Leaves v) = leave a v a.below
act a (Starts function vs) = go a function vs
act a (Makes n) = make a n
act a (TakesLen c) = take_len a c
act a (TakesCap c) = take_cap a c
act a (Communicates c) = proceed_or_wait a c
act a (Closes c) = close a c
act a (Chooses cs) = refuse unsound

abbrev pub act_by : Actor → Choice → Outcome Deed → Attempt
act_by a choice (gives (Chooses cs)) = choose a cs choice
act_by a choices.Plain d = given a d (act a)
act_by a _ d = refuse no_such_choice

abbrev pub act_in : Program → Event → Goroutine → List Frame → Attempt
act_in p e g [] = refuse unsound
act_in p e g (f ∷ fs) = act_by (record { program = p; name = e.go; before = g; frame = f; below = fs }) e.choice (deed f)

abbrev pub if_ready : Program → Event → Goroutine → Status → Attempt
if_ready p e g finished = refuse goroutine_is_done
if_ready p e g (waiting ws) = refuse goroutine_waits
if_ready p e g ready = act_in p e g g.frames

abbrev pub if_known : Program → Event → Option Goroutine → Attempt
if_known p e None = refuse no_such_goroutine
if_known p e (Some g) = if_ready p e g g.status

abbrev pub if_live : Attempt → Run → Attempt
if_live then_this live = then_this
if_live then_this _ = refuse program_is_over

-- the attempt of an event
abbrev pub attempt : Program → Event → Attempt
attempt p e = ask_run (if_live (ask_go e.go (if_known p e)))

-- why an event is no step of the state, if it is none
abbrev pub refusal : Program → State → Event → Option Refusal
refusal p s e = refusal_in s (attempt p e)

-- the machine of a program
abbrev pub rulebook : Program → Rulebook
rulebook p = record {
  Object = Object;
  Cell = Cell;
  State = State;
  Event = Event;
  Kind = Report;
  same = same;
  name = object_of;
  look = look;
  put = put;
  rule = λ e. rule_of (attempt p e);
}

abbrev pub machine : Program → Machine
machine p = machine_of (rulebook p)

-- the name of a step: its goroutine, and its ordinal among the steps of that goroutine
abbrev pub owner : Event → List ℕ
owner e = e.go

abbrev pub ordinal : Note Object Report → ℕ
ordinal n = n.kind.ordinal

-- how many steps a goroutine has taken
abbrev pub steps_of : Option Goroutine → ℕ
steps_of g = option_map_or (λ g. g.steps) g 0

abbrev pub count : State → List ℕ → ℕ
count s name = steps_of (s.goroutines name)
