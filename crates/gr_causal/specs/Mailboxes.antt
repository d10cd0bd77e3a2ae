-- A small machine of two kinds of object: workers put numbers into mailboxes, look at them and take them out.
-- It shows that the laws can be met, and what the definitions give for one log.
use Rattle.std.specs.Prelude.{ℕ, ◌+◌, Bool, true, false, cond, ◌==◌, ◌&&◌, List, [], ◌∷◌, Option, Some, None}
use Rattle.gr_causal.specs.declared.mailboxes.Action.{Action}
use Rattle.gr_causal.specs.declared.mailboxes.Action.TheVariants.{Put, Take, Look}
use Rattle.gr_causal.specs.declared.mailboxes.Event.{Event}
use Rattle.gr_causal.specs.Machine.{Machine, StepOf, conflict}
use Rattle.gr_causal.specs.Rules.{Rule, Note, Rulebook, machine_of}
use Rattle.gr_causal.specs.Rules.Rule.{stuck, does, ask}
use Rattle.gr_causal.specs.StepNames.{name_of}

-- a worker or a mailbox, each with a number
pub data Object : Type 0 where
  worker : ℕ → Object
  mailbox : ℕ → Object

-- how many steps a worker has taken, and the last number that it saw
pub record Worker : Type 0 where
  pub steps : ℕ
  pub saw : Option ℕ

-- a state is what each worker and each mailbox contains; an empty mailbox has no number
pub record State : Type 0 where
  pub workers : ℕ → Worker
  pub mailboxes : ℕ → Option ℕ

-- an object with its content
pub data Cell : Type 0 where
  worker_has : ℕ → Worker → Cell
  mailbox_has : ℕ → Option ℕ → Cell

-- whether two objects are equal
abbrev pub same : Object → Object → Bool
same (worker v) (worker w) = v == w
same (mailbox m) (mailbox n) = m == n
same _ _ = false

-- the object of a cell
abbrev pub object_of : Cell → Object
object_of (worker_has w x) = worker w
object_of (mailbox_has m x) = mailbox m

-- an object with its content in the state
abbrev pub look : State → Object → Cell
look s (worker w) = worker_has w (s.workers w)
look s (mailbox m) = mailbox_has m (s.mailboxes m)

-- the function with this value at one number
abbrev pub updated : {X : Type 0} → (ℕ → X) → ℕ → X → ℕ → X
updated f k x n = cond (n == k) x (f n)

-- the state with this content at its object
abbrev pub put : State → Cell → State
put s (worker_has w x) = record { workers = updated s.workers w x; mailboxes = s.mailboxes }
put s (mailbox_has m x) = record { workers = s.workers; mailboxes = updated s.mailboxes m x }

-- the kind of a step is its ordinal among the steps of its worker
abbrev pub MailRule : Type 0
MailRule = Rule Object Cell ℕ

-- the worker after a step in which it saw this
abbrev pub moved_on : Worker → Option ℕ → Worker
moved_on x saw = record { steps = x.steps + 1; saw = saw }

-- what an action of a worker does, by what it and the mailbox contain
abbrev pub acts : Event → Worker → Action → Option ℕ → MailRule
acts e x (Put v) None = does (x.steps + 1) (worker_has e.worker (moved_on x x.saw) ∷ mailbox_has e.mailbox (Some v) ∷ [])
acts e x (Put v) (Some w) = stuck
acts e x Take None = stuck
acts e x Take (Some v) = does (x.steps + 1) (worker_has e.worker (moved_on x (Some v)) ∷ mailbox_has e.mailbox None ∷ [])
acts e x Look None = stuck
acts e x Look (Some v) = does (x.steps + 1) (worker_has e.worker (moved_on x (Some v)) ∷ [])

-- asks for a worker
abbrev pub ask_worker : ℕ → (Worker → MailRule) → MailRule
ask_worker w f = ask (worker w) (elim [ worker_has v x ↦ f x | mailbox_has m y ↦ stuck ])

-- asks for a mailbox
abbrev pub ask_mailbox : ℕ → (Option ℕ → MailRule) → MailRule
ask_mailbox m f = ask (mailbox m) (elim [ worker_has v x ↦ stuck | mailbox_has n y ↦ f y ])

-- the worker and the mailbox are asked, in this order
abbrev pub rule : Event → MailRule
rule e = ask_worker e.worker (λ x. ask_mailbox e.mailbox (acts e x e.action))

-- workers, mailboxes and their rules
abbrev pub rulebook : Rulebook
rulebook = record { Object = Object; Cell = Cell; State = State; Event = Event; Kind = ℕ; same = same; name = object_of; look = look; put = put; rule = rule }

-- the machine that steps by them
abbrev pub mailboxes : Machine
mailboxes = machine_of rulebook

-- nobody has taken a step, and all mailboxes are empty
abbrev pub start : State
start = record { workers = λ w. record { steps = 0; saw = None }; mailboxes = λ m. None }

-- a step of it as a log keeps it
abbrev pub MailStep : Type 0
MailStep = StepOf mailboxes

-- the owner of a step is its worker
abbrev pub owner : Event → ℕ
owner e = e.worker

-- the ordinal of a step among those of its worker
abbrev pub ordinal : Note Object ℕ → ℕ
ordinal n = n.kind

-- how many steps a worker has taken
abbrev pub count : State → ℕ → ℕ
count s w = (s.workers w).steps

-- the name of a step is its worker with its ordinal
abbrev pub name : MailStep → ℕ × ℕ
name r = name_of mailboxes owner ordinal r

-- whether two names are equal
abbrev pub same_name : ℕ × ℕ → ℕ × ℕ → Bool
same_name m n = (m.0 == n.0) && (m.1 == n.1)

-- whether the action changes what the mailbox contains
abbrev pub changes : Action → Bool
changes (Put v) = true
changes Take = true
changes Look = false

-- what a step writes: its worker, and its mailbox unless it only looks
abbrev pub written : Event → List Object
written e = worker e.worker ∷ cond (changes e.action) (mailbox e.mailbox ∷ []) []

-- what is noted of a step with this ordinal
abbrev pub noted : Event → ℕ → Note Object ℕ
noted e k = record { kind = k; reads = worker e.worker ∷ mailbox e.mailbox ∷ []; writes = written e }

-- the step of an event with this ordinal, which wrote over these cells
abbrev pub logged_as : Event → ℕ → List Cell → MailStep
logged_as e k saved = record { event = e; note = noted e k; saved = saved }

-- whether the steps of two events conflict
abbrev pub clash : Event → Event → Bool
clash a b = conflict mailboxes (logged_as a 0 []) (logged_as b 0 [])
