-- What arrives for a goroutine of code leaves it as the rules leave theirs; so do its other changes.
use Rattle.std.specs.Prelude.{◌≡◌, ℕ, ◌+◌, ◌<◌, Bool, List, [], ◌∷◌, map, Option, Some}
use Rattle.gr_base.specs.declared.names.ChName.{ChName}
use Rattle.gr_base.specs.declared.values.Value as values
use Rattle.gr_base.specs.declared.events.Event.{Event}
use Rattle.gr_program.specs.Programs.{Program}
use Rattle.gr_rules.specs.Outcomes.{Outcome, gives, wrong}
use Rattle.gr_rules.specs.Frames.{Frame, goes_on}
use Rattle.gr_rules.specs.Deeds.{Communication, Starts, Closes, Chooses, resumed, past}
use Rattle.gr_rules.specs.Goroutines.{Wait, ready, waiting, Goroutine, started as rules_started}
use Rattle.gr_rules.specs.States.{call_of}
use Rattle.gr_rules.specs.Actors.{onward, met, with_frames as rules_with_frames}
use Rattle.gr_rules.specs.Steps.{done}
use Rattle.gr_code.specs.Code.{Meanings, HasClause, IfGiven}
use Rattle.gr_code.specs.CodeFrames.{ProgramCode, CodeFrame, Wants, entered}
use Rattle.gr_code.specs.Goroutines.{CodeGoroutine, started, instruction_in, task_of, faulted, Value, Channel, Completion, Child, Passes, IsMet}
use Rattle.gr_code.specs.Goroutines.{arrived, parked, finished, retried}
use Rattle.gr_code.specs.Programs.{ProgramFits, Stands, IsClause, frame_of}
use Rattle.gr_refine.specs.Contents.{goroutine_of}
use Rattle.gr_refine.specs.Looks.{actor_of}
use Rattle.gr_refine.specs.Standing.{AllStand}

-- a goroutine of the program's code, whose frames stand
pub record IsIn (means : ℕ → Meanings) (p : Program) (code : ProgramCode) (g : CodeGoroutine) (f : CodeFrame) (below : List CodeFrame) : Type 0 where
  pub fits : ProgramFits means p code
  pub frames : g.frames ≡ f ∷ below
  pub stand : AllStand means code g.frames

-- the frame of the rules goes on, and with it the goroutine
pub record GoesOn (o : Outcome Frame) (g : Goroutine) (with_frame : Frame → Goroutine) : Type 0 where
  pub on : Frame
  pub is : o ≡ gives on
  pub after : g ≡ with_frame on

-- the instruction at which these frames stand has the clause, if it is one of a select
abbrev pub HasClauseHere : ProgramCode → List CodeFrame → Option ℕ → Type 0
HasClauseHere code [] clause = Unit {0}
HasClauseHere code (f ∷ below) clause = IfGiven (λ i. HasClause i clause) (instruction_in code f)

-- what arrives at a goroutine that takes a step
module _ (means : ℕ → Meanings) (p : Program) (code : ProgramCode) (e : Event) (g : CodeGoroutine) (f : CodeFrame) (below : List CodeFrame) where
  -- the value of a part arrives, and a channel that it made
  abbrev pub ValueArrives : Type 0
  ValueArrives = (v : values.Value) (after : CodeGoroutine) → IsIn means p code g f below → arrived code (Value v) g ≡ gives after
      → GoesOn (resumed (frame_of means code f) v) (goroutine_of (frame_of means code) after) (onward (actor_of (frame_of means code) p e g f below))

  abbrev pub ChannelArrives : Type 0
  ChannelArrives = (v : values.Value) (after : CodeGoroutine) → IsIn means p code g f below → arrived code (Channel v) g ≡ gives after
      → GoesOn (resumed (frame_of means code f) v) (goroutine_of (frame_of means code) after)
      (λ on. record (onward (actor_of (frame_of means code) p e g f below) on) { channels = g.channels + 1 })

  -- where the rules go on with a value, so does code
  abbrev pub ValueCanArrive : Type 0
  ValueCanArrive = (v : values.Value) → IsIn means p code g f below → ¬ (resumed (frame_of means code f) v ≡ wrong)
      → (¬ (arrived code (Value v) g ≡ wrong)) × (¬ (arrived code (Channel v) g ≡ wrong))

  -- it goes past its close, and past the start of another
  abbrev pub CompletionArrives : Type 0
  CompletionArrives = (after : CodeGoroutine) → IsIn means p code g f below → arrived code Completion g ≡ gives after
      → goroutine_of (frame_of means code) after ≡ onward (actor_of (frame_of means code) p e g f below) (goes_on (frame_of means code f))

  abbrev pub ChildArrives : Type 0
  ChildArrives = (after : CodeGoroutine) → IsIn means p code g f below → arrived code Child g ≡ gives after
      → goroutine_of (frame_of means code) after
      ≡ record (onward (actor_of (frame_of means code) p e g f below) (goes_on (frame_of means code f))) { children = g.children + 1 }

  -- code can go past its close where that is its task
  abbrev pub CompletionCanArrive : Type 0
  CompletionCanArrive = (c : Option ChName) → IsIn means p code g f below → task_of code g ≡ gives (Wants (Closes c)) → ¬ (arrived code Completion g ≡ wrong)

  abbrev pub ChildCanArrive : Type 0
  ChildCanArrive = (function : ℕ) (vs : List values.Value) → IsIn means p code g f below → task_of code g ≡ gives (Wants (Starts function vs))
      → ¬ (arrived code Child g ≡ wrong)

  -- it goes past its communication (Go: Send statements, Receive operator, Select statements)
  abbrev pub PassingArrives : Type 0
  PassingArrives = (clause : Option ℕ) (got : Option (values.Value × Bool)) (after : CodeGoroutine) → IsIn means p code g f below → IsClause clause
      → arrived code (Passes clause got) g ≡ gives after
      → GoesOn (past (frame_of means code f) clause got) (goroutine_of (frame_of means code) after) (onward (actor_of (frame_of means code) p e g f below))

  abbrev pub PassingCanArrive : Type 0
  PassingCanArrive = (clause : Option ℕ) (got : Option (values.Value × Bool)) → IsIn means p code g f below → HasClauseHere code g.frames clause
      → ¬ (past (frame_of means code f) clause got ≡ wrong) → ¬ (arrived code (Passes clause got) g ≡ wrong)

  -- a select has each clause with a number from 1 on
  abbrev pub SelectHasClauses : Type 0
  SelectHasClauses = (cs : List Communication) (number : ℕ) → IsIn means p code g f below → task_of code g ≡ gives (Wants (Chooses cs)) → 0 < number
      → HasClauseHere code g.frames (Some number)

  -- what else becomes of it: it waits, is done, or faults
  abbrev pub ParkedIsRuled : Type 0
  ParkedIsRuled = (ws : List Wait)
      → goroutine_of (frame_of means code) (parked ws g) ≡ record (goroutine_of (frame_of means code) g) { status = waiting ws; steps = g.steps + 1 }

  abbrev pub FinishedIsRuled : Type 0
  FinishedIsRuled = goroutine_of (frame_of means code) (finished g) ≡ done (actor_of (frame_of means code) p e g f below)

  abbrev pub FaultedIsRuled : Type 0
  FaultedIsRuled = goroutine_of (frame_of means code) (faulted g)
      ≡ rules_with_frames (actor_of (frame_of means code) p e g f below) (map (frame_of means code) g.frames)

-- P holds of each goroutine of code that takes a step
abbrev pub OfEachStep : ((means : ℕ → Meanings) (p : Program) (code : ProgramCode) (e : Event) (g : CodeGoroutine) (f : CodeFrame) (below : List CodeFrame)
    → Type 0) → Type 0
OfEachStep P = (means : ℕ → Meanings) (p : Program) (code : ProgramCode) (e : Event) (g : CodeGoroutine) (f : CodeFrame) (below : List CodeFrame)
    → P means p code e g f below

-- what arrives at a goroutine that is met or woken, and one that starts
module _ (means : ℕ → Meanings) (p : Program) (code : ProgramCode) where
  abbrev pub MeetingArrives : Type 0
  MeetingArrives = (clause : Option ℕ) (got : Option (values.Value × Bool)) (g after : CodeGoroutine)
      → ProgramFits means p code → AllStand means code g.frames → IsClause clause → arrived code (IsMet clause got) g ≡ gives after
      → met clause got (goroutine_of (frame_of means code) g) (map (frame_of means code) g.frames) ≡ gives (goroutine_of (frame_of means code) after)

  abbrev pub MeetingCanArrive : Type 0
  MeetingCanArrive = (clause : Option ℕ) (got : Option (values.Value × Bool)) (g : CodeGoroutine)
      → ProgramFits means p code → AllStand means code g.frames → HasClauseHere code g.frames clause
      → ¬ (met clause got (goroutine_of (frame_of means code) g) (map (frame_of means code) g.frames) ≡ wrong)
      → ¬ (arrived code (IsMet clause got) g ≡ wrong)

  abbrev pub RetriedIsRuled : Type 0
  RetriedIsRuled = (g : CodeGoroutine) → goroutine_of (frame_of means code) (retried g) ≡ record (goroutine_of (frame_of means code) g) { status = ready }

  -- a call begins in a frame that stands (Go: Calls)
  abbrev pub EnteredIsRuled : Type 0
  EnteredIsRuled = (function : ℕ) (vs : List values.Value) (first : CodeFrame) → ProgramFits means p code → entered code function vs ≡ gives first
      → (call_of p function vs ≡ gives (frame_of means code first)) × Stands means code first

  abbrev pub CanBeEntered : Type 0
  CanBeEntered = (function : ℕ) (vs : List values.Value) → ProgramFits means p code → ¬ (call_of p function vs ≡ wrong) → ¬ (entered code function vs ≡ wrong)

  abbrev pub StartedIsRuled : Type 0
  StartedIsRuled = (first : CodeFrame) → goroutine_of (frame_of means code) (started first) ≡ rules_started (frame_of means code first)

-- P holds of each program with its code
abbrev pub OfEachProgram : ((ℕ → Meanings) → Program → ProgramCode → Type 0) → Type 0
OfEachProgram P = (means : ℕ → Meanings) (p : Program) (code : ProgramCode) → P means p code
