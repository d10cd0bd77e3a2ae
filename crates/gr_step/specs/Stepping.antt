-- The turn of a goroutine: what it may do, what its step asks for, and what the step is.
use Rattle.std.specs.Prelude.{◌≡◌, Bool, None, Option}
use Rattle.gr_base.specs.declared.events.Event.{Event}
use Rattle.gr_base.specs.declared.events.Choice.TheVariants.{Plain}
use Rattle.gr_base.specs.declared.values.Value.{Value}
use Rattle.gr_program.specs.Programs.{Program}
use Rattle.gr_rules.specs.Communications.{send, receive}
use Rattle.gr_rules.specs.Outcomes.{gives}
use Rattle.gr_rules.specs.Deeds.{Deed}
use Rattle.gr_rules.specs.Steps.{attempt, refusal}
use Rattle.gr_code.specs.CodeFrames.{ProgramCode, Wants}
use Rattle.gr_code.specs.CodeViews.{program_code_of}
use Rattle.gr_code.specs.Goroutines.{CodeGoroutine, task_of, is_local}
use Rattle.gr_code.specs.Programs.{IsClause}
use Rattle.gr_refine.specs.Arriving.{HasClauseHere}
use Rattle.gr_goros.specs.Needs.{NeedIs}
use Rattle.gr_goros.specs.declared.needs.Need.{Need}
use Rattle.gr_lower.specs.Lowered.{lowered}
use Rattle.gr_step.specs.declared.objects.Objects.{Objects}
use Rattle.gr_step.specs.declared.turn.Meeting.{Meeting}
use Rattle.gr_step.specs.declared.turn.Turn.{Turn}
use Rattle.gr_record.specs.Effects.{Effect}
use Rattle.gr_record.specs.Listings.{program_in, state_in, IsCoded}
use Rattle.gr_step.specs.Objects.{contents_in}
use Rattle.gr_step.specs.Communicating.{Trial, TrialIsSound, Tried, Chosen}
use Rattle.gr_step.specs.Premises.{Acting, OfGoroutine}
use Rattle.gr_step.specs.Room.{HasRoom}
use Rattle.gr_record.specs.Taking.{Takes}

-- the program that runs, and the event
abbrev pub program_for : Turn → Program
program_for t = program_in t.listing.now

abbrev pub event_for : Turn → Event
event_for t = t.event.now

-- the code that runs
abbrev pub code_for : Turn → ProgramCode
code_for t = program_code_of t.listing.now.code.value

-- the code is that of the program, and the goroutine of the event, which has this number, is ready
pub record MayAct (t : Turn) (o : Objects) : Type 0 where
  pub coded : IsCoded t.listing.now
  pub acting : Acting (program_for t) (event_for t) t.number o

-- it chooses nothing
abbrev pub IsPlain : Turn → Type 0
IsPlain t = (event_for t).choice ≡ Plain

-- P holds of the goroutine whose turn it is
abbrev pub OfItsGoroutine : Turn → Objects → (CodeGoroutine → Type 0) → Type 0
OfItsGoroutine t o P = OfGoroutine (event_for t) (contents_in o) P

-- whether the instruction of its goroutine asks for nothing beyond that, and what it asks for
abbrev pub AsksNothing : Turn → Objects → Bool → Type 0
AsksNothing t o b = OfItsGoroutine t o (λ g. is_local (lowered (program_for t)) g ≡ b)

abbrev pub AsksFor : Turn → Objects → Deed → Type 0
AsksFor t o d = OfItsGoroutine t o (λ g. task_of (lowered (program_for t)) g ≡ gives (Wants d))

abbrev pub HasNeed : Turn → Objects → Need → Type 0
HasNeed t o need = OfItsGoroutine t o (λ g. NeedIs need (lowered (program_for t)) g)

-- the event is a step
abbrev pub IsPossible : Turn → Objects → Type 0
IsPossible t o = refusal (program_for t) (state_in (program_for t) (contents_in o)) (event_for t) ≡ None

-- the change is that of the step of the event, from the first objects to the second
abbrev pub TakesStep : Turn → Objects → Objects → Effect → Type 0
TakesStep t old new c = Takes (program_for t) (event_for t) (attempt (program_for t) (event_for t)) (contents_in old) c (contents_in new)

-- the choice of the event is taken, or is not possible here
abbrev pub HasChosen : Turn → Objects → Objects → Option Effect → Type 0
HasChosen t old new c = Chosen (program_for t) (event_for t) (contents_in old) c (contents_in new)

-- there is room for taking the change back
abbrev pub LeavesRoom : Turn → Objects → Effect → Type 0
LeavesRoom t o c = HasRoom (event_for t).go c o

-- the goroutine may act, and stands at the clause with the number, if its communication is one of a select
pub record MayMeet (m : Meeting) (o : Objects) : Type 0 where
  pub coded : IsCoded m.turn.now.listing.now
  pub acting : Acting (program_for m.turn.now) (event_for m.turn.now) m.turn.now.number o
  pub clause : OfItsGoroutine m.turn.now o (λ g. IsClause m.clause × HasClauseHere (lowered (program_for m.turn.now)) g.frames m.clause)

-- it sends the value, or receives one, with this zero value
abbrev pub to_send : Meeting → Value → Trial
to_send m v = λ a otherwise. send a m.clause m.channel.now v otherwise

abbrev pub to_receive : Meeting → Value → Trial
to_receive m zero_value = λ a otherwise. receive a m.clause m.channel.now zero_value otherwise

-- that is not refused as unsound; it proceeds with a change, or cannot
abbrev pub MayTry : Meeting → Objects → Trial → Type 0
MayTry m o trial = TrialIsSound (program_for m.turn.now) (event_for m.turn.now) (contents_in o) trial

abbrev pub HasTried : Meeting → Trial → Objects → Option Effect → Objects → Type 0
HasTried m trial old c new = Tried (program_for m.turn.now) (event_for m.turn.now) trial (contents_in old) c (contents_in new)
