-- Goroutines that are ready again when the channel on which they wait is closed (Go: Close).
use Rattle.std.specs.Prelude.{◌≡◌, ℕ, Bool, false, not, List, [], ◌∷◌, ◌++◌, map, fold, Option, Some, None, option_map}
use Rattle.std.specs.List.{flat_map}
use Rattle.gr_base.specs.declared.names.ChName.{ChName}
use Rattle.gr_base.specs.declared.events.Event.{Event}
use Rattle.gr_base.specs.declared.kinds.Kind.TheVariants as kinds
use Rattle.gr_base.specs.declared.objects.Object.{Object}
use Rattle.gr_base.specs.declared.objects.Object.TheVariants.{Gate, Go}
use Rattle.gr_channels.specs.declared.changes.ChanUndo.{ChanUndo}
use Rattle.gr_channels.specs.Channels.{Content}
use Rattle.gr_rules.specs.Attempts.{closes}
use Rattle.gr_rules.specs.Actors.{channels_but}
use Rattle.gr_rules.specs.Goroutines.{Wait}
use Rattle.gr_rules.specs.Operators.{same_channel}
use Rattle.gr_rules.specs.States.{same_go, updated}
use Rattle.gr_code.specs.CodeFrames.{ProgramCode}
use Rattle.gr_code.specs.Goroutines.{CodeGoroutine, Completion}
use Rattle.gr_goros.specs.Views.{is_finished}
use Rattle.gr_goros.specs.declared.undo.GoUndo.{GoUndo}
use Rattle.gr_refine.specs.Closing.{waiting_on}
use Rattle.gr_refine.specs.Meetings.{woken}
use Rattle.gr_refine.specs.Partners.{waits_in}
use Rattle.gr_tables.specs.NamedChannels.{contents_of, withdrawn, once_closed, AreAtGates, GoesBack}
use Rattle.gr_tables.specs.NamedGoroutines.{goroutines_of}
use Rattle.gr_step.specs.declared.objects.Objects.{Objects}
use Rattle.gr_record.specs.Effects.{Effect}
use Rattle.gr_step.specs.Passing.{ArrivesAt, Tells}
use Rattle.gr_record.specs.Records.{go_back, GoesFit, NeedNoFrame}

-- what a goroutine waits for, and what these wait for, one after the other
abbrev pub waits_known : Option CodeGoroutine → List Wait
waits_known None = []
waits_known (Some g) = waits_in g.status

abbrev pub all_waits_known : (List ℕ → Option CodeGoroutine) → List (List ℕ) → List Wait
all_waits_known f names = flat_map (λ n. waits_known (f n)) names

-- the channels without these goroutines, each out of the queues of what it waits for, but for one channel
abbrev pub without_one : ChName → (List ℕ → Option CodeGoroutine) → (ChName → Option Content) → List ℕ → ChName → Option Content
without_one c f channels n = withdrawn n (channels_but (c ∷ []) (waits_known (f n))) channels

abbrev pub without_each : ChName → (List ℕ → Option CodeGoroutine) → List (List ℕ) → (ChName → Option Content) → ChName → Option Content
without_each c f names channels = fold (without_one c f) channels names

-- the channel that is closed, and the others on which these goroutines wait
abbrev pub left_by_close : ChName → (List ℕ → Option CodeGoroutine) → List (List ℕ) → List ChName
left_by_close c f names = c ∷ channels_but (c ∷ []) (all_waits_known f names)

-- the channel of the name was closed, and then these goroutines were withdrawn from all others
pub record IsShut (c : ChName) (f : List ℕ → Option CodeGoroutine) (names : List (List ℕ)) (old new : ChName → Option Content) : Type 0 where
  pub content : Content
  pub was : old c ≡ Some content
  pub is : new ≡ without_each c f names (updated same_channel old c (Some (once_closed content)))

-- a goroutine is there, and has frames
abbrev pub is_live_there : Option CodeGoroutine → Bool
is_live_there None = false
is_live_there (Some g) = not (is_finished g.status)

-- with these goroutines ready again, one after the other
abbrev pub with_one_woken : (List ℕ → Option CodeGoroutine) → List ℕ → List ℕ → Option CodeGoroutine
with_one_woken f n = updated same_go f n (option_map woken (f n))

abbrev pub with_each_woken : List (List ℕ) → (List ℕ → Option CodeGoroutine) → List ℕ → Option CodeGoroutine
with_each_woken names f = fold with_one_woken f names

-- these changes lead from the first goroutines to the second, and no frame has to come back
pub record LeadsOver (us : List (List ℕ × GoUndo)) (old new : List ℕ → Option CodeGoroutine) : Type 0 where
  pub back : (q : List ℕ) → go_back us q (new q) ≡ old q
  pub fits : GoesFit us new
  pub frames : NeedNoFrame us

-- what a close writes: the gate of the channel, and those who waited there, with the gates of the others on which they waited
abbrev pub written_by_close : ChName → (List ℕ → Option CodeGoroutine) → List (List ℕ) → List Object
written_by_close c f names = Gate c ∷ map Go names ++ map Gate (channels_but (c ∷ []) (all_waits_known f names))

-- The goroutine of the event went past its close of a channel with this content, on which nobody waits any more, and the change
-- goes back.
pub record Closing (code : ProgramCode) (e : Event) (c : ChName) (x : Content) (change : Effect) (old new : Objects) : Type 0 where
  pub between : List ℕ → Option CodeGoroutine
  pub met : List (List ℕ × GoUndo)
  pub changed : List (ChName × ChanUndo)
  pub goes : ArrivesAt code e.go Completion change.own (goroutines_of old.goroutines) between
  pub wakes : goroutines_of new.goroutines ≡ with_each_woken (waiting_on x) between
  pub over : LeadsOver met between (goroutines_of new.goroutines)
  pub shuts : IsShut c (goroutines_of old.goroutines) (waiting_on x) (contents_of old.channels) (contents_of new.channels)
  pub back : GoesBack changed old.channels new.channels
  pub named : map (λ e. e.0) met ≡ waiting_on x
  pub gates : AreAtGates (left_by_close c (goroutines_of old.goroutines) (waiting_on x)) changed
  pub run : new.run ≡ old.run
  pub tells : Tells change kinds.Close (Some (closes c)) [] (written_by_close c (goroutines_of old.goroutines) (waiting_on x)) change.own met changed
