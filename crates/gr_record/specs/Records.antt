-- What a step leaves in its record: what it is called, what it touched, and what it replaced.
use Rattle.std.specs.Prelude.{◌≡◌, ℕ, Bool, true, false, if◌then◌else◌, List, [], ◌∷◌, Option, Some, None, option_map}
use Rattle.std.specs.Option.{option_map_or}
use Rattle.gr_base.specs.declared.names.ChName.{ChName}
use Rattle.gr_base.specs.declared.objects.Object.{Object}
use Rattle.gr_base.specs.declared.objects.Object.TheVariants.{Go}
use Rattle.gr_base.specs.declared.objects.Object.TheVariants as objects
use Rattle.gr_base.specs.declared.events.Event.{Event}
use Rattle.gr_channels.specs.declared.changes.ChanUndo.{ChanUndo}
use Rattle.gr_rules.specs.Attempts as rules
use Rattle.gr_rules.specs.States.{live, same_go}
use Rattle.gr_rules.specs.Operators.{same_channel}
use Rattle.gr_code.specs.Goroutines.{CodeGoroutine}
use Rattle.gr_tables.specs.Undoing.{undone, Fits, need}
use Rattle.gr_tables.specs.GoUndo.{GoUndo}
use Rattle.gr_tables.specs.Back.{back_at, AllFit}
use Rattle.gr_tables.specs.NamedChannels.{chan_back, ChansFit}
use Rattle.gr_tables.specs.NamedGoroutines.{At}
use Rattle.gr_refine.specs.Contents.{Contents}
use Rattle.gr_record.specs.declared.record.Operation.{Operation}
use Rattle.gr_record.specs.declared.record.Operation.TheVariants.{SendsOn, ReceivesFrom, TakesLenOf, TakesCapOf, Closes}
use Rattle.gr_record.specs.declared.record.Beyond.{Beyond}
use Rattle.gr_record.specs.Effects.{Effect}
use Rattle.gr_record.specs.declared.record.Record.{Record}
use Rattle.gr_record.specs.Fews.{members}
use Rattle.gr_record.specs.Parts.{reads_in, writes_in, begun_in, made_in}

-- what a step did with a channel
abbrev pub operation_of : Operation → rules.Operation
operation_of (SendsOn c) = rules.sends_on c
operation_of (ReceivesFrom c) = rules.receives_from c
operation_of (TakesLenOf c) = rules.takes_len_of c
operation_of (TakesCapOf c) = rules.takes_cap_of c
operation_of (Closes c) = rules.closes c

-- what a change reaches beyond its goroutine, and d where it reaches no further
abbrev pub beyond : {A : Type 0} → A → (Beyond → A) → Effect → A
beyond d f c = option_map_or f c.beyond d

abbrev pub operation_in : Effect → Option rules.Operation
operation_in c = beyond None (λ b. option_map operation_of b.operation) c

-- whether it ended or stopped the program
abbrev pub stops : Effect → Bool
stops c = beyond false (λ b. b.stops) c

-- the objects that a step of this goroutine wrote, and those that it read and did not write
abbrev pub writes_of : List ℕ → Effect → List Object
writes_of n c = Go n ∷ beyond [] writes_in c

abbrev pub reads_of : Effect → List Object
reads_of c = if stops c then beyond [] reads_in c else objects.Run ∷ beyond [] reads_in c

-- its change of each goroutine, and of each channel, in their order
abbrev pub goroutines_changed : List ℕ → Effect → List (List ℕ × GoUndo)
goroutines_changed n c = (n, c.own) ∷ beyond [] (λ b. members b.met) c

abbrev pub channels_changed : Effect → List (ChName × ChanUndo)
channels_changed c = beyond [] (λ b. members b.channels) c

-- the goroutine that it started, and the channel that it made
abbrev pub begun_by : Effect → Option (List ℕ)
begun_by c = beyond None begun_in c

abbrev pub made_by : Effect → Option ChName
made_by c = beyond None made_in c

-- a change of a goroutine taken back
abbrev pub go_undone : GoUndo → Option CodeGoroutine → Option CodeGoroutine
go_undone u g = option_map (undone u) g

abbrev pub go_back : List (List ℕ × GoUndo) → List ℕ → Option CodeGoroutine → Option CodeGoroutine
go_back us q g = back_at same_go go_undone us q g

-- a goroutine is there, and what the change wrote in it stands
abbrev pub GoFitsAt : GoUndo → Option CodeGoroutine → Type 0
GoFitsAt u g = At (Fits u) g

abbrev pub GoesFit : List (List ℕ × GoUndo) → (List ℕ → Option CodeGoroutine) → Type 0
GoesFit us f = AllFit same_go go_undone GoFitsAt us f

-- whether the name is this one
abbrev pub is_go : List ℕ → Option (List ℕ) → Bool
is_go q o = option_map_or (same_go q) o false

abbrev pub is_channel : ChName → Option ChName → Bool
is_channel q o = option_map_or (same_channel q) o false

-- the contents with a step of this goroutine taken back: what it changed is as it was, what it started and made is gone
abbrev pub taken_back : List ℕ → Effect → Contents → Contents
taken_back n c t = record {
  run = if stops c then live else t.run;
  goroutines = λ q. if is_go q (begun_by c) then None else go_back (goroutines_changed n c) q (t.goroutines q);
  channels = λ q. if is_channel q (made_by c) then None else chan_back (channels_changed c) q (t.channels q);
}

-- none of these needs room for a frame
abbrev pub NeedNoFrame : List (List ℕ × GoUndo) → Type 0
NeedNoFrame [] = Unit {0}
NeedNoFrame (e ∷ es) = (need e.1 ≡ 0) × NeedNoFrame es

-- where a step reached beyond its goroutine, no frame has to come back
abbrev pub FramesStay : List ℕ → Effect → Type 0
FramesStay n c = elim c.beyond [ Some b ↦ NeedNoFrame (goroutines_changed n c) | None ↦ Unit {0} ]

-- what the step wrote stands, as far as taking it back needs; a frame has to come back only where nothing else does
pub record CanGoBack (n : List ℕ) (c : Effect) (t : Contents) : Type 0 where
  pub goroutines : GoesFit (goroutines_changed n c) t.goroutines
  pub channels : ChansFit (channels_changed c) t.channels
  pub frames : FramesStay n c

-- the event whose step a record keeps
abbrev pub event_of : Record → Event
event_of r = record { go = r.id.go; choice = r.choice }
