-- What a step that reaches beyond its goroutine has ready before it changes anything.
use Rattle.std.specs.Prelude.{◌≡◌, ℕ, List, [], ◌∷◌, ◌++◌, map, length, false, Some, None, option_map}
use Rattle.gr_base.specs.declared.names.ChName.{ChName}
use Rattle.gr_base.specs.declared.events.Event.{Event}
use Rattle.gr_base.specs.declared.kinds.Kind.{Kind}
use Rattle.gr_base.specs.declared.objects.Object.{Object}
use Rattle.gr_base.specs.declared.objects.Object.TheVariants as objects
use Rattle.gr_channels.specs.declared.changes.ChanUndo.{ChanUndo}
use Rattle.gr_rules.specs.Goroutines.{Wait, waiting}
use Rattle.gr_rules.specs.States.{same_go}
use Rattle.gr_rules.specs.Attempts.{Operation}
use Rattle.gr_rules.specs.Actors.{channels_but}
use Rattle.gr_code.specs.CodeFrames.{ProgramCode}
use Rattle.gr_code.specs.Goroutines.{CodeGoroutine, Arrival}
use Rattle.gr_refine.specs.Meetings.{NamesChannels}
use Rattle.gr_goros.specs.declared.undo.GoUndo.{GoUndo}
use Rattle.gr_tables.specs.NamedChannels.{contents_of, rooms_of, ChansFit, HasRooms}
use Rattle.gr_tables.specs.NamedGoroutines.{goroutines_of, name_at}
use Rattle.gr_step.specs.declared.objects.Objects.{Objects}
use Rattle.gr_record.specs.declared.record.Beyond.{Beyond}
use Rattle.gr_record.specs.declared.record.Exchange.{Exchange}
use Rattle.gr_record.specs.Effects.{Effect, reached_on}
use Rattle.gr_step.specs.declared.partners.Partner.{Partner}
use Rattle.gr_step.specs.declared.partners.Partner.TheVariants.{Alone, Selects}
use Rattle.gr_step.specs.declared.partners.Prepared.{Prepared}
use Rattle.gr_step.specs.declared.partners.Selecting.{Selecting}
use Rattle.gr_record.specs.Fews.{members}
use Rattle.gr_record.specs.Parts.{reads_in, writes_in, begun_in, made_in, channel_in}
use Rattle.gr_record.specs.Records.{operation_of}
use Rattle.gr_step.specs.Passing.{CanArriveAt, ArrivesAt, Tells, Exchanges}

-- it tells of these, and of no change yet
pub record IsReached (operation : Operation) (reads writes : List Object) (b : Beyond) : Type 0 where
  pub operation_is : option_map operation_of b.operation ≡ Some operation
  pub reads_are : reads_in b ≡ reads
  pub writes_are : writes_in b ≡ writes
  pub met_none : members b.met ≡ []
  pub begins_none : begun_in b ≡ None
  pub makes_none : made_in b ≡ None
  pub runs_on : b.stops ≡ false

-- a goroutine that waits for these
abbrev pub WaitsFor : List Wait → CodeGoroutine → Type 0
WaitsFor ws g = g.status ≡ waiting ws

-- The channels that a goroutine with these waits still has to leave, after it left a queue of this one. There is none where
-- it waits for one thing alone. Else they are all on which it waits.
pub record AreToLeave (names : List ChName) (c : ChName) (ws : List Wait) : Type 0 where
  pub alone : length ws ≡ 1 → names ≡ []
  pub otherwise : ¬ (length ws ≡ 1) → NamesChannels names c ws

-- what a step reaches that meets a goroutine which waits for this alone, before it changes anything
abbrev pub before_exchange : Exchange → Beyond
before_exchange e = record (reached_on e.passage.contact None) { partner = Some e.met.0 }

-- the name of a goroutine that is made ready, the channel of the communication, the channels that the goroutine is still to leave,
-- and what the step reaches
abbrev pub go_of : Partner → List ℕ
go_of (Alone e) = e.value.met.0
go_of (Selects s) = s.go

abbrev pub channel_of : Partner → ChName
channel_of (Alone e) = channel_in e.value.passage.contact.operation
channel_of (Selects s) = s.channel

abbrev pub left_by : Partner → List ChName
left_by (Alone e) = []
left_by (Selects s) = s.names.items

abbrev pub reached_by : Partner → Beyond
reached_by (Alone e) = before_exchange e.value
reached_by (Selects s) = s.further.value.beyond

-- the goroutine of this name, which waits for these, is to go past a communication on this channel
pub record IsReady (operation : Operation) (reads touched : List Object) (c : ChName) (n : List ℕ) (ws : List Wait) (go : List ℕ) (channel : ChName)
    (names : List ChName) (b : Beyond) : Type 0 where
  pub go_is : go ≡ n
  pub channel_is : channel ≡ c
  pub names_are : AreToLeave names c ws
  pub reached : IsReached operation reads (touched ++ objects.Go n ∷ map objects.Gate (channels_but (c ∷ []) ws)) b

abbrev pub IsSelecting : Operation → List Object → List Object → ChName → List ℕ → List Wait → Selecting → Type 0
IsSelecting operation reads touched c n ws s = IsReady operation reads touched c n ws s.go s.channel s.names.items s.further.value.beyond

abbrev pub IsPartner : Operation → List Object → List Object → ChName → List ℕ → List Wait → Partner → Type 0
IsPartner operation reads touched c n ws p = IsReady operation reads touched c n ws (go_of p) (channel_of p) (left_by p) (reached_by p)

-- it is so of the partner, which has this number
pub record IsPrepared (operation : Operation) (reads touched : List Object) (c : ChName) (n : List ℕ) (ws : List Wait) (o : Objects) (r : Prepared)
    : Type 0 where
  pub partner : IsPartner operation reads touched c n ws r.partner
  pub named : name_at o.goroutines r.number ≡ Some n

-- Two goroutines can go past their communication, after a change of their channel: the one that acts, with this number, and its
-- partner, by number and name.
pub record MayExchange (code : ProgramCode) (e : Event) (number partner : ℕ) (n : List ℕ) (c : ChName) (u : ChanUndo) (passes meets : Arrival) (o : Objects)
    : Type 0 where
  pub named : name_at o.goroutines number ≡ Some e.go
  pub partner_named : name_at o.goroutines partner ≡ Some n
  pub apart : same_go n e.go ≡ false
  pub can : CanArriveAt code passes (goroutines_of o.goroutines e.go)
  pub partner_can : CanArriveAt code meets (goroutines_of o.goroutines n)
  pub fits : ChansFit ((c, u) ∷ []) (contents_of o.channels)
  pub room : HasRooms ((c, u) ∷ []) (rooms_of o.channels)

-- with all made ready for that
abbrev pub CanExchange : ProgramCode → Event → ℕ → Prepared → ChanUndo → Arrival → Arrival → Objects → Type 0
CanExchange code e number r u passes meets o = MayExchange code e number r.number (go_of r.partner) (channel_of r.partner) u passes meets o

-- two goroutines went past their communication, and the change tells of it
pub record IsExchange (code : ProgramCode) (n m : List ℕ) (passes meets : Arrival) (names : List ChName) (kind : Kind) (operation : Operation)
    (reads writes : List Object) (done : List (ChName × ChanUndo)) (c : Effect) (old new : Objects) : Type 0 where
  pub own : GoUndo
  pub met : GoUndo
  pub changed : List (ChName × ChanUndo)
  pub tells : Tells c kind (Some operation) reads writes own ((m, met) ∷ []) changed
  pub exchanges : Exchanges code n m passes meets names own met done changed old new

-- a goroutine can go past its communication and meet nobody, after these changes of channels in the same step
pub record CanPass (code : ProgramCode) (e : Event) (number : ℕ) (passes : Arrival) (done : List (ChName × ChanUndo)) (o : Objects) : Type 0 where
  pub named : name_at o.goroutines number ≡ Some e.go
  pub can : CanArriveAt code passes (goroutines_of o.goroutines e.go)
  pub fits : ChansFit done (contents_of o.channels)
  pub room : HasRooms done (rooms_of o.channels)

-- it went past, and the change tells of it
pub record IsPass (code : ProgramCode) (n : List ℕ) (passes : Arrival) (kind : Kind) (operation : Operation) (reads writes : List Object)
    (done : List (ChName × ChanUndo)) (c : Effect) (old new : Objects) : Type 0 where
  pub own : GoUndo
  pub tells : Tells c kind (Some operation) reads writes own [] done
  pub goes : ArrivesAt code n passes own (goroutines_of old.goroutines) (goroutines_of new.goroutines)
  pub channels : new.channels ≡ old.channels
  pub run : new.run ≡ old.run
