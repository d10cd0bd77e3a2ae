-- A goroutine that comes to wait: the queues in which it comes to stand, and what that leaves in a record.
use Rattle.std.specs.Prelude.{◌≡◌, ℕ, true, false, List, [], ◌∷◌, map, fold, Option, None, option_map}
use Rattle.std.specs.List.{list_all}
use Rattle.gr_base.specs.declared.names.ChName.{ChName}
use Rattle.gr_base.specs.declared.events.Event.{Event}
use Rattle.gr_base.specs.declared.kinds.Kind.{Kind}
use Rattle.gr_base.specs.declared.objects.Object.{Object}
use Rattle.gr_base.specs.declared.objects.Object.TheVariants.{Gate, Go, Run}
use Rattle.gr_channels.specs.declared.changes.ChanUndo.{ChanUndo}
use Rattle.gr_channels.specs.Channels.{Content, each}
use Rattle.gr_channels.specs.Changes.{need}
use Rattle.gr_rules.specs.Actors.{channels_but}
use Rattle.gr_rules.specs.Communications.{all_waits}
use Rattle.gr_rules.specs.Deeds.{Communication}
use Rattle.gr_rules.specs.Goroutines.{channel_of}
use Rattle.gr_rules.specs.States.{live}
use Rattle.gr_laws.specs.Touched.{each_once}
use Rattle.gr_code.specs.Goroutines.{parked}
use Rattle.gr_goros.specs.Views.{communication_of}
use Rattle.gr_goros.specs.declared.needs.Clause.{Clause}
use Rattle.gr_refine.specs.Contents.{Contents}
use Rattle.gr_refine.specs.Partners.{is_made_for}
use Rattle.gr_refine.specs.Waiting.{parked_for}
use Rattle.gr_tables.specs.NamedChannels.{contents_of, AreAtGates, GoesBack}
use Rattle.gr_tables.specs.NamedGoroutines.{ChangesBy, ComesTo}
use Rattle.gr_step.specs.declared.objects.Objects.{Objects}
use Rattle.gr_record.specs.Effects.{Effect}
use Rattle.gr_record.specs.declared.record.Operation.{Operation}
use Rattle.gr_record.specs.Records.{operation_of, operation_in, writes_of, reads_of, stops, goroutines_changed, channels_changed, begun_by, made_by}

-- what is waited for, as the rules say it: each communication with the number of its clause, where it is one of a select
abbrev pub pending_of : List (Option ℕ × Clause) → List (Option ℕ × Communication)
pending_of ws = map (λ w. (w.0, communication_of w.1)) ws

-- contents with these channels, of which nothing else matters
abbrev pub with_channels : (ChName → Option Content) → Contents
with_channels f = record { run = live; goroutines = λ n. None; channels = f }

-- the channels with a goroutine at the end of the queue for one communication, and of those for many
abbrev pub queued_for : List ℕ → (ChName → Option Content) → Option ℕ × Communication → ChName → Option Content
queued_for name f w = (parked_for name (with_channels f) w.0 w.1).channels

abbrev pub queued : List ℕ → List (Option ℕ × Communication) → (ChName → Option Content) → ChName → Option Content
queued name ws f = fold (queued_for name) f ws

-- the channels on which it waits are there
abbrev pub AreMade : List (Option ℕ × Communication) → (ChName → Option Content) → Type 0
AreMade ws f = list_all (λ w. is_made_for (with_channels f) w.1) ws ≡ true

-- changes that need no room to be taken back
abbrev pub NeedNoRoom : List (ChName × ChanUndo) → Type 0
NeedNoRoom [] = Unit {0}
NeedNoRoom (e ∷ es) = (need e.1 ≡ each 0) × NeedNoRoom es

-- the gates of the channels on which it waits
abbrev pub gates_of : List (Option ℕ × Communication) → List Object
gates_of ws = map Gate (channels_but [] (all_waits ws))

-- the channels on which it waits
abbrev pub channels_awaited : List (Option ℕ × Communication) → List ChName
channels_awaited ws = map channel_of (all_waits ws)

-- The goroutine with the number, whose step is of this kind, looked at these and has come to wait, and the change goes back.
pub record Parks (e : Event) (number : ℕ) (kind : Kind) (operation : Option Operation) (sides : List Object) (ws : List (Option ℕ × Communication))
    (c : Effect) (old new : Objects) : Type 0 where
  pub goroutine : ChangesBy number (ComesTo (parked (all_waits ws)) c.own) old.goroutines new.goroutines
  pub channels : contents_of new.channels ≡ queued e.go ws (contents_of old.channels)
  pub goes_back : GoesBack (channels_changed c) old.channels new.channels
  pub run : new.run ≡ old.run
  pub kind_is : c.kind ≡ kind
  pub operation_is : operation_in c ≡ option_map operation_of operation
  pub writes : writes_of e.go c ≡ Go e.go ∷ gates_of ws
  pub reads : reads_of c ≡ Run ∷ each_once (gates_of ws) sides
  pub alone : goroutines_changed e.go c ≡ (e.go, c.own) ∷ []
  pub starts : begun_by c ≡ None
  pub makes : made_by c ≡ None
  pub goes_on : stops c ≡ false
  pub gates : AreAtGates (channels_awaited ws) (channels_changed c)
