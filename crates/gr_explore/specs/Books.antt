-- A book of the goroutines and channels of a state, and what a step changes of it.
use Rattle.std.specs.Prelude.{◌≡◌, ℕ, Bool, true, false, List, [], ◌∷◌, Option, Some, None, option_map, option_and_then}
use Rattle.std.specs.Option.{option_map_or}
use Rattle.gr_base.specs.declared.names.ChName.{ChName}
use Rattle.gr_base.specs.declared.values.Value.{Value}
use Rattle.gr_channels.specs.Channels.{Content, tail_of}
use Rattle.gr_channels.specs.Objects.{GateContent, gate_of, head_of, slot_of}
use Rattle.gr_program.specs.Programs.{Program}
use Rattle.gr_rules.specs.Goroutines.{Goroutine}
use Rattle.gr_rules.specs.Operators.{same_channel}
use Rattle.gr_rules.specs.States.{State, same_go}
use Rattle.gr_code.specs.Goroutines.{CodeGoroutine}
use Rattle.gr_refine.specs.Contents.{goroutine_of}
use Rattle.gr_record.specs.Fews.{members}
use Rattle.gr_record.specs.Listings.{frame_in}
use Rattle.gr_record.specs.Parts.{begun_in, made_in}
use Rattle.gr_record.specs.Records.{beyond}
use Rattle.gr_step.specs.Record.{Record}
use Rattle.gr_explore.specs.declared.book.Book.{Book}
use Rattle.gr_explore.specs.Keeping.{goroutine_page, channel_page, has_name, with_name, PagesFit}

module _ {N : Type 0} (equal : N → N → Bool) where
  -- the names with those that stand first in these pairs, and with one that may be there
  abbrev pub with_first : {U : Type 0} → List (N × U) → List N → List N
  with_first [] names = names
  with_first (e ∷ es) names = with_first es (with_name equal e.0 names)

  abbrev pub with_some : Option N → List N → List N
  with_some None names = names
  with_some (Some n) names = with_name equal n names

-- the names with those of the goroutines that a step changed: its own, those that it met, and the one that it started
abbrev pub goroutines_noted : Record → List (List ℕ) → List (List ℕ)
goroutines_noted r names =
    let own = with_name same_go r.id.go names in
    beyond own (λ b. with_some same_go (begun_in b) (with_first same_go (members b.met) own)) r.change

-- the names with those of the channels that a step changed, and the one that it made
abbrev pub channels_noted : Record → List ChName → List ChName
channels_noted r names = beyond names (λ b. with_some same_channel (made_in b) (with_first same_channel (members b.channels) names)) r.change

-- the objects of a channel: its gate, how many values entered and left the buffer, and the slots
abbrev pub ChannelSeen : Type 0
ChannelSeen = Option GateContent × ℕ × ℕ × (ℕ → Option (ℕ × Value))

abbrev pub channel_seen : State → ChName → ChannelSeen
channel_seen s c = (s.gates c, s.tails c, s.heads c, s.slots c)

-- what the content of a goroutine, and that of a channel, is in a state
abbrev pub goroutine_view : Program → Option CodeGoroutine → Option Goroutine
goroutine_view p o = option_map (goroutine_of (frame_in p)) o

abbrev pub channel_view : Option Content → ChannelSeen
channel_view o = (option_map gate_of o, option_map_or tail_of o 0, option_map_or head_of o 0, λ i. option_and_then (λ x. slot_of x i) o)

-- two states have the same under each name that is not noted of the step
pub record Apart (r : Record) (s t : State) : Type 0 where
  pub goroutines : (n : List ℕ) (names : List (List ℕ)) → has_name same_go n (goroutines_noted r names) ≡ false → s.goroutines n ≡ t.goroutines n
  pub channels : (c : ChName) (names : List ChName) → has_name same_channel c (channels_noted r names) ≡ false → channel_seen s c ≡ channel_seen t c

-- the pages of a book are of the state of a program, but for what has changed
pub record Describes (p : Program) (s : State) (b : Book) : Type 0 where
  pub goroutines : PagesFit same_go goroutine_page (goroutine_view p) s.goroutines b.goroutines
  pub channels : PagesFit same_channel channel_page channel_view (channel_seen s) b.channels

-- a book that is whole describes the state
abbrev pub Fits : Program → State → Book → Type 0
Fits p s b = b.is_whole ≡ true → Describes p s b
