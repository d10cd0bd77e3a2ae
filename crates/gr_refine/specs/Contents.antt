-- What a store contains, as code keeps it, and the state of the rules that it is.
use Rattle.std.specs.Prelude.{ℕ, List, map, Option, option_map, option_and_then}
use Rattle.std.specs.Option.{option_map_or}
use Rattle.gr_base.specs.declared.names.ChName.{ChName}
use Rattle.gr_channels.specs.Channels.{Content, tail_of}
use Rattle.gr_channels.specs.Objects.{gate_of, head_of, slot_of}
use Rattle.gr_rules.specs.Goroutines.{Goroutine}
use Rattle.gr_rules.specs.Frames.{Frame}
use Rattle.gr_rules.specs.Operators.{same_channel}
use Rattle.gr_rules.specs.States.{Run, State, same_go, updated}
use Rattle.gr_code.specs.CodeFrames.{CodeFrame}
use Rattle.gr_code.specs.Goroutines.{CodeGoroutine}

-- what each name has: whether the program runs, the goroutines, and the channels
pub record Contents : Type 0 where
  pub run : Run
  pub goroutines : List ℕ → Option CodeGoroutine
  pub channels : ChName → Option Content

-- the goroutine of the rules, by what its frames are
abbrev pub goroutine_of : (CodeFrame → Frame) → CodeGoroutine → Goroutine
goroutine_of frame g = record {
  status = g.status;
  frames = map frame g.frames;
  steps = g.steps;
  children = g.children;
  channels = g.channels;
  text = g.text;
}

-- the state of the rules: a channel is its gate, its tail, its head and its slots
abbrev pub state_of : (CodeFrame → Frame) → Contents → State
state_of frame s = record {
  run = s.run;
  goroutines = λ g. option_map (goroutine_of frame) (s.goroutines g);
  gates = λ c. option_map gate_of (s.channels c);
  tails = λ c. option_map_or tail_of (s.channels c) 0;
  heads = λ c. option_map_or head_of (s.channels c) 0;
  slots = λ c i. option_and_then (λ x. slot_of x i) (s.channels c);
}

-- with this goroutine under a name, and with this channel
abbrev pub with_goroutine : Contents → List ℕ → Option CodeGoroutine → Contents
with_goroutine s n g = record s { goroutines = updated same_go s.goroutines n g }

abbrev pub with_channel : Contents → ChName → Option Content → Contents
with_channel s c x = record s { channels = updated same_channel s.channels c x }
