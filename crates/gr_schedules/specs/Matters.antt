-- What matters of a state for what may still happen.
use Rattle.std.specs.Prelude.{ℕ, ◌+◌, ◌-◌, ◌%◌, List, [], Option, Some, None, option_map}
use Rattle.gr_base.specs.declared.names.ChName.{ChName}
use Rattle.gr_base.specs.declared.values.Value.{Value}
use Rattle.gr_channels.specs.Objects.{GateContent}
use Rattle.gr_rules.specs.Goroutines.{Goroutine}
use Rattle.gr_rules.specs.States.{Run, State}

-- All of a state but how many steps each goroutine took, what it printed, and how many values went through each buffer.
pub record Matter : Type 0 where
  pub run : Run
  pub goroutines : List ℕ → Option Goroutine
  pub gates : ChName → Option GateContent
  -- how many values are in the buffer, and which, the one that leaves it next first
  pub counts : ChName → ℕ
  pub values : ChName → ℕ → Option Value

-- a goroutine, but for how many steps it took and what it printed
abbrev pub bare : Goroutine → Goroutine
bare g = record g { steps = 0; text = [] }

-- what the slots of a buffer hold, from that of the next value to leave it on, round and round
abbrev pub values_from : Option GateContent → ℕ → (ℕ → Option (ℕ × Value)) → ℕ → Option Value
values_from None head slots i = None
values_from (Some gate) head slots i = option_map (λ item. item.1) (slots ((i + head) % gate.capacity))

abbrev pub matter : State → Matter
matter s = record {
  run = s.run;
  goroutines = λ n. option_map bare (s.goroutines n);
  gates = s.gates;
  counts = λ c. s.tails c - s.heads c;
  values = λ c. values_from (s.gates c) (s.heads c) (s.slots c);
}
