-- Codes of goroutines and channels. They leave out how many steps a goroutine took, what it printed, and how many values left the
-- buffer of a channel.
use Rattle.std.specs.Prelude.{ℕ, List, [], ◌∷◌, ◌++◌}
use Rattle.gr_base.specs.declared.values.Value.{Value}
use Rattle.gr_channels.specs.declared.waiter.Waiter.{Waiter}
use Rattle.gr_channels.specs.Channels.{Content}
use Rattle.gr_rules.specs.Goroutines.{Wait, ToSend, ToReceive, Status, ready, waiting, finished}
use Rattle.gr_code.specs.CodeFrames.{CodeFrame}
use Rattle.gr_code.specs.Goroutines.{CodeGoroutine}
use Rattle.gr_keys.specs.Codes.{number_code, bit_code, option_code, list_code}
use Rattle.gr_keys.specs.ValueCodes.{name_code, channel_name_code, value_code, cell_code}

abbrev pub frame_code : CodeFrame → List ℕ
frame_code f = number_code f.function ++ (number_code f.number ++ list_code cell_code f.cells)

abbrev pub wait_code : Wait → List ℕ
wait_code (ToSend c clause) = 0 ∷ (channel_name_code c ++ option_code number_code clause)
wait_code (ToReceive c clause) = 1 ∷ (channel_name_code c ++ option_code number_code clause)

abbrev pub status_code : Status → List ℕ
status_code ready = 0 ∷ []
status_code (waiting ws) = 1 ∷ list_code wait_code ws
status_code finished = 2 ∷ []

-- the counts of the goroutines that it started, and of the channels that it made
abbrev pub counts_code : CodeGoroutine → List ℕ
counts_code g = number_code g.children ++ number_code g.channels

abbrev pub goroutine_code : CodeGoroutine → List ℕ
goroutine_code g = status_code g.status ++ (list_code frame_code g.frames ++ counts_code g)

-- all of a goroutine that its code tells
abbrev pub bare_goroutine : CodeGoroutine → CodeGoroutine
bare_goroutine g = record g { steps = 0; text = [] }

abbrev pub sender_code : Waiter Value → List ℕ
sender_code w = name_code w.go ++ (option_code number_code w.case ++ value_code w.value)

abbrev pub receiver_code : Waiter (Unit {0}) → List ℕ
receiver_code w = name_code w.go ++ option_code number_code w.case

-- its capacity, whether it is closed, and who waits
abbrev pub gate_code : Content → List ℕ
gate_code c = number_code c.capacity ++ (bit_code c.closed ++ (list_code sender_code c.senders ++ list_code receiver_code c.receivers))

abbrev pub channel_code : Content → List ℕ
channel_code c = gate_code c ++ list_code value_code c.items

-- all of a channel that its code tells
abbrev pub bare_channel : Content → Content
bare_channel c = record c { head = 0 }
