-- Looking up steps of a run: who started a goroutine, sends and receives by their number, which steps are local, and why many
-- steps end.
use Rattle.std.specs.Prelude.{◌≡◌, ℕ, true, false, Bool, List, [], ◌∷◌, Option, Some, None, option_map, option_and_then}
use Rattle.std.specs.Option.{option_map_or}
use Rattle.gr_base.specs.declared.events.Event.{Event}
use Rattle.gr_rules.specs.History.{start_of, sent, received}
use Rattle.gr_rules.specs.LocalSteps.{is_local}
use Rattle.gr_rules.specs.Turns.{RunEnd, all_taken, none_ready, log_full, at_break, why_end}
use Rattle.gr_rules.specs.Limits.{most_steps}
use Rattle.litmus.specs.Buffers.{program, full, full_and_taken}
use Rattle.litmus.specs.Runs.{Name, main, child, channel, times, name, log, run_of}

abbrev pub starter : List ℕ → Option Name
starter g = option_map (name program) (start_of program g (log program full_and_taken))

abbrev pub nth_send : ℕ → Option Name
nth_send k = option_map (name program) (sent program (channel 1) k (log program full_and_taken))

abbrev pub nth_receive : ℕ → Option Name
nth_receive k = option_map (name program) (received program (channel 1) k (log program full_and_taken))

-- the third goroutine comes to wait with its send; the receive moves it up and is no send
abbrev pub Finds : Type 0
Finds =
    (starter main ≡ None)
    × (starter (child 2) ≡ Some (main, 4))
    × (nth_send 0 ≡ None)
    × (nth_send 1 ≡ Some (child 1, 1))
    × (nth_send 3 ≡ Some (child 3, 1))
    × (nth_send 4 ≡ None)
    × (nth_receive 1 ≡ Some (main, 6))
    × (nth_receive 2 ≡ None)

abbrev pub local_after : List Event → List ℕ → Bool
local_after es g = option_map_or (λ r. is_local r.0 g) (run_of program es) false

-- `make`, `go`, a send, the end of a goroutine and one that waits are not local; an assignment and a print are
abbrev pub AreLocal : Type 0
AreLocal =
    (local_after [] main ≡ false)
    × (local_after (times 1 main []) main ≡ true)
    × (local_after (times 2 main []) main ≡ false)
    × (local_after (times 5 main []) (child 1) ≡ false)
    × (local_after full (child 1) ≡ false)
    × (local_after full (child 3) ≡ false)
    × (local_after full_and_taken main ≡ true)

abbrev pub ends_after : List Event → List ℕ → ℕ → ℕ → ℕ → Option (List ℕ) → Option RunEnd
ends_after es breaks wanted taken kept turn = option_and_then (λ r. why_end r.0 breaks wanted taken kept turn) (run_of program es)

-- at the `println` of line 8: a breakpoint there ends the steps, but not before the first, and other reasons come first
abbrev pub Ends : Type 0
Ends =
    (ends_after full (8 ∷ []) 9 1 8 (Some main) ≡ Some (at_break 8))
    × (ends_after full (8 ∷ []) 9 0 8 (Some main) ≡ None)
    × (ends_after full (7 ∷ []) 9 1 8 (Some main) ≡ None)
    × (ends_after full (8 ∷ []) 1 1 8 (Some main) ≡ Some all_taken)
    × (ends_after full (8 ∷ []) 9 1 most_steps (Some main) ≡ Some log_full)
    × (ends_after full (8 ∷ []) 9 1 8 None ≡ Some none_ready)
