-- The step of a goroutine that comes to wait, by what the store contains (Go: Send statements, Receive operator, Select
-- statements).
use Rattle.std.specs.Prelude.{◌≡◌, fold, ℕ, ◌+◌, true, List, [], ◌∷◌, ◌++◌, Option, Some, None, option_map}
use Rattle.gr_base.specs.declared.values.Value.{Value}
use Rattle.gr_base.specs.declared.kinds.Kind.{Kind}
use Rattle.gr_channels.specs.declared.waiter.Waiter.{Waiter}
use Rattle.gr_channels.specs.Channels.{Content}
use Rattle.gr_rules.specs.Outcomes.{gives}
use Rattle.gr_rules.specs.Frames.{Frame}
use Rattle.gr_rules.specs.Deeds.{Communication, Sending, Receiving}
use Rattle.gr_rules.specs.Goroutines.{waiting}
use Rattle.gr_rules.specs.Attempts.{Operation}
use Rattle.gr_rules.specs.Actors.{Actor, channels_but}
use Rattle.gr_rules.specs.Communications.{all_waits, wait}
use Rattle.gr_code.specs.CodeFrames.{CodeFrame}
use Rattle.gr_refine.specs.Contents.{Contents, goroutine_of, with_goroutine, with_channel}
use Rattle.gr_code.specs.Goroutines.{CodeGoroutine}
use Rattle.gr_refine.specs.Gates.{with_gates, enqueuing}
use Rattle.gr_refine.specs.Partners.{all_made}
use Rattle.gr_refine.specs.Presence.{Sound}
use Rattle.gr_refine.specs.Performing.{reported, StepsTo}

-- at the end of the queue for one communication
abbrev pub with_sender : Waiter Value → Content → Content
with_sender w x = record x { senders = x.senders ++ w ∷ [] }

abbrev pub with_receiver : Waiter (Unit {0}) → Content → Content
with_receiver w x = record x { receivers = x.receivers ++ w ∷ [] }

abbrev pub parked_for : List ℕ → Contents → Option ℕ → Communication → Contents
parked_for name s clause (Sending (Some c) (gives v)) = with_channel s c
    (option_map (with_sender (record { go = name; case = clause; value = v })) (s.channels c))
parked_for name s clause (Receiving (Some c) initial) = with_channel s c
    (option_map (with_receiver (record { go = name; case = clause; value = tt })) (s.channels c))
parked_for name s clause _ = s

-- the contents with the goroutine in the queues for these communications, one after the other
abbrev pub parked_in : List ℕ → Contents → List (Option ℕ × Communication) → Contents
parked_in name s ws = fold (λ t w. parked_for name t w.0 w.1) s ws

-- a goroutine that comes to wait for one communication after the other stands in the queues that the rules change
abbrev pub ParkingIsEnqueuing : Type 0
ParkingIsEnqueuing = (name : List ℕ) (s : Contents) (ws : List (Option ℕ × Communication))
    → parked_in name s ws ≡ with_gates (enqueuing name ws) s (channels_but [] (all_waits ws))

-- a goroutine comes to wait for any of these
abbrev pub WaitingParks : Type 0
WaitingParks = (frame : CodeFrame → Frame) (s : Contents) (a : Actor) (operation : Option Operation) (kind : Kind)
    (ws : List (Option ℕ × Communication)) (g : CodeGoroutine)
    → all_made s (channels_but [] (all_waits ws)) ≡ true
    → goroutine_of frame g ≡ record (a.before) { status = waiting (all_waits ws); steps = a.before.steps + 1 }
    → StepsTo frame (wait a operation kind ws) s (parked_in a.name (with_goroutine s a.name (Some g)) ws) (reported a None operation kind)

-- where that is not refused as unsound, the channels are there
abbrev pub WaitingIsMade : Type 0
WaitingIsMade = (frame : CodeFrame → Frame) (s : Contents) (a : Actor) (operation : Option Operation) (kind : Kind) (ws : List (Option ℕ × Communication))
    → Sound frame s (wait a operation kind ws) → all_made s (channels_but [] (all_waits ws)) ≡ true
