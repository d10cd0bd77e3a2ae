-- What the rules learn of goroutines that wait and of the gates of several channels, looked up in what a store contains.
use Rattle.std.specs.Prelude.{◌≡◌, ℕ, Bool, true, false, ◌||◌, List, [], ◌∷◌, map, Option, Some, None, option_map, is_some}
use Rattle.std.specs.Option.{option_map_or}
use Rattle.std.specs.List.{list_any, list_all, filter_map}
use Rattle.gr_base.specs.declared.names.ChName.{ChName}
use Rattle.gr_base.specs.declared.values.Value.{Value}
use Rattle.gr_channels.specs.declared.waiter.Waiter.{Waiter}
use Rattle.gr_channels.specs.Channels.{Content, IsChannel}
use Rattle.gr_channels.specs.Objects.{has_any}
use Rattle.gr_rules.specs.Outcomes.{gives}
use Rattle.gr_rules.specs.Frames.{Frame}
use Rattle.gr_rules.specs.Deeds.{Communication, Sending, Receiving}
use Rattle.gr_rules.specs.Goroutines.{Wait, Status, waiting, Goroutine}
use Rattle.gr_rules.specs.States.{Cell, go_has}
use Rattle.gr_rules.specs.Attempts.{no_such_choice, Attempt}
use Rattle.gr_rules.specs.Actors.{channels_but, ask_withdrawn, met, ask_met}
use Rattle.gr_rules.specs.Communications.{ask_enqueued, ask_waiters}
use Rattle.gr_rules.specs.Selects.{ask_ready, if_none_ready}
use Rattle.gr_code.specs.CodeFrames.{CodeFrame}
use Rattle.gr_refine.specs.Contents.{Contents, goroutine_of, state_of}
use Rattle.gr_code.specs.Goroutines.{CodeGoroutine}
use Rattle.gr_refine.specs.Leaves.{Refuses}
use Rattle.gr_refine.specs.Gates.{gate_cells, withdrawing, enqueuing}
use Rattle.gr_refine.specs.Looks.{room_in, front_in, Ends}

-- whether these channels are there
abbrev pub all_made : Contents → List ChName → Bool
all_made s cs = list_all (λ c. is_some (s.channels c)) cs

-- each channel keeps within its buffer
abbrev pub AreChannels : Contents → Type 0
AreChannels s = (c : ChName) (x : Content) → s.channels c ≡ Some x → IsChannel x

-- whether a goroutine is there and waits, and for what
abbrev pub waits_in : Status → List Wait
waits_in status = elim status [ waiting ws ↦ ws | _ ↦ [] ]

abbrev pub is_waiting : Option CodeGoroutine → Bool
is_waiting None = false
is_waiting (Some g) = elim g.status [ waiting ws ↦ true | _ ↦ false ]

-- a goroutine that is there, with what it waits for
abbrev pub known_as : List ℕ → Option CodeGoroutine → Option (List ℕ × CodeGoroutine × List Wait)
known_as n o = option_map (λ (g : CodeGoroutine). (n, g, waits_in g.status)) o

abbrev pub waiters_in : Contents → List (List ℕ) → List (List ℕ × CodeGoroutine × List Wait)
waiters_in s names = filter_map (λ n. known_as n (s.goroutines n)) names

-- as the rules know them
abbrev pub as_ruled : (CodeFrame → Frame) → List (List ℕ × CodeGoroutine × List Wait) → List (List ℕ × Goroutine × List Wait)
as_ruled frame ws = map (λ w. (w.0, goroutine_of frame w.1, w.2)) ws

-- whether a communication on this channel can proceed
abbrev pub can_send : Content → Bool
can_send x = x.closed || has_any x.receivers || is_some (room_in x)

abbrev pub can_receive : Content → Bool
can_receive x = x.closed || has_any x.senders || is_some (front_in x)

-- whether a communication can proceed; on nil it never can
abbrev pub can_proceed : Contents → Communication → Bool
can_proceed s (Sending (Some c) v) = option_map_or can_send (s.channels c) false
can_proceed s (Receiving (Some c) initial) = option_map_or can_receive (s.channels c) false
can_proceed s _ = false

-- whether its channel is there, where it is on one
abbrev pub is_made_for : Contents → Communication → Bool
is_made_for s (Sending (Some c) v) = is_some (s.channels c)
is_made_for s (Receiving (Some c) initial) = is_some (s.channels c)
is_made_for s _ = true

-- a goroutine that waits is met: it waits, the other channels are there, and it goes on as this one
pub record Meets (frame : CodeFrame → Frame) (s : Contents) (c : ChName) (name : List ℕ) (clause : Option ℕ) (got : Option (Value × Bool)) : Type 0 where
  pub met_one : CodeGoroutine
  pub waits : List Wait
  pub partner : Goroutine
  pub there : s.goroutines name ≡ Some met_one
  pub waiting_for : met_one.status ≡ waiting waits
  pub made : all_made s (channels_but (c ∷ []) waits) ≡ true
  pub goes_past : met clause got (goroutine_of frame met_one) (map frame met_one.frames) ≡ gives partner

-- the cells of one that is met
abbrev pub met_cells : Contents → ChName → List ℕ → List Wait → Goroutine → List Cell
met_cells s c n ws partner = go_has n (Some partner) ∷ gate_cells (withdrawing (n ∷ [])) s (channels_but (c ∷ []) ws)

-- gates without some goroutines, and with one that comes to wait
abbrev pub WithdrawnIsLookedUp : Type 0
WithdrawnIsLookedUp = (frame : CodeFrame → Frame) (s : Contents) (names : List (List ℕ)) (cs : List ChName) (k : List Cell → Attempt)
    → all_made s cs ≡ true → Ends frame s (ask_withdrawn names cs k) (k (gate_cells (withdrawing names) s cs))

abbrev pub EnqueuedIsLookedUp : Type 0
EnqueuedIsLookedUp = (frame : CodeFrame → Frame) (s : Contents) (name : List ℕ) (ws : List (Option ℕ × Communication)) (cs : List ChName)
    (k : List Cell → Attempt)
    → all_made s cs ≡ true → Ends frame s (ask_enqueued name ws cs k) (k (gate_cells (enqueuing name ws) s cs))

-- goroutines that wait
abbrev pub WaitersAreLookedUp : Type 0
WaitersAreLookedUp = (frame : CodeFrame → Frame) (s : Contents) (names : List (List ℕ)) (k : List (List ℕ × Goroutine × List Wait) → Attempt)
    → list_all (λ n. is_waiting (s.goroutines n)) names ≡ true → Ends frame s (ask_waiters names k) (k (as_ruled frame (waiters_in s names)))

-- one that is met
abbrev pub MetIsLookedUp : Type 0 → Type 0
MetIsLookedUp X = (frame : CodeFrame → Frame) (s : Contents) (c : ChName) (w : Waiter X) (got : Option (Value × Bool)) (k : List Cell → Attempt)
    (m : Meets frame s c w.go w.case got) → Ends frame s (ask_met c w got k) (k (met_cells s c w.go m.waits m.partner))

-- whether communications can proceed
abbrev pub ReadinessIsLookedUp : Type 0
ReadinessIsLookedUp = (frame : CodeFrame → Frame) (s : Contents) (w : Communication) (k : Bool → Attempt)
    → AreChannels s → is_made_for s w ≡ true → Ends frame s (ask_ready w k) (k (can_proceed s w))

abbrev pub NoneReadyIsLookedUp : Type 0
NoneReadyIsLookedUp = (frame : CodeFrame → Frame) (s : Contents) (ws : List Communication) (then_this : Attempt)
    → AreChannels s → list_all (is_made_for s) ws ≡ true → list_any (can_proceed s) ws ≡ false → Ends frame s (if_none_ready ws then_this) then_this

abbrev pub SomeReadyIsRefused : Type 0
SomeReadyIsRefused = (frame : CodeFrame → Frame) (s : Contents) (ws : List Communication) (then_this : Attempt)
    → AreChannels s → list_all (is_made_for s) ws ≡ true → list_any (can_proceed s) ws ≡ true
    → Refuses (if_none_ready ws then_this) (state_of frame s) no_such_choice
