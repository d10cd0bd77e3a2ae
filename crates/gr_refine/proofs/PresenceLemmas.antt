-- What is there where the rules do not refuse because it is absent.
use Rattle.std.proofs.Common.{◌≡◌, true, false, ◌||◌, List, [], ◌∷◌, Option, Some, None, option_map, refl, ◌∙◌, ap}
use Rattle.std.specs.Prelude.{fold, is_some}
use Rattle.std.proofs.lemmas.Bool.{and_from}
use Rattle.gr_channels.specs.Channels.{Content}
use Rattle.gr_channels.specs.Objects.{GateContent, gate_of, has_any}
use Rattle.gr_rules.specs.Outcomes.{Outcome, gives, faults, wrong}
use Rattle.gr_rules.specs.Frames.{Frame}
use Rattle.gr_rules.specs.Deeds.{Sending, Receiving, Otherwise}
use Rattle.gr_rules.specs.Goroutines.{Wait, Status, ready, waiting, finished, Goroutine}
use Rattle.gr_rules.specs.States.{State, Cell, go_has, gate_has}
use Rattle.gr_rules.specs.Attempts.{unsound, Attempt, if_there, ask_room, ask_item}
use Rattle.gr_rules.specs.Actors.{without, channels_but, if_waiting, ask_withdrawn, met, if_gives}
use Rattle.gr_rules.specs.Communications.{enqueued, ask_enqueued, ask_waiters}
use Rattle.gr_code.specs.CodeFrames.{CodeFrame}
use Rattle.gr_refine.specs.Contents.{Contents, goroutine_of, state_of}
use Rattle.gr_code.specs.Goroutines.{CodeGoroutine}
use Rattle.gr_refine.specs.Leaves.{refused, leaf}
use Rattle.gr_refine.specs.Gates.{gate_cells, withdrawing}
use Rattle.gr_refine.specs.Looks.{Ends}
use Rattle.gr_refine.specs.Partners.{is_waiting}
use Rattle.gr_refine.specs.Presence.{Sound, GateIsThere, WaiterIsThere, WithdrawnIsThere, EnqueuedIsThere, WaitersAreThere, MetIsThere, CommunicationIsMade}
use Rattle.gr_refine.proofs.ChangeLemmas.{gate_at}
use Rattle.gr_refine.proofs.LookLemmas.{waiter_is_looked_up, gate_is_looked_up}
use Rattle.gr_refine.proofs.PartnerLemmas.{withdrawn_is_looked_up}

-- what ends in the same is as sound
pub stays_sound : (frame : CodeFrame → Frame) (s : Contents) (a b : Attempt) → Ends frame s a b → Sound frame s a → Sound frame s b
stays_sound frame s a b same sound e = sound (same ∙ e)

gate_known : (t : State) (k : GateContent → Attempt) (o : Option Content) → (leaf t (if_there k (gate_at o)) ≡ refused unsound → ⊥)
    → (x : Content) × (o ≡ Some x)
gate_known t k None sound = absurd (sound refl)
gate_known t k (Some x) sound = (x, refl)

pub gate_is_there : GateIsThere
gate_is_there frame s c k sound = gate_known (state_of frame s) k (s.channels c) sound

status_known : (t : State) (k : List Wait → Attempt) (y : Status) → (leaf t (if_waiting k y) ≡ refused unsound → ⊥) → (ws : List Wait) × (y ≡ waiting ws)
status_known t k ready sound = absurd (sound refl)
status_known t k (waiting ws) sound = (ws, refl)
status_known t k finished sound = absurd (sound refl)

waiter_known : (frame : CodeFrame → Frame) (t : State) (k : Goroutine → List Wait → Attempt) (o : Option CodeGoroutine)
    → (leaf t (if_there (λ g. if_waiting (k g) g.status) (option_map (goroutine_of frame) o)) ≡ refused unsound → ⊥)
    → (g : CodeGoroutine) × (ws : List Wait) × (o ≡ Some g) × (g.status ≡ waiting ws)
waiter_known frame t k None sound = absurd (sound refl)
waiter_known frame t k (Some g) sound = let w = status_known t (k (goroutine_of frame g)) g.status sound in (g, w.0, refl, w.1)

pub waiter_is_there : WaiterIsThere
waiter_is_there frame s n k sound = waiter_known frame (state_of frame s) k (s.goroutines n) sound

pub withdrawn_is_there : WithdrawnIsThere
withdrawn_is_there frame s names [] k sound = refl
withdrawn_is_there frame s names (c ∷ cs) k sound =
    let x = gate_is_there frame s c _ sound in
    let after = gate_is_looked_up frame s c (x.0) (λ gate. ask_withdrawn names cs (λ cells. k (gate_has c (Some (without names gate)) ∷ cells))) (x.1) in
    and_from _ _ (ap is_some (x.1)) (withdrawn_is_there frame s names cs (λ cells. k (gate_has c (Some (without names (gate_of (x.0)))) ∷ cells))
    (λ e. sound (after ∙ e)))

pub enqueued_is_there : EnqueuedIsThere
enqueued_is_there frame s name ws [] k sound = refl
enqueued_is_there frame s name ws (c ∷ cs) k sound =
    let x = gate_is_there frame s c _ sound in
    let entered = λ (gate : GateContent). gate_has c (Some (fold (λ gate w. enqueued name c gate w.0 w.1) gate ws)) in
    let after = gate_is_looked_up frame s c (x.0) (λ gate. ask_enqueued name ws cs (λ cells. k (entered gate ∷ cells))) (x.1) in
    and_from _ _ (ap is_some (x.1)) (enqueued_is_there frame s name ws cs (λ cells. k (entered (gate_of (x.0)) ∷ cells)) (λ e. sound (after ∙ e)))

is_waiter : (o : Option CodeGoroutine) (g : CodeGoroutine) (ws : List Wait) → o ≡ Some g → g.status ≡ waiting ws → is_waiting o ≡ true
is_waiter o g ws there waits = ap is_waiting there ∙ ap (λ (y : Status). elim y [ waiting ws ↦ true | _ ↦ false ]) waits

pub waiters_are_there : WaitersAreThere
waiters_are_there frame s [] k sound = refl
waiters_are_there frame s (n ∷ ns) k sound =
    let w = waiter_is_there frame s n (λ g ws. ask_waiters ns (λ others. k ((n, g, ws) ∷ others))) sound in
    let after = waiter_is_looked_up frame s n (w.0) (w.1) (λ g ws. ask_waiters ns (λ others. k ((n, g, ws) ∷ others))) (w.2) (w.3) in
    and_from _ _ (is_waiter (s.goroutines n) (w.0) (w.1) (w.2) (w.3))
    (waiters_are_there frame s ns (λ others. k ((n, goroutine_of frame (w.0), w.1) ∷ others)) (λ e. sound (after ∙ e)))

given_one : {A : Type 0} (t : State) (k : A → Attempt) (o : Outcome A) → (leaf t (if_gives k o) ≡ refused unsound → ⊥) → (x : A) × (o ≡ gives x)
given_one t k (gives x) sound = (x, refl)
given_one t k (faults e) sound = absurd (sound refl)
given_one t k wrong sound = absurd (sound refl)

pub met_is_there : (X : Type 0) → MetIsThere X
met_is_there X frame s c w got k sound =
    let t = state_of frame s in
    let rest = λ (g : Goroutine) (ws : List Wait). ask_withdrawn (w.go ∷ []) (channels_but (c ∷ []) ws) (λ cells.
    if_gives (λ partner. k (go_has w.go (Some partner) ∷ cells)) (met w.case got g g.frames)) in
    let waiter = waiter_is_there frame s w.go rest sound in
    let one : Goroutine = goroutine_of frame (waiter.0) in
    let last = λ (cells : List Cell). if_gives (λ partner. k (go_has w.go (Some partner) ∷ cells)) (met w.case got one one.frames) in
    let waited = waiter_is_looked_up frame s w.go (waiter.0) (waiter.1) rest (waiter.2) (waiter.3) in
    let others = channels_but (c ∷ []) (waiter.1) in
    let made = withdrawn_is_there frame s (w.go ∷ []) others last (λ e. sound (waited ∙ e)) in
    let cells = gate_cells (withdrawing (w.go ∷ [])) s others in
    let withdrawn = withdrawn_is_looked_up frame s (w.go ∷ []) others last made in
    let partner = given_one t (λ partner. k (go_has w.go (Some partner) ∷ cells)) (met w.case got one one.frames) (λ e. sound (waited ∙ withdrawn ∙ e)) in
    record { met_one = waiter.0; waits = waiter.1; partner = partner.0; there = waiter.2; waiting_for = waiter.3; made = made; goes_past = partner.1 }

pub communication_is_made : CommunicationIsMade
communication_is_made frame s (Sending (Some c) v) k sound =
    ap is_some ((gate_is_there frame s c (λ gate. ask_room c gate (λ room. k (gate.closed || has_any gate.receivers || is_some room))) sound).1)
communication_is_made frame s (Sending None v) k sound = refl
communication_is_made frame s (Receiving (Some c) initial) k sound =
    ap is_some ((gate_is_there frame s c (λ gate. ask_item c gate (λ item. k (gate.closed || has_any gate.senders || is_some item))) sound).1)
communication_is_made frame s (Receiving None initial) k sound = refl
communication_is_made frame s Otherwise k sound = refl
