-- What the rules learn of goroutines that wait, and of the gates of several channels, is what the store contains.
use Rattle.std.proofs.Common.{◌≡◌, Bool, true, false, ◌||◌, if◌then◌else◌, List, [], ◌∷◌, Option, Some, None, option_map, refl, sym, ◌∙◌, ap, inl, inr}
use Rattle.std.specs.Prelude.{fold, is_some}
use Rattle.std.specs.Option.{option_map_or}
use Rattle.std.specs.List.{list_any, list_all, cons_option}
use Rattle.std.proofs.lemmas.Bool.{and_parts, or_parts, cases_Bool}
use Rattle.gr_channels.specs.Channels.{Content}
use Rattle.gr_channels.specs.Objects.{gate_of, has_any}
use Rattle.gr_rules.specs.Deeds.{Sending, Receiving, Otherwise}
use Rattle.gr_rules.specs.Goroutines.{Wait, Status, ready, waiting, finished, Goroutine}
use Rattle.gr_rules.specs.States.{go_has, gate_has}
use Rattle.gr_rules.specs.Attempts.{no_such_choice, refuse, ask_room, ask_item}
use Rattle.gr_rules.specs.Actors.{without, channels_but, ask_withdrawn, met, if_gives}
use Rattle.gr_rules.specs.Communications.{enqueued, ask_enqueued, ask_waiters}
use Rattle.gr_rules.specs.Selects.{if_none_ready}
use Rattle.gr_refine.specs.Contents.{goroutine_of, state_of}
use Rattle.gr_code.specs.Goroutines.{CodeGoroutine}
use Rattle.gr_refine.specs.Leaves.{leaf}
use Rattle.gr_refine.specs.Gates.{gate_cells, withdrawing, enqueuing}
use Rattle.gr_refine.specs.Partners.{all_made, waits_in, is_waiting, known_as, waiters_in, as_ruled, can_send, can_receive, can_proceed, is_made_for, WithdrawnIsLookedUp, EnqueuedIsLookedUp, WaitersAreLookedUp, MetIsLookedUp, ReadinessIsLookedUp, NoneReadyIsLookedUp, SomeReadyIsRefused}
use Rattle.gr_refine.proofs.LookLemmas.{waiter_is_looked_up, gate_is_looked_up, room_is_looked_up, item_is_looked_up}

-- what is there
pub some_of : {X : Type 0} (o : Option X) → is_some o ≡ true → (x : X) × (o ≡ Some x)
some_of None h = absurd (let no : false ≡ true = h in cc)
some_of (Some x) h = (x, refl)

pub withdrawn_is_looked_up : WithdrawnIsLookedUp
withdrawn_is_looked_up frame s names [] k made = refl
withdrawn_is_looked_up frame s names (c ∷ cs) k made =
    let parts = and_parts (is_some (s.channels c)) (all_made s cs) made in
    let x = some_of (s.channels c) (parts.0) in
    gate_is_looked_up frame s c (x.0) (λ gate. ask_withdrawn names cs (λ cells. k (gate_has c (Some (without names gate)) ∷ cells))) (x.1)
    ∙ withdrawn_is_looked_up frame s names cs (λ cells. k (gate_has c (Some (without names (gate_of (x.0)))) ∷ cells)) (parts.1)
    ∙ ap (λ (o : Option Content). leaf (state_of frame s)
    (k (gate_has c (option_map (λ x. without names (gate_of x)) o) ∷ gate_cells (withdrawing names) s cs))) (sym (x.1))

pub enqueued_is_looked_up : EnqueuedIsLookedUp
enqueued_is_looked_up frame s name ws [] k made = refl
enqueued_is_looked_up frame s name ws (c ∷ cs) k made =
    let parts = and_parts (is_some (s.channels c)) (all_made s cs) made in
    let x = some_of (s.channels c) (parts.0) in
    gate_is_looked_up frame s c (x.0) (λ gate. ask_enqueued name ws cs
    (λ cells. k (gate_has c (Some (fold (λ gate w. enqueued name c gate w.0 w.1) gate ws)) ∷ cells))) (x.1)
    ∙ enqueued_is_looked_up frame s name ws cs (λ cells. k (gate_has c (Some (enqueuing name ws c (gate_of (x.0)))) ∷ cells)) (parts.1)
    ∙ ap (λ (o : Option Content). leaf (state_of frame s)
    (k (gate_has c (option_map (λ x. enqueuing name ws c (gate_of x)) o) ∷ gate_cells (enqueuing name ws) s cs))) (sym (x.1))

waiting_status : (y : Status) → (elim y [ waiting ws ↦ true | _ ↦ false ]) ≡ true → (ws : List Wait) × (y ≡ waiting ws)
waiting_status ready h = absurd (let no : false ≡ true = h in cc)
waiting_status (waiting ws) h = (ws, refl)
waiting_status finished h = absurd (let no : false ≡ true = h in cc)

pub waiting_of : (o : Option CodeGoroutine) → is_waiting o ≡ true → (g : CodeGoroutine) × (ws : List Wait) × (o ≡ Some g) × (g.status ≡ waiting ws)
waiting_of None h = absurd (let no : false ≡ true = h in cc)
waiting_of (Some g) h = let w = waiting_status g.status h in (g, w.0, refl, w.1)

pub waiters_are_looked_up : WaitersAreLookedUp
waiters_are_looked_up frame s [] k wait = refl
waiters_are_looked_up frame s (n ∷ ns) k wait =
    let t = state_of frame s in
    let parts = and_parts (is_waiting (s.goroutines n)) (list_all (λ n. is_waiting (s.goroutines n)) ns) wait in
    let w = waiting_of (s.goroutines n) (parts.0) in
    let g = w.0 in
    let rest = waiters_in s ns in
    waiter_is_looked_up frame s n g (w.1) (λ g ws. ask_waiters ns (λ others. k ((n, g, ws) ∷ others))) (w.2) (w.3)
    ∙ waiters_are_looked_up frame s ns (λ others. k ((n, goroutine_of frame g, w.1) ∷ others)) (parts.1)
    ∙ ap (λ (status : Status). leaf t (k ((n, goroutine_of frame g, waits_in status) ∷ as_ruled frame rest))) (sym (w.3))
    ∙ ap (λ (o : Option CodeGoroutine). leaf t (k (as_ruled frame (cons_option (known_as n o) rest)))) (sym (w.2))

pub met_is_looked_up : (X : Type 0) → MetIsLookedUp X
met_is_looked_up X frame s c w got k m =
    let t = state_of frame s in
    let met_one : Goroutine = goroutine_of frame m.met_one in
    let cells = gate_cells (withdrawing (w.go ∷ [])) s (channels_but (c ∷ []) m.waits) in
    waiter_is_looked_up frame s w.go m.met_one m.waits (λ g ws. ask_withdrawn (w.go ∷ []) (channels_but (c ∷ []) ws) (λ cells.
    if_gives (λ partner. k (go_has w.go (Some partner) ∷ cells)) (met w.case got g g.frames))) m.there m.waiting_for
    ∙ withdrawn_is_looked_up frame s (w.go ∷ []) (channels_but (c ∷ []) m.waits) (λ cells.
    if_gives (λ partner. k (go_has w.go (Some partner) ∷ cells)) (met w.case got met_one met_one.frames)) m.made
    ∙ ap (λ o. leaf t (if_gives (λ partner. k (go_has w.go (Some partner) ∷ cells)) o)) m.goes_past

pub readiness_is_looked_up : ReadinessIsLookedUp
readiness_is_looked_up frame s (Sending (Some c) v) k valid made =
    let x = some_of (s.channels c) made in
    gate_is_looked_up frame s c (x.0) (λ gate. ask_room c gate (λ room. k (gate.closed || has_any gate.receivers || is_some room))) (x.1)
    ∙ room_is_looked_up frame s c (x.0) (λ room. k (x.0.closed || has_any x.0.receivers || is_some room)) (x.1) (valid c (x.0) (x.1))
    ∙ ap (λ (o : Option Content). leaf (state_of frame s) (k (option_map_or can_send o false))) (sym (x.1))
readiness_is_looked_up frame s (Sending None v) k valid made = refl
readiness_is_looked_up frame s (Receiving (Some c) initial) k valid made =
    let x = some_of (s.channels c) made in
    gate_is_looked_up frame s c (x.0) (λ gate. ask_item c gate (λ item. k (gate.closed || has_any gate.senders || is_some item))) (x.1)
    ∙ item_is_looked_up frame s c (x.0) (λ item. k (x.0.closed || has_any x.0.senders || is_some item)) (x.1) (valid c (x.0) (x.1))
    ∙ ap (λ (o : Option Content). leaf (state_of frame s) (k (option_map_or can_receive o false))) (sym (x.1))
readiness_is_looked_up frame s (Receiving None initial) k valid made = refl
readiness_is_looked_up frame s Otherwise k valid made = refl

pub none_ready_is_looked_up : NoneReadyIsLookedUp
none_ready_is_looked_up frame s [] then_this valid made none = refl
none_ready_is_looked_up frame s (w ∷ ws) then_this valid made none =
    let there = and_parts (is_made_for s w) (list_all (is_made_for s) ws) made in
    let parts = or_parts (can_proceed s w) (list_any (can_proceed s) ws) none in
    readiness_is_looked_up frame s w (λ b. if b then refuse no_such_choice else if_none_ready ws then_this) valid (there.0)
    ∙ ap (λ b. leaf (state_of frame s) (if b then refuse no_such_choice else if_none_ready ws then_this)) (parts.0)
    ∙ none_ready_is_looked_up frame s ws then_this valid (there.1) (parts.1)

pub some_ready_is_refused : SomeReadyIsRefused
some_ready_is_refused frame s [] then_this valid made some = absurd (let no : false ≡ true = some in cc)
some_ready_is_refused frame s (w ∷ ws) then_this valid made some =
    let there = and_parts (is_made_for s w) (list_all (is_made_for s) ws) made in
    let t = state_of frame s in
    readiness_is_looked_up frame s w (λ b. if b then refuse no_such_choice else if_none_ready ws then_this) valid (there.0)
    ∙ elim (cases_Bool (can_proceed s w)) [
      | inl can ↦ ap (λ b. leaf t (if b then refuse no_such_choice else if_none_ready ws then_this)) can
      | inr not_this ↦ ap (λ b. leaf t (if b then refuse no_such_choice else if_none_ready ws then_this)) not_this
          ∙ some_ready_is_refused frame s ws then_this valid (there.1) (other_ready (can_proceed s w) (list_any (can_proceed s) ws) some not_this)
    ]
  where
    other_ready : (a b : Bool) → (a || b) ≡ true → a ≡ false → b ≡ true
    other_ready true b h f = absurd (let no : true ≡ false = f in cc)
    other_ready false b h f = h
