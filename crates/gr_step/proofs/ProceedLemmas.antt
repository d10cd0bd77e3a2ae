-- Whether a communication is a step, by whether it can proceed.
use Rattle.std.proofs.Common.{◌≡◌, ℕ, ◌+◌, ◌%◌, Bool, true, false, ◌||◌, if◌then◌else◌, List, [], ◌∷◌, Option, Some, None, refl, sym, ap, ◌∙◌}
use Rattle.std.specs.Prelude.{is_some}
use Rattle.std.specs.Option.{option_map_or}
use Rattle.gr_base.specs.declared.names.ChName.{ChName}
use Rattle.gr_base.specs.declared.values.Value.{Value}
use Rattle.gr_base.specs.declared.kinds.Fault.TheVariants.{SendOnClosed}
use Rattle.gr_base.specs.declared.kinds.Kind.{Kind}
use Rattle.gr_base.specs.declared.kinds.Kind.TheVariants.{Hand, Meet, Buffer, Take, Closed}
use Rattle.gr_channels.specs.declared.waiter.Waiter.{Waiter}
use Rattle.gr_channels.specs.Channels.{Content, tail_of}
use Rattle.gr_channels.specs.Objects.{GateContent, gate_of, has_any}
use Rattle.gr_rules.specs.Outcomes.{Outcome, gives, faults, wrong}
use Rattle.gr_rules.specs.Frames.{Frame}
use Rattle.gr_rules.specs.Deeds.{Communication, Sending, Receiving, Otherwise, past}
use Rattle.gr_rules.specs.States.{State, Cell, gate_has, head_has, tail_has, slot_has}
use Rattle.gr_rules.specs.Attempts.{Operation, Attempt, Refusal, refuse, sends_on, receives_from, ask_gate, ask_tail, ask_room, ask_item}
use Rattle.gr_rules.specs.Actors.{Actor, fault, given, without, ask_met}
use Rattle.gr_rules.specs.Communications.{proceeds, send_to, take, receive_from, communicate}
use Rattle.gr_code.specs.CodeFrames.{CodeFrame}
use Rattle.gr_refine.specs.Contents.{Contents, state_of}
use Rattle.gr_refine.specs.Leaves.{Leaf, refused, performed, leaf}
use Rattle.gr_refine.specs.Looks.{Ends, room_in, front_in}
use Rattle.gr_refine.specs.Partners.{AreChannels, can_send, can_receive, can_proceed, met_cells}
use Rattle.gr_refine.specs.Presence.{Sound}
use Rattle.gr_refine.proofs.LookLemmas.{gate_is_looked_up, tail_is_looked_up, room_is_looked_up, item_is_looked_up}
use Rattle.gr_refine.proofs.PartnerLemmas.{met_is_looked_up}
use Rattle.gr_refine.proofs.PresenceLemmas.{gate_is_there, met_is_there}

-- the last part of an alternative
last_true : (b : Bool) → true ≡ (b || true)
last_true true = refl
last_true false = refl

last_false : (b : Bool) → b ≡ (b || false)
last_false true = refl
last_false false = refl

-- whether an attempt ends in a step
abbrev pub is_step : Leaf → Bool
is_step l = elim l [ performed report cells ↦ true | refused r ↦ false ]

module _ (frame : CodeFrame → Frame) (s : Contents) where
  abbrev t : State
  t = state_of frame s

  -- where it is not refused as unsound, the attempt is a step just where this is true
  abbrev pub Goes : Attempt → Bool → Type 0
  Goes b x = Sound frame s b → is_step (leaf t b) ≡ x

  pub goes_alike : (b c : Attempt) (x : Bool) → Ends frame s b c → Goes c x → Goes b x
  goes_alike b c x ends goes sound = ap is_step ends ∙ goes (λ q. sound (ends ∙ q))

  -- with what evaluation gives, or faults at
  pub given_goes : {A : Type 0} (a : Actor) (o : Outcome A) (k : A → Attempt) → ((x : A) → Goes (k x) true) → Goes (given a o k) true
  given_goes a (gives x) k goes sound = goes x sound
  given_goes a (faults e) k goes sound = refl
  given_goes a wrong k goes sound = absurd (sound refl)

  module _ (a : Actor) (clause : Option ℕ) where
    proceeding : (operation : Operation) (kind : Kind) (got : Option (Value × Bool)) (cells : List Cell)
        → Goes (proceeds a clause operation kind got cells) true
    proceeding operation kind got cells = given_goes a (past a.frame clause got) _ (λ f sound. refl)

    -- a partner is met
    meeting : (X : Type 0) (c : ChName) (w : Waiter X) (got : Option (Value × Bool)) (k : List Cell → Attempt)
        → ((cells : List Cell) → Goes (k cells) true) → Goes (ask_met c w got k) true
    meeting X c w got k goes sound =
        let m = met_is_there X frame s c w got k sound in
        goes_alike (ask_met c w got k) (k (met_cells s c w.go m.waits m.partner)) true (met_is_looked_up X frame s c w got k m)
        (goes (met_cells s c w.go m.waits m.partner)) sound

    module _ (valid : AreChannels s) (r : Refusal) (c : ChName) (x : Content) (there : s.channels c ≡ Some x) where
      -- a send, with a partner, by the room
      abbrev hands : Waiter (Unit {0}) → List Cell → Attempt
      hands w cells = proceeds a clause (sends_on c) Hand None (gate_has c (Some (without (w.go ∷ []) (gate_of x))) ∷ cells)

      abbrev enters : Value → Option ℕ → Attempt
      enters v o = elim o [
        | Some n ↦ proceeds a clause (sends_on c) Buffer None (tail_has c (n + 1) ∷ slot_has c (n % x.capacity) (Some (n, v)) ∷ [])
        | None ↦ refuse r
      ]

      by_room : (v : Value) (o : Option ℕ) → Goes (enters v o) (is_some o)
      by_room v (Some n) sound =
          proceeding (sends_on c) Buffer None (tail_has c (n + 1) ∷ slot_has c (n % x.capacity) (Some (n, v)) ∷ []) sound
      by_room v None sound = refl

      by_receivers : (v : Value) (ws : List (Waiter (Unit {0})))
          → Goes (send_to a clause c (gate_of x) v (refuse r) ws) (has_any ws || is_some (room_in x))
      by_receivers v [] sound =
          goes_alike (ask_room c (gate_of x) (enters v)) (enters v (room_in x)) (is_some (room_in x))
          (room_is_looked_up frame s c x (enters v) there (valid c x there)) (by_room v (room_in x)) sound
      by_receivers v (w ∷ ws) sound =
          meeting (Unit {0}) c w (Some (v, true)) (hands w)
          (λ cells. proceeding (sends_on c) Hand None (gate_has c (Some (without (w.go ∷ []) (gate_of x))) ∷ cells)) sound

      by_closed : (v : Value) (b : Bool)
          → Goes (if b then fault a (Some (sends_on c)) SendOnClosed else send_to a clause c (gate_of x) v (refuse r) x.receivers)
          (b || has_any x.receivers || is_some (room_in x))
      by_closed v true sound = refl
      by_closed v false sound = by_receivers v x.receivers sound

      -- a receive from the buffer, and a sender moves up
      abbrev moved_cells : ℕ × Value → Waiter Value → ℕ → List Cell → List Cell
      moved_cells item w n cells =
          gate_has c (Some (without (w.go ∷ []) (gate_of x))) ∷ head_has c (item.0 + 1) ∷ tail_has c (n + 1)
          ∷ slot_has c (item.0 % x.capacity) (Some (n, w.value)) ∷ cells

      abbrev moves : ℕ × Value → Waiter Value → ℕ → Attempt
      moves item w n = ask_met c w None (λ cells. proceeds a clause (receives_from c) Take (Some (item.1, true)) (moved_cells item w n cells))

      taking : (item : ℕ × Value) (ws : List (Waiter Value)) → Goes (take a clause c (gate_of x) item ws) true
      taking item [] sound =
          proceeding (receives_from c) Take (Some (item.1, true)) (head_has c (item.0 + 1) ∷ slot_has c (item.0 % x.capacity) None ∷ []) sound
      taking item (w ∷ ws) sound =
          goes_alike (ask_tail c (moves item w)) (moves item w (tail_of x)) true (tail_is_looked_up frame s c x (moves item w) there)
          (meeting Value c w None (λ cells. proceeds a clause (receives_from c) Take (Some (item.1, true)) (moved_cells item w (tail_of x) cells))
          (λ cells. proceeding (receives_from c) Take (Some (item.1, true)) (moved_cells item w (tail_of x) cells))) sound

      -- a receive, with a sender, or from a closed channel
      ending : (v : Value) (b : Bool)
          → Goes (if b then proceeds a clause (receives_from c) Closed (Some (v, false)) [] else refuse r) (b || false || false)
      ending v true sound = proceeding (receives_from c) Closed (Some (v, false)) [] sound
      ending v false sound = refl

      by_item : (v : Value) (item : Option (ℕ × Value)) (ws : List (Waiter Value))
          → Goes (receive_from a clause c (gate_of x) v (refuse r) item ws) (x.closed || has_any ws || is_some item)
      by_item v (Some item) ws sound = taking item ws sound ∙ last_true (x.closed || has_any ws)
      by_item v None (w ∷ ws) sound =
          meeting Value c w None
          (λ cells. proceeds a clause (receives_from c) Meet (Some (w.value, true)) (gate_has c (Some (without (w.go ∷ []) (gate_of x))) ∷ cells))
          (λ cells. proceeding (receives_from c) Meet (Some (w.value, true)) (gate_has c (Some (without (w.go ∷ []) (gate_of x))) ∷ cells)) sound
          ∙ last_true x.closed ∙ last_false (x.closed || true)
      by_item v None [] sound = ending v x.closed sound

      -- once its front item is known
      abbrev receives : Value → Option (ℕ × Value) → Attempt
      receives v item = receive_from a clause c (gate_of x) v (refuse r) item x.senders

      receiving : (v : Value) → Goes (ask_item c (gate_of x) (receives v)) (can_receive x)
      receiving v = goes_alike (ask_item c (gate_of x) (receives v)) (receives v (front_in x)) (can_receive x)
          (item_is_looked_up frame s c x (receives v) there (valid c x there)) (by_item v (front_in x) x.senders)

    module _ (valid : AreChannels s) (r : Refusal) where
      at_channel : (c : ChName) (k : GateContent → Attempt) (test : Content → Bool)
          → ((x : Content) → s.channels c ≡ Some x → Goes (k (gate_of x)) (test x))
          → Goes (ask_gate c k) (option_map_or test (s.channels c) false)
      at_channel c k test goes sound =
          let known = gate_is_there frame s c k sound in
          goes_alike (ask_gate c k) (k (gate_of known.0)) (test known.0) (gate_is_looked_up frame s c known.0 k known.1) (goes known.0 known.1) sound
          ∙ ap (λ o. option_map_or test o false) (sym known.1)

      -- a communication that is refused where it cannot proceed is a step just where it can
      pub communicates : (w : Communication) → Goes (communicate a clause w (refuse r)) (can_proceed s w)
      communicates (Sending (Some c) (gives v)) sound =
          at_channel c (λ gate. if gate.closed then fault a (Some (sends_on c)) SendOnClosed else send_to a clause c gate v (refuse r) gate.receivers)
          can_send (λ x there. by_closed valid r c x there v x.closed) sound
      communicates (Sending (Some c) (faults e)) sound = absurd (sound refl)
      communicates (Sending (Some c) wrong) sound = absurd (sound refl)
      communicates (Sending None v) sound = refl
      communicates (Receiving (Some c) v) sound =
          at_channel c (λ gate. ask_item c gate (λ item. receive_from a clause c gate v (refuse r) item gate.senders))
          can_receive (λ x there. receiving valid r c x there v) sound
      communicates (Receiving None v) sound = refl
      communicates Otherwise sound = refl
