-- What a step leaves of those that wait: its own goroutine waits for nothing that another waits to meet, and no other begins to wait.
use Rattle.std.proofs.Common.{fold, ◌≡◌, ◌⊎◌, ℕ, ℤ, pos, negsuc, ◌+◌, ◌-◌, ◌%◌, ◌==◌, nat_le, Bool, true, false, ◌||◌, ◌&&◌, not, is_none, if◌then◌else◌, List, [], ◌∷◌, ◌++◌, map, length, is_some, Option, Some, None, option_map, refl, sym, ◌∙◌, ap, subst, inl, inr}
use Rattle.std.specs.List.{flat_map}
use Rattle.gr_base.specs.declared.names.ChName.{ChName}
use Rattle.gr_base.specs.declared.values.Value.{Value}
use Rattle.gr_base.specs.declared.events.Choice.{Choice}
use Rattle.gr_base.specs.declared.events.Choice.TheVariants as choices
use Rattle.gr_base.specs.declared.kinds.Fault.{Fault}
use Rattle.gr_base.specs.declared.kinds.Fault.TheVariants.{SendOnClosed, CloseOfClosed, CloseOfNil, BadSize, CallDepth, NameDepth, NameCount}
use Rattle.gr_base.specs.declared.kinds.Kind.{Kind}
use Rattle.gr_base.specs.declared.kinds.Kind.TheVariants as kinds
use Rattle.gr_base.specs.declared.objects.Object.{Object}
use Rattle.gr_causal.specs.Sequences.{In}
use Rattle.gr_causal.proofs.ListLemmas.{In-append_cases}
use Rattle.gr_channels.specs.declared.waiter.Waiter.{Waiter}
use Rattle.gr_channels.specs.Objects.{GateContent, has_any}
use Rattle.gr_rules.specs.Outcomes.{Outcome, gives, faults, wrong, ◌>>=◌}
use Rattle.gr_rules.specs.Frames.{Frame, goes_on}
use Rattle.gr_rules.specs.Deeds.{Communication, Sending, Receiving, Otherwise, Deed, Moves, Prints, Enters, Leaves, Starts, Makes, TakesLen, TakesCap, Closes, Communicates, Chooses, past, resumed}
use Rattle.gr_rules.specs.Goroutines.{Wait, ToSend, ToReceive, Status, ready, waiting, finished, Goroutine, started}
use Rattle.gr_rules.specs.States.{Cell, go_has, gate_has, tail_has, head_has, slot_has, State, look, call_of}
use Rattle.gr_rules.specs.Attempts.{Refusal, Operation, sends_on, receives_from, takes_len_of, takes_cap_of, closes, Attempt, refuse, perform, ask, if_there, ask_gate, room_for, ask_room, ask_slot, ask_item}
use Rattle.gr_rules.specs.Actors.{Actor, with_frames, onward, does, simply, fault, given, if_gives, without, channels_but, if_waiting, ask_waiter, ask_withdrawn, clause_at, met, ask_met}
use Rattle.gr_rules.specs.Communications.{proceeds, send_to, send, take, receive_from, receive, communicate, waits_for, all_waits, enqueued, ask_enqueued, wait, proceed_or_wait, once, ask_waiters, close}
use Rattle.gr_rules.specs.Selects.{values_of, ask_ready, if_none_ready, pick, default_from, numbered, default, park, choose}
use Rattle.gr_rules.specs.Steps.{is_deepest, enter, finish, leave, child, if_absent, go, make, counted, take_len, take_cap, print, act, act_by}
use Rattle.gr_rules.specs.Limits.{most_counts, most_places, greatest_count}
use Rattle.gr_rules.specs.Touches.{senders_at, receivers_at, waits_at}
use Rattle.gr_laws.specs.Refusals.{has_room, has_item}
use Rattle.gr_laws.proofs.CellLemmas.{no_truth}
use Rattle.gr_late.specs.Waiting.{waits_in}

-- nobody is there to be met
abbrev pub NoPartner : State → Wait → Type 0
NoPartner s (ToSend c i) = receivers_at (s.gates c) ≡ []
NoPartner s (ToReceive c i) = senders_at (s.gates c) ≡ []

-- a goroutine in the cell does not wait
abbrev pub Calm : Cell → Type 0
Calm (go_has n g) = waits_in g ≡ false
Calm _ = Unit {0}

abbrev pub AllCalm : List Cell → Type 0
AllCalm [] = Unit {0}
AllCalm (c ∷ cs) = Calm c × AllCalm cs

calm_join : (cs ds : List Cell) → AllCalm cs → AllCalm ds → AllCalm (cs ++ ds)
calm_join [] ds h k = k
calm_join (c ∷ cs) ds h k = (h.0, calm_join cs ds h.1 k)

pub up_calm : (g : Goroutine) → g.status ≡ ready → waits_in (Some g) ≡ false
up_calm g e = ap (λ (x : Status). elim x [ waiting ws ↦ true | _ ↦ false ]) e

-- who does not wait waits for nothing
pub for_nothing : (o : Option Goroutine) → waits_in o ≡ false → waits_at o ≡ []
for_nothing None h = refl
for_nothing (Some g) h = by g.status refl
  where
    by : (x : Status) → g.status ≡ x → waits_at (Some g) ≡ []
    by ready q = ap (λ (x : Status). elim x [ waiting ws ↦ ws | _ ↦ [] ]) q
    by (waiting ws) q = absurd (no_truth (sym h ∙ ap (λ (x : Status). elim x [ waiting ws ↦ true | _ ↦ false ]) q))
    by finished q = ap (λ (x : Status). elim x [ waiting ws ↦ ws | _ ↦ [] ]) q

some_none : {A : Type 0} (a : A) → Some a ≡ None → ⊥
some_none a e = cc

not_any : {X : Type 0} (xs : List X) → has_any xs ≡ false → xs ≡ []
not_any [] h = refl
not_any (x ∷ xs) h = absurd (no_truth (sym h))

each_false : (a b c : Bool) → (a || b || c) ≡ false → (a ≡ false) × (b ≡ false) × (c ≡ false)
each_false false false c h = (refl, refl, h)
each_false false true c h = absurd (no_truth (sym h))
each_false true b c h = absurd (no_truth (sym h))

no_some : {A : Type 0} (o : Option A) → is_some o ≡ false → o ≡ None
no_some None h = refl
no_some (Some a) h = absurd (no_truth (sym h))

-- a communication cannot proceed: nobody is there for it, and there is no room or no item
abbrev pub Idle : State → Communication → Type 0
Idle s (Sending (Some c) v) = (gate : GateContent) × (s.gates c ≡ Some gate) × (gate.closed ≡ false) × (gate.receivers ≡ []) × (has_room s c gate ≡ false)
Idle s (Receiving (Some c) zero) = (gate : GateContent) × (s.gates c ≡ Some gate) × (gate.closed ≡ false) × (gate.senders ≡ []) × (has_item s c gate ≡ false)
Idle s _ = Unit {0}

-- a communication of which all is known
abbrev pub Told : Communication → Type 0
Told (Sending (Some c) v) = (value : Value) × (v ≡ gives value)
Told (Sending None v) = Unit {0}
Told (Receiving c zero) = Unit {0}
Told Otherwise = ⊥

abbrev pub AllIdle : State → List (Option ℕ × Communication) → Type 0
AllIdle s [] = Unit {0}
AllIdle s (w ∷ ws) = Idle s w.1 × AllIdle s ws

-- `Why` is what is to be known of a step that waits.
module _ (s : State) (name : List ℕ) (Why : Type 0) where
  -- the first cell is that of the goroutine that takes the step
  pub record LeavesSo (cells : List Cell) : Type 0 where
    pub left : Goroutine
    pub others : List Cell
    pub is : cells ≡ go_has name (Some left) ∷ others
    pub own : (w : Wait) → In w (waits_at (Some left)) → NoPartner s w
    pub why : (waits_in (Some left) ≡ false) ⊎ Why
    pub calm : AllCalm others

  abbrev pub Sides : Attempt → Type 0
  Sides (refuse r) = Unit {0}
  Sides (perform r cells) = LeavesSo cells
  Sides (ask o f) = Sides (f (look s o))

  pub record S (x : Attempt) : Type 0 where
    pub sides : Sides x

  no : {r : Refusal} → S (refuse r)
  no = record { sides = tt }

  asked : {o : Object} {f : Cell → Attempt} → S (f (look s o)) → S (ask o f)
  asked h = record { sides = h.sides }

  if_sides : (b : Bool) {x y : Attempt} → S x → (b ≡ false → S y) → S (if b then x else y)
  if_sides true h k = h
  if_sides false h k = k refl

  gate_sides : (c : ChName) (k : GateContent → Attempt) → ((gate : GateContent) → s.gates c ≡ Some gate → S (k gate)) → S (ask_gate c k)
  gate_sides c k h = asked (by (s.gates c) refl)
    where
      by : (o : Option GateContent) → s.gates c ≡ o → S (if_there k o)
      by None e = no
      by (Some gate) e = h gate e

  room_sides : (c : ChName) (gate : GateContent) (k : Option ℕ → Attempt) → ((o : Option ℕ) → (o ≡ None → has_room s c gate ≡ false) → S (k o)) → S (ask_room c gate k)
  room_sides c gate k h = asked (by (gate.capacity == 0) refl)
    where
      by_slot : (gate.capacity == 0) ≡ false → (o : Option (ℕ × Value)) → s.slots c (s.tails c % gate.capacity) ≡ o → S (k (room_for (s.tails c) o))
      by_slot z None q = h (Some (s.tails c)) (λ e. absurd (some_none (s.tails c) e))
      by_slot z (Some x) q = h None (λ e. ap (λ b. not b && is_none (s.slots c (s.tails c % gate.capacity))) z ∙ ap is_none q)

      by : (b : Bool) → (gate.capacity == 0) ≡ b → S (if b then k None else ask_slot c (s.tails c % gate.capacity) (λ item. k (room_for (s.tails c) item)))
      by true z = h None (λ e. ap (λ b. not b && is_none (s.slots c (s.tails c % gate.capacity))) z)
      by false z = asked (by_slot z (s.slots c (s.tails c % gate.capacity)) refl)

  item_sides : (c : ChName) (gate : GateContent) (k : Option (ℕ × Value) → Attempt) → ((o : Option (ℕ × Value)) → (o ≡ None → has_item s c gate ≡ false) → S (k o)) → S (ask_item c gate k)
  item_sides c gate k h = asked (by (gate.capacity == 0) refl)
    where
      by_slot : (gate.capacity == 0) ≡ false → (o : Option (ℕ × Value)) → s.slots c (s.heads c % gate.capacity) ≡ o → S (k (option_map (λ x. (s.heads c, x.1)) o))
      by_slot z None q = h None (λ e. ap (λ b. not b && is_some (s.slots c (s.heads c % gate.capacity))) z ∙ ap is_some q)
      by_slot z (Some x) q = h (Some (s.heads c, x.1)) (λ e. absurd (some_none (s.heads c, x.1) e))

      by : (b : Bool) → (gate.capacity == 0) ≡ b → S (if b then k None else ask_slot c (s.heads c % gate.capacity) (λ item. k (option_map (λ x. (s.heads c, x.1)) item)))
      by true z = h None (λ e. ap (λ b. not b && is_some (s.slots c (s.heads c % gate.capacity))) z)
      by false z = asked (by_slot z (s.slots c (s.heads c % gate.capacity)) refl)

  waiter_sides : (n : List ℕ) (k : Goroutine → List Wait → Attempt) → ((g : Goroutine) (ws : List Wait) → S (k g ws)) → S (ask_waiter n k)
  waiter_sides n k h = asked (by (s.goroutines n))
    where
      by_status : (g : Goroutine) (x : Status) → S (if_waiting (k g) x)
      by_status g ready = no
      by_status g (waiting ws) = h g ws
      by_status g finished = no

      by : (o : Option Goroutine) → S (if_there (λ g. if_waiting (k g) g.status) o)
      by None = no
      by (Some g) = by_status g g.status

  withdrawn_sides : (names : List (List ℕ)) (cs : List ChName) (k : List Cell → Attempt) → ((cells : List Cell) → AllCalm cells → S (k cells)) → S (ask_withdrawn names cs k)
  withdrawn_sides names [] k h = h [] tt
  withdrawn_sides names (c ∷ cs) k h = gate_sides c _ (λ gate at.
      withdrawn_sides names cs (λ cells. k (gate_has c (Some (without names gate)) ∷ cells)) (λ cells calm. h (gate_has c (Some (without names gate)) ∷ cells) (tt, calm)))

  met_sides : {X : Type 0} (c : ChName) (w : Waiter X) (got : Option (Value × Bool)) (k : List Cell → Attempt) → ((cells : List Cell) → AllCalm cells → S (k cells)) → S (ask_met c w got k)
  met_sides c w got k h = waiter_sides w.go _ (λ g ws. withdrawn_sides (w.go ∷ []) (channels_but (c ∷ []) ws) _ (λ cells calm. by_frames g cells calm g.frames))
    where
      by_past : (g : Goroutine) (cells : List Cell) → AllCalm cells → (fs : List Frame) (o : Outcome Frame)
          → S (if_gives (λ partner. k (go_has w.go (Some partner) ∷ cells)) (o >>= λ f. gives (record g { status = ready; frames = f ∷ fs })))
      by_past g cells calm fs (gives f) = h _ (refl, calm)
      by_past g cells calm fs (faults e) = no
      by_past g cells calm fs wrong = no

      by_frames : (g : Goroutine) (cells : List Cell) → AllCalm cells → (fs : List Frame) → S (if_gives (λ partner. k (go_has w.go (Some partner) ∷ cells)) (met w.case got g fs))
      by_frames g cells calm [] = no
      by_frames g cells calm (f ∷ fs) = by_past g cells calm fs (past f w.case got)

  module _ (a : Actor) (named : a.name ≡ name) (up : a.before.status ≡ ready) where
    -- the step leaves its goroutine waiting for nothing
    does_sides : {clause : Option ℕ} {operation : Option Operation} {kind : Kind} (g : Goroutine) {cells : List Cell} → waits_in (Some g) ≡ false → AllCalm cells → S (does a clause operation kind g cells)
    does_sides g {cells} e calm = record {
      sides = record {
        left = g;
        others = cells;
        is = ap (λ n. go_has n (Some g) ∷ cells) named;
        own = λ w i. absurd (subst (In w) (for_nothing (Some g) e) i);
        why = inl e;
        calm = calm;
      };
    }

    on_sides : {clause : Option ℕ} {operation : Option Operation} {kind : Kind} (f : Frame) {cells : List Cell} → AllCalm cells → S (does a clause operation kind (onward a f) cells)
    on_sides f calm = does_sides (onward a f) (up_calm (onward a f) up) calm

    fault_sides : (operation : Option Operation) (e : Fault) → S (fault a operation e)
    fault_sides operation e = does_sides (with_frames a a.before.frames) (up_calm a.before up) (tt, tt)

    given_sides : {A : Type 0} (x : Outcome A) (k : A → Attempt) → ((v : A) → S (k v)) → S (given a x k)
    given_sides (gives v) k h = h v
    given_sides (faults e) k h = fault_sides None e
    given_sides wrong k h = no

    proceeds_sides : (clause : Option ℕ) (operation : Operation) (kind : Kind) (got : Option (Value × Bool)) (cells : List Cell) → AllCalm cells → S (proceeds a clause operation kind got cells)
    proceeds_sides clause operation kind got cells calm = given_sides (past a.frame clause got) _ (λ f. on_sides f calm)

    send_to_sides : (clause : Option ℕ) (c : ChName) (gate : GateContent) (v : Value) (m : Attempt) (ws : List (Waiter (Unit {0}))) → (ws ≡ [] → has_room s c gate ≡ false → S m) → S (send_to a clause c gate v m ws)
    send_to_sides clause c gate v m (w ∷ ws) h = met_sides c w (Some (v, true)) _ (λ cells calm. proceeds_sides clause (sends_on c) kinds.Hand None (gate_has c (Some (without (w.go ∷ []) gate)) ∷ cells) (tt, calm))
    send_to_sides clause c gate v m [] h = room_sides c gate _ by
      where
        by : (o : Option ℕ) → (o ≡ None → has_room s c gate ≡ false)
            → S (elim o [ Some n ↦ proceeds a clause (sends_on c) kinds.Buffer None (tail_has c (n + 1) ∷ slot_has c (n % gate.capacity) (Some (n, v)) ∷ []) | None ↦ m ])
        by None k = h refl (k refl)
        by (Some n) k = proceeds_sides clause (sends_on c) kinds.Buffer None (tail_has c (n + 1) ∷ slot_has c (n % gate.capacity) (Some (n, v)) ∷ []) (tt, (tt, tt))

    send_sides : (clause : Option ℕ) (c : ChName) (v : Value) (m : Attempt) → (Idle s (Sending (Some c) (gives v)) → S m) → S (send a clause c v m)
    send_sides clause c v m h = gate_sides c _ (λ gate at. if_sides gate.closed (fault_sides (Some (sends_on c)) SendOnClosed)
        (λ e. send_to_sides clause c gate v m gate.receivers (λ none room. h (gate, at, e, none, room))))

    take_sides : (clause : Option ℕ) (c : ChName) (gate : GateContent) (item : ℕ × Value) (ws : List (Waiter Value)) → S (take a clause c gate item ws)
    take_sides clause c gate item [] = proceeds_sides clause (receives_from c) kinds.Take (Some (item.1, true)) (head_has c (item.0 + 1) ∷ slot_has c (item.0 % gate.capacity) None ∷ []) (tt, (tt, tt))
    take_sides clause c gate item (w ∷ ws) = asked (met_sides c w None _ (λ cells calm. proceeds_sides clause (receives_from c) kinds.Take (Some (item.1, true))
        (gate_has c (Some (without (w.go ∷ []) gate)) ∷ head_has c (item.0 + 1) ∷ tail_has c (s.tails c + 1) ∷ slot_has c (item.0 % gate.capacity) (Some (s.tails c, w.value)) ∷ cells)
        (tt, (tt, (tt, (tt, calm))))))

    receive_from_sides : (clause : Option ℕ) (c : ChName) (gate : GateContent) (zero : Value) (m : Attempt) (item : Option (ℕ × Value)) (ws : List (Waiter Value)) → (item ≡ None → has_item s c gate ≡ false) → (ws ≡ [] → gate.closed ≡ false → has_item s c gate ≡ false → S m) → S (receive_from a clause c gate zero m item ws)
    receive_from_sides clause c gate zero m (Some item) ws k h = take_sides clause c gate item ws
    receive_from_sides clause c gate zero m None (w ∷ ws) k h = met_sides c w None _ (λ cells calm. proceeds_sides clause (receives_from c) kinds.Meet (Some (w.value, true)) (gate_has c (Some (without (w.go ∷ []) gate)) ∷ cells) (tt, calm))
    receive_from_sides clause c gate zero m None [] k h = if_sides gate.closed (proceeds_sides clause (receives_from c) kinds.Closed (Some (zero, false)) [] tt) (λ e. h refl e (k refl))

    receive_sides : (clause : Option ℕ) (c : ChName) (zero : Value) (m : Attempt) → (Idle s (Receiving (Some c) zero) → S m) → S (receive a clause c zero m)
    receive_sides clause c zero m h = gate_sides c _ (λ gate at. item_sides c gate _ (λ item k.
        receive_from_sides clause c gate zero m item gate.senders k (λ none e left. h (gate, at, e, none, left))))

    communicate_sides : (clause : Option ℕ) (x : Communication) (m : Attempt) → (Idle s x → S m) → S (communicate a clause x m)
    communicate_sides clause (Sending (Some c) (gives v)) m h = send_sides clause c v m h
    communicate_sides clause (Sending (Some c) (faults f)) m h = no
    communicate_sides clause (Sending (Some c) wrong) m h = no
    communicate_sides clause (Sending None v) m h = h tt
    communicate_sides clause (Receiving (Some c) zero) m h = receive_sides clause c zero m h
    communicate_sides clause (Receiving None zero) m h = h tt
    communicate_sides clause Otherwise m h = h tt

    enqueued_sides : (ws : List (Option ℕ × Communication)) (cs : List ChName) (k : List Cell → Attempt) → ((cells : List Cell) → AllCalm cells → S (k cells)) → S (ask_enqueued a.name ws cs k)
    enqueued_sides ws [] k h = h [] tt
    enqueued_sides ws (c ∷ cs) k h = gate_sides c _ (λ gate at.
        let cell = gate_has c (Some (fold (λ gate w. enqueued a.name c gate w.0 w.1) gate ws)) in
        enqueued_sides ws cs (λ cells. k (cell ∷ cells)) (λ cells calm. h (cell ∷ cells) (tt, calm)))

    one_unmet : (i : Option ℕ) (x : Communication) (w : Wait) → Idle s x → In w (waits_for i x) → NoPartner s w
    one_unmet i (Sending (Some c) v) w h j = elim j [ inl e ↦ subst (NoPartner s) (sym e) (ap receivers_at h.1 ∙ ap (map (λ w. w.go)) h.3) | inr z ↦ absurd z ]
    one_unmet i (Sending None v) w h j = absurd j
    one_unmet i (Receiving (Some c) zero) w h j = elim j [ inl e ↦ subst (NoPartner s) (sym e) (ap senders_at h.1 ∙ ap (map (λ w. w.go)) h.3) | inr z ↦ absurd z ]
    one_unmet i (Receiving None zero) w h j = absurd j
    one_unmet i Otherwise w h j = absurd j

    all_unmet : (ws : List (Option ℕ × Communication)) (w : Wait) → AllIdle s ws → In w (all_waits ws) → NoPartner s w
    all_unmet [] w h j = absurd j
    all_unmet (x ∷ ws) w h j = elim (In-append_cases w (waits_for x.0 x.1) (all_waits ws) j) [ inl i ↦ one_unmet x.0 x.1 w h.0 i | inr i ↦ all_unmet ws w h.1 i ]

    wait_sides : (operation : Option Operation) (kind : Kind) (ws : List (Option ℕ × Communication)) → AllIdle s ws → Why → S (wait a operation kind ws)
    wait_sides operation kind ws h why = enqueued_sides ws (channels_but [] (all_waits ws)) _ (λ cells calm. record {
      sides = record {
        left = record (a.before) { status = waiting (all_waits ws); steps = a.before.steps + 1 };
        others = cells;
        is = ap (λ n. go_has n (Some (record (a.before) { status = waiting (all_waits ws); steps = a.before.steps + 1 })) ∷ cells) named;
        own = λ w i. all_unmet ws w h i;
        why = inr why;
        calm = calm;
      };
    })

    alone_sides : (x : Communication) → (Told x → Idle s x → Why) → S (proceed_or_wait a x)
    alone_sides (Sending (Some c) (gives v)) why =
        communicate_sides None (Sending (Some c) (gives v)) _ (λ h. wait_sides (option_map sends_on (Some c)) kinds.SendWait ((None, Sending (Some c) (gives v)) ∷ []) (h, tt) (why (v, refl) h))
    alone_sides (Sending (Some c) (faults f)) why = no
    alone_sides (Sending (Some c) wrong) why = no
    alone_sides (Sending None v) why = wait_sides None kinds.SendWait ((None, Sending None v) ∷ []) (tt, tt) (why tt tt)
    alone_sides (Receiving c zero) why = communicate_sides None (Receiving c zero) _ (λ h. wait_sides (option_map receives_from c) kinds.RecvWait ((None, Receiving c zero) ∷ []) (h, tt) (why tt h))
    alone_sides Otherwise why = no

    waiters_sides : (names : List (List ℕ)) (k : List (List ℕ × Goroutine × List Wait) → Attempt) → ((ws : List (List ℕ × Goroutine × List Wait)) → S (k ws)) → S (ask_waiters names k)
    waiters_sides [] k h = h []
    waiters_sides (n ∷ ns) k h = waiter_sides n _ (λ g w. waiters_sides ns (λ others. k ((n, g, w) ∷ others)) (λ ws. h ((n, g, w) ∷ ws)))

    awake_calm : (ws : List (List ℕ × Goroutine × List Wait)) (cells : List Cell) → AllCalm cells → AllCalm (map (λ w. go_has w.0 (Some (record (w.1) { status = ready }))) ws ++ cells)
    awake_calm [] cells calm = calm
    awake_calm (w ∷ ws) cells calm = (refl, awake_calm ws cells calm)

    close_sides : (c : Option ChName) → S (close a c)
    close_sides None = fault_sides None CloseOfNil
    close_sides (Some c) = gate_sides c _ (λ gate at. if_sides gate.closed (fault_sides (Some (closes c)) CloseOfClosed) (λ e.
        let names = once (map (λ w. w.go) gate.senders ++ map (λ w. w.go) gate.receivers) in
        waiters_sides names _ (λ ws. withdrawn_sides names (channels_but (c ∷ []) (flat_map (λ w. w.2) ws)) _ (λ cells calm. on_sides (goes_on a.frame) (tt, awake_calm ws cells calm)))))

    ready_sides : (x : Communication) (k : Bool → Attempt) → ((b : Bool) → (b ≡ false → Idle s x) → S (k b)) → S (ask_ready x k)
    ready_sides (Sending (Some c) v) k h = gate_sides c _ (λ gate at. room_sides c gate _ (λ o left.
        h (gate.closed || has_any gate.receivers || is_some o) (λ e.
        let each = each_false gate.closed (has_any gate.receivers) (is_some o) e in
        (gate, at, each.0, not_any gate.receivers each.1, left (no_some o each.2)))))
    ready_sides (Sending None v) k h = h false (λ e. tt)
    ready_sides (Receiving (Some c) zero) k h = gate_sides c _ (λ gate at. item_sides c gate _ (λ o left.
        h (gate.closed || has_any gate.senders || is_some o) (λ e.
        let each = each_false gate.closed (has_any gate.senders) (is_some o) e in
        (gate, at, each.0, not_any gate.senders each.1, left (no_some o each.2)))))
    ready_sides (Receiving None zero) k h = h false (λ e. tt)
    ready_sides Otherwise k h = h false (λ e. tt)

    none_ready_sides : (i : ℕ) (cs : List Communication) (m : Attempt) → (AllIdle s (numbered i cs) → S m) → S (if_none_ready cs m)
    none_ready_sides i [] m h = h tt
    none_ready_sides i (c ∷ cs) m h = ready_sides c _ (λ b e. if_sides b no (λ f. none_ready_sides (i + 1) cs m (λ k. h (e f, k))))

    pick_sides : (i : ℕ) (vs : Outcome (List Value)) (o : Option Communication) → S (pick a i vs o)
    pick_sides i vs None = no
    pick_sides i (gives vs) (Some c) = communicate_sides (Some i) c _ (λ h. no)
    pick_sides i (faults e) (Some c) = ready_sides c _ (λ b h. if_sides b (fault_sides None e) (λ f. no))
    pick_sides i wrong (Some c) = no

    default_sides : (cs : List Communication) (o : Option ℕ) → S (default a cs o)
    default_sides cs (Some i) = none_ready_sides 1 cs _ (λ h. given_sides (values_of cs) _ (λ vs. given_sides (past a.frame (Some i) None) _ (λ f. on_sides f tt)))
    default_sides cs None = no

    park_sides : (cs : List Communication) (o : Option ℕ) → (o ≡ None → (vs : List Value) → values_of cs ≡ gives vs → AllIdle s (numbered 1 cs) → Why) → S (park a cs o)
    park_sides cs (Some i) why = no
    park_sides cs None why = none_ready_sides 1 cs _ (λ h. by h (values_of cs) refl)
      where
        by : AllIdle s (numbered 1 cs) → (vs : Outcome (List Value)) → values_of cs ≡ vs → S (given a vs (λ vs. wait a None kinds.SelectWait (numbered 1 cs)))
        by h (gives vs) e = wait_sides None kinds.SelectWait (numbered 1 cs) h (why refl vs e h)
        by h (faults f) e = fault_sides None f
        by h wrong e = no

    -- what is known of a select that waits
    abbrev Parked : List Communication → Choice → Type 0
    Parked cs choice = choice ≡ choices.Park → default_from 1 cs ≡ None → (vs : List Value) → values_of cs ≡ gives vs → AllIdle s (numbered 1 cs) → Why

    choose_sides : (cs : List Communication) (choice : Choice) → Parked cs choice → S (choose a cs choice)
    choose_sides cs choices.Plain why = no
    choose_sides cs (choices.Pick i) why = pick_sides i (values_of cs) (clause_at cs i)
    choose_sides cs choices.Default why = default_sides cs (default_from 1 cs)
    choose_sides cs choices.Park why = park_sides cs (default_from 1 cs) (why refl)

    enter_sides : (function : ℕ) (vs : List Value) → S (enter a function vs)
    enter_sides function vs = if_sides (is_deepest a.before.frames) (fault_sides None CallDepth) (λ e.
        given_sides (call_of a.program function vs) _ (λ f. does_sides (with_frames a (f ∷ a.before.frames)) (up_calm a.before up) tt))

    finish_sides : (n : List ℕ) → S (finish a n)
    finish_sides [] = does_sides (record (a.before) { status = finished; frames = []; steps = a.before.steps + 1 }) refl (tt, tt)
    finish_sides (n ∷ ns) = does_sides (record (a.before) { status = finished; frames = []; steps = a.before.steps + 1 }) refl tt

    leave_sides : (v : Value) (fs : List Frame) → S (leave a v fs)
    leave_sides v [] = finish_sides a.name
    leave_sides v (f ∷ fs) = given_sides (resumed f v) _ (λ f. does_sides (with_frames a (f ∷ fs)) (up_calm a.before up) tt)

    go_sides : (function : ℕ) (vs : List Value) → S (go a function vs)
    go_sides function vs = if_sides (nat_le most_counts (length a.name)) (fault_sides None NameDepth) (λ e.
        if_sides (nat_le greatest_count a.before.children) (fault_sides None NameCount) (λ e. asked (by (s.goroutines (child a)))))
      where
        by : (o : Option Goroutine) → S (if_absent (given a (call_of a.program function vs) (λ f.
            simply a kinds.Go (record (onward a (goes_on a.frame)) { children = a.before.children + 1 }) (go_has (child a) (Some (started f)) ∷ []))) o)
        by None = given_sides (call_of a.program function vs) _ (λ f. does_sides (record (onward a (goes_on a.frame)) { children = a.before.children + 1 }) (up_calm a.before up) (refl, tt))
        by (Some g) = no

    counted_sides : (operation : Option Operation) (n : ℕ) → S (counted a operation n)
    counted_sides operation n = given_sides (resumed a.frame _) _ (λ f. on_sides f tt)

    len_sides : (c : Option ChName) → S (take_len a c)
    len_sides None = counted_sides None 0
    len_sides (Some c) = gate_sides c _ (λ gate at. asked (asked (counted_sides (Some (takes_len_of c)) (s.tails c - s.heads c))))

    cap_sides : (c : Option ChName) → S (take_cap a c)
    cap_sides None = counted_sides None 0
    cap_sides (Some c) = gate_sides c _ (λ gate at. counted_sides (Some (takes_cap_of c)) gate.capacity)

    make_sides : (n : ℤ) → S (make a n)
    make_sides (negsuc n) = fault_sides None BadSize
    make_sides (pos n) = if_sides (nat_le (most_places + 1) n) (fault_sides None BadSize) (λ e.
        if_sides (nat_le greatest_count a.before.channels) (fault_sides None NameCount) (λ e. given_sides (resumed a.frame _) _ (λ f.
        does_sides (record (onward a f) { channels = a.before.channels + 1 }) (up_calm a.before up) (tt, tt))))

    print_sides : (line : List ℕ) → S (print a line)
    print_sides line = record {
      sides = record {
        left = record (onward a (goes_on a.frame)) { text = a.before.text ++ line ∷ [] };
        others = [];
        is = ap (λ n. go_has n (Some (record (onward a (goes_on a.frame)) { text = a.before.text ++ line ∷ [] })) ∷ []) named;
        own = λ w i. absurd (subst (In w) (for_nothing (Some a.before) (up_calm a.before up)) i);
        why = inl (up_calm a.before up);
        calm = tt;
      };
    }

    act_sides : (d : Deed) → ((x : Communication) → d ≡ Communicates x → Told x → Idle s x → Why) → S (act a d)
    act_sides (Moves on) why = on_sides on tt
    act_sides (Prints line) why = print_sides line
    act_sides (Enters function vs) why = enter_sides function vs
    act_sides (Leaves v) why = leave_sides v a.below
    act_sides (Starts function vs) why = go_sides function vs
    act_sides (Makes n) why = make_sides n
    act_sides (TakesLen c) why = len_sides c
    act_sides (TakesCap c) why = cap_sides c
    act_sides (Closes c) why = close_sides c
    act_sides (Communicates c) why = alone_sides c (why c refl)
    act_sides (Chooses cs) why = no

    -- what is known of a step that waits, by what it does
    pub record Known (choice : Choice) (d : Outcome Deed) : Type 0 where
      pub one : (x : Communication) → choice ≡ choices.Plain → d ≡ gives (Communicates x) → Told x → Idle s x → Why
      pub many : (cs : List Communication) → d ≡ gives (Chooses cs) → Parked cs choice

    plain_sides : (choice : Choice) (d : Deed) → Known choice (gives d) → S (act_by a choice (gives d))
    plain_sides choice (Chooses cs) why = choose_sides cs choice (why.many cs refl)
    plain_sides choices.Plain d why = act_sides d (λ x e. why.one x refl (ap gives e))
    plain_sides _ d why = no

    pub by_sides : (choice : Choice) (d : Outcome Deed) → Known choice d → S (act_by a choice d)
    by_sides choice (gives d) why = plain_sides choice d why
    by_sides choices.Plain (faults e) why = fault_sides None e
    by_sides choices.Plain wrong why = no
    by_sides _ (faults e) why = no
    by_sides _ wrong why = no
