-- What the rules of a goroutine that is ready refuse: choices alone, and in no sound state anything else.
use Rattle.std.proofs.Common.{fold, ℕ, ℤ, pos, negsuc, ◌+◌, ◌%◌, ◌==◌, ◌||◌, nat_le, Bool, true, false, if◌then◌else◌, List, [], ◌∷◌, ◌++◌, map, length, is_some, Option, Some, None, option_map}
use Rattle.std.specs.List.{flat_map}
use Rattle.gr_base.specs.declared.names.ChName.{ChName}
use Rattle.gr_base.specs.declared.values.Value.{Value}
use Rattle.gr_base.specs.declared.events.Choice.{Choice}
use Rattle.gr_base.specs.declared.events.Choice.TheVariants as choices
use Rattle.gr_base.specs.declared.kinds.Kind.{Kind}
use Rattle.gr_base.specs.declared.kinds.Kind.TheVariants as kinds
use Rattle.gr_base.specs.declared.objects.Object.{Object}
use Rattle.gr_channels.specs.declared.waiter.Waiter.{Waiter}
use Rattle.gr_channels.specs.Objects.{GateContent, has_any}
use Rattle.gr_rules.specs.Outcomes.{Outcome, gives, faults, wrong}
use Rattle.gr_rules.specs.Frames.{Frame}
use Rattle.gr_rules.specs.Deeds.{Communication, Sending, Receiving, Otherwise, Deed, Moves, Prints, Enters, Leaves, Starts, Makes, TakesLen, TakesCap, Closes, Communicates, Chooses, past, resumed}
use Rattle.gr_rules.specs.Goroutines.{Wait, Status, ready, waiting, finished, Goroutine}
use Rattle.gr_rules.specs.States.{Cell, gate_has, tail_has, head_has, slot_has, State, look, call_of}
use Rattle.gr_rules.specs.Limits.{most_places, most_counts, greatest_count}
use Rattle.gr_rules.specs.Attempts.{Refusal, no_such_choice, unsound, Operation, sends_on, receives_from, Report, Attempt, refuse, perform, ask, if_there, ask_gate, room_for, ask_room, ask_item}
use Rattle.gr_rules.specs.Actors.{Actor, fault, given, if_gives, without, if_waiting, ask_waiter, ask_withdrawn, channels_but, clause_at, met, ask_met}
use Rattle.gr_rules.specs.Communications.{proceeds, send_to, send, take, receive_from, receive, communicate, all_waits, enqueued, ask_enqueued, wait, proceed_or_wait, once, ask_waiters, close_open, close}
use Rattle.gr_rules.specs.Selects.{values_of, ask_ready, if_none_ready, pick, default_from, numbered, default, park, choose}
use Rattle.gr_rules.specs.Steps.{is_deepest, finish, leave, child, if_absent, make, take_len, take_cap, act}

-- each refusal of the attempt in the state is one of these, to which `unsound` belongs
module _ (s : State) (P : Refusal → Type 0) (fits : P unsound) where
  abbrev pub Refuses : Attempt → Type 0
  Refuses (refuse r) = P r
  Refuses (perform report cells) = Unit {0}
  Refuses (ask o f) = Refuses (f (look s o))

  pub record R (x : Attempt) : Type 0 where
    pub refuses : Refuses x

  pub not_sound : R (refuse unsound)
  not_sound = record { refuses = fits }

  pub refused : {r : Refusal} → P r → R (refuse r)
  refused h = record { refuses = h }

  pub done : {r : Report} {cells : List Cell} → R (perform r cells)
  done = record { refuses = tt }

  pub asked : {o : Object} {f : Cell → Attempt} → R (f (look s o)) → R (ask o f)
  asked h = record { refuses = h.refuses }

  pub if_r : (b : Bool) {x y : Attempt} → R x → R y → R (if b then x else y)
  if_r true p q = p
  if_r false p q = q

  there_r : {A : Type 0} {k : A → Attempt} (o : Option A) → ((v : A) → R (k v)) → R (if_there k o)
  there_r (Some v) h = h v
  there_r None h = not_sound

  pub gate_r : {c : ChName} {k : GateContent → Attempt} → ((gate : GateContent) → R (k gate)) → R (ask_gate c k)
  gate_r {c} h = asked (there_r (s.gates c) h)

  pub room_r : (c : ChName) (gate : GateContent) (k : Option ℕ → Attempt) → ((x : Option ℕ) → R (k x)) → R (ask_room c gate k)
  room_r c gate k h = asked (if_r (gate.capacity == 0) (h None) (asked (h (room_for (s.tails c) (s.slots c (s.tails c % gate.capacity))))))

  pub item_r : (c : ChName) (gate : GateContent) (k : Option (ℕ × Value) → Attempt)
      → ((x : Option (ℕ × Value)) → R (k x)) → R (ask_item c gate k)
  item_r c gate k h = asked (if_r (gate.capacity == 0) (h None) (asked (h (option_map (λ x. (s.heads c, x.1)) (s.slots c (s.heads c % gate.capacity))))))

  withdrawn_r : (names : List (List ℕ)) (cs : List ChName) (k : List Cell → Attempt) → ((cells : List Cell) → R (k cells))
      → R (ask_withdrawn names cs k)
  withdrawn_r names [] k h = h []
  withdrawn_r names (c ∷ cs) k h = gate_r (λ gate. withdrawn_r names cs (λ cells. k (gate_has c (Some (without names gate)) ∷ cells)) (λ cells. h _))

  enqueued_r : (name : List ℕ) (ws : List (Option ℕ × Communication)) (cs : List ChName) (k : List Cell → Attempt)
      → ((cells : List Cell) → R (k cells)) → R (ask_enqueued name ws cs k)
  enqueued_r name ws [] k h = h []
  enqueued_r name ws (c ∷ cs) k h =
      gate_r (λ gate. enqueued_r name ws cs (λ cells. k (gate_has c (Some (fold (λ gate w. enqueued name c gate w.0 w.1) gate ws)) ∷ cells)) (λ cells. h _))

  if_gives_r : {A : Type 0} {k : A → Attempt} (x : Outcome A) → ((v : A) → R (k v)) → R (if_gives k x)
  if_gives_r (gives v) h = h v
  if_gives_r (faults e) h = not_sound
  if_gives_r wrong h = not_sound

  status_r : {k : List Wait → Attempt} (x : Status) → ((ws : List Wait) → R (k ws)) → R (if_waiting k x)
  status_r ready h = not_sound
  status_r (waiting ws) h = h ws
  status_r finished h = not_sound

  waiter_r : (n : List ℕ) (k : Goroutine → List Wait → Attempt)
      → ((g : Goroutine) (ws : List Wait) → R (k g ws)) → R (ask_waiter n k)
  waiter_r n k h = asked (there_r (s.goroutines n) (λ g. status_r g.status (h g)))

  waiters_r : (names : List (List ℕ)) (k : List (List ℕ × Goroutine × List Wait) → Attempt)
      → ((ws : List (List ℕ × Goroutine × List Wait)) → R (k ws)) → R (ask_waiters names k)
  waiters_r [] k h = h []
  waiters_r (n ∷ ns) k h = waiter_r n (λ g w. ask_waiters ns (λ others. k ((n, g, w) ∷ others))) (λ g w. waiters_r ns (λ others. k ((n, g, w) ∷ others)) (λ ws. h _))

  pub met_r : {X : Type 0} (c : ChName) (w : Waiter X) (got : Option (Value × Bool)) (k : List Cell → Attempt)
      → ((cells : List Cell) → R (k cells)) → R (ask_met c w got k)
  met_r c w got k h = waiter_r w.go _ (λ g ws. withdrawn_r (w.go ∷ []) (channels_but (c ∷ []) ws) _ (λ cells. if_gives_r (met w.case got g g.frames) (λ q. h _)))

  module _ (a : Actor) where
    pub given_r : {A : Type 0} {k : A → Attempt} (x : Outcome A) → ((v : A) → R (k v)) → R (given a x k)
    given_r (gives v) h = h v
    given_r (faults e) h = done
    given_r wrong h = not_sound

    goes : {k : Frame → Attempt} (clause : Option ℕ) (got : Option (Value × Bool)) → ((f : Frame) → R (k f))
        → R (given a (past a.frame clause got) k)
    goes clause got h = given_r (past a.frame clause got) h

    pub send_to_r : (clause : Option ℕ) (c : ChName) (gate : GateContent) (v : Value) (otherwise : Attempt) (ws : List (Waiter (Unit {0})))
        → R otherwise → R (send_to a clause c gate v otherwise ws)
    send_to_r clause c gate v otherwise (w ∷ ws) h = met_r c w (Some (v, true))
        (λ cells. proceeds a clause (sends_on c) kinds.Hand None (gate_has c (Some (without (w.go ∷ []) gate)) ∷ cells)) (λ cells. goes clause None (λ f. done))
    send_to_r clause c gate v otherwise [] h = room_r c gate (elim [
      | Some n ↦ proceeds a clause (sends_on c) kinds.Buffer None (tail_has c (n + 1) ∷ slot_has c (n % gate.capacity) (Some (n, v)) ∷ [])
      | None ↦ otherwise
    ]) (elim [ Some n ↦ goes clause None (λ f. done) | None ↦ h ])

    send_r : (clause : Option ℕ) (c : ChName) (v : Value) (otherwise : Attempt) → R otherwise → R (send a clause c v otherwise)
    send_r clause c v otherwise h = gate_r (λ gate. if_r gate.closed done (send_to_r clause c gate v otherwise gate.receivers h))

    pub take_r : (clause : Option ℕ) (c : ChName) (gate : GateContent) (item : ℕ × Value) (ws : List (Waiter Value))
        → R (take a clause c gate item ws)
    take_r clause c gate item [] = goes clause (Some (item.1, true)) (λ f. done)
    take_r clause c gate item (w ∷ ws) = asked (met_r c w None (λ cells. proceeds a clause (receives_from c) kinds.Take (Some (item.1, true)) (
        gate_has c (Some (without (w.go ∷ []) gate)) ∷ head_has c (item.0 + 1) ∷ tail_has c (s.tails c + 1)
        ∷ slot_has c (item.0 % gate.capacity) (Some (s.tails c, w.value)) ∷ cells)) (λ cells. goes clause (Some (item.1, true)) (λ f. done)))

    pub receive_from_r : (clause : Option ℕ) (c : ChName) (gate : GateContent) (zero : Value) (otherwise : Attempt) (item : Option (ℕ × Value)) (ws : List (Waiter Value))
        → R otherwise → R (receive_from a clause c gate zero otherwise item ws)
    receive_from_r clause c gate zero otherwise (Some item) ws h = take_r clause c gate item ws
    receive_from_r clause c gate zero otherwise None (w ∷ ws) h = met_r c w None
        (λ cells. proceeds a clause (receives_from c) kinds.Meet (Some (w.value, true)) (gate_has c (Some (without (w.go ∷ []) gate)) ∷ cells)) (λ cells. goes clause (Some (w.value, true)) (λ f. done))
    receive_from_r clause c gate zero otherwise None [] h = if_r gate.closed (goes clause (Some (zero, false)) (λ f. done)) h

    receive_r : (clause : Option ℕ) (c : ChName) (zero : Value) (otherwise : Attempt) → R otherwise
        → R (receive a clause c zero otherwise)
    receive_r clause c zero otherwise h = gate_r (λ gate. item_r c gate (λ item. receive_from a clause c gate zero otherwise item gate.senders) (λ item. receive_from_r clause c gate zero otherwise item gate.senders h))

    pub communicate_r : (clause : Option ℕ) (x : Communication) (otherwise : Attempt) → R otherwise
        → R (communicate a clause x otherwise)
    communicate_r clause (Sending (Some c) (gives v)) otherwise h = send_r clause c v otherwise h
    communicate_r clause (Sending (Some c) (faults e)) otherwise h = not_sound
    communicate_r clause (Sending (Some c) wrong) otherwise h = not_sound
    communicate_r clause (Sending None v) otherwise h = h
    communicate_r clause (Receiving (Some c) zero) otherwise h = receive_r clause c zero otherwise h
    communicate_r clause (Receiving None zero) otherwise h = h
    communicate_r clause Otherwise otherwise h = h

    pub wait_r : (operation : Option Operation) (kind : Kind) (ws : List (Option ℕ × Communication))
        → R (wait a operation kind ws)
    wait_r operation kind ws = enqueued_r a.name ws (channels_but [] (all_waits ws)) _ (λ cells. done)

    alone_r : (x : Communication) → R (proceed_or_wait a x)
    alone_r (Sending c v) = communicate_r None (Sending c v) (wait a (option_map sends_on c) kinds.SendWait ((None, Sending c v) ∷ [])) (wait_r (option_map sends_on c) kinds.SendWait ((None, Sending c v) ∷ []))
    alone_r (Receiving c zero) = communicate_r None (Receiving c zero) (wait a (option_map receives_from c) kinds.RecvWait ((None, Receiving c zero) ∷ [])) (wait_r (option_map receives_from c) kinds.RecvWait ((None, Receiving c zero) ∷ []))
    alone_r Otherwise = not_sound

    close_open_r : (c : ChName) (gate : GateContent) (names : List (List ℕ)) → R (close_open a c gate names)
    close_open_r c gate names = waiters_r names _ (λ ws. withdrawn_r names (channels_but (c ∷ []) (flat_map (λ w. w.2) ws)) _ (λ cells. done))

    close_r : (c : Option ChName) → R (close a c)
    close_r None = done
    close_r (Some c) = gate_r (λ gate. if_r gate.closed done (close_open_r c gate (once (map (λ w. w.go) gate.senders ++ map (λ w. w.go) gate.receivers))))

    leave_r : (v : Value) (fs : List Frame) → R (leave a v fs)
    leave_r v [] = finish_r a.name
      where
        finish_r : (name : List ℕ) → R (finish a name)
        finish_r [] = done
        finish_r (n ∷ ns) = done
    leave_r v (f ∷ fs) = given_r (resumed f v) (λ f. done)

    absent_r : {x : Attempt} (o : Option Goroutine) → R x → R (if_absent x o)
    absent_r None h = h
    absent_r (Some g) h = not_sound

    make_r : (n : ℤ) → R (make a n)
    make_r (negsuc n) = done
    make_r (pos n) = if_r (nat_le (most_places + 1) n) done (if_r (nat_le greatest_count a.before.channels) done (given_r (resumed a.frame _) (λ f. done)))

    len_r : (c : Option ChName) → R (take_len a c)
    len_r None = given_r (resumed a.frame _) (λ f. done)
    len_r (Some c) = gate_r (λ gate. asked (asked (given_r (resumed a.frame _) (λ f. done))))

    cap_r : (c : Option ChName) → R (take_cap a c)
    cap_r None = given_r (resumed a.frame _) (λ f. done)
    cap_r (Some c) = gate_r (λ gate. given_r (resumed a.frame _) (λ f. done))

    pub act_r : (d : Deed) → R (act a d)
    act_r (Moves on) = done
    act_r (Prints line) = done
    act_r (Enters function vs) = if_r (is_deepest a.before.frames) done (given_r (call_of a.program function vs) (λ f. done))
    act_r (Leaves v) = leave_r v a.below
    act_r (Starts function vs) = if_r (nat_le most_counts (length a.name)) done (if_r (nat_le greatest_count a.before.children) done
        (asked (absent_r (s.goroutines (child a)) (given_r (call_of a.program function vs) (λ f. done)))))
    act_r (Makes n) = make_r n
    act_r (TakesLen c) = len_r c
    act_r (TakesCap c) = cap_r c
    act_r (Closes c) = close_r c
    act_r (Communicates c) = alone_r c
    act_r (Chooses cs) = not_sound

    -- a select refuses choices too
    module _ (choice_fits : P no_such_choice) where
      ready_r : (x : Communication) (k : Bool → Attempt) → ((b : Bool) → R (k b)) → R (ask_ready x k)
      ready_r (Sending (Some c) v) k h = gate_r (λ gate. room_r c gate (λ room. k (gate.closed || has_any gate.receivers || is_some room)) (λ room. h _))
      ready_r (Sending None v) k h = h false
      ready_r (Receiving (Some c) zero) k h = gate_r (λ gate. item_r c gate (λ item. k (gate.closed || has_any gate.senders || is_some item)) (λ item. h _))
      ready_r (Receiving None zero) k h = h false
      ready_r Otherwise k h = h false

      none_ready_r : (cs : List Communication) (x : Attempt) → R x → R (if_none_ready cs x)
      none_ready_r [] x h = h
      none_ready_r (c ∷ cs) x h = ready_r c (λ b. if b then refuse no_such_choice else if_none_ready cs x) (λ b. if_r b (refused choice_fits) (none_ready_r cs x h))

      pick_r : (i : ℕ) (vs : Outcome (List Value)) (o : Option Communication) → R (pick a i vs o)
      pick_r i vs None = refused choice_fits
      pick_r i (gives vs) (Some c) = communicate_r (Some i) c _ (refused choice_fits)
      pick_r i (faults e) (Some c) = ready_r c (λ b. if b then fault a None e else refuse no_such_choice) (λ b. if_r b done (refused choice_fits))
      pick_r i wrong (Some c) = not_sound

      default_r : (cs : List Communication) (o : Option ℕ) → R (default a cs o)
      default_r cs (Some i) = none_ready_r cs _ (given_r (values_of cs) (λ vs. goes (Some i) None (λ f. done)))
      default_r cs None = refused choice_fits

      park_r : (cs : List Communication) (o : Option ℕ) → R (park a cs o)
      park_r cs (Some i) = refused choice_fits
      park_r cs None = none_ready_r cs _ (given_r (values_of cs) (λ vs. wait_r None kinds.SelectWait (numbered 1 cs)))

      pub choose_r : (cs : List Communication) (x : Choice) → R (choose a cs x)
      choose_r cs choices.Plain = refused choice_fits
      choose_r cs (choices.Pick i) = pick_r i (values_of cs) (clause_at cs i)
      choose_r cs choices.Default = default_r cs (default_from 1 cs)
      choose_r cs choices.Park = park_r cs (default_from 1 cs)
