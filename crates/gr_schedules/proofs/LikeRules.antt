-- No rule hangs on counts of steps, on texts, or on the numbers that the items of a buffer have.
use Rattle.std.proofs.Common.{fold, ◌≡◌, ℕ, ℤ, pos, negsuc, ◌+◌, ◌-◌, ◌%◌, ◌==◌, nat_le, Bool, true, false, ◌||◌, if◌then◌else◌, List, [], ◌∷◌, ◌++◌, map, length, is_some, Option, Some, None, option_map, refl, sym, ap, subst, arith}
use Rattle.std.specs.List.{flat_map}
use Rattle.gr_base.specs.declared.names.ChName.{ChName}
use Rattle.gr_base.specs.declared.values.Value.{Value}
use Rattle.gr_base.specs.declared.events.Choice.{Choice}
use Rattle.gr_base.specs.declared.events.Choice.TheVariants as choices
use Rattle.gr_base.specs.declared.events.Event.{Event}
use Rattle.gr_base.specs.declared.kinds.Fault.{Fault}
use Rattle.gr_base.specs.declared.kinds.Fault.TheVariants.{SendOnClosed, CloseOfClosed, CloseOfNil, BadSize, CallDepth, NameDepth, NameCount}
use Rattle.gr_base.specs.declared.kinds.Kind.{Kind}
use Rattle.gr_base.specs.declared.kinds.Kind.TheVariants as kinds
use Rattle.gr_channels.specs.declared.waiter.Waiter.{Waiter}
use Rattle.gr_channels.specs.Objects.{GateContent, has_any}
use Rattle.gr_program.specs.Programs.{Program}
use Rattle.gr_rules.specs.Outcomes.{Outcome, gives, faults, wrong, ◌>>=◌}
use Rattle.gr_rules.specs.Operators.{same_channel}
use Rattle.gr_rules.specs.Frames.{Frame, goes_on}
use Rattle.gr_rules.specs.Deeds.{Communication, Sending, Receiving, Otherwise, Deed, Moves, Prints, Enters, Leaves, Starts, Makes, TakesLen, TakesCap, Closes, Communicates, Chooses, deed, past, resumed}
use Rattle.gr_rules.specs.Goroutines.{Wait, Status, ready, waiting, finished, Goroutine, started}
use Rattle.gr_rules.specs.States.{Run, live, ended, faulted, Cell, go_has, gate_has, tail_has, slot_has, State, call_of}
use Rattle.gr_rules.specs.Attempts.{Operation, sends_on, receives_from, takes_len_of, takes_cap_of, closes, Attempt, ask_go, if_there, ask_gate, room_for, ask_room, ask_item}
use Rattle.gr_rules.specs.Actors.{Actor, with_frames, onward, does, simply, fault, given, if_gives, without, channels_but, if_waiting, ask_waiter, ask_withdrawn, clause_at, met, ask_met}
use Rattle.gr_rules.specs.Communications.{proceeds, send_to, send, take, receive_from, receive, communicate, all_waits, enqueued, ask_enqueued, wait, proceed_or_wait, once, ask_waiters, close_open, close}
use Rattle.gr_rules.specs.Selects.{values_of, ask_ready, if_none_ready, pick, default_from, numbered, default, park, choose}
use Rattle.gr_rules.specs.Steps.{is_deepest, enter, finish, leave, child, if_absent, go, new_channel, make, counted, take_len, take_cap, print, act, act_by, act_in, if_ready, if_known, if_live, attempt}
use Rattle.gr_rules.specs.Limits.{most_counts, most_places, greatest_count}
use Rattle.gr_schedules.proofs.LikeAttempts.{aged, LikeGo, neither, both, Shifted, LikeItem, no_item, an_item, LikeSlots, KeepsCapacity, Like, run_cell, go_cell, gate_cell, tail_cell, head_cell, slot_cell, LikeCells, no_cells, more_cells, LikeTry, refuses, performs, asks, next_shifted}

-- what a send comes to that nobody waits for
abbrev buffering : Actor → Option ℕ → ChName → GateContent → Value → Attempt → Option ℕ → Attempt
buffering a clause c gate v otherwise room = elim room [
  | Some n ↦ proceeds a clause (sends_on c) kinds.Buffer None (tail_has c (n + 1) ∷ slot_has c (n % gate.capacity) (Some (n, v)) ∷ [])
  | None ↦ otherwise
]

-- what closing a channel comes to, once those that wait are known
abbrev closing : Actor → ChName → GateContent → List (List ℕ × Goroutine × List Wait) → List Cell → Attempt
closing a c gate us cells = does a None (Some (closes c)) kinds.Close (onward a (goes_on a.frame))
    (gate_has c (Some (record gate { closed = true; senders = []; receivers = [] })) ∷ map (λ z. go_has z.0 (Some (record (z.1) { status = ready }))) us ++ cells)

-- what starting a goroutine comes to, where its name is free
abbrev begins : Actor → ℕ → List Value → Attempt
begins a function vs = given a (call_of a.program function vs) (λ f.
    simply a kinds.Go (record (onward a (goes_on a.frame)) { children = a.before.children + 1 }) (go_has (child a) (Some (started f)) ∷ []))

-- the capacities of the channels that are there
abbrev pub capacities_in : State → ChName → Option ℕ
capacities_in s c = option_map (λ (gate : GateContent). gate.capacity) (s.gates c)

module _ (x y : ChName → ℕ) (s r : State) (w : Like x y (capacities_in s) s r) where
  abbrev caps : ChName → Option ℕ
  caps = capacities_in s

  abbrev pub L : Attempt → Attempt → Type 0
  L a b = LikeTry x y caps s r a b

  abbrev Cells : List Cell → List Cell → Type 0
  Cells cs ds = LikeCells x y caps cs ds

  if_like : {a b c d : Attempt} (t : Bool) → L a b → L c d → L (if t then a else c) (if t then b else d)
  if_like true h k = h
  if_like false h k = k

  -- a gate that has the capacity of its channel
  abbrev At : ChName → GateContent → Type 0
  At c gate = caps c ≡ Some gate.capacity

  kept : (c : ChName) (gate : GateContent) → At c gate → KeepsCapacity x y caps (caps c) (Some gate)
  kept c gate at = subst (λ o. KeepsCapacity x y caps o (Some gate)) (sym at) (gate, refl, refl)

  gate_like : (c : ChName) (k l : GateContent → Attempt) → ((gate : GateContent) → At c gate → L (k gate) (l gate)) → L (ask_gate c k) (ask_gate c l)
  gate_like c k l h = asks (subst (λ g. L (if_there k (s.gates c)) (if_there l g)) (w.gates c) (by (s.gates c) refl))
    where
      by : (g : Option GateContent) → s.gates c ≡ g → L (if_there k g) (if_there l g)
      by None e = refuses
      by (Some gate) e = h gate (ap (option_map (λ (gate : GateContent). gate.capacity)) e)

  -- what the slot of a number has
  item_at : (c : ChName) (k n m : ℕ) → caps c ≡ Some k → Shifted x y caps c n m → LikeItem x y caps (s.slots c (n % k)) (r.slots c (m % k))
  item_at c k n m at h =
      let all : (number : ℕ) → LikeItem x y caps (s.slots c ((number + x c) % k)) (r.slots c ((number + y c) % k)) = subst (λ o. LikeSlots x y caps c o (s.slots c) (r.slots c)) at (w.slots c) in
      subst (λ i. LikeItem x y caps (s.slots c (i % k)) (r.slots c (m % k))) (sym h.first)
      (subst (λ i. LikeItem x y caps (s.slots c ((h.number + x c) % k)) (r.slots c (i % k))) (sym h.second) (all h.number))

  room_like : (c : ChName) (gate : GateContent) (k l : Option ℕ → Attempt) → At c gate → L (k None) (l None) → ((n m : ℕ) → Shifted x y caps c n m → L (k (Some n)) (l (Some m)))
      → L (ask_room c gate k) (ask_room c gate l)
  room_like c gate k l at none some = asks (if_like (gate.capacity == 0) none (asks (by (s.slots c (s.tails c % gate.capacity)) (r.slots c (r.tails c % gate.capacity))
      (item_at c gate.capacity (s.tails c) (r.tails c) at (w.tails c)))))
    where
      by : (o q : Option (ℕ × Value)) → LikeItem x y caps o q → L (k (room_for (s.tails c) o)) (l (room_for (r.tails c) q))
      by _ _ no_item = some (s.tails c) (r.tails c) (w.tails c)
      by _ _ (an_item n m v) = none

  item_like : (c : ChName) (gate : GateContent) (k l : Option (ℕ × Value) → Attempt) → At c gate → L (k None) (l None)
      → ((n m : ℕ) (v : Value) → Shifted x y caps c n m → L (k (Some (n, v))) (l (Some (m, v)))) → L (ask_item c gate k) (ask_item c gate l)
  item_like c gate k l at none some = asks (if_like (gate.capacity == 0) none (asks (by (s.slots c (s.heads c % gate.capacity)) (r.slots c (r.heads c % gate.capacity))
      (item_at c gate.capacity (s.heads c) (r.heads c) at (w.heads c)))))
    where
      by : (o q : Option (ℕ × Value)) → LikeItem x y caps o q → L (k (option_map (λ z. (s.heads c, z.1)) o)) (l (option_map (λ z. (r.heads c, z.1)) q))
      by _ _ no_item = none
      by _ _ (an_item n m v) = some (s.heads c) (r.heads c) v (w.heads c)

  waiter_like : (name : List ℕ) (k l : Goroutine → List Wait → Attempt) → ((g : Goroutine) (n : ℕ) (text : List (List ℕ)) (ws : List Wait) → L (k g ws) (l (aged g n text) ws))
      → L (ask_waiter name k) (ask_waiter name l)
  waiter_like name k l h = asks (by (s.goroutines name) (r.goroutines name) (w.goroutines name))
    where
      by_status : (g : Goroutine) (n : ℕ) (text : List (List ℕ)) (status : Status) → L (if_waiting (k g) status) (if_waiting (l (aged g n text)) status)
      by_status g n text ready = refuses
      by_status g n text (waiting ws) = h g n text ws
      by_status g n text finished = refuses

      by : (a b : Option Goroutine) → LikeGo a b → L (if_there (λ g. if_waiting (k g) g.status) a) (if_there (λ g. if_waiting (l g) g.status) b)
      by _ _ neither = refuses
      by _ _ (both g n text) = by_status g n text g.status

  without_at : (c : ChName) (names : List (List ℕ)) (gate : GateContent) → At c gate → At c (without names gate)
  without_at c [] gate t = t
  without_at c (n ∷ ns) gate t = without_at c ns _ t

  withdrawn_like : (names : List (List ℕ)) (cs : List ChName) (k l : List Cell → Attempt) → ((xs ys : List Cell) → Cells xs ys → L (k xs) (l ys))
      → L (ask_withdrawn names cs k) (ask_withdrawn names cs l)
  withdrawn_like names [] k l h = h [] [] no_cells
  withdrawn_like names (c ∷ cs) k l h = gate_like c _ _ (λ gate at.
      let cell = gate_has c (Some (without names gate)) in
      withdrawn_like names cs (λ cells. k (cell ∷ cells)) (λ cells. l (cell ∷ cells))
      (λ xs ys like. h (cell ∷ xs) (cell ∷ ys) (more_cells (gate_cell c (Some (without names gate)) (kept c (without names gate) (without_at c names gate at))) like)))

  met_like : {X : Type 0} (c : ChName) (v : Waiter X) (got : Option (Value × Bool)) (k l : List Cell → Attempt) → ((xs ys : List Cell) → Cells xs ys → L (k xs) (l ys))
      → L (ask_met c v got k) (ask_met c v got l)
  met_like c v got k l h = waiter_like v.go _ _ (λ g n text ws. withdrawn_like (v.go ∷ []) (channels_but (c ∷ []) ws) _ _ (λ xs ys like. by_frames g n text xs ys like g.frames))
    where
      by_past : (g : Goroutine) (n : ℕ) (text : List (List ℕ)) (xs ys : List Cell) → Cells xs ys → (fs : List Frame) (o : Outcome Frame)
          → L (if_gives (λ partner. k (go_has v.go (Some partner) ∷ xs)) (o >>= λ f. gives (record g { status = ready; frames = f ∷ fs })))
          (if_gives (λ partner. l (go_has v.go (Some partner) ∷ ys)) (o >>= λ f. gives (record (aged g n text) { status = ready; frames = f ∷ fs })))
      by_past g n text xs ys like fs (gives f) = h _ _ (more_cells (go_cell v.go (both (record g { status = ready; frames = f ∷ fs }) n text)) like)
      by_past g n text xs ys like fs (faults e) = refuses
      by_past g n text xs ys like fs wrong = refuses

      by_frames : (g : Goroutine) (n : ℕ) (text : List (List ℕ)) (xs ys : List Cell) → Cells xs ys → (fs : List Frame)
          → L (if_gives (λ partner. k (go_has v.go (Some partner) ∷ xs)) (met v.case got g fs)) (if_gives (λ partner. l (go_has v.go (Some partner) ∷ ys)) (met v.case got (aged g n text) fs))
      by_frames g n text xs ys like [] = refuses
      by_frames g n text xs ys like (f ∷ fs) = by_past g n text xs ys like fs (past f v.case got)

  module _ (a : Actor) (steps : ℕ) (text : List (List ℕ)) where
    -- the same actor in the other state
    abbrev b : Actor
    b = record a { before = aged a.before steps text }

    does_like : (clause : Option ℕ) (operation : Option Operation) (kind : Kind) (g : Goroutine) {xs ys : List Cell} → Cells xs ys
        → L (does a clause operation kind g xs) (does b clause operation kind (aged g (steps + 1) text) ys)
    does_like clause operation kind g like = performs (more_cells (go_cell a.name (both g (steps + 1) text)) like)

    fault_like : (operation : Option Operation) (e : Fault) → L (fault a operation e) (fault b operation e)
    fault_like operation e = does_like None operation (kinds.Fault e) (with_frames a a.before.frames) (more_cells (run_cell (faulted e)) no_cells)

    given_like : {A : Type 0} (o : Outcome A) (k l : A → Attempt) → ((v : A) → L (k v) (l v)) → L (given a o k) (given b o l)
    given_like (gives v) k l h = h v
    given_like (faults e) k l h = fault_like None e
    given_like wrong k l h = refuses

    proceeds_like : (clause : Option ℕ) (operation : Operation) (kind : Kind) (got : Option (Value × Bool)) {xs ys : List Cell} → Cells xs ys
        → L (proceeds a clause operation kind got xs) (proceeds b clause operation kind got ys)
    proceeds_like clause operation kind got like = given_like (past a.frame clause got) _ _ (λ f. does_like clause (Some operation) kind (onward a f) like)

    -- the gate without one that waited
    met_gate : (c : ChName) (gate : GateContent) (name : List ℕ) {xs ys : List Cell} → At c gate → Cells xs ys
        → Cells (gate_has c (Some (without (name ∷ []) gate)) ∷ xs) (gate_has c (Some (without (name ∷ []) gate)) ∷ ys)
    met_gate c gate name at like = more_cells (gate_cell c (Some (without (name ∷ []) gate)) (kept c (without (name ∷ []) gate) (without_at c (name ∷ []) gate at))) like

    send_to_like : (clause : Option ℕ) (c : ChName) (gate : GateContent) (v : Value) (m n : Attempt) (ws : List (Waiter (Unit {0}))) → At c gate → L m n
        → L (send_to a clause c gate v m ws) (send_to b clause c gate v n ws)
    send_to_like clause c gate v m n (z ∷ ws) at h =
        met_like c z (Some (v, true)) _ _ (λ xs ys like. proceeds_like clause (sends_on c) kinds.Hand None (met_gate c gate z.go at like))
    send_to_like clause c gate v m n [] at h = room_like c gate (buffering a clause c gate v m) (buffering b clause c gate v n) at h (λ i j like. proceeds_like clause (sends_on c) kinds.Buffer None
        (more_cells (tail_cell c (next_shifted x y caps like)) (more_cells (slot_cell c gate.capacity at like (an_item i j v)) no_cells)))

    send_like : (clause : Option ℕ) (c : ChName) (v : Value) (m n : Attempt) → L m n → L (send a clause c v m) (send b clause c v n)
    send_like clause c v m n h = gate_like c _ _ (λ gate at.
        if_like gate.closed (fault_like (Some (sends_on c)) SendOnClosed) (send_to_like clause c gate v m n gate.receivers at h))

    take_like : (clause : Option ℕ) (c : ChName) (gate : GateContent) (i j : ℕ) (v : Value) (ws : List (Waiter Value)) → At c gate → Shifted x y caps c i j
        → L (take a clause c gate (i, v) ws) (take b clause c gate (j, v) ws)
    take_like clause c gate i j v [] at like = proceeds_like clause (receives_from c) kinds.Take (Some (v, true))
        (more_cells (head_cell c (next_shifted x y caps like)) (more_cells (slot_cell c gate.capacity at like no_item) no_cells))
    take_like clause c gate i j v (z ∷ ws) at like = asks (met_like c z None _ _ (λ xs ys more. proceeds_like clause (receives_from c) kinds.Take (Some (v, true))
        (met_gate c gate z.go at (more_cells (head_cell c (next_shifted x y caps like)) (more_cells (tail_cell c (next_shifted x y caps (w.tails c)))
        (more_cells (slot_cell c gate.capacity at like (an_item (s.tails c) (r.tails c) z.value)) more))))))

    receive_from_like : (clause : Option ℕ) (c : ChName) (gate : GateContent) (zero : Value) (m n : Attempt) (ws : List (Waiter Value)) → At c gate → L m n
        → L (receive_from a clause c gate zero m None ws) (receive_from b clause c gate zero n None ws)
    receive_from_like clause c gate zero m n (z ∷ ws) at h =
        met_like c z None _ _ (λ xs ys like. proceeds_like clause (receives_from c) kinds.Meet (Some (z.value, true)) (met_gate c gate z.go at like))
    receive_from_like clause c gate zero m n [] at h = if_like gate.closed (proceeds_like clause (receives_from c) kinds.Closed (Some (zero, false)) no_cells) h

    receive_like : (clause : Option ℕ) (c : ChName) (zero : Value) (m n : Attempt) → L m n → L (receive a clause c zero m) (receive b clause c zero n)
    receive_like clause c zero m n h = gate_like c _ _ (λ gate at. item_like c gate (λ item. receive_from a clause c gate zero m item gate.senders) (λ item. receive_from b clause c gate zero n item gate.senders) at
        (receive_from_like clause c gate zero m n gate.senders at h) (λ i j v like. take_like clause c gate i j v gate.senders at like))

    communicate_like : (clause : Option ℕ) (z : Communication) (m n : Attempt) → L m n → L (communicate a clause z m) (communicate b clause z n)
    communicate_like clause (Sending (Some c) (gives v)) m n h = send_like clause c v m n h
    communicate_like clause (Sending (Some c) (faults f)) m n h = refuses
    communicate_like clause (Sending (Some c) wrong) m n h = refuses
    communicate_like clause (Sending None v) m n h = h
    communicate_like clause (Receiving (Some c) zero) m n h = receive_like clause c zero m n h
    communicate_like clause (Receiving None zero) m n h = h
    communicate_like clause Otherwise m n h = h

    one_at : (name : List ℕ) (c : ChName) (gate : GateContent) (clause : Option ℕ) (z : Communication) → At c gate → At c (enqueued name c gate clause z)
    one_at name c gate clause (Sending (Some d) (gives v)) t = by (same_channel c d)
      where
        by : (i : Bool) → At c (if i then record gate { senders = gate.senders ++ record { go = name; case = clause; value = v } ∷ [] } else gate)
        by true = t
        by false = t
    one_at name c gate clause (Sending (Some d) (faults f)) t = t
    one_at name c gate clause (Sending (Some d) wrong) t = t
    one_at name c gate clause (Sending None v) t = t
    one_at name c gate clause (Receiving (Some d) zero) t = by (same_channel c d)
      where
        by : (i : Bool) → At c (if i then record gate { receivers = gate.receivers ++ record { go = name; case = clause; value = tt } ∷ [] } else gate)
        by true = t
        by false = t
    one_at name c gate clause (Receiving None zero) t = t
    one_at name c gate clause Otherwise t = t

    all_at : (name : List ℕ) (c : ChName) (ws : List (Option ℕ × Communication)) (gate : GateContent) → At c gate
        → At c (fold (λ gate z. enqueued name c gate z.0 z.1) gate ws)
    all_at name c [] gate t = t
    all_at name c (z ∷ ws) gate t = all_at name c ws (enqueued name c gate z.0 z.1) (one_at name c gate z.0 z.1 t)

    enqueued_like : (ws : List (Option ℕ × Communication)) (cs : List ChName) (k l : List Cell → Attempt) → ((xs ys : List Cell) → Cells xs ys → L (k xs) (l ys))
        → L (ask_enqueued a.name ws cs k) (ask_enqueued a.name ws cs l)
    enqueued_like ws [] k l h = h [] [] no_cells
    enqueued_like ws (c ∷ cs) k l h = gate_like c _ _ (λ gate at.
        let cell = gate_has c (Some (fold (λ gate z. enqueued a.name c gate z.0 z.1) gate ws)) in
        enqueued_like ws cs (λ cells. k (cell ∷ cells)) (λ cells. l (cell ∷ cells))
        (λ xs ys like. h (cell ∷ xs) (cell ∷ ys) (more_cells (gate_cell c (Some (fold (λ gate z. enqueued a.name c gate z.0 z.1) gate ws)) (kept c (fold (λ gate z. enqueued a.name c gate z.0 z.1) gate ws) (all_at a.name c ws gate at))) like)))

    wait_like : (operation : Option Operation) (kind : Kind) (ws : List (Option ℕ × Communication)) → L (wait a operation kind ws) (wait b operation kind ws)
    wait_like operation kind ws = enqueued_like ws (channels_but [] (all_waits ws)) _ _ (λ xs ys like.
        does_like None operation kind (record (a.before) { status = waiting (all_waits ws); steps = a.before.steps + 1 }) like)

    alone_like : (z : Communication) → L (proceed_or_wait a z) (proceed_or_wait b z)
    alone_like (Sending c v) = communicate_like None (Sending c v) _ _ (wait_like (option_map sends_on c) kinds.SendWait ((None, Sending c v) ∷ []))
    alone_like (Receiving c zero) = communicate_like None (Receiving c zero) _ _ (wait_like (option_map receives_from c) kinds.RecvWait ((None, Receiving c zero) ∷ []))
    alone_like Otherwise = refuses

    -- goroutines that wait, in both states
    data Waiters : List (List ℕ × Goroutine × List Wait) → List (List ℕ × Goroutine × List Wait) → Type 0 where
      no_waiters : Waiters [] []
      more_waiters : (name : List ℕ) (g : Goroutine) (n : ℕ) (lines : List (List ℕ)) (ws : List Wait) {us vs : List (List ℕ × Goroutine × List Wait)} → Waiters us vs
          → Waiters ((name, g, ws) ∷ us) ((name, aged g n lines, ws) ∷ vs)

    waiters_like : (names : List (List ℕ)) (k l : List (List ℕ × Goroutine × List Wait) → Attempt)
        → ((us vs : List (List ℕ × Goroutine × List Wait)) → Waiters us vs → L (k us) (l vs)) → L (ask_waiters names k) (ask_waiters names l)
    waiters_like [] k l h = h [] [] no_waiters
    waiters_like (name ∷ names) k l h = waiter_like name _ _ (λ g n lines ws.
        waiters_like names (λ others. k ((name, g, ws) ∷ others)) (λ others. l ((name, aged g n lines, ws) ∷ others))
        (λ us vs like. h ((name, g, ws) ∷ us) ((name, aged g n lines, ws) ∷ vs) (more_waiters name g n lines ws like)))

    same_waits : (us vs : List (List ℕ × Goroutine × List Wait)) → Waiters us vs → flat_map (λ z. z.2) us ≡ flat_map (λ z. z.2) vs
    same_waits _ _ no_waiters = refl
    same_waits _ _ (more_waiters name g n lines ws {us} {vs} like) = ap (λ zs. ws ++ zs) (same_waits us vs like)

    awake_like : (us vs : List (List ℕ × Goroutine × List Wait)) {xs ys : List Cell} → Waiters us vs → Cells xs ys
        → Cells (map (λ z. go_has z.0 (Some (record (z.1) { status = ready }))) us ++ xs) (map (λ z. go_has z.0 (Some (record (z.1) { status = ready }))) vs ++ ys)
    awake_like _ _ no_waiters more = more
    awake_like _ _ (more_waiters name g n lines ws {us} {vs} like) more =
        more_cells (go_cell name (both (record g { status = ready }) n lines)) (awake_like us vs like more)

    close_open_like : (c : ChName) (gate : GateContent) (names : List (List ℕ)) → At c gate → L (close_open a c gate names) (close_open b c gate names)
    close_open_like c gate names at = waiters_like names _ _ (λ us vs like.
        subst (λ ws. L (ask_withdrawn names (channels_but (c ∷ []) (flat_map (λ z. z.2) us)) (closing a c gate us)) (ask_withdrawn names (channels_but (c ∷ []) ws) (closing b c gate vs))) (same_waits us vs like)
        (withdrawn_like names (channels_but (c ∷ []) (flat_map (λ z. z.2) us)) (closing a c gate us) (closing b c gate vs)
        (λ xs ys more. does_like None (Some (closes c)) kinds.Close (onward a (goes_on a.frame)) (more_cells (gate_cell c (Some (record gate { closed = true; senders = []; receivers = [] })) (kept c (record gate { closed = true; senders = []; receivers = [] }) at)) (awake_like us vs like more)))))

    close_like : (c : Option ChName) → L (close a c) (close b c)
    close_like None = fault_like None CloseOfNil
    close_like (Some c) = gate_like c _ _ (λ gate at. if_like gate.closed (fault_like (Some (closes c)) CloseOfClosed)
        (close_open_like c gate (once (map (λ z. z.go) gate.senders ++ map (λ z. z.go) gate.receivers)) at))

    ready_like : (z : Communication) (k l : Bool → Attempt) → ((t : Bool) → L (k t) (l t)) → L (ask_ready z k) (ask_ready z l)
    ready_like (Sending (Some c) v) k l h = gate_like c _ _ (λ gate at. room_like c gate (λ room. k (gate.closed || has_any gate.receivers || is_some room)) (λ room. l (gate.closed || has_any gate.receivers || is_some room)) at
        (h (gate.closed || has_any gate.receivers || false)) (λ i j like. h (gate.closed || has_any gate.receivers || true)))
    ready_like (Sending None v) k l h = h false
    ready_like (Receiving (Some c) zero) k l h = gate_like c _ _ (λ gate at. item_like c gate (λ item. k (gate.closed || has_any gate.senders || is_some item)) (λ item. l (gate.closed || has_any gate.senders || is_some item)) at
        (h (gate.closed || has_any gate.senders || false)) (λ i j v like. h (gate.closed || has_any gate.senders || true)))
    ready_like (Receiving None zero) k l h = h false
    ready_like Otherwise k l h = h false

    none_ready_like : (cs : List Communication) (m n : Attempt) → L m n → L (if_none_ready cs m) (if_none_ready cs n)
    none_ready_like [] m n h = h
    none_ready_like (c ∷ cs) m n h = ready_like c _ _ (λ t. if_like t refuses (none_ready_like cs m n h))

    pick_like : (i : ℕ) (vs : Outcome (List Value)) (o : Option Communication) → L (pick a i vs o) (pick b i vs o)
    pick_like i vs None = refuses
    pick_like i (gives vs) (Some c) = communicate_like (Some i) c _ _ refuses
    pick_like i (faults e) (Some c) = ready_like c _ _ (λ t. if_like t (fault_like None e) refuses)
    pick_like i wrong (Some c) = refuses

    default_like : (cs : List Communication) (o : Option ℕ) → L (default a cs o) (default b cs o)
    default_like cs (Some i) = none_ready_like cs _ _ (given_like (values_of cs) _ _ (λ vs. given_like (past a.frame (Some i) None) _ _ (λ f. does_like None None kinds.Default (onward a f) no_cells)))
    default_like cs None = refuses

    park_like : (cs : List Communication) (o : Option ℕ) → L (park a cs o) (park b cs o)
    park_like cs (Some i) = refuses
    park_like cs None = none_ready_like cs _ _ (given_like (values_of cs) _ _ (λ vs. wait_like None kinds.SelectWait (numbered 1 cs)))

    choose_like : (cs : List Communication) (z : Choice) → L (choose a cs z) (choose b cs z)
    choose_like cs choices.Plain = refuses
    choose_like cs (choices.Pick i) = pick_like i (values_of cs) (clause_at cs i)
    choose_like cs choices.Default = default_like cs (default_from 1 cs)
    choose_like cs choices.Park = park_like cs (default_from 1 cs)

    enter_like : (function : ℕ) (vs : List Value) → L (enter a function vs) (enter b function vs)
    enter_like function vs = if_like (is_deepest a.before.frames) (fault_like None CallDepth)
        (given_like (call_of a.program function vs) _ _ (λ f. does_like None None kinds.Call (with_frames a (f ∷ a.before.frames)) no_cells))

    finish_like : (name : List ℕ) → L (finish a name) (finish b name)
    finish_like [] = does_like None None kinds.Exit (record (a.before) { status = finished; frames = []; steps = a.before.steps + 1 }) (more_cells (run_cell ended) no_cells)
    finish_like (n ∷ ns) = does_like None None kinds.Return (record (a.before) { status = finished; frames = []; steps = a.before.steps + 1 }) no_cells

    leave_like : (v : Value) (fs : List Frame) → L (leave a v fs) (leave b v fs)
    leave_like v [] = finish_like a.name
    leave_like v (f ∷ fs) = given_like (resumed f v) _ _ (λ f. does_like None None kinds.Return (with_frames a (f ∷ fs)) no_cells)

    go_like : (function : ℕ) (vs : List Value) → L (go a function vs) (go b function vs)
    go_like function vs = if_like (nat_le most_counts (length a.name)) (fault_like None NameDepth)
        (if_like (nat_le greatest_count a.before.children) (fault_like None NameCount) (asks (by (s.goroutines (child a)) (r.goroutines (child a)) (w.goroutines (child a)))))
      where
        by : (c d : Option Goroutine) → LikeGo c d → L (if_absent (begins a function vs) c) (if_absent (begins b function vs) d)
        by _ _ neither = given_like (call_of a.program function vs) _ _ (λ f.
            does_like None None kinds.Go (record (onward a (goes_on a.frame)) { children = a.before.children + 1 }) (more_cells (go_cell (child a) (both (started f) 0 [])) no_cells))
        by _ _ (both g n lines) = refuses

    counted_like : (operation : Option Operation) (n m : ℕ) → n ≡ m → L (counted a operation n) (counted b operation m)
    counted_like operation n m e = subst (λ i. L (counted a operation n) (counted b operation i)) e (given_like (resumed a.frame _) _ _ (λ f. does_like None operation kinds.Length (onward a f) no_cells))

    len_like : (c : Option ChName) → L (take_len a c) (take_len b c)
    len_like None = counted_like None 0 0 refl
    len_like (Some c) = gate_like c _ _ (λ gate at. asks (asks (counted_like (Some (takes_len_of c)) (s.tails c - s.heads c) (r.tails c - r.heads c) (same_count (w.tails c) (w.heads c)))))
      where
        same_count : {i j n m : ℕ} → Shifted x y caps c i j → Shifted x y caps c n m → i - n ≡ j - m
        same_count {i} {j} {n} {m} h k = let a = h.first in let b = h.second in let c = k.first in let d = k.second in omega (arith, a, b, c, d)

    cap_like : (c : Option ChName) → L (take_cap a c) (take_cap b c)
    cap_like None = counted_like None 0 0 refl
    cap_like (Some c) = gate_like c _ _ (λ gate at. counted_like (Some (takes_cap_of c)) gate.capacity gate.capacity refl)

    -- the channel that it would make next is not there
    module _ (fresh : s.gates (new_channel a) ≡ None) where
      made : (gate : Option GateContent) → KeepsCapacity x y caps (caps (new_channel a)) gate
      made gate = subst (λ o. KeepsCapacity x y caps o gate) (sym (ap (option_map (λ (gate : GateContent). gate.capacity)) fresh)) tt

      make_like : (n : ℤ) → L (make a n) (make b n)
      make_like (negsuc n) = fault_like None BadSize
      make_like (pos n) = if_like (nat_le (most_places + 1) n) (fault_like None BadSize)
          (if_like (nat_le greatest_count a.before.channels) (fault_like None NameCount) (given_like (resumed a.frame _) _ _ (λ f.
          does_like None None kinds.Make (record (onward a f) { channels = a.before.channels + 1 })
          (more_cells (gate_cell (new_channel a) (Some (record { capacity = n; closed = false; senders = []; receivers = [] })) (made (Some (record { capacity = n; closed = false; senders = []; receivers = [] })))) no_cells))))

      print_like : (line : List ℕ) → L (print a line) (print b line)
      print_like line = performs (more_cells (go_cell a.name (both (record (onward a (goes_on a.frame)) { text = a.before.text ++ line ∷ [] }) (steps + 1) (text ++ line ∷ []))) no_cells)

      act_like : (d : Deed) → L (act a d) (act b d)
      act_like (Moves on) = does_like None None kinds.Pure (onward a on) no_cells
      act_like (Prints line) = print_like line
      act_like (Enters function vs) = enter_like function vs
      act_like (Leaves v) = leave_like v a.below
      act_like (Starts function vs) = go_like function vs
      act_like (Makes n) = make_like n
      act_like (TakesLen c) = len_like c
      act_like (TakesCap c) = cap_like c
      act_like (Closes c) = close_like c
      act_like (Communicates c) = alone_like c
      act_like (Chooses cs) = refuses

      plain_like : (choice : Choice) (d : Deed) → L (act_by a choice (gives d)) (act_by b choice (gives d))
      plain_like choice (Chooses cs) = choose_like cs choice
      plain_like choices.Plain d = act_like d
      plain_like _ d = refuses

      by_like : (choice : Choice) (d : Outcome Deed) → L (act_by a choice d) (act_by b choice d)
      by_like choice (gives d) = plain_like choice d
      by_like choices.Plain (faults e) = fault_like None e
      by_like choices.Plain wrong = refuses
      by_like _ (faults e) = refuses
      by_like _ wrong = refuses

  -- the channel that a goroutine would make next is not there
  abbrev pub NextIsFresh : List ℕ → Option Goroutine → Type 0
  NextIsFresh name None = Unit {0}
  NextIsFresh name (Some g) = s.gates (record { go = name; n = g.channels + 1 }) ≡ None

  module _ (p : Program) (e : Event) where
    in_like : (g : Goroutine) (n : ℕ) (text : List (List ℕ)) (fs : List Frame) → NextIsFresh e.go (Some g) → L (act_in p e g fs) (act_in p e (aged g n text) fs)
    in_like g n text [] fresh = refuses
    in_like g n text (f ∷ fs) fresh = by_like (record { program = p; name = e.go; before = g; frame = f; below = fs }) n text fresh e.choice (deed f)

    if_ready_like : (g : Goroutine) (n : ℕ) (text : List (List ℕ)) (status : Status) → NextIsFresh e.go (Some g) → L (if_ready p e g status) (if_ready p e (aged g n text) status)
    if_ready_like g n text finished fresh = refuses
    if_ready_like g n text (waiting ws) fresh = refuses
    if_ready_like g n text ready fresh = in_like g n text g.frames fresh

    known_like : (g h : Option Goroutine) → LikeGo g h → NextIsFresh e.go g → L (if_known p e g) (if_known p e h)
    known_like _ _ neither fresh = refuses
    known_like _ _ (both g n text) fresh = if_ready_like g n text g.status fresh

    -- an attempt ends alike in both states
    pub attempt_like : NextIsFresh e.go (s.goroutines e.go) → L (attempt p e) (attempt p e)
    attempt_like fresh = asks (subst (λ z. L (if_live (ask_go e.go (if_known p e)) s.run) (if_live (ask_go e.go (if_known p e)) z)) w.run (by s.run))
      where
        by : (z : Run) → L (if_live (ask_go e.go (if_known p e)) z) (if_live (ask_go e.go (if_known p e)) z)
        by live = asks (known_like (s.goroutines e.go) (r.goroutines e.go) (w.goroutines e.go) fresh)
        by ended = refuses
        by (faulted f) = refuses
