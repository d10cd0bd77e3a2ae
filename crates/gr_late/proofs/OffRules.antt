-- A step of another goroutine goes alike where one has not yet come that waits, unless it ends the wait, ends the program or is a wait.
use Rattle.std.proofs.Common.{fold, ◌≡◌, ℕ, ℤ, pos, negsuc, ◌+◌, ◌-◌, ◌%◌, ◌==◌, nat_le, Bool, true, false, ◌||◌, if◌then◌else◌, List, [], ◌∷◌, ◌++◌, map, length, is_some, Option, Some, None, option_map, refl, sym, ◌∙◌, ap, subst, inl, inr, append-nil}
use Rattle.std.specs.List.{flat_map}
use Rattle.gr_base.specs.declared.names.ChName.{ChName}
use Rattle.gr_base.specs.declared.values.Value.{Value}
use Rattle.gr_base.specs.declared.events.Choice.{Choice}
use Rattle.gr_base.specs.declared.events.Choice.TheVariants as choices
use Rattle.gr_base.specs.declared.events.Event.{Event}
use Rattle.gr_base.specs.declared.kinds.Fault.{Fault}
use Rattle.gr_base.specs.declared.kinds.Fault.TheVariants.{SendOnClosed, CloseOfClosed, CloseOfNil, BadSize, CallDepth, NameDepth, NameCount}
use Rattle.gr_base.specs.declared.kinds.Kind.{Kind}
use Rattle.gr_base.specs.declared.kinds.Kind.TheVariants as kinds
use Rattle.gr_base.specs.declared.objects.Object.{Object}
use Rattle.gr_base.specs.declared.objects.Object.TheVariants.{Go}
use Rattle.gr_causal.specs.Sequences.{In}
use Rattle.gr_causal.proofs.ListLemmas.{In-append_cases, In-append_left, In-append_right}
use Rattle.gr_channels.specs.declared.waiter.Waiter.{Waiter}
use Rattle.gr_channels.specs.Objects.{GateContent, has_any}
use Rattle.gr_program.specs.Programs.{Program}
use Rattle.gr_rules.specs.Outcomes.{Outcome, gives, faults, wrong, ◌>>=◌}
use Rattle.gr_rules.specs.Frames.{Frame, goes_on}
use Rattle.gr_rules.specs.Deeds.{Communication, Sending, Receiving, Otherwise, Deed, Moves, Prints, Enters, Leaves, Starts, Makes, TakesLen, TakesCap, Closes, Communicates, Chooses, deed, past, resumed}
use Rattle.gr_rules.specs.Goroutines.{Wait, Status, ready, waiting, finished, Goroutine, started}
use Rattle.gr_rules.specs.States.{Run, live, ended, faulted, Cell, run_has, go_has, gate_has, tail_has, head_has, slot_has, State, same_go, object_of, look, call_of}
use Rattle.gr_rules.specs.Attempts.{Refusal, no_such_choice, Operation, sends_on, receives_from, takes_len_of, takes_cap_of, closes, Attempt, refuse, ask, ask_go, if_there, ask_gate, room_for, ask_room, ask_item}
use Rattle.gr_rules.specs.Actors.{Actor, with_frames, onward, does, simply, fault, given, if_gives, without, channels_but, if_waiting, ask_waiter, ask_withdrawn, clause_at, met, ask_met}
use Rattle.gr_rules.specs.Communications.{proceeds, send_to, send, take, receive_from, receive, communicate, all_waits, enqueued, ask_enqueued, wait, proceed_or_wait, once, ask_waiters, close_open, close}
use Rattle.gr_rules.specs.Selects.{values_of, ask_ready, if_none_ready, pick, default_from, numbered, default, park, choose}
use Rattle.gr_rules.specs.Steps.{is_deepest, enter, finish, leave, child, if_absent, go, new_channel, make, counted, take_len, take_cap, print, act, act_by, act_in, if_ready, if_known, if_live, attempt}
use Rattle.gr_rules.specs.Limits.{most_counts, most_places, greatest_count}
use Rattle.gr_laws.proofs.CellLemmas.{no_truth, go_self}
use Rattle.gr_late.proofs.NameLemmas.{in_once, none_in, to_once, first_of, less_ready}
use Rattle.gr_late.proofs.OffAttempts.{AllOf, NoneOf, other_go, joined, parked, OffCell, go_cell, gate_cell, tail_cell, head_cell, slot_cell, OffCells, no_cells, more_cells, without_all, AllGates, Others, OffTry, refuses, performs, asks, differs}

-- the channel that a goroutine would make next is not there
abbrev pub NextFresh : State → List ℕ → Option Goroutine → Type 0
NextFresh r n None = Unit {0}
NextFresh r n (Some g) = r.gates (record { go = n; n = g.channels + 1 }) ≡ None

module _ (name : List ℕ) (left : Goroutine) (sending : ChName → List (Waiter Value)) (receiving : ChName → List (Waiter (Unit {0})))
    (theirs : (c : ChName) → AllOf name (sending c)) (theirs_too : (c : ChName) → AllOf name (receiving c)) (r : State)
    (nowhere : (c : ChName) (gate : GateContent) → r.gates c ≡ Some gate → NoneOf name gate.senders × NoneOf name gate.receivers)
    (made : (c : ChName) → r.gates c ≡ None → (sending c ≡ []) × (receiving c ≡ [])) (actor : List ℕ) (other : actor ≡ name → ⊥) where
  abbrev s : State
  s = parked name left sending receiving r

  abbrev with_it : ChName → GateContent → GateContent
  with_it = joined name left sending receiving

  abbrev T : Attempt → Attempt → Type 0
  T = OffTry name left sending receiving r actor

  abbrev W : Attempt → Type 0
  W = Others name left sending receiving r actor

  abbrev Cells : List Cell → List Cell → Type 0
  Cells = OffCells name left sending receiving

  -- an attempt of another kind
  record D (a : Attempt) : Type 0 where
    is : W a

  by_other : {a b : Attempt} → D a → T a b
  by_other d = differs d.is

  d_asked : {o : Object} {f : Cell → Attempt} → D (f (look s o)) → D (ask o f)
  d_asked d = record { is = d.is }

  d_if : {a b : Attempt} (t : Bool) → D a → D b → D (if t then a else b)
  d_if true h k = h
  d_if false h k = k

  d_refused : {q : Refusal} → D (refuse q)
  d_refused = record { is = tt }

  if_two : {a b c d : Attempt} (t : Bool) → T a b → T c d → T (if t then a else c) (if t then b else d)
  if_two true h k = h
  if_two false h k = k

  gate_two : (c : ChName) (k l : GateContent → Attempt) → ((gate : GateContent) → r.gates c ≡ Some gate → T (k (with_it c gate)) (l gate)) → T (ask_gate c k) (ask_gate c l)
  gate_two c k l h = asks (by (r.gates c) refl)
    where
      by : (o : Option GateContent) → r.gates c ≡ o → T (if_there k (option_map (with_it c) o)) (if_there l o)
      by None e = refuses
      by (Some gate) e = h gate e

  room_two : (c : ChName) (gate : GateContent) (k l : Option ℕ → Attempt) → ((o : Option ℕ) → T (k o) (l o)) → T (ask_room c (with_it c gate) k) (ask_room c gate l)
  room_two c gate k l h = asks (if_two (gate.capacity == 0) (h None) (asks (h (room_for (r.tails c) (r.slots c (r.tails c % gate.capacity))))))

  item_two : (c : ChName) (gate : GateContent) (k l : Option (ℕ × Value) → Attempt) → ((o : Option (ℕ × Value)) → T (k o) (l o)) → T (ask_item c (with_it c gate) k) (ask_item c gate l)
  item_two c gate k l h = asks (if_two (gate.capacity == 0) (h None) (asks (h (option_map (λ x. (r.heads c, x.1)) (r.slots c (r.heads c % gate.capacity))))))

  -- another goroutine is as it was
  go_here : (n : List ℕ) → (n ≡ name → ⊥) → s.goroutines n ≡ r.goroutines n
  go_here n off = ap (λ b. if b then Some left else r.goroutines n) (other_go n name off)

  waiter_two : (n : List ℕ) (k l : Goroutine → List Wait → Attempt) → (n ≡ name → ⊥) → ((g : Goroutine) (ws : List Wait) → T (k g ws) (l g ws)) → T (ask_waiter n k) (ask_waiter n l)
  waiter_two n k l off h = asks (subst (λ o. T (if_there (λ g. if_waiting (k g) g.status) o) (if_there (λ g. if_waiting (l g) g.status) (r.goroutines n))) (sym (go_here n off)) (by (r.goroutines n)))
    where
      by_status : (g : Goroutine) (x : Status) → T (if_waiting (k g) x) (if_waiting (l g) x)
      by_status g ready = refuses
      by_status g (waiting ws) = h g ws
      by_status g finished = refuses

      by : (o : Option Goroutine) → T (if_there (λ g. if_waiting (k g) g.status) o) (if_there (λ g. if_waiting (l g) g.status) o)
      by None = refuses
      by (Some g) = by_status g g.status

  -- a gate without the waits of some goroutines
  thin_cell : (names : List (List ℕ)) (c : ChName) (gate : GateContent) → ((a : List ℕ) → In a names → a ≡ name → ⊥)
      → OffCell name left sending receiving (gate_has c (Some (without names (with_it c gate)))) (gate_has c (Some (without names gate)))
  thin_cell names c gate off = subst (λ g. OffCell name left sending receiving (gate_has c (Some g)) (gate_has c (Some (without names gate))))
      (sym (without_all name left sending receiving names c gate (theirs c) (theirs_too c) off)) (gate_cell c (without names gate))

  withdrawn_two : (names : List (List ℕ)) (cs : List ChName) (k l : List Cell → Attempt) → ((a : List ℕ) → In a names → a ≡ name → ⊥) → ((xs ys : List Cell) → Cells xs ys → T (k xs) (l ys))
      → T (ask_withdrawn names cs k) (ask_withdrawn names cs l)
  withdrawn_two names [] k l off h = h [] [] no_cells
  withdrawn_two names (c ∷ cs) k l off h = gate_two c _ _ (λ gate at.
      withdrawn_two names cs (λ cells. k (gate_has c (Some (without names (with_it c gate))) ∷ cells)) (λ cells. l (gate_has c (Some (without names gate)) ∷ cells)) off
      (λ xs ys like. h (gate_has c (Some (without names (with_it c gate))) ∷ xs) (gate_has c (Some (without names gate)) ∷ ys) (more_cells (thin_cell names c gate off) like)))

  only : (a n : List ℕ) → (n ≡ name → ⊥) → In a (n ∷ []) → a ≡ name → ⊥
  only a n off i e = elim i [ inl q ↦ off (sym q ∙ e) | inr z ↦ absurd z ]

  met_two : {X : Type 0} (c : ChName) (w : Waiter X) (got : Option (Value × Bool)) (k l : List Cell → Attempt) → (w.go ≡ name → ⊥) → ((xs ys : List Cell) → Cells xs ys → T (k xs) (l ys))
      → T (ask_met c w got k) (ask_met c w got l)
  met_two c w got k l off h = waiter_two w.go _ _ off (λ g ws. withdrawn_two (w.go ∷ []) (channels_but (c ∷ []) ws) _ _ (λ a. only a w.go off) (λ xs ys like. by_frames g xs ys like g.frames))
    where
      by_past : (g : Goroutine) (xs ys : List Cell) → Cells xs ys → (fs : List Frame) (o : Outcome Frame)
          → T (if_gives (λ partner. k (go_has w.go (Some partner) ∷ xs)) (o >>= λ f. gives (record g { status = ready; frames = f ∷ fs })))
          (if_gives (λ partner. l (go_has w.go (Some partner) ∷ ys)) (o >>= λ f. gives (record g { status = ready; frames = f ∷ fs })))
      by_past g xs ys like fs (gives f) = h _ _ (more_cells (go_cell w.go off (Some (record g { status = ready; frames = f ∷ fs }))) like)
      by_past g xs ys like fs (faults e) = refuses
      by_past g xs ys like fs wrong = refuses

      by_frames : (g : Goroutine) (xs ys : List Cell) → Cells xs ys → (fs : List Frame)
          → T (if_gives (λ partner. k (go_has w.go (Some partner) ∷ xs)) (met w.case got g fs)) (if_gives (λ partner. l (go_has w.go (Some partner) ∷ ys)) (met w.case got g fs))
      by_frames g xs ys like [] = refuses
      by_frames g xs ys like (f ∷ fs) = by_past g xs ys like fs (past f w.case got)

  -- The goroutine itself is met, or woken.
  d_gate : (c : ChName) (k : GateContent → Attempt) → ((gate : GateContent) → D (k gate)) → D (ask_gate c k)
  d_gate c k h = d_asked (by (s.gates c))
    where
      by : (o : Option GateContent) → D (if_there k o)
      by None = d_refused
      by (Some gate) = h gate

  d_waiter : (n : List ℕ) (k : Goroutine → List Wait → Attempt) → ((g : Goroutine) (ws : List Wait) → D (k g ws)) → D (ask_waiter n k)
  d_waiter n k h = d_asked (by (s.goroutines n))
    where
      by_status : (g : Goroutine) (x : Status) → D (if_waiting (k g) x)
      by_status g ready = d_refused
      by_status g (waiting ws) = h g ws
      by_status g finished = d_refused

      by : (o : Option Goroutine) → D (if_there (λ g. if_waiting (k g) g.status) o)
      by None = d_refused
      by (Some g) = by_status g g.status

  d_withdrawn : (names : List (List ℕ)) (cs : List ChName) (k : List Cell → Attempt) → ((cells : List Cell) → D (k cells)) → D (ask_withdrawn names cs k)
  d_withdrawn names [] k h = h []
  d_withdrawn names (c ∷ cs) k h = d_gate c _ (λ gate. d_withdrawn names cs (λ cells. k (gate_has c (Some (without names gate)) ∷ cells)) (λ cells. h (gate_has c (Some (without names gate)) ∷ cells)))

  d_met : {X : Type 0} (c : ChName) (w : Waiter X) (got : Option (Value × Bool)) (k : List Cell → Attempt) → w.go ≡ name
      → ((cells : List Cell) → In (Go name) (map object_of cells) → D (k cells)) → D (ask_met c w got k)
  d_met c w got k mine h = d_waiter w.go _ (λ g ws. d_withdrawn (w.go ∷ []) (channels_but (c ∷ []) ws) _ (λ cells. by_frames g cells g.frames))
    where
      by_past : (g : Goroutine) (cells : List Cell) (fs : List Frame) (o : Outcome Frame) → D (if_gives (λ partner. k (go_has w.go (Some partner) ∷ cells)) (o >>= λ f. gives (record g { status = ready; frames = f ∷ fs })))
      by_past g cells fs (gives f) = h _ (inl (ap Go (sym mine)))
      by_past g cells fs (faults e) = d_refused
      by_past g cells fs wrong = d_refused

      by_frames : (g : Goroutine) (cells : List Cell) (fs : List Frame) → D (if_gives (λ partner. k (go_has w.go (Some partner) ∷ cells)) (met w.case got g fs))
      by_frames g cells [] = d_refused
      by_frames g cells (f ∷ fs) = by_past g cells fs (past f w.case got)

  module _ (a : Actor) (named : a.name ≡ actor) where
    apart : a.name ≡ name → ⊥
    apart e = other (sym named ∙ e)

    does_two : {clause : Option ℕ} {operation : Option Operation} {kind : Kind} (g : Goroutine) {xs ys : List Cell} → Cells xs ys → T (does a clause operation kind g xs) (does a clause operation kind g ys)
    does_two g like = performs (more_cells (go_cell a.name apart (Some g)) like)

    -- what writes the goroutine
    d_does : {clause : Option ℕ} {operation : Option Operation} {kind : Kind} {g : Goroutine} {cells : List Cell} → In (Go name) (map object_of cells) → D (does a clause operation kind g cells)
    d_does i = record { is = inl (inr i) }

    -- what ends the program
    d_ends : {clause : Option ℕ} {operation : Option Operation} {kind : Kind} {g : Goroutine} (run : Run) → D (does a clause operation kind g (run_has run ∷ []))
    d_ends run = record { is = inr (inl (inr (inl refl))) }

    fault_two : (operation : Option Operation) (e : Fault) {b : Attempt} → T (fault a operation e) b
    fault_two operation e = by_other (d_ends (faulted e))

    given_two : {A : Type 0} (x : Outcome A) (k l : A → Attempt) → ((v : A) → T (k v) (l v)) → T (given a x k) (given a x l)
    given_two (gives v) k l h = h v
    given_two (faults e) k l h = fault_two None e
    given_two wrong k l h = refuses

    d_given : {A : Type 0} (x : Outcome A) (k : A → Attempt) → ((v : A) → D (k v)) → D (given a x k)
    d_given (gives v) k h = h v
    d_given (faults e) k h = d_ends (faulted e)
    d_given wrong k h = d_refused

    proceeds_two : (clause : Option ℕ) (operation : Operation) (kind : Kind) (got : Option (Value × Bool)) {xs ys : List Cell} → Cells xs ys → T (proceeds a clause operation kind got xs) (proceeds a clause operation kind got ys)
    proceeds_two clause operation kind got like = given_two (past a.frame clause got) _ _ (λ f. does_two (onward a f) like)

    d_proceeds : (clause : Option ℕ) (operation : Operation) (kind : Kind) (got : Option (Value × Bool)) (cells : List Cell) → In (Go name) (map object_of cells) → D (proceeds a clause operation kind got cells)
    d_proceeds clause operation kind got cells i = d_given (past a.frame clause got) _ (λ f. d_does i)

    send_to_two : (clause : Option ℕ) (c : ChName) (gate : GateContent) (v : Value) (m n : Attempt) (ws zs : List (Waiter (Unit {0}))) → NoneOf name ws → AllOf name zs → T m n
        → T (send_to a clause c (with_it c gate) v m (ws ++ zs)) (send_to a clause c gate v n ws)
    send_to_two clause c gate v m n (w ∷ ws) zs off mine h = met_two c w (Some (v, true)) _ _ off.0 (λ xs ys like.
        proceeds_two clause (sends_on c) kinds.Hand None (more_cells (thin_cell (w.go ∷ []) c gate (λ b. only b w.go off.0)) like))
    send_to_two clause c gate v m n [] (z ∷ zs) off mine h = by_other (d_met c z (Some (v, true)) _ mine.0 (λ cells i.
        d_proceeds clause (sends_on c) kinds.Hand None (gate_has c (Some (without (z.go ∷ []) (with_it c gate))) ∷ cells) (inr i)))
    send_to_two clause c gate v m n [] [] off mine h = room_two c gate _ _ by
      where
        by : (o : Option ℕ) → T (elim o [ Some n ↦ proceeds a clause (sends_on c) kinds.Buffer None (tail_has c (n + 1) ∷ slot_has c (n % gate.capacity) (Some (n, v)) ∷ []) | None ↦ m ])
            (elim o [ Some n ↦ proceeds a clause (sends_on c) kinds.Buffer None (tail_has c (n + 1) ∷ slot_has c (n % gate.capacity) (Some (n, v)) ∷ []) | None ↦ n ])
        by None = h
        by (Some i) = proceeds_two clause (sends_on c) kinds.Buffer None (more_cells (tail_cell c (i + 1)) (more_cells (slot_cell c (i % gate.capacity) (Some (i, v))) no_cells))

    send_two : (clause : Option ℕ) (c : ChName) (v : Value) (m n : Attempt) → T m n → T (send a clause c v m) (send a clause c v n)
    send_two clause c v m n h = gate_two c _ _ (λ gate at. if_two gate.closed (fault_two (Some (sends_on c)) SendOnClosed)
        (send_to_two clause c gate v m n gate.receivers (receiving c) (nowhere c gate at).1 (theirs_too c) h))

    take_two : (clause : Option ℕ) (c : ChName) (gate : GateContent) (item : ℕ × Value) (ws zs : List (Waiter Value)) → NoneOf name ws → AllOf name zs
        → T (take a clause c (with_it c gate) item (ws ++ zs)) (take a clause c gate item ws)
    take_two clause c gate item (w ∷ ws) zs off mine = asks (met_two c w None _ _ off.0 (λ xs ys like. proceeds_two clause (receives_from c) kinds.Take (Some (item.1, true))
        (more_cells (thin_cell (w.go ∷ []) c gate (λ b. only b w.go off.0)) (more_cells (head_cell c (item.0 + 1)) (more_cells (tail_cell c (r.tails c + 1))
        (more_cells (slot_cell c (item.0 % gate.capacity) (Some (r.tails c, w.value))) like))))))
    take_two clause c gate item [] (z ∷ zs) off mine = by_other (d_asked (d_met c z None _ mine.0 (λ cells i.
        d_proceeds clause (receives_from c) kinds.Take (Some (item.1, true))
        (gate_has c (Some (without (z.go ∷ []) (with_it c gate))) ∷ head_has c (item.0 + 1) ∷ tail_has c (r.tails c + 1) ∷ slot_has c (item.0 % gate.capacity) (Some (r.tails c, z.value)) ∷ cells)
        (inr (inr (inr (inr i)))))))
    take_two clause c gate item [] [] off mine = proceeds_two clause (receives_from c) kinds.Take (Some (item.1, true))
        (more_cells (head_cell c (item.0 + 1)) (more_cells (slot_cell c (item.0 % gate.capacity) None) no_cells))

    receive_from_two : (clause : Option ℕ) (c : ChName) (gate : GateContent) (zero : Value) (m n : Attempt) (item : Option (ℕ × Value)) (ws zs : List (Waiter Value)) → NoneOf name ws → AllOf name zs → T m n
        → T (receive_from a clause c (with_it c gate) zero m item (ws ++ zs)) (receive_from a clause c gate zero n item ws)
    receive_from_two clause c gate zero m n (Some item) ws zs off mine h = take_two clause c gate item ws zs off mine
    receive_from_two clause c gate zero m n None (w ∷ ws) zs off mine h = met_two c w None _ _ off.0 (λ xs ys like.
        proceeds_two clause (receives_from c) kinds.Meet (Some (w.value, true)) (more_cells (thin_cell (w.go ∷ []) c gate (λ b. only b w.go off.0)) like))
    receive_from_two clause c gate zero m n None [] (z ∷ zs) off mine h = by_other (d_met c z None _ mine.0 (λ cells i.
        d_proceeds clause (receives_from c) kinds.Meet (Some (z.value, true)) (gate_has c (Some (without (z.go ∷ []) (with_it c gate))) ∷ cells) (inr i)))
    receive_from_two clause c gate zero m n None [] [] off mine h = if_two gate.closed (proceeds_two clause (receives_from c) kinds.Closed (Some (zero, false)) no_cells) h

    receive_two : (clause : Option ℕ) (c : ChName) (zero : Value) (m n : Attempt) → T m n → T (receive a clause c zero m) (receive a clause c zero n)
    receive_two clause c zero m n h = gate_two c _ _ (λ gate at. item_two c gate _ _ (λ item.
        receive_from_two clause c gate zero m n item gate.senders (sending c) (nowhere c gate at).0 (theirs c) h))

    communicate_two : (clause : Option ℕ) (x : Communication) (m n : Attempt) → T m n → T (communicate a clause x m) (communicate a clause x n)
    communicate_two clause (Sending (Some c) (gives v)) m n h = send_two clause c v m n h
    communicate_two clause (Sending (Some c) (faults f)) m n h = refuses
    communicate_two clause (Sending (Some c) wrong) m n h = refuses
    communicate_two clause (Sending None v) m n h = h
    communicate_two clause (Receiving (Some c) zero) m n h = receive_two clause c zero m n h
    communicate_two clause (Receiving None zero) m n h = h
    communicate_two clause Otherwise m n h = h

    -- a wait
    d_enqueued : (ws : List (Option ℕ × Communication)) (cs : List ChName) (k : List Cell → Attempt) → ((cells : List Cell) → AllGates name left sending receiving r actor cells → D (k cells)) → D (ask_enqueued a.name ws cs k)
    d_enqueued ws [] k h = h [] tt
    d_enqueued ws (c ∷ cs) k h = d_gate c _ (λ gate.
        let cell = gate_has c (Some (fold (λ gate w. enqueued a.name c gate w.0 w.1) gate ws)) in
        d_enqueued ws cs (λ cells. k (cell ∷ cells)) (λ cells g. h (cell ∷ cells) g))

    wait_two : (operation : Option Operation) (kind : Kind) (ws : List (Option ℕ × Communication)) {b : Attempt} → T (wait a operation kind ws) b
    wait_two operation kind ws = by_other (d_enqueued ws (channels_but [] (all_waits ws)) _ (λ cells g. record {
      is = inr (inr (record {
        goroutine = record (a.before) { status = waiting (all_waits ws); steps = a.before.steps + 1 };
        gates = cells;
        is = ap (λ n. go_has n (Some (record (a.before) { status = waiting (all_waits ws); steps = a.before.steps + 1 })) ∷ cells) named;
        waits = refl;
        all = g;
      }));
    }))

    alone_two : (x : Communication) → T (proceed_or_wait a x) (proceed_or_wait a x)
    alone_two (Sending c v) = communicate_two None (Sending c v) _ _ (wait_two (option_map sends_on c) kinds.SendWait ((None, Sending c v) ∷ []))
    alone_two (Receiving c zero) = communicate_two None (Receiving c zero) _ _ (wait_two (option_map receives_from c) kinds.RecvWait ((None, Receiving c zero) ∷ []))
    alone_two Otherwise = refuses

    waiters_two : (names : List (List ℕ)) (k l : List (List ℕ × Goroutine × List Wait) → Attempt) → ((b : List ℕ) → In b names → b ≡ name → ⊥)
        → ((us : List (List ℕ × Goroutine × List Wait)) → map (λ z. z.0) us ≡ names → T (k us) (l us)) → T (ask_waiters names k) (ask_waiters names l)
    waiters_two [] k l off h = h [] refl
    waiters_two (n ∷ names) k l off h = waiter_two n _ _ (off n (inl refl)) (λ g ws.
        waiters_two names (λ others. k ((n, g, ws) ∷ others)) (λ others. l ((n, g, ws) ∷ others)) (λ b i. off b (inr i)) (λ us e. h ((n, g, ws) ∷ us) (ap (λ ns. n ∷ ns) e)))

    awake_two : (us : List (List ℕ × Goroutine × List Wait)) {xs ys : List Cell} → ((b : List ℕ) → In b (map (λ z. z.0) us) → b ≡ name → ⊥) → Cells xs ys
        → Cells (map (λ z. go_has z.0 (Some (record (z.1) { status = ready }))) us ++ xs) (map (λ z. go_has z.0 (Some (record (z.1) { status = ready }))) us ++ ys)
    awake_two [] off like = like
    awake_two (u ∷ us) off like = more_cells (go_cell u.0 (off u.0 (inl refl)) (Some (record (u.1) { status = ready }))) (awake_two us (λ b i. off b (inr i)) like)

    abbrev names_in : List (Waiter Value) → List (Waiter (Unit {0})) → List (List ℕ)
    names_in xs ys = once (map (λ w. w.go) xs ++ map (λ w. w.go) ys)

    names_off : (xs : List (Waiter Value)) (ys : List (Waiter (Unit {0}))) → NoneOf name xs → NoneOf name ys → (b : List ℕ) → In b (names_in xs ys) → b ≡ name → ⊥
    names_off xs ys h k b i e = elim (In-append_cases b (map (λ w. w.go) xs) (map (λ w. w.go) ys) (in_once (map (λ w. w.go) xs ++ map (λ w. w.go) ys) b i)) [
      | inl j ↦ none_in name xs h b j e
      | inr j ↦ none_in name ys k b j e
    ]

    -- nobody else waits on the channel that is closed
    close_apart : (c : ChName) (gate : GateContent) → NoneOf name gate.senders → NoneOf name gate.receivers → sending c ≡ [] → receiving c ≡ []
        → T (close_open a c gate (names_in gate.senders gate.receivers)) (close_open a c gate (names_in gate.senders gate.receivers))
    close_apart c gate h k none none_too =
        let names = names_in gate.senders gate.receivers in
        let off = names_off gate.senders gate.receivers h k in
        let shut = record gate { closed = true; senders = []; receivers = [] } in
        let same : with_it c shut ≡ shut = λ i. record shut { senders = none i; receivers = none_too i } in
        waiters_two names _ _ off (λ us e. withdrawn_two names (channels_but (c ∷ []) (flat_map (λ z. z.2) us)) _ _ off (λ xs ys like.
        does_two (onward a (goes_on a.frame)) (more_cells (subst (λ g. OffCell name left sending receiving (gate_has c (Some g)) (gate_has c (Some shut))) same (gate_cell c shut))
        (awake_two us (λ b i. off b (subst (In b) e i)) like))))

    d_waiters : (names : List (List ℕ)) (k : List (List ℕ × Goroutine × List Wait) → Attempt) → ((us : List (List ℕ × Goroutine × List Wait)) → map (λ z. z.0) us ≡ names → D (k us)) → D (ask_waiters names k)
    d_waiters [] k h = h [] refl
    d_waiters (n ∷ names) k h = d_waiter n _ (λ g ws. d_waiters names (λ others. k ((n, g, ws) ∷ others)) (λ us e. h ((n, g, ws) ∷ us) (ap (λ ns. n ∷ ns) e)))

    woken : (us : List (List ℕ × Goroutine × List Wait)) (cells : List Cell) → In name (map (λ z. z.0) us) → In (Go name) (map object_of (map (λ z. go_has z.0 (Some (record (z.1) { status = ready }))) us ++ cells))
    woken [] cells i = absurd i
    woken (u ∷ us) cells i = elim i [ inl e ↦ inl (ap Go e) | inr j ↦ inr (woken us cells j) ]

    close_woken : (c : ChName) (gate : GateContent) (names : List (List ℕ)) → In name names → D (close_open a c gate names)
    close_woken c gate names i = d_waiters names _ (λ us e. d_withdrawn names (channels_but (c ∷ []) (flat_map (λ z. z.2) us)) _ (λ cells. d_does (inr (woken us cells (subst (In name) (sym e) i)))))

    close_open_two : (c : ChName) (gate : GateContent) → NoneOf name gate.senders → NoneOf name gate.receivers → (xs : List (Waiter Value)) → sending c ≡ xs → AllOf name xs → (ys : List (Waiter (Unit {0}))) → receiving c ≡ ys → AllOf name ys
        → T (close_open a c (with_it c gate) (names_in (gate.senders ++ sending c) (gate.receivers ++ receiving c))) (close_open a c gate (names_in gate.senders gate.receivers))
    close_open_two c gate h k [] none mine [] none_too mine_too =
        let same : with_it c gate ≡ gate = λ i. record gate { senders = (ap (λ x. gate.senders ++ x) none ∙ append-nil gate.senders) i; receivers = (ap (λ x. gate.receivers ++ x) none_too ∙ append-nil gate.receivers) i } in
        subst (λ g. T (close_open a c g (names_in g.senders g.receivers)) (close_open a c gate (names_in gate.senders gate.receivers))) (sym same) (close_apart c gate h k none none_too)
    close_open_two c gate h k (x ∷ xs) some mine ys e mine_too = by_other (close_woken c (with_it c gate) _ (to_once _ name
        (In-append_left name (map (λ w. w.go) (gate.senders ++ sending c)) (map (λ w. w.go) (gate.receivers ++ receiving c)) (subst (λ z. In name (map (λ w. w.go) (gate.senders ++ z))) (sym some) (first_of name gate.senders xs x mine.0)))))
    close_open_two c gate h k [] none mine (y ∷ ys) some mine_too = by_other (close_woken c (with_it c gate) _ (to_once _ name
        (In-append_right name (map (λ w. w.go) (gate.senders ++ sending c)) (map (λ w. w.go) (gate.receivers ++ receiving c)) (subst (λ z. In name (map (λ w. w.go) (gate.receivers ++ z))) (sym some) (first_of name gate.receivers ys y mine_too.0)))))

    close_two : (c : Option ChName) → T (close a c) (close a c)
    close_two None = fault_two None CloseOfNil
    close_two (Some c) = gate_two c _ _ (λ gate at. if_two gate.closed (fault_two (Some (closes c)) CloseOfClosed)
        (close_open_two c gate (nowhere c gate at).0 (nowhere c gate at).1 (sending c) refl (theirs c) (receiving c) refl (theirs_too c)))

    ready_two : (x : Communication) (k l : Bool → Attempt) → ((b d : Bool) → (b ≡ false → d ≡ false) → T (k b) (l d)) → T (ask_ready x k) (ask_ready x l)
    ready_two (Sending (Some c) v) k l h = gate_two c _ _ (λ gate at. room_two c gate _ _ (λ o.
        h (gate.closed || has_any (gate.receivers ++ receiving c) || is_some o) (gate.closed || has_any gate.receivers || is_some o) (less_ready gate.closed (is_some o) gate.receivers (receiving c))))
    ready_two (Sending None v) k l h = h false false (λ e. e)
    ready_two (Receiving (Some c) zero) k l h = gate_two c _ _ (λ gate at. item_two c gate _ _ (λ o.
        h (gate.closed || has_any (gate.senders ++ sending c) || is_some o) (gate.closed || has_any gate.senders || is_some o) (less_ready gate.closed (is_some o) gate.senders (sending c))))
    ready_two (Receiving None zero) k l h = h false false (λ e. e)
    ready_two Otherwise k l h = h false false (λ e. e)

    none_ready_two : (cs : List Communication) (m n : Attempt) → T m n → T (if_none_ready cs m) (if_none_ready cs n)
    none_ready_two [] m n h = h
    none_ready_two (c ∷ cs) m n h = ready_two c _ _ (λ b d e. by (none_ready_two cs m n h) b d e)
      where
        by : T (if_none_ready cs m) (if_none_ready cs n) → (b d : Bool) → (b ≡ false → d ≡ false)
            → T (if b then refuse no_such_choice else if_none_ready cs m) (if d then refuse no_such_choice else if_none_ready cs n)
        by ih true d e = refuses
        by ih false true e = absurd (no_truth (sym (e refl)))
        by ih false false e = ih

    d_ready : (x : Communication) (k : Bool → Attempt) → ((b : Bool) → D (k b)) → D (ask_ready x k)
    d_ready (Sending (Some c) v) k h = d_gate c _ (λ gate. d_asked (d_if (gate.capacity == 0) (h _) (d_asked (h _))))
    d_ready (Sending None v) k h = h false
    d_ready (Receiving (Some c) zero) k h = d_gate c _ (λ gate. d_asked (d_if (gate.capacity == 0) (h _) (d_asked (h _))))
    d_ready (Receiving None zero) k h = h false
    d_ready Otherwise k h = h false

    pick_two : (i : ℕ) (vs : Outcome (List Value)) (o : Option Communication) → T (pick a i vs o) (pick a i vs o)
    pick_two i vs None = refuses
    pick_two i (gives vs) (Some c) = communicate_two (Some i) c _ _ refuses
    pick_two i (faults e) (Some c) = by_other (d_ready c _ by)
      where
        by : (b : Bool) → D (if b then fault a None e else refuse no_such_choice)
        by true = d_ends (faulted e)
        by false = d_refused
    pick_two i wrong (Some c) = refuses

    default_two : (cs : List Communication) (o : Option ℕ) → T (default a cs o) (default a cs o)
    default_two cs (Some i) = none_ready_two cs _ _ (given_two (values_of cs) _ _ (λ vs. given_two (past a.frame (Some i) None) _ _ (λ f. does_two (onward a f) no_cells)))
    default_two cs None = refuses

    park_two : (cs : List Communication) (o : Option ℕ) → T (park a cs o) (park a cs o)
    park_two cs (Some i) = refuses
    park_two cs None = none_ready_two cs _ _ (given_two (values_of cs) _ _ (λ vs. wait_two None kinds.SelectWait (numbered 1 cs)))

    choose_two : (cs : List Communication) (z : Choice) → T (choose a cs z) (choose a cs z)
    choose_two cs choices.Plain = refuses
    choose_two cs (choices.Pick i) = pick_two i (values_of cs) (clause_at cs i)
    choose_two cs choices.Default = default_two cs (default_from 1 cs)
    choose_two cs choices.Park = park_two cs (default_from 1 cs)

    enter_two : (function : ℕ) (vs : List Value) → T (enter a function vs) (enter a function vs)
    enter_two function vs = if_two (is_deepest a.before.frames) (fault_two None CallDepth) (given_two (call_of a.program function vs) _ _ (λ f. does_two (with_frames a (f ∷ a.before.frames)) no_cells))

    finish_two : (n : List ℕ) → T (finish a n) (finish a n)
    finish_two [] = by_other (d_ends ended)
    finish_two (n ∷ ns) = does_two (record (a.before) { status = finished; frames = []; steps = a.before.steps + 1 }) no_cells

    leave_two : (v : Value) (fs : List Frame) → T (leave a v fs) (leave a v fs)
    leave_two v [] = finish_two a.name
    leave_two v (f ∷ fs) = given_two (resumed f v) _ _ (λ f. does_two (with_frames a (f ∷ fs)) no_cells)

    go_two : (function : ℕ) (vs : List Value) → T (go a function vs) (go a function vs)
    go_two function vs = if_two (nat_le most_counts (length a.name)) (fault_two None NameDepth) (if_two (nat_le greatest_count a.before.children) (fault_two None NameCount) (asks (by (same_go (child a) name) refl)))
      where
        then_so : (child a ≡ name → ⊥) → (o : Option Goroutine) → T (if_absent (given a (call_of a.program function vs) (λ f.
            simply a kinds.Go (record (onward a (goes_on a.frame)) { children = a.before.children + 1 }) (go_has (child a) (Some (started f)) ∷ []))) o)
            (if_absent (given a (call_of a.program function vs) (λ f. simply a kinds.Go (record (onward a (goes_on a.frame)) { children = a.before.children + 1 }) (go_has (child a) (Some (started f)) ∷ []))) o)
        then_so off None = given_two (call_of a.program function vs) _ _ (λ f. does_two (record (onward a (goes_on a.frame)) { children = a.before.children + 1 }) (more_cells (go_cell (child a) off (Some (started f))) no_cells))
        then_so off (Some g) = refuses

        by : (b : Bool) → same_go (child a) name ≡ b → T (if_absent (given a (call_of a.program function vs) (λ f.
            simply a kinds.Go (record (onward a (goes_on a.frame)) { children = a.before.children + 1 }) (go_has (child a) (Some (started f)) ∷ []))) (if b then Some left else r.goroutines (child a)))
            (if_absent (given a (call_of a.program function vs) (λ f. simply a kinds.Go (record (onward a (goes_on a.frame)) { children = a.before.children + 1 }) (go_has (child a) (Some (started f)) ∷ []))) (r.goroutines (child a)))
        by true e = refuses
        by false e = then_so (λ q. not_same (child a) q e) (r.goroutines (child a))
          where
            not_same : (n : List ℕ) → n ≡ name → same_go n name ≡ false → ⊥
            not_same n q f = no_truth (sym f ∙ ap (λ x. same_go x name) q ∙ go_self name)

    counted_two : (operation : Option Operation) (n : ℕ) → T (counted a operation n) (counted a operation n)
    counted_two operation n = given_two (resumed a.frame _) _ _ (λ f. does_two (onward a f) no_cells)

    len_two : (c : Option ChName) → T (take_len a c) (take_len a c)
    len_two None = counted_two None 0
    len_two (Some c) = gate_two c _ _ (λ gate at. asks (asks (counted_two (Some (takes_len_of c)) (r.tails c - r.heads c))))

    cap_two : (c : Option ChName) → T (take_cap a c) (take_cap a c)
    cap_two None = counted_two None 0
    cap_two (Some c) = gate_two c _ _ (λ gate at. counted_two (Some (takes_cap_of c)) gate.capacity)

    print_two : (line : List ℕ) → T (print a line) (print a line)
    print_two line = performs (more_cells (go_cell a.name apart _) no_cells)

    -- the channel that it would make next is not there
    module _ (fresh : r.gates (new_channel a) ≡ None) where
      make_two : (n : ℤ) → T (make a n) (make a n)
      make_two (negsuc n) = fault_two None BadSize
      make_two (pos n) =
          let new : GateContent = record { capacity = n; closed = false; senders = []; receivers = [] } in
          let none = made (new_channel a) fresh in
          let same : with_it (new_channel a) new ≡ new = λ i. record new { senders = none.0 i; receivers = none.1 i } in
          if_two (nat_le (most_places + 1) n) (fault_two None BadSize) (if_two (nat_le greatest_count a.before.channels) (fault_two None NameCount) (given_two (resumed a.frame _) _ _ (λ f.
          does_two (record (onward a f) { channels = a.before.channels + 1 })
          (more_cells (subst (λ g. OffCell name left sending receiving (gate_has (new_channel a) (Some g)) (gate_has (new_channel a) (Some new))) same (gate_cell (new_channel a) new)) no_cells))))

      act_two : (d : Deed) → T (act a d) (act a d)
      act_two (Moves on) = does_two (onward a on) no_cells
      act_two (Prints line) = print_two line
      act_two (Enters function vs) = enter_two function vs
      act_two (Leaves v) = leave_two v a.below
      act_two (Starts function vs) = go_two function vs
      act_two (Makes n) = make_two n
      act_two (TakesLen c) = len_two c
      act_two (TakesCap c) = cap_two c
      act_two (Closes c) = close_two c
      act_two (Communicates c) = alone_two c
      act_two (Chooses cs) = refuses

      plain_two : (choice : Choice) (d : Deed) → T (act_by a choice (gives d)) (act_by a choice (gives d))
      plain_two choice (Chooses cs) = choose_two cs choice
      plain_two choices.Plain d = act_two d
      plain_two _ d = refuses

      by_two : (choice : Choice) (d : Outcome Deed) → T (act_by a choice d) (act_by a choice d)
      by_two choice (gives d) = plain_two choice d
      by_two choices.Plain (faults e) = fault_two None e
      by_two choices.Plain wrong = refuses
      by_two _ (faults e) = refuses
      by_two _ wrong = refuses

  pub attempt_two : (p : Program) (e : Event) → e.go ≡ actor → NextFresh r e.go (r.goroutines e.go) → T (attempt p e) (attempt p e)
  attempt_two p e own fresh = asks (by_run r.run)
    where
      by_frames : (g : Goroutine) (fs : List Frame) → NextFresh r e.go (Some g) → T (act_in p e g fs) (act_in p e g fs)
      by_frames g [] k = refuses
      by_frames g (f ∷ fs) k = by_two (record { program = p; name = e.go; before = g; frame = f; below = fs }) own k e.choice (deed f)

      by_status : (g : Goroutine) (x : Status) → NextFresh r e.go (Some g) → T (if_ready p e g x) (if_ready p e g x)
      by_status g ready k = by_frames g g.frames k
      by_status g (waiting ws) k = refuses
      by_status g finished k = refuses

      by_known : (o : Option Goroutine) → NextFresh r e.go o → T (if_known p e o) (if_known p e o)
      by_known None k = refuses
      by_known (Some g) k = by_status g g.status k

      by_run : (x : Run) → T (if_live (ask_go e.go (if_known p e)) x) (if_live (ask_go e.go (if_known p e)) x)
      by_run live = asks (subst (λ o. T (if_known p e o) (if_known p e (r.goroutines e.go))) (sym (go_here e.go (λ q. other (sym own ∙ q)))) (by_known (r.goroutines e.go) fresh))
      by_run ended = refuses
      by_run (faulted f) = refuses
