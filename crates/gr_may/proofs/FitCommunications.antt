-- Communications and `close` keep within bounds.
use Rattle.std.proofs.Common.{fold, ◌≡◌, ℕ, ◌+◌, ◌%◌, Bool, true, false, if◌then◌else◌, List, [], ◌∷◌, ◌++◌, map, Option, Some, None, refl, sym, subst, inl, inr}
use Rattle.gr_base.specs.declared.names.ChName.{ChName}
use Rattle.gr_base.specs.declared.values.Value.{Value}
use Rattle.gr_base.specs.declared.kinds.Fault.TheVariants.{SendOnClosed, CloseOfClosed, CloseOfNil}
use Rattle.gr_base.specs.declared.kinds.Kind.{Kind}
use Rattle.gr_base.specs.declared.kinds.Kind.TheVariants.{Hand, Buffer, Take, Meet, Closed, SendWait, RecvWait}
use Rattle.gr_causal.proofs.ListLemmas.{In-append_cases}
use Rattle.gr_channels.specs.declared.waiter.Waiter.{Waiter}
use Rattle.gr_channels.specs.Objects.{GateContent}
use Rattle.gr_rules.specs.Outcomes.{gives, faults, wrong}
use Rattle.gr_rules.specs.Operators.{same_channel}
use Rattle.gr_rules.specs.Frames.{goes_on}
use Rattle.gr_rules.specs.Deeds.{Communication, Sending, Receiving, Otherwise}
use Rattle.gr_rules.specs.Goroutines.{Wait, channel_of, ready, Goroutine}
use Rattle.gr_rules.specs.States.{Cell, go_has, gate_has, tail_has, head_has, slot_has, State}
use Rattle.gr_rules.specs.Attempts.{Operation, sends_on, receives_from, closes, Attempt}
use Rattle.gr_rules.specs.Actors.{Actor, without, channels_but}
use Rattle.gr_rules.specs.Communications.{proceeds, send_to, send, take, receive_from, receive, communicate, waits_for, all_waits, enqueued, ask_enqueued, wait, proceed_or_wait, once, ask_waiters, close_open, close}
use Rattle.gr_may.specs.Uses.{to_send, to_receive, to_close, Usage, Shared}
use Rattle.gr_may.specs.Covers.{wish, WaitsFit, GoFits}
use Rattle.gr_may.proofs.Given.{given}
use Rattle.gr_may.proofs.FitValues.{GotFits}
use Rattle.gr_may.proofs.FitFrames.{past_on, goes_on_fits}
use Rattle.gr_may.proofs.FitDeeds.{MayDo, CommunicationFits}
use Rattle.gr_may.proofs.FitAttempts.{QueueFits, without_fits, CellsFit, cells_join, OperationFits, Begins, refused, asked, if_keeps, gate_keeps, room_keeps, item_keeps, waiter_keeps, withdrawn_keeps, met_keeps, Acts, G, all_frames, onward_fits, does_keeps, fault_keeps, given_keeps}

module _ (usage : Usage) (n : List ℕ) where
  -- communications with the numbers of their clauses
  abbrev pub NumberedFit : List (Option ℕ × Communication) → Type 0
  NumberedFit [] = Unit {0}
  NumberedFit (x ∷ xs) = CommunicationFits usage n x.1 × NumberedFit xs

  waits_fit : (clause : Option ℕ) (x : Communication) → CommunicationFits usage n x → WaitsFit usage n (waits_for clause x)
  waits_fit clause (Sending (Some c) v) h w (inl e) = subst (λ (w : Wait). usage.permits n (channel_of w) (wish w) ≡ true) (sym e) h.0
  waits_fit clause (Sending (Some c) v) h w (inr i) = absurd i
  waits_fit clause (Sending None v) h w i = absurd i
  waits_fit clause (Receiving (Some c) zero) h w (inl e) = subst (λ (w : Wait). usage.permits n (channel_of w) (wish w) ≡ true) (sym e) h.0
  waits_fit clause (Receiving (Some c) zero) h w (inr i) = absurd i
  waits_fit clause (Receiving None zero) h w i = absurd i
  waits_fit clause Otherwise h w i = absurd i

  all_waits_fit : (xs : List (Option ℕ × Communication)) → NumberedFit xs → WaitsFit usage n (all_waits xs)
  all_waits_fit [] h w i = absurd i
  all_waits_fit (x ∷ xs) h w i = elim (In-append_cases w (waits_for x.0 x.1) (all_waits xs) i) [
    | inl j ↦ waits_fit x.0 x.1 h.0 w j
    | inr j ↦ all_waits_fit xs h.1 w j
  ]

  enqueued_fits : (c : ChName) (gate : GateContent) (clause : Option ℕ) (x : Communication) → CommunicationFits usage n x → QueueFits usage gate.senders
      → QueueFits usage (enqueued n c gate clause x).senders
  enqueued_fits c gate clause (Sending (Some d) (gives v)) (h, given s) q = by_same (same_channel c d)
    where
      by_same : (b : Bool) → QueueFits usage (if b then record gate { senders = gate.senders ++ record { go = n; case = clause; value = v } ∷ [] } else gate).senders
      by_same true w i = elim (In-append_cases w gate.senders _ i) [
        | inl j ↦ q w j
        | inr j ↦ elim j [ inl e ↦ subst (λ (w : Waiter Value). Shared usage w.value) (sym e) s | inr k ↦ absurd k ]
      ]
      by_same false w i = q w i
  enqueued_fits c gate clause (Sending (Some d) (faults f)) h q = q
  enqueued_fits c gate clause (Sending (Some d) wrong) h q = q
  enqueued_fits c gate clause (Sending None v) h q = q
  enqueued_fits c gate clause (Receiving (Some d) zero) h q = by_same (same_channel c d)
    where
      by_same : (b : Bool) → QueueFits usage (if b then record gate { receivers = gate.receivers ++ record { go = n; case = clause; value = tt } ∷ [] } else gate).senders
      by_same true w i = q w i
      by_same false w i = q w i
  enqueued_fits c gate clause (Receiving None zero) h q = q
  enqueued_fits c gate clause Otherwise h q = q

  all_enqueued_fit : (c : ChName) (gate : GateContent) (xs : List (Option ℕ × Communication)) → NumberedFit xs → QueueFits usage gate.senders
      → QueueFits usage (fold (λ (gate : GateContent) (w : Option ℕ × Communication). enqueued n c gate w.0 w.1) gate xs).senders
  all_enqueued_fit c gate [] h q = q
  all_enqueued_fit c gate (x ∷ xs) h q = all_enqueued_fit c (enqueued n c gate x.0 x.1) xs h.1 (enqueued_fits c gate x.0 x.1 h.0 q)

module _ (usage : Usage) (s : State) (a : Actor) (acts : Acts usage s a) where
  abbrev A : Attempt → Type 0
  A x = G usage s a acts x

  abbrev Do : Option Operation → Type 0
  Do o = OperationFits a.program usage a.name o

  abbrev Cs : List Cell → Type 0
  Cs cells = CellsFit a.program usage cells

  proceeds_keeps : (clause : Option ℕ) (operation : Operation) (kind : Kind) (got : Option (Value × Bool)) (cells : List Cell)
      → Begins a.program usage s a.name kind → Do (Some operation) → GotFits usage got → Cs cells → A (proceeds a clause operation kind got cells)
  proceeds_keeps clause operation kind got cells b o g h =
      given_keeps usage s a acts (past_on a.program usage a.name a.frame acts.frame clause got g)
      (λ f on. does_keeps usage s a acts b o (onward_fits usage s a acts f on) h)

  send_to_keeps : (clause : Option ℕ) (c : ChName) (gate : GateContent) (v : Value) (otherwise : Attempt) (ws : List (Waiter (Unit {0})))
      → usage.permits a.name c to_send ≡ true → Shared usage v → QueueFits usage gate.senders → A otherwise → A (send_to a clause c gate v otherwise ws)
  send_to_keeps clause c gate v otherwise (w ∷ ws) m h q o = met_keeps a.program usage s a.name acts.covers c w (Some (v, true)) _ h
      (λ cells f. proceeds_keeps clause (sends_on c) Hand None (gate_has c (Some (without (w.go ∷ []) gate)) ∷ cells) tt m tt (without_fits usage (w.go ∷ []) gate q, f))
  send_to_keeps clause c gate v otherwise [] m h q o = room_keeps a.program usage s a.name acts.covers c gate (elim [
    | Some i ↦ proceeds a clause (sends_on c) Buffer None (tail_has c (i + 1) ∷ slot_has c (i % gate.capacity) (Some (i, v)) ∷ [])
    | None ↦ otherwise
  ]) o
      (λ i. proceeds_keeps clause (sends_on c) Buffer None (tail_has c (i + 1) ∷ slot_has c (i % gate.capacity) (Some (i, v)) ∷ []) tt m tt (tt, (h, tt)))

  send_keeps : (clause : Option ℕ) (c : ChName) (v : Value) (otherwise : Attempt)
      → usage.permits a.name c to_send ≡ true → Shared usage v → A otherwise → A (send a clause c v otherwise)
  send_keeps clause c v otherwise m h o = gate_keeps a.program usage s a.name acts.covers (λ gate q. if_keeps a.program usage s a.name gate.closed
      (fault_keeps usage s a acts (Some (sends_on c)) SendOnClosed m) (send_to_keeps clause c gate v otherwise gate.receivers m h q o))

  take_keeps : (clause : Option ℕ) (c : ChName) (gate : GateContent) (i : ℕ) (v : Value) (ws : List (Waiter Value))
      → usage.permits a.name c to_receive ≡ true → Shared usage v → QueueFits usage gate.senders → QueueFits usage ws → A (take a clause c gate (i, v) ws)
  take_keeps clause c gate i v [] m h q r = proceeds_keeps clause (receives_from c) Take (Some (v, true)) (head_has c (i + 1) ∷ slot_has c (i % gate.capacity) None ∷ []) tt m h (tt, (tt, tt))
  take_keeps clause c gate i v (w ∷ ws) m h q r = asked a.program usage s a.name (met_keeps a.program usage s a.name acts.covers c w None _ tt
      (λ cells f. proceeds_keeps clause (receives_from c) Take (Some (v, true)) (gate_has c (Some (without (w.go ∷ []) gate)) ∷ head_has c (i + 1) ∷ tail_has c (s.tails c + 1)
      ∷ slot_has c (i % gate.capacity) (Some (s.tails c, w.value)) ∷ cells) tt m h (without_fits usage (w.go ∷ []) gate q, (tt, (tt, (r w (inl refl), f))))))

  receive_from_keeps : (clause : Option ℕ) (c : ChName) (gate : GateContent) (initial : Value) (otherwise : Attempt) (ws : List (Waiter Value))
      → usage.permits a.name c to_receive ≡ true → Shared usage initial → QueueFits usage gate.senders → QueueFits usage ws → A otherwise
      → A (receive_from a clause c gate initial otherwise None ws)
  receive_from_keeps clause c gate initial otherwise (w ∷ ws) m h q r o = met_keeps a.program usage s a.name acts.covers c w None _ tt
      (λ cells f. proceeds_keeps clause (receives_from c) Meet (Some (w.value, true)) (gate_has c (Some (without (w.go ∷ []) gate)) ∷ cells) tt m (r w (inl refl)) (without_fits usage (w.go ∷ []) gate q, f))
  receive_from_keeps clause c gate initial otherwise [] m h q r o = if_keeps a.program usage s a.name gate.closed
      (proceeds_keeps clause (receives_from c) Closed (Some (initial, false)) [] tt m h tt) o

  receive_keeps : (clause : Option ℕ) (c : ChName) (initial : Value) (otherwise : Attempt)
      → usage.permits a.name c to_receive ≡ true → Shared usage initial → A otherwise → A (receive a clause c initial otherwise)
  receive_keeps clause c initial otherwise m h o = gate_keeps a.program usage s a.name acts.covers (λ gate q.
      item_keeps a.program usage s a.name acts.covers c gate (λ item. receive_from a clause c gate initial otherwise item gate.senders)
      (receive_from_keeps clause c gate initial otherwise gate.senders m h q q o)
      (λ i v k. take_keeps clause c gate i v gate.senders m k q q))

  pub communicate_keeps : (clause : Option ℕ) (x : Communication) (otherwise : Attempt) → CommunicationFits usage a.name x → A otherwise
      → A (communicate a clause x otherwise)
  communicate_keeps clause (Sending (Some c) (gives v)) otherwise (m, given h) o = send_keeps clause c v otherwise m h o
  communicate_keeps clause (Sending (Some c) (faults f)) otherwise h o = refused a.program usage s a.name
  communicate_keeps clause (Sending (Some c) wrong) otherwise h o = refused a.program usage s a.name
  communicate_keeps clause (Sending None v) otherwise h o = o
  communicate_keeps clause (Receiving (Some c) initial) otherwise h o = receive_keeps clause c initial otherwise h.0 h.1 o
  communicate_keeps clause (Receiving None initial) otherwise h o = o
  communicate_keeps clause Otherwise otherwise h o = o

  enqueued_keeps : (xs : List (Option ℕ × Communication)) (cs : List ChName) (k : List Cell → Attempt) → NumberedFit usage a.name xs
      → ((cells : List Cell) → Cs cells → A (k cells)) → A (ask_enqueued a.name xs cs k)
  enqueued_keeps xs [] k m h = h [] tt
  enqueued_keeps xs (c ∷ cs) k m h = gate_keeps a.program usage s a.name acts.covers (λ gate q.
      let cell = gate_has c (Some (fold (λ gate w. enqueued a.name c gate w.0 w.1) gate xs)) in
      enqueued_keeps xs cs (λ cells. k (cell ∷ cells)) m (λ cells f. h (cell ∷ cells) (all_enqueued_fit usage a.name c gate xs m q, f)))

  pub wait_keeps : (operation : Option Operation) (kind : Kind) (xs : List (Option ℕ × Communication)) → Begins a.program usage s a.name kind → Do operation
      → NumberedFit usage a.name xs → A (wait a operation kind xs)
  wait_keeps operation kind xs b o m = enqueued_keeps xs (channels_but [] (all_waits xs)) _ m
      (λ cells f. does_keeps usage s a acts b o (record { frames = all_frames usage s a acts; status = all_waits_fit usage a.name xs m }) f)

  pub alone_keeps : (x : Communication) → CommunicationFits usage a.name x → A (proceed_or_wait a x)
  alone_keeps (Sending (Some c) v) h = communicate_keeps None (Sending (Some c) v) _ h (wait_keeps (Some (sends_on c)) SendWait ((None, Sending (Some c) v) ∷ []) tt h.0 (h, tt))
  alone_keeps (Sending None v) h = communicate_keeps None (Sending None v) _ h (wait_keeps None SendWait ((None, Sending None v) ∷ []) tt tt (h, tt))
  alone_keeps (Receiving (Some c) initial) h =
      communicate_keeps None (Receiving (Some c) initial) _ h (wait_keeps (Some (receives_from c)) RecvWait ((None, Receiving (Some c) initial) ∷ []) tt h.0 (h, tt))
  alone_keeps (Receiving None initial) h = communicate_keeps None (Receiving None initial) _ h (wait_keeps None RecvWait ((None, Receiving None initial) ∷ []) tt tt (h, tt))
  alone_keeps Otherwise h = refused a.program usage s a.name

  -- goroutines that wait
  abbrev WaitersFit : List (List ℕ × Goroutine × List Wait) → Type 0
  WaitersFit [] = Unit {0}
  WaitersFit (w ∷ ws) = GoFits a.program usage w.0 w.1 × WaitersFit ws

  waiters_keep : (names : List (List ℕ)) (k : List (List ℕ × Goroutine × List Wait) → Attempt)
      → ((ws : List (List ℕ × Goroutine × List Wait)) → WaitersFit ws → A (k ws)) → A (ask_waiters names k)
  waiters_keep [] k h = h [] tt
  waiters_keep (m ∷ names) k h = waiter_keeps a.program usage s a.name acts.covers m _ (λ g ws f.
      waiters_keep names _ (λ others o. h ((m, g, ws) ∷ others) (f, o)))

  awake_fit : (ws : List (List ℕ × Goroutine × List Wait)) → WaitersFit ws
      → Cs (map (λ (w : List ℕ × Goroutine × List Wait). go_has w.0 (Some (record (w.1) { status = ready }))) ws)
  awake_fit [] h = tt
  awake_fit (w ∷ ws) h = (record { frames = h.0.frames; status = tt }, awake_fit ws h.1)

  close_open_keeps : (c : ChName) (gate : GateContent) (names : List (List ℕ)) → usage.permits a.name c to_close ≡ true → A (close_open a c gate names)
  close_open_keeps c gate names m = waiters_keep names _ (λ ws h.
      withdrawn_keeps a.program usage s a.name acts.covers names _ _ (λ cells f.
      does_keeps usage s a acts tt m (onward_fits usage s a acts (goes_on a.frame) (goes_on_fits a.program usage a.name a.frame acts.frame))
      ((λ w i. absurd i), cells_join a.program usage _ cells (awake_fit ws h) f)))

  pub close_keeps : (c : Option ChName) → MayDo usage a.name to_close c → A (close a c)
  close_keeps None h = fault_keeps usage s a acts None CloseOfNil tt
  close_keeps (Some c) h = gate_keeps a.program usage s a.name acts.covers (λ gate q. if_keeps a.program usage s a.name gate.closed
      (fault_keeps usage s a acts (Some (closes c)) CloseOfClosed h)
      (close_open_keeps c gate (once (map (λ w. w.go) gate.senders ++ map (λ w. w.go) gate.receivers)) h))
