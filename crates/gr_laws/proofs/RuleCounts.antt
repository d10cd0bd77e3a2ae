-- Each rule counts its step, so the names of steps are distinct in every log.
use Rattle.std.proofs.Common.{fold, ◌≡◌, ℕ, ℤ, pos, negsuc, ◌+◌, ◌≤◌, nat_le, ◌%◌, if◌then◌else◌, arith, add-one, ◌||◌, Bool, true, false, List, [], ◌∷◌, ◌++◌, map, length, is_some, Option, Some, None, option_map, refl, sym, ◌∙◌, ap, subst, inl, inr}
use Rattle.std.specs.List.{flat_map}
use Rattle.gr_base.specs.declared.names.ChName.{ChName}
use Rattle.gr_base.specs.declared.values.Value.{Value}
use Rattle.gr_base.specs.declared.events.Choice.{Choice}
use Rattle.gr_base.specs.declared.events.Choice.TheVariants as choices
use Rattle.gr_base.specs.declared.events.Event.{Event}
use Rattle.gr_base.specs.declared.kinds.Fault.TheVariants.{SendOnClosed, CloseOfClosed, CloseOfNil, BadSize, CallDepth, NameDepth, NameCount}
use Rattle.gr_base.specs.declared.kinds.Kind.{Kind}
use Rattle.gr_base.specs.declared.kinds.Kind.TheVariants as kinds
use Rattle.gr_base.specs.declared.kinds.Kind.TheVariants.{Hand, Buffer, Take, Meet, SendWait, RecvWait, SelectWait}
use Rattle.gr_base.specs.declared.objects.Object.{Object}
use Rattle.gr_base.specs.declared.objects.Object.TheVariants.{Go}
use Rattle.gr_causal.specs.Rules.{Plan, Note, plan, carried, with_read}
use Rattle.gr_causal.specs.Sequences.{In}
use Rattle.gr_causal.specs.StepNames.{CountsSteps}
use Rattle.gr_causal.proofs.ListLemmas.{true_or_false, some_is, none_not}
use Rattle.gr_channels.specs.declared.waiter.Waiter.{Waiter}
use Rattle.gr_channels.specs.Objects.{GateContent, has_any}
use Rattle.gr_program.specs.Programs.{Program}
use Rattle.gr_rules.specs.Outcomes.{Outcome, gives, faults, wrong}
use Rattle.gr_rules.specs.Frames.{Frame, goes_on}
use Rattle.gr_rules.specs.Deeds.{Communication, Sending, Receiving, Otherwise, Deed, Moves, Prints, Enters, Leaves, Starts, Makes, TakesLen, TakesCap, Closes, Communicates, Chooses, deed, past, resumed}
use Rattle.gr_rules.specs.Goroutines.{Wait, Status, ready, waiting, finished, Goroutine, started}
use Rattle.gr_rules.specs.States.{Run, live, ended, faulted, Cell, run_has, go_has, gate_has, tail_has, head_has, slot_has, State, same_go, object_of, look, put, call_of}
use Rattle.gr_rules.specs.Limits.{most_places, most_counts, greatest_count}
use Rattle.gr_rules.specs.Attempts.{no_such_choice, Operation, sends_on, receives_from, closes, Report, Attempt, refuse, perform, ask, rule_of, ask_go}
use Rattle.gr_rules.specs.Actors.{Actor, onward, does, simply, fault, given, without, clause_at, channels_but}
use Rattle.gr_rules.specs.Communications.{proceeds, send_to, send, take, receive_from, receive, communicate, all_waits, enqueued, ask_enqueued, wait, proceed_or_wait, once, ask_waiters, close_open, close}
use Rattle.gr_rules.specs.Selects.{values_of, ask_ready, if_none_ready, pick, default_from, numbered, default, park, choose}
use Rattle.gr_rules.specs.Steps.{is_deepest, enter, finish, leave, child, if_absent, go, make, counted, take_len, take_cap, print, act, act_by, act_in, if_ready, if_known, if_live, attempt, rulebook, machine, owner, ordinal, count}
use Rattle.gr_laws.proofs.CellLemmas.{go_name, go_is, go_self}
use Rattle.gr_laws.proofs.CountLemmas.{tally, Counts, Others, Raised, put_others, put_mine, Ready, C, refused, asked, if_counts, gate_counts, room_counts, item_counts, withdrawn_counts, own, own_count, does_counts, fault_counts, given_counts, waiter_counts, met_counts}

nil_not : {A : Type 0} {x : A} → x ∷ [] ≡ [] → ⊥
nil_not e = cc

tail_is : {A : Type 0} {x : A} {xs ys : List A} → x ∷ xs ≡ x ∷ ys → xs ≡ ys
tail_is e = cc

-- what is written after the goroutine itself
abbrev pub behind_first : List Object → List Object
behind_first [] = []
behind_first (o ∷ os) = os

module _ (s : State) (a : Actor) (it : Ready s a) where
  proceeds_counts : (clause : Option ℕ) (operation : Operation) (kind : Kind) (got : Option (Value × Bool)) (cells : List Cell)
      → Others s a.name cells → C s a (proceeds a clause operation kind got cells)
  proceeds_counts clause operation kind got cells o = given_counts s a it (past a.frame clause got) (λ f. does_counts s a it refl o)

  send_to_counts : (clause : Option ℕ) (c : ChName) (gate : GateContent) (v : Value) (otherwise : Attempt) (ws : List (Waiter (Unit {0})))
      → C s a otherwise → C s a (send_to a clause c gate v otherwise ws)
  send_to_counts clause c gate v otherwise (w ∷ ws) h = met_counts s a it c w (Some (v, true))
      (λ cells. proceeds a clause (sends_on c) Hand None (gate_has c (Some (without (w.go ∷ []) gate)) ∷ cells))
      (λ cells o. proceeds_counts clause (sends_on c) Hand None (gate_has c (Some (without (w.go ∷ []) gate)) ∷ cells) o)
  send_to_counts clause c gate v otherwise [] h = room_counts s a c gate (elim [
    | Some n ↦ proceeds a clause (sends_on c) Buffer None (tail_has c (n + 1) ∷ slot_has c (n % gate.capacity) (Some (n, v)) ∷ [])
    | None ↦ otherwise
  ]) h (proceeds_counts clause (sends_on c) Buffer None _ (omega arith, tt))

  send_counts : (clause : Option ℕ) (c : ChName) (v : Value) (otherwise : Attempt) → C s a otherwise
      → C s a (send a clause c v otherwise)
  send_counts clause c v otherwise h = gate_counts s a (λ gate.
      if_counts s a gate.closed (fault_counts s a it (Some _) SendOnClosed) (send_to_counts clause c gate v otherwise gate.receivers h))

  take_counts : (clause : Option ℕ) (c : ChName) (gate : GateContent) (v : Value) (ws : List (Waiter Value))
      → C s a (take a clause c gate (s.heads c, v) ws)
  take_counts clause c gate v [] = proceeds_counts clause (receives_from c) Take _ _ (omega arith, tt)
  take_counts clause c gate v (w ∷ ws) = asked s a (met_counts s a it c w None
      (λ cells. proceeds a clause (receives_from c) Take (Some (v, true)) (
      gate_has c (Some (without (w.go ∷ []) gate)) ∷ head_has c (s.heads c + 1) ∷ tail_has c (s.tails c + 1)
      ∷ slot_has c (s.heads c % gate.capacity) (Some (s.tails c, w.value)) ∷ cells))
      (λ cells o. proceeds_counts clause (receives_from c) Take (Some (v, true)) (
      gate_has c (Some (without (w.go ∷ []) gate)) ∷ head_has c (s.heads c + 1) ∷ tail_has c (s.tails c + 1)
      ∷ slot_has c (s.heads c % gate.capacity) (Some (s.tails c, w.value)) ∷ cells) (omega arith, (omega arith, o))))

  receive_from_counts : (clause : Option ℕ) (c : ChName) (gate : GateContent) (zero : Value) (otherwise : Attempt) (ws : List (Waiter Value))
      → C s a otherwise → C s a (receive_from a clause c gate zero otherwise None ws)
  receive_from_counts clause c gate zero otherwise (w ∷ ws) h = met_counts s a it c w None
      (λ cells. proceeds a clause (receives_from c) Meet (Some (w.value, true)) (gate_has c (Some (without (w.go ∷ []) gate)) ∷ cells))
      (λ cells o. proceeds_counts clause (receives_from c) Meet (Some (w.value, true)) (gate_has c (Some (without (w.go ∷ []) gate)) ∷ cells) o)
  receive_from_counts clause c gate zero otherwise [] h =
      if_counts s a gate.closed (proceeds_counts clause (receives_from c) kinds.Closed (Some (zero, false)) [] tt) h

  receive_counts : (clause : Option ℕ) (c : ChName) (zero : Value) (otherwise : Attempt) → C s a otherwise
      → C s a (receive a clause c zero otherwise)
  receive_counts clause c zero otherwise h =
      gate_counts s a (λ gate. item_counts s a c gate (λ item. receive_from a clause c gate zero otherwise item gate.senders)
      (receive_from_counts clause c gate zero otherwise gate.senders h) (λ v. take_counts clause c gate v gate.senders))

  communicate_counts : (clause : Option ℕ) (x : Communication) (otherwise : Attempt) → C s a otherwise
      → C s a (communicate a clause x otherwise)
  communicate_counts clause (Sending (Some c) (gives v)) otherwise h = send_counts clause c v otherwise h
  communicate_counts clause (Sending (Some c) (faults f)) otherwise h = refused s a
  communicate_counts clause (Sending (Some c) wrong) otherwise h = refused s a
  communicate_counts clause (Sending None v) otherwise h = h
  communicate_counts clause (Receiving (Some c) zero) otherwise h = receive_counts clause c zero otherwise h
  communicate_counts clause (Receiving None zero) otherwise h = h
  communicate_counts clause Otherwise otherwise h = h

  enqueued_counts : (name : List ℕ) (ws : List (Option ℕ × Communication)) (cs : List ChName) (k : List Cell → Attempt)
      → ((cells : List Cell) → Others s a.name cells → C s a (k cells)) → C s a (ask_enqueued name ws cs k)
  enqueued_counts name ws [] k h = h [] tt
  enqueued_counts name ws (c ∷ cs) k h = gate_counts s a (λ gate.
      let cell = gate_has c (Some (fold (λ gate w. enqueued name c gate w.0 w.1) gate ws)) in
      enqueued_counts name ws cs (λ cells. k (cell ∷ cells)) (λ cells o. h (cell ∷ cells) o))

  wait_counts : (operation : Option Operation) (kind : Kind) (ws : List (Option ℕ × Communication))
      → C s a (wait a operation kind ws)
  wait_counts operation kind ws =
      enqueued_counts a.name ws (channels_but [] (all_waits ws))
      (does a None operation kind (record (a.before) { status = waiting (all_waits ws); steps = a.before.steps + 1 })) (λ cells o. does_counts s a it refl o)

  alone_counts : (x : Communication) → C s a (proceed_or_wait a x)
  alone_counts (Sending c v) =
      communicate_counts None (Sending c v) (wait a (option_map sends_on c) SendWait ((None, Sending c v) ∷ []))
      (wait_counts (option_map sends_on c) SendWait ((None, Sending c v) ∷ []))
  alone_counts (Receiving c zero) =
      communicate_counts None (Receiving c zero) (wait a (option_map receives_from c) RecvWait ((None, Receiving c zero) ∷ []))
      (wait_counts (option_map receives_from c) RecvWait ((None, Receiving c zero) ∷ []))
  alone_counts Otherwise = refused s a

  abbrev Waiting : List (List ℕ × Goroutine × List Wait) → Type 0
  Waiting [] = Unit {0}
  Waiting (w ∷ ws) = (w.0 ≡ a.name → ⊥) × (tally (Some w.1) ≡ tally (s.goroutines w.0)) × Waiting ws

  waiters_counts : (names : List (List ℕ)) (k : List (List ℕ × Goroutine × List Wait) → Attempt)
      → ((ws : List (List ℕ × Goroutine × List Wait)) → Waiting ws → C s a (k ws)) → C s a (ask_waiters names k)
  waiters_counts [] k h = h [] tt
  waiters_counts (n ∷ ns) k h = waiter_counts s a it n (λ g w. ask_waiters ns (λ others. k ((n, g, w) ∷ others)))
      (λ g w no e. waiters_counts ns (λ others. k ((n, g, w) ∷ others)) (λ ws o. h ((n, g, w) ∷ ws) (no, e, o)))

  awake_others : (ws : List (List ℕ × Goroutine × List Wait)) (cells : List Cell) → Waiting ws → Others s a.name cells
      → Others s a.name (map (λ w. go_has w.0 (Some (record (w.1) { status = ready }))) ws ++ cells)
  awake_others [] cells w o = o
  awake_others (x ∷ ws) cells w o = (w.0, w.1, awake_others ws cells w.2 o)

  close_open_counts : (c : ChName) (gate : GateContent) (names : List (List ℕ)) → C s a (close_open a c gate names)
  close_open_counts c gate names = waiters_counts names _ (λ ws o.
      withdrawn_counts s a names (channels_but (c ∷ []) (flat_map (λ w. w.2) ws)) _ (λ cells q. does_counts s a it refl (awake_others ws cells o q)))

  close_counts : (c : Option ChName) → C s a (close a c)
  close_counts None = fault_counts s a it None CloseOfNil
  close_counts (Some c) = gate_counts s a (λ gate. if_counts s a gate.closed (fault_counts s a it (Some (closes c)) CloseOfClosed)
      (close_open_counts c gate (once (map (λ w. w.go) gate.senders ++ map (λ w. w.go) gate.receivers))))

  ready_counts : (x : Communication) (k : Bool → Attempt) → ((b : Bool) → C s a (k b)) → C s a (ask_ready x k)
  ready_counts (Sending (Some c) v) k h = gate_counts s a (λ gate.
      room_counts s a c gate (λ room. k (gate.closed || has_any gate.receivers || is_some room)) (h _) (h _))
  ready_counts (Sending None v) k h = h false
  ready_counts (Receiving (Some c) zero) k h = gate_counts s a (λ gate.
      item_counts s a c gate (λ item. k (gate.closed || has_any gate.senders || is_some item)) (h _) (λ v. h _))
  ready_counts (Receiving None zero) k h = h false
  ready_counts Otherwise k h = h false

  none_ready_counts : (cs : List Communication) (x : Attempt) → C s a x → C s a (if_none_ready cs x)
  none_ready_counts [] x h = h
  none_ready_counts (c ∷ cs) x h = ready_counts c (λ b. if b then refuse no_such_choice else if_none_ready cs x) (λ b. if_counts s a b (refused s a) (none_ready_counts cs x h))

  pick_counts : (i : ℕ) (vs : Outcome (List Value)) (o : Option Communication) → C s a (pick a i vs o)
  pick_counts i vs None = refused s a
  pick_counts i (gives vs) (Some c) = communicate_counts (Some i) c (refuse no_such_choice) (refused s a)
  pick_counts i (faults e) (Some c) = ready_counts c (λ b. if b then fault a None e else refuse no_such_choice) (λ b. if_counts s a b (fault_counts s a it None e) (refused s a))
  pick_counts i wrong (Some c) = refused s a

  default_counts : (cs : List Communication) (o : Option ℕ) → C s a (default a cs o)
  default_counts cs (Some i) = none_ready_counts cs _ (given_counts s a it (values_of cs) (λ vs. given_counts s a it (past a.frame (Some i) None) (λ f. does_counts s a it refl tt)))
  default_counts cs None = refused s a

  park_counts : (cs : List Communication) (o : Option ℕ) → C s a (park a cs o)
  park_counts cs (Some i) = refused s a
  park_counts cs None = none_ready_counts cs (given a (values_of cs) (λ vs. wait a None SelectWait (numbered 1 cs)))
      (given_counts s a it (values_of cs) (λ vs. wait_counts None SelectWait (numbered 1 cs)))

  choose_counts : (cs : List Communication) (x : Choice) → C s a (choose a cs x)
  choose_counts cs choices.Plain = refused s a
  choose_counts cs (choices.Pick i) = pick_counts i (values_of cs) (clause_at cs i)
  choose_counts cs choices.Default = default_counts cs (default_from 1 cs)
  choose_counts cs choices.Park = park_counts cs (default_from 1 cs)

  enter_counts : (function : ℕ) (vs : List Value) → C s a (enter a function vs)
  enter_counts function vs = if_counts s a (is_deepest a.before.frames) (fault_counts s a it None CallDepth)
      (given_counts s a it (call_of a.program function vs) (λ f. does_counts s a it refl tt))

  finish_counts : (name : List ℕ) → C s a (finish a name)
  finish_counts [] = does_counts s a it refl tt
  finish_counts (n ∷ ns) = does_counts s a it refl tt

  leave_counts : (v : Value) (fs : List Frame) → C s a (leave a v fs)
  leave_counts v [] = finish_counts a.name
  leave_counts v (f ∷ fs) = given_counts s a it (resumed f v) (λ f. does_counts s a it refl tt)

  longer : (n : ℕ) (xs : List ℕ) → xs ++ n ∷ [] ≡ xs → ⊥
  longer n [] e = nil_not e
  longer n (x ∷ xs) e = longer n xs (tail_is e)

  go_counts : (function : ℕ) (vs : List Value) → C s a (go a function vs)
  go_counts function vs = if_counts s a (nat_le most_counts (length a.name)) (fault_counts s a it None NameDepth)
      (if_counts s a (nat_le greatest_count a.before.children) (fault_counts s a it None NameCount) (asked s a (by_child (s.goroutines (child a)) refl)))
    where
      by_child : (x : Option Goroutine) → s.goroutines (child a) ≡ x
          → C s a (if_absent (given a (call_of a.program function vs) (λ f.
          simply a kinds.Go (record (onward a (goes_on a.frame)) { children = a.before.children + 1 }) (go_has (child a) (Some (started f)) ∷ []))) x)
      by_child None e = given_counts s a it (call_of a.program function vs)
          (λ f. does_counts s a it refl (longer (a.before.children + 1) a.name, sym (ap tally e), tt))
      by_child (Some g) e = refused s a

  make_counts : (n : ℤ) → C s a (make a n)
  make_counts (negsuc n) = fault_counts s a it None BadSize
  make_counts (pos n) = if_counts s a (nat_le (most_places + 1) n) (fault_counts s a it None BadSize)
      (if_counts s a (nat_le greatest_count a.before.channels) (fault_counts s a it None NameCount) (given_counts s a it (resumed a.frame _) (λ f. does_counts s a it refl tt)))

  counted_counts : (operation : Option Operation) (n : ℕ) → C s a (counted a operation n)
  counted_counts operation n = given_counts s a it (resumed a.frame _) (λ f. does_counts s a it refl tt)

  len_counts : (c : Option ChName) → C s a (take_len a c)
  len_counts None = counted_counts None 0
  len_counts (Some c) = gate_counts s a (λ gate. asked s a (asked s a (counted_counts _ _)))

  cap_counts : (c : Option ChName) → C s a (take_cap a c)
  cap_counts None = counted_counts None 0
  cap_counts (Some c) = gate_counts s a (λ gate. counted_counts _ _)

  print_counts : (line : List ℕ) → C s a (print a line)
  print_counts line = record { counts = (refl, own_count s a it, own s a it (Some line) refl, tt) }

  act_counts : (d : Deed) → C s a (act a d)
  act_counts (Moves on) = does_counts s a it refl tt
  act_counts (Prints line) = print_counts line
  act_counts (Enters function vs) = enter_counts function vs
  act_counts (Leaves v) = leave_counts v a.below
  act_counts (Starts function vs) = go_counts function vs
  act_counts (Makes n) = make_counts n
  act_counts (TakesLen c) = len_counts c
  act_counts (TakesCap c) = cap_counts c
  act_counts (Closes c) = close_counts c
  act_counts (Communicates c) = alone_counts c
  act_counts (Chooses cs) = refused s a

  plain_counts : (choice : Choice) (d : Deed) → C s a (act_by a choice (gives d))
  plain_counts choice (Chooses cs) = choose_counts cs choice
  plain_counts choices.Plain d = act_counts d
  plain_counts _ d = refused s a

  by_counts : (choice : Choice) (d : Outcome Deed) → C s a (act_by a choice d)
  by_counts choice (gives d) = plain_counts choice d
  by_counts choices.Plain (faults e) = fault_counts s a it None e
  by_counts choices.Plain wrong = refused s a
  by_counts _ (faults e) = refused s a
  by_counts _ wrong = refused s a

module _ (p : Program) (s : State) (e : Event) where
  ready_frames : (g : Goroutine) (fs : List Frame) → s.goroutines e.go ≡ Some g → g.status ≡ ready
      → Counts s e.go (act_in p e g fs)
  ready_frames g [] h r = tt
  ready_frames g (f ∷ fs) h r =
      let a : Actor = record { program = p; name = e.go; before = g; frame = f; below = fs } in
      (by_counts s a (record { here = h; status = r }) e.choice (deed f)).counts

  by_status : (g : Goroutine) (x : Status) → s.goroutines e.go ≡ Some g → g.status ≡ x → Counts s e.go (if_ready p e g x)
  by_status g finished h r = tt
  by_status g (waiting ws) h r = tt
  by_status g ready h r = ready_frames g g.frames h r

  by_known : (x : Option Goroutine) → s.goroutines e.go ≡ x → Counts s e.go (if_known p e x)
  by_known None h = tt
  by_known (Some g) h = by_status g g.status h refl

  by_run : (r : Run) → Counts s e.go (if_live (ask_go e.go (if_known p e)) r)
  by_run live = by_known (s.goroutines e.go) refl
  by_run ended = tt
  by_run (faulted f) = tt

  attempt_counts : Counts s e.go (attempt p e)
  attempt_counts = by_run s.run

  not_among : (cs : List Cell) → Others s e.go cs → In (Go e.go) (map object_of cs) → ⊥
  not_among [] o i = i
  not_among (go_has n x ∷ cs) o i = elim i [ inl q ↦ o.0 (go_name n e.go (sym q)) | inr j ↦ not_among cs o.2 j ]
  not_among (run_has r ∷ cs) o i = elim i [ inl q ↦ cc | inr j ↦ not_among cs o j ]
  not_among (gate_has d x ∷ cs) o i = elim i [ inl q ↦ cc | inr j ↦ not_among cs o j ]
  not_among (tail_has d n ∷ cs) o i = elim i [ inl q ↦ cc | inr j ↦ not_among cs o.1 j ]
  not_among (head_has d n ∷ cs) o i = elim i [ inl q ↦ cc | inr j ↦ not_among cs o.1 j ]
  not_among (slot_has d k x ∷ cs) o i = elim i [ inl q ↦ cc | inr j ↦ not_among cs o j ]

  -- what an attempt that counts comes to
  record Went (x : Plan Object Cell Report) : Type 0 where
    alone : In (Go e.go) (behind_first (map object_of x.cells)) → ⊥
    noted : x.kind.ordinal ≡ count s e.go + 1
    raised : Raised s e.go x.kind.printed (fold put s x.cells)

  went : (x : Attempt) (y : Plan Object Cell Report) → Counts s e.go x → plan (rulebook p) s (rule_of x) ≡ Some y → Went y
  went (refuse r) y c h = absurd (none_not _ h)
  went (perform report []) y c h = absurd c
  went (perform report (go_has n x ∷ cs)) y c h = subst Went (some_is _ _ h) (record {
    alone = not_among cs c.3;
    noted = c.1;
    raised = put_others s e.go (put s (go_has n x)) cs c.3 (subst (λ m. Raised s e.go report.printed (put s (go_has m x))) (sym c.0) (put_mine s e.go x c.2));
  })
  went (perform report (run_has r ∷ cs)) y c h = absurd c
  went (perform report (gate_has d x ∷ cs)) y c h = absurd c
  went (perform report (tail_has d n ∷ cs)) y c h = absurd c
  went (perform report (head_has d n ∷ cs)) y c h = absurd c
  went (perform report (slot_has d i x ∷ cs)) y c h = absurd c
  went (ask o f) y c h = by_rest (λ z. went (f (look s o)) z c) (plan (rulebook p) s (rule_of (f (look s o)))) refl h
    where
      by_rest : ((z : Plan Object Cell Report) → plan (rulebook p) s (rule_of (f (look s o))) ≡ Some z → Went z)
          → (x : Option (Plan Object Cell Report)) → plan (rulebook p) s (rule_of (f (look s o))) ≡ x
          → with_read o x ≡ Some y → Went y
      by_rest ih None d g = absurd (none_not _ g)
      by_rest ih (Some z) d g = let w = ih z d in subst Went (some_is _ _ g) (record { alone = w.alone; noted = w.noted; raised = w.raised })

  -- what a step comes to
  pub record Stepped (t : State) (n : Note Object Report) : Type 0 where
    pub alone : In (Go e.go) (behind_first n.writes) → ⊥
    pub noted : n.kind.ordinal ≡ count s e.go + 1
    pub raised : Raised s e.go n.kind.printed t

  pub stepped : (t : State) (n : Note Object Report) → (machine p).step s e ≡ Some (t, n) → Stepped t n
  stepped t n h = by_plan (plan (rulebook p) s (rule_of (attempt p e))) refl h
    where
      by_plan : (x : Option (Plan Object Cell Report)) → plan (rulebook p) s (rule_of (attempt p e)) ≡ x
          → carried (rulebook p) s x ≡ Some (t, n) → Stepped t n
      by_plan None d g = absurd (none_not _ g)
      by_plan (Some y) d g =
          let w = went (attempt p e) y attempt_counts d in
          subst (λ (r : State × Note Object Report). Stepped r.0 r.1) (some_is _ _ g) (record { alone = w.alone; noted = w.noted; raised = w.raised })

  own_raised : (t : State) (n : Note Object Report) → (machine p).step s e ≡ Some (t, n) → count t e.go ≡ count s e.go + 1
  own_raised t n h = ap (λ x. x.0) (stepped t n h).raised.mine

  none_lowered : (t : State) (n : Note Object Report) → (machine p).step s e ≡ Some (t, n) → (o : List ℕ) → count s o ≤ count t o
  none_lowered t n h o = elim (true_or_false (same_go o e.go)) [
    | inl q ↦ subst (λ m. count s m ≤ count t m) (sym (go_is o e.go q)) (let r = own_raised t n h in omega arith)
    | inr q ↦ let r : count t o ≡ count s o = ap (λ x. x.0) ((stepped t n h).raised.others o (λ k. not_itself o q k)) in omega arith
  ]
    where
      not_itself : (o : List ℕ) → same_go o e.go ≡ false → o ≡ e.go → ⊥
      not_itself o q k = let t : true ≡ false = sym (go_self e.go) ∙ ap (λ m. same_go m e.go) (sym k) ∙ q in cc

pub machine_counts : (p : Program) → CountsSteps (machine p) owner ordinal count
machine_counts p = record {
  noted = λ s t e n h. (stepped p s e t n h).noted ∙ sym (own_raised p s e t n h);
  raised = λ s t e n h. own_raised p s e t n h ∙ add-one _;
  kept = λ s t e n h o. none_lowered p s e t n h o;
}
