-- Communications and `close` leave goroutines in the queues of what they wait for, and change all that they write.
use Rattle.std.proofs.Common.{fold, ◌≡◌, ◌⊎◌, ◌↔◌, ℕ, ◌+◌, ◌<◌, ◌%◌, if◌then◌else◌, arith, Bool, true, false, List, [], ◌∷◌, ◌++◌, map, Option, Some, None, option_map, refl, sym, ◌∙◌, ap, subst, inl, inr}
use Rattle.std.specs.List.{AllByRecursion, list_any, flat_map}
use Rattle.gr_base.specs.declared.objects.Object.TheVariants.{Go, Gate}
use Rattle.gr_base.specs.declared.names.ChName.{ChName}
use Rattle.gr_base.specs.declared.values.Value.{Value}
use Rattle.gr_base.specs.declared.kinds.Fault.TheVariants.{SendOnClosed, CloseOfClosed, CloseOfNil}
use Rattle.gr_base.specs.declared.kinds.Kind.{Kind}
use Rattle.gr_base.specs.declared.kinds.Kind.TheVariants.{Hand, Buffer, Take, Meet, Closed, SendWait, RecvWait}
use Rattle.gr_base.specs.declared.objects.Object.{Object}
use Rattle.gr_causal.specs.Sequences.{In, Distinct}
use Rattle.std.proofs.lemmas.Bool.{or_cases}
use Rattle.std.proofs.lemmas.Option.{none-some, same_Some}
use Rattle.gr_causal.proofs.ListLemmas.{In-append_cases, In-append_left, In-append_right, In-map}
use Rattle.gr_channels.specs.declared.waiter.Waiter.{Waiter}
use Rattle.gr_channels.specs.Objects.{GateContent}
use Rattle.gr_rules.specs.Outcomes.{gives, faults, wrong}
use Rattle.gr_rules.specs.Goroutines.{Wait, ToSend, ToReceive, channel_of, ready, waiting, Goroutine}
use Rattle.gr_rules.specs.Frames.{goes_on}
use Rattle.gr_rules.specs.Deeds.{Communication, Sending, Receiving, Otherwise, past}
use Rattle.gr_rules.specs.Attempts.{Operation, sends_on, receives_from, closes, Attempt}
use Rattle.gr_rules.specs.Actors.{Actor, does, without, channels_but}
use Rattle.gr_rules.specs.States.{object_of, Cell, go_has, gate_has, tail_has, head_has, slot_has, State, same_go}
use Rattle.gr_rules.specs.Touches.{waits_at}
use Rattle.gr_laws.specs.Soundness.{Stands, SoundQueue}
use Rattle.gr_rules.specs.Communications.{proceeds, send_to, send, take, receive_from, receive, communicate, all_waits, enqueued, ask_enqueued, wait, proceed_or_wait, once, ask_waiters, close_open, close}
use Rattle.gr_laws.proofs.CellLemmas.{gate_is, tail_is, head_is, slot_is, go_is}
use Rattle.gr_laws.proofs.SoundLemmas.{buffer}
use Rattle.gr_laws.proofs.BufferLemmas.{item, number_is}
use Rattle.gr_laws.proofs.WaitLemmas.{Known, stands_all, covered, some_wait}
use Rattle.gr_laws.proofs.QueueLemmas.{all_once}
use Rattle.gr_laws.proofs.LeafLemmas.{Written, Fit, Queued, queueing, thin_fit}
use Rattle.gr_laws.proofs.WaitAttempts.{K, Acts, refused, asked, if_keeps, gate_keeps, room_keeps, item_keeps, withdrawn_keeps, waiter_keeps, waits_of, stands_there, woken_fit, met_keeps, idle, stays, own_changed, frees, fault_keeps, given_keeps}

nobody_shut : (gate : GateContent) (name : List ℕ) (w : Wait) → Stands (Some (record gate { closed = true; senders = []; receivers = [] })) name w → ⊥
nobody_shut gate name (ToSend c i) h = absurd h.1
nobody_shut gate name (ToReceive c i) h = absurd h.1

same_known : (n : List ℕ) (ns : List (List ℕ)) → list_any (same_go n) ns ≡ true → In n ns
same_known n [] e = let f : false ≡ true = e in absurd (cc)
same_known n (m ∷ ns) e = elim (or_cases (same_go n m) (list_any (same_go n) ns) e) [ inl q ↦ inl (go_is n m q) | inr q ↦ inr (same_known n ns q) ]

in_once : (ns : List (List ℕ)) (n : List ℕ) → In n ns → In n (once ns)
in_once [] n i = i
in_once (m ∷ ns) n i = by_same (in_once ns n) (list_any (same_go m) ns) refl i
  where
    by_same : (In n ns → In n (once ns)) → (b : Bool) → list_any (same_go m) ns ≡ b → In n (m ∷ ns) → In n (if b then once ns else m ∷ once ns)
    by_same ih true e (inl q) = ih (subst (λ z. In z ns) (sym q) (same_known m ns e))
    by_same ih true e (inr j) = ih j
    by_same ih false e (inl q) = inl q
    by_same ih false e (inr j) = inr (ih j)

module _ {s : State} {a : Actor} (acts : Acts s a) where
  -- a communication that proceeds, after which these wait no more
  proceeds_keeps : (clause : Option ℕ) (operation : Operation) (kind : Kind) (got : Option (Value × Bool)) (cells : List Cell) (names : List (List ℕ))
      → AllByRecursion (Fit s names) cells → ((n : List ℕ) → In n names → In (Go n) (map object_of cells))
      → ((n : List ℕ) (w : Wait) → In n names → In w (waits_at (s.goroutines n)) → In (Gate (channel_of w)) (map object_of cells)) → K s (proceeds a clause operation kind got cells)
  proceeds_keeps clause operation kind got cells names o gos gates = given_keeps acts (past a.frame clause got) (λ f e. frees acts names (stays acts f) refl o gos gates)

  -- a communication that proceeds, and met nobody
  passes_keeps : (clause : Option ℕ) (operation : Operation) (kind : Kind) (got : Option (Value × Bool)) (cells : List Cell)
      → AllByRecursion (Fit s []) cells → K s (proceeds a clause operation kind got cells)
  passes_keeps clause operation kind got cells o = proceeds_keeps clause operation kind got cells [] o (λ n i. absurd i) (λ n w i. absurd i)

  send_to_keeps : (clause : Option ℕ) (c : ChName) (gate : GateContent) (v : Value) (otherwise : Attempt) (ws : List (Waiter (Unit {0})))
      → s.gates c ≡ Some gate → gate.receivers ≡ ws → K s otherwise → K s (send_to a clause c gate v otherwise ws)
  send_to_keeps clause c gate v otherwise (w ∷ ws) at r h = met_keeps s acts.waits c w (Some (v, true))
      (λ cells. proceeds a clause (sends_on c) Hand None (gate_has c (Some (without (w.go ∷ []) gate)) ∷ cells))
      (λ cells o go gates. proceeds_keeps clause (sends_on c) Hand None _ (w.go ∷ [])
      (thin_fit s acts.waits (w.go ∷ []) c gate w.go (ToReceive c w.case) at (inl refl) (subst (λ x. Stands x w.go (ToReceive c w.case)) (sym at) (w, subst (In w) (sym r) (inl refl), refl, refl)), o)
      (λ n i. elim i [ inl e ↦ inr (subst (λ m. In (Go m) (map object_of cells)) (sym e) go) | inr z ↦ absurd z ])
      (λ n x i j. elim (gates n x i j) [ inl e ↦ inl (ap Gate e) | inr t ↦ inr t ]))
  send_to_keeps clause c gate v otherwise [] at r h = room_keeps c gate (elim [
    | Some n ↦ proceeds a clause (sends_on c) Buffer None (tail_has c (n + 1) ∷ slot_has c (n % gate.capacity) (Some (n, v)) ∷ [])
    | None ↦ otherwise
  ]) h (λ e. passes_keeps clause (sends_on c) Buffer None _ (
    (tt, tt, ((λ q. let n = tail_is c _ _ q in omega arith), tt)),
    ((tt, tt, ((λ q. none-some _ (sym e ∙ slot_is c _ _ _ q)), tt)), tt),
  ))

  send_keeps : (clause : Option ℕ) (c : ChName) (v : Value) (otherwise : Attempt) → K s otherwise → K s (send a clause c v otherwise)
  send_keeps clause c v otherwise h = gate_keeps (λ gate at. if_keeps gate.closed (fault_keeps acts (Some (sends_on c)) SendOnClosed)
      (λ e. send_to_keeps clause c gate v otherwise gate.receivers at refl h))

  take_keeps : (clause : Option ℕ) (c : ChName) (gate : GateContent) (n : ℕ) (v : Value) (ws : List (Waiter Value))
      → s.gates c ≡ Some gate → gate.senders ≡ ws → s.slots c (s.heads c % gate.capacity) ≡ Some (n, v) → K s (take a clause c gate (s.heads c, v) ws)
  take_keeps clause c gate n v [] at r e = passes_keeps clause (receives_from c) Take (Some (v, true)) _ (
    (tt, tt, ((λ q. let n = head_is c _ _ q in omega arith), tt)),
    ((tt, tt, ((λ q. none-some _ (sym (slot_is c _ _ _ q) ∙ e)), tt)), tt),
  )
  take_keeps clause c gate n v (w ∷ ws) at r e = asked (met_keeps s acts.waits c w None
      (λ cells. proceeds a clause (receives_from c) Take (Some (v, true)) (
      gate_has c (Some (without (w.go ∷ []) gate)) ∷ head_has c (s.heads c + 1) ∷ tail_has c (s.tails c + 1)
      ∷ slot_has c (s.heads c % gate.capacity) (Some (s.tails c, w.value)) ∷ cells))
      (λ cells o go gates. proceeds_keeps clause (receives_from c) Take (Some (v, true)) _ (w.go ∷ []) (
        thin_fit s acts.waits (w.go ∷ []) c gate w.go (ToSend c w.case) at (inl refl) (subst (λ x. Stands x w.go (ToSend c w.case)) (sym at) (w, subst (In w) (sym r) (inl refl), refl, refl)),
        (
          (tt, tt, ((λ q. let n = head_is c _ _ q in omega arith), tt)),
          (
            (tt, tt, ((λ q. let n = tail_is c _ _ q in omega arith), tt)),
            ((tt, tt, ((λ q. older (sym e ∙ slot_is c _ _ _ q)), tt)), o),
          ),
        ),
      )
      (λ n i. elim i [ inl e ↦ inr (inr (inr (inr (subst (λ m. In (Go m) (map object_of cells)) (sym e) go)))) | inr z ↦ absurd z ])
      (λ n x i j. elim (gates n x i j) [ inl e ↦ inl (ap Gate e) | inr t ↦ inr (inr (inr (inr t))) ])))
    where
      -- the number of the item is below the tail
      older : item n v ≡ item (s.tails c) w.value → ⊥
      older q =
          let l : n < s.tails c = (((buffer s acts.sound c gate at).holds (s.heads c % gate.capacity) n).0 (v, e)).1 in
          let k : n ≡ s.tails c = number_is n (s.tails c) v w.value q in
          omega arith

  receive_from_keeps : (clause : Option ℕ) (c : ChName) (gate : GateContent) (initial : Value) (otherwise : Attempt) (ws : List (Waiter Value))
      → s.gates c ≡ Some gate → gate.senders ≡ ws → K s otherwise → K s (receive_from a clause c gate initial otherwise None ws)
  receive_from_keeps clause c gate initial otherwise (w ∷ ws) at r h = met_keeps s acts.waits c w None
      (λ cells. proceeds a clause (receives_from c) Meet (Some (w.value, true)) (gate_has c (Some (without (w.go ∷ []) gate)) ∷ cells))
      (λ cells o go gates. proceeds_keeps clause (receives_from c) Meet (Some (w.value, true)) _ (w.go ∷ [])
      (thin_fit s acts.waits (w.go ∷ []) c gate w.go (ToSend c w.case) at (inl refl) (subst (λ x. Stands x w.go (ToSend c w.case)) (sym at) (w, subst (In w) (sym r) (inl refl), refl, refl)), o)
      (λ n i. elim i [ inl e ↦ inr (subst (λ m. In (Go m) (map object_of cells)) (sym e) go) | inr z ↦ absurd z ])
      (λ n x i j. elim (gates n x i j) [ inl e ↦ inl (ap Gate e) | inr t ↦ inr t ]))
  receive_from_keeps clause c gate initial otherwise [] at r h = if_keeps gate.closed (passes_keeps clause (receives_from c) Closed (Some (initial, false)) [] tt) (λ e. h)

  receive_keeps : (clause : Option ℕ) (c : ChName) (initial : Value) (otherwise : Attempt) → K s otherwise → K s (receive a clause c initial otherwise)
  receive_keeps clause c initial otherwise h = gate_keeps (λ gate at.
      item_keeps c gate (λ item. receive_from a clause c gate initial otherwise item gate.senders)
      (receive_from_keeps clause c gate initial otherwise gate.senders at refl h)
      (λ n v e. take_keeps clause c gate n v gate.senders at refl e))

  pub communicate_keeps : (clause : Option ℕ) (x : Communication) (otherwise : Attempt) → (Known x → K s otherwise) → K s (communicate a clause x otherwise)
  communicate_keeps clause (Sending (Some c) (gives v)) otherwise h = send_keeps clause c v otherwise (h tt)
  communicate_keeps clause (Sending (Some c) (faults f)) otherwise h = refused
  communicate_keeps clause (Sending (Some c) wrong) otherwise h = refused
  communicate_keeps clause (Sending None v) otherwise h = h tt
  communicate_keeps clause (Receiving (Some c) initial) otherwise h = receive_keeps clause c initial otherwise (h tt)
  communicate_keeps clause (Receiving None initial) otherwise h = h tt
  communicate_keeps clause Otherwise otherwise h = h tt

  -- it stands in no queue yet
  stands_nowhere : (c : ChName) (w : Wait) → channel_of w ≡ c → Stands (s.gates c) a.name w → ⊥
  stands_nowhere c w e st = subst (In w) (idle acts) ((acts.waits a.name w).1 (subst (λ d. Stands (s.gates d) a.name w) (sym e) st))

  enqueued_keeps : (ws : List (Option ℕ × Communication)) (cs : List ChName) (k : List Cell → Attempt)
      → AllByRecursion (λ w. Known w.1) ws → Distinct (map (λ w. w.0) ws)
      → ((d : ChName) → In d cs → (w : Wait) × In w (all_waits ws) × (channel_of w ≡ d))
      → ((cells : List Cell) → AllByRecursion (Queued s a.name (all_waits ws)) cells → AllByRecursion (Written s) cells
      → map object_of cells ≡ map Gate cs → K s (k cells)) → K s (ask_enqueued a.name ws cs k)
  enqueued_keeps ws [] k b m l h = h [] tt tt refl
  enqueued_keeps ws (c ∷ cs) k b m l h = gate_keeps (λ gate at.
      let after : GateContent = fold (λ gate w. enqueued a.name c gate w.0 w.1) gate ws in
      let cell = gate_has c (Some after) in
      enqueued_keeps ws cs (λ cells. k (cell ∷ cells)) b m (λ d i. l d (inr i)) (λ cells o p e. h (cell ∷ cells)
      ((λ n w q. subst (λ x. Stands (Some after) n w ↔ (Stands x n w ⊎ ((n ≡ a.name) × In w (all_waits ws)))) (sym at) (stands_all a.name c gate ws b n w q)), o) (
        (
          λ q.
              let x = l c (inl refl) in
              let now : Stands (Some after) a.name x.0 = (stands_all a.name c gate ws b a.name x.0 x.2).1 (inr (refl, x.1)) in
              stands_nowhere c x.0 x.2 (subst (λ z. Stands z a.name x.0) (sym (gate_is c _ _ q)) now),
          λ q. all_once a.name c gate ws b m (subst SoundQueue at (q c))
              (λ w e i st. stands_nowhere c w e (subst (λ z. Stands z a.name w) (sym at) st)),
        ),
        p,
      )
      (ap (◌∷◌ (Gate c)) e)))

  pub wait_keeps : (operation : Option Operation) (kind : Kind) (ws : List (Option ℕ × Communication))
      → AllByRecursion (λ w. Known w.1) ws → Distinct (map (λ w. w.0) ws) → K s (wait a operation kind ws)
  wait_keeps operation kind ws b m =
      enqueued_keeps ws (channels_but [] (all_waits ws))
      (does a None operation kind (record (a.before) { status = waiting (all_waits ws); steps = a.before.steps + 1 })) b m
      (λ d i. some_wait [] (all_waits ws) d i)
      (λ cells o p e. record {
        keeps = (
          queueing s acts.waits a.name (all_waits ws) (go_has a.name (Some (record (a.before) { status = waiting (all_waits ws); steps = a.before.steps + 1 })) ∷ cells) (idle acts)
              (((λ q. refl), (λ k. absurd (k refl))), o) (inl refl)
              (λ w i. elim (covered [] (all_waits ws) w i) [ inl z ↦ absurd z | inr t ↦ inr (subst (In (Gate (channel_of w))) (sym e) (In-map Gate (channel_of w) (channels_but [] (all_waits ws)) t)) ]),
          ((own_changed acts _ refl, tt), p),
        );
      })

  pub alone_keeps : (x : Communication) → K s (proceed_or_wait a x)
  alone_keeps (Sending c v) =
      communicate_keeps None (Sending c v) (wait a (option_map sends_on c) SendWait ((None, Sending c v) ∷ []))
      (λ b. wait_keeps (option_map sends_on c) SendWait ((None, Sending c v) ∷ []) (b, tt) ((λ i. i), tt))
  alone_keeps (Receiving c initial) =
      communicate_keeps None (Receiving c initial) (wait a (option_map receives_from c) RecvWait ((None, Receiving c initial) ∷ []))
      (λ b. wait_keeps (option_map receives_from c) RecvWait ((None, Receiving c initial) ∷ []) (b, tt) ((λ i. i), tt))
  alone_keeps Otherwise = refused

  -- goroutines that wait, with their waits
  abbrev Waiting : List ℕ × Goroutine × List Wait → Type 0
  Waiting w = (s.goroutines w.0 ≡ Some w.1) × (w.1.status ≡ waiting w.2)

  waiters_keeps : (names : List (List ℕ)) (k : List (List ℕ × Goroutine × List Wait) → Attempt)
      → ((ws : List (List ℕ × Goroutine × List Wait)) → AllByRecursion Waiting ws → map (λ w. w.0) ws ≡ names → K s (k ws)) → K s (ask_waiters names k)
  waiters_keeps [] k h = h [] tt refl
  waiters_keeps (n ∷ ns) k h = waiter_keeps n (λ g w. ask_waiters ns (λ others. k ((n, g, w) ∷ others)))
      (λ g w at r. waiters_keeps ns (λ others. k ((n, g, w) ∷ others)) (λ ws o e. h ((n, g, w) ∷ ws) ((at, r), o) (ap (◌∷◌ n) e)))

  -- one of these has this wait
  abbrev Owned : List (List ℕ × Goroutine × List Wait) → Wait → Type 0
  Owned ws w = (n : List ℕ) × In n (map (λ w. w.0) ws) × In w (waits_at (s.goroutines n))

  owned : (ws : List (List ℕ × Goroutine × List Wait)) (w : Wait) → AllByRecursion Waiting ws → In w (flat_map (λ w. w.2) ws) → Owned ws w
  owned [] w h i = absurd i
  owned (x ∷ ws) w h i = elim (In-append_cases w x.2 (flat_map (λ w. w.2) ws) i) [
    | inl j ↦ (x.0, inl refl, subst (In w) (sym (waits_of s x.0 x.1 x.2 h.0.0 h.0.1)) j)
    | inr j ↦ let r = owned ws w h.1 j in (r.0, inr r.1, r.2)
  ]

  all_theirs : (ws : List (List ℕ × Goroutine × List Wait)) (n : List ℕ) (w : Wait) → AllByRecursion Waiting ws → In n (map (λ w. w.0) ws) → In w (waits_at (s.goroutines n)) → In w (flat_map (λ w. w.2) ws)
  all_theirs [] n w h i j = absurd i
  all_theirs (x ∷ ws) n w h i j = elim i [
    | inl e ↦ In-append_left w x.2 (flat_map (λ w. w.2) ws) (subst (In w) (ap (λ m. waits_at (s.goroutines m)) e ∙ waits_of s x.0 x.1 x.2 h.0.0 h.0.1) j)
    | inr k ↦ In-append_right w x.2 (flat_map (λ w. w.2) ws) (all_theirs ws n w h.1 k j)
  ]

  awake_fit : (names : List (List ℕ)) (ws : List (List ℕ × Goroutine × List Wait)) (cells : List Cell) → AllByRecursion Waiting ws → ((n : List ℕ) → In n (map (λ w. w.0) ws) → In n names) → AllByRecursion (Fit s names) cells
      → AllByRecursion (Fit s names) (map (λ w. go_has w.0 (Some (record (w.1) { status = ready }))) ws ++ cells)
  awake_fit names [] cells h l o = o
  awake_fit names (x ∷ ws) cells h l o = (woken_fit s names x.0 x.1 _ x.2 (l x.0 (inl refl)) h.0.0 h.0.1 refl, awake_fit names ws cells h.1 (λ n i. l n (inr i)) o)

  awake_there : (ws : List (List ℕ × Goroutine × List Wait)) (cells : List Cell) (n : List ℕ) → In n (map (λ w. w.0) ws)
      → In (Go n) (map object_of (map (λ w. go_has w.0 (Some (record (w.1) { status = ready }))) ws ++ cells))
  awake_there [] cells n i = absurd i
  awake_there (x ∷ ws) cells n i = elim i [ inl e ↦ inl (ap Go e) | inr j ↦ inr (awake_there ws cells n j) ]

  rest_there : (ws : List (List ℕ × Goroutine × List Wait)) (cells : List Cell) (o : Object) → In o (map object_of cells)
      → In o (map object_of (map (λ w. go_has w.0 (Some (record (w.1) { status = ready }))) ws ++ cells))
  rest_there [] cells o i = i
  rest_there (x ∷ ws) cells o i = inr (rest_there ws cells o i)

  stands_named : (gate : GateContent) (n : List ℕ) (w : Wait) → Stands (Some gate) n w → In n (once (map (λ w. w.go) gate.senders ++ map (λ w. w.go) gate.receivers))
  stands_named gate n (ToSend c i) h = in_once _ n (In-append_left n (map (λ w. w.go) gate.senders) (map (λ w. w.go) gate.receivers) (subst (λ m. In m (map (λ w. w.go) gate.senders)) h.2 (In-map (λ w. w.go) h.0 gate.senders h.1)))
  stands_named gate n (ToReceive c i) h = in_once _ n (In-append_right n (map (λ w. w.go) gate.senders) (map (λ w. w.go) gate.receivers) (subst (λ m. In m (map (λ w. w.go) gate.receivers)) h.2 (In-map (λ w. w.go) h.0 gate.receivers h.1)))

  close_open_keeps : (c : ChName) (gate : GateContent) (names : List (List ℕ)) → s.gates c ≡ Some gate → gate.closed ≡ false
      → ((n : List ℕ) (w : Wait) → Stands (Some gate) n w → In n names) → K s (close_open a c gate names)
  close_open_keeps c gate names at opened all = waiters_keeps names _ (λ ws o e.
      withdrawn_keeps s acts.waits names (channels_but (c ∷ []) (flat_map (λ w. w.2) ws)) _
      (λ d i.
      let x = some_wait (c ∷ []) (flat_map (λ w. w.2) ws) d i in
      let y = owned ws x.0 o x.1 in
      (y.0, x.0, subst (In y.0) e y.1, stands_there s acts.waits y.0 _ x.0 d refl y.2 x.2))
      (λ cells q r. frees acts names (stays acts (goes_on a.frame)) refl (
        (
          λ n w z k. ((λ st. absurd (nobody_shut gate n w st)), (λ st. absurd (k (all n w (subst (λ x. Stands x n w) at st))))),
          λ n w z i st. nobody_shut gate n w st,
          (
            λ z. let f : gate.closed ≡ true = ap (λ (g : GateContent). g.closed) (same_Some _ _ (sym at ∙ gate_is c _ _ z)) in let g : false ≡ true = sym opened ∙ f in absurd cc,
            λ q. (tt, tt),
          ),
        ),
        awake_fit names ws cells o (λ n i. subst (In n) e i) q,
      )
      (λ n i. inr (awake_there ws cells n (subst (In n) (sym e) i)))
      (λ n w i j. elim (covered (c ∷ []) (flat_map (λ w. w.2) ws) w (all_theirs ws n w o (subst (In n) (sym e) i) j)) [
        | inl t ↦ inl (elim t [ inl z ↦ ap Gate z | inr z ↦ absurd z ])
        | inr t ↦ inr (rest_there ws cells (Gate (channel_of w)) (subst (In (Gate (channel_of w))) (sym r) (In-map Gate (channel_of w) (channels_but (c ∷ []) (flat_map (λ w. w.2) ws)) t)))
      ])))

  pub close_keeps : (c : Option ChName) → K s (close a c)
  close_keeps None = fault_keeps acts None CloseOfNil
  close_keeps (Some c) = gate_keeps (λ gate at. if_keeps gate.closed (fault_keeps acts (Some (closes c)) CloseOfClosed)
      (λ e. close_open_keeps c gate (once (map (λ w. w.go) gate.senders ++ map (λ w. w.go) gate.receivers)) at e (stands_named gate)))
