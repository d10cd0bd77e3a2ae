-- Each rule touches what the table says.
use Rattle.std.proofs.Common.{fold, ◌≡◌, ℕ, ◌+◌, ◌%◌, ◌||◌, Bool, true, false, if◌then◌else◌, List, [], ◌∷◌, ◌++◌, map, is_some, Option, Some, None, ◌⊎◌, ◌↔◌, refl, sym, ◌∙◌, ap, subst, arith, inl, inr}
use Rattle.std.specs.Prelude.{take as front}
use Rattle.std.proofs.lemmas.List.{append-nil}
use Rattle.std.specs.List.{flat_map}
use Rattle.gr_base.specs.declared.names.ChName.{ChName}
use Rattle.gr_base.specs.declared.values.Value.{Value}
use Rattle.gr_base.specs.declared.events.Choice.{Choice}
use Rattle.gr_base.specs.declared.events.Event.{Event}
use Rattle.gr_base.specs.declared.kinds.Kind.{Kind}
use Rattle.gr_base.specs.declared.kinds.Kind.TheVariants as kinds
use Rattle.gr_base.specs.declared.objects.Object.{Object}
use Rattle.gr_base.specs.declared.objects.Object.TheVariants.{Run, Go, Gate, Tail, Head, Slot}
use Rattle.gr_causal.specs.Sequences.{In}
use Rattle.gr_causal.proofs.ListLemmas.{In-append_cases, In-append_left, In-append_right}
use Rattle.gr_channels.specs.declared.waiter.Waiter.{Waiter}
use Rattle.gr_channels.specs.Objects.{GateContent, has_any}
use Rattle.gr_rules.specs.Outcomes.{Outcome, gives, faults, wrong}
use Rattle.gr_rules.specs.Frames.{goes_on}
use Rattle.gr_rules.specs.Deeds.{Communication, Sending, Receiving, Otherwise, past}
use Rattle.gr_rules.specs.Goroutines.{Wait, ready, waiting, Goroutine}
use Rattle.gr_rules.specs.States.{Cell, go_has, gate_has, tail_has, head_has, slot_has, State, object_of}
use Rattle.gr_rules.specs.Attempts.{no_such_choice, Operation, sends_on, receives_from, closes, Attempt, refuse}
use Rattle.gr_rules.specs.Actors.{Actor, onward, does, given, if_gives, without, channels_but, met, ask_met}
use Rattle.gr_rules.specs.Communications.{proceeds, send_to, send, take, receive_from, receive, communicate, all_waits, enqueued, ask_enqueued, wait, proceed_or_wait, once, ask_waiters, close_open, close}
use Rattle.gr_rules.specs.Selects.{ask_ready, if_none_ready}
use Rattle.gr_rules.specs.Touches.{touches, senders_at, receivers_at, slot_at_tail, slot_at_head, waits_at, woken, send_side, receive_side, side, taken, with_channel, without_channel, and_always, row}
use Rattle.gr_laws.proofs.SureLemmas.{Sure, sure_past}
use Rattle.gr_laws.proofs.TouchLemmas.{seen, F, refused, asked, leaf, wide, if_fits, gate_fits, room_fits, item_fits, withdrawn_fits, waiter_fits}

module _ (s : State) (a : Actor) (choice : Choice) (here : s.goroutines a.name ≡ Some a.before) where
  abbrev pub e : Event
  e = record { go = a.name; choice = choice }

  abbrev pub G : (Object → Type 0) → Attempt → Type 0
  G = F s e

  -- every rule begins with these
  abbrev pub P0 : Object → Type 0
  P0 = seen (seen (λ o. ⊥) (Run ∷ [])) (Go a.name ∷ [])

  abbrev Touched : (Object → Type 0) → List Object → List Object → Type 0
  Touched P reads writes = (o : Object) → (P o ⊎ In o (Go a.name ∷ writes)) ↔ (In o (Run ∷ reads) ⊎ In o (Go a.name ∷ writes))

  pub with_fits : {P : Object → Type 0} {clause : Option ℕ} {kind : Kind} {g : Goroutine} {cells : List Cell} (operation : Operation) (reads writes : List Object)
      → with_channel s operation kind ≡ touches reads writes → map object_of cells ≡ writes → Touched P reads writes
      → G P (does a clause (Some operation) kind g cells)
  with_fits operation reads writes t c h = leaf s e (Run ∷ reads) (Go a.name ∷ writes) (ap (and_always e) t) (ap (◌∷◌ (Go a.name)) c) h

  pub without_fits : {P : Object → Type 0} {kind : Kind} {g : Goroutine} {cells : List Cell} (reads writes : List Object)
      → without_channel s e a.before kind ≡ touches reads writes → map object_of cells ≡ writes → Touched P reads writes
      → G P (does a None None kind g cells)
  without_fits {P} {kind} {g} {cells} reads writes t c h = leaf s e (Run ∷ reads) (Go a.name ∷ writes)
      (ap (λ x. and_always e (row s e (record { deed = kind; clause = None; ordinal = a.before.steps + 1; printed = None; operation = None }) x None)) here ∙ ap (and_always e) t)
      (ap (◌∷◌ (Go a.name)) c) h

  pub sure_fits : {A : Type 0} {P : Object → Type 0} (x : Outcome A) {k : A → Attempt} → Sure x
      → ((v : A) → G P (k v)) → G P (given a x k)
  sure_fits (gives v) q h = h v
  sure_fits (faults f) q h = absurd q
  sure_fits wrong q h = refused s e

  if_gives_fits : {A : Type 0} {P : Object → Type 0} (x : Outcome A) {k : A → Attempt}
      → ((v : A) → G P (k v)) → G P (if_gives k x)
  if_gives_fits (gives v) h = h v
  if_gives_fits (faults f) h = refused s e
  if_gives_fits wrong h = refused s e

  proceeds_fits : {P : Object → Type 0} (clause : Option ℕ) (operation : Operation) (kind : Kind) (got : Option (Value × Bool)) (cells : List Cell) (reads writes : List Object)
      → with_channel s operation kind ≡ touches reads writes → map object_of cells ≡ writes → Touched P reads writes
      → G P (proceeds a clause operation kind got cells)
  proceeds_fits clause operation kind got cells reads writes t c h =
      sure_fits (past a.frame clause got) (sure_past a.frame clause got) (λ f. with_fits operation reads writes t c h)

  met_fits : {X : Type 0} {P : Object → Type 0} (c : ChName) (w : Waiter X) (got : Option (Value × Bool)) (k : List Cell → Attempt)
      → ((cells : List Cell) → map object_of cells ≡ woken s c (w.go ∷ []) → G (seen P (woken s c (w.go ∷ []))) (k cells))
      → G P (ask_met c w got k)
  met_fits {X} {P} c w got k h = waiter_fits s e w.go _ (λ g ws q.
      let same : woken s c (w.go ∷ []) ≡ Go w.go ∷ map Gate (channels_but (c ∷ []) ws) = ap (λ x. Go w.go ∷ map Gate (channels_but (c ∷ []) x)) (append-nil (waits_at (s.goroutines w.go)) ∙ q) in
      withdrawn_fits s e (w.go ∷ []) (channels_but (c ∷ []) ws) _ (λ cells r. if_gives_fits (met w.case got g g.frames) (λ partner.
      wide s e (seen (seen P (Go w.go ∷ [])) (map Gate (channels_but (c ∷ []) ws))) (λ o. ((λ z. grind (arith)), (λ z. grind (arith))))
      (subst (λ xs. G (seen P xs) (k (go_has w.go (Some partner) ∷ cells))) same (h (go_has w.go (Some partner) ∷ cells) (ap (◌∷◌ (Go w.go)) r ∙ sym same))))))

  send_to_fits : (clause : Option ℕ) (c : ChName) (gate : GateContent) (v : Value) (otherwise : Attempt) (ws : List (Waiter (Unit {0})))
      → s.gates c ≡ Some gate → gate.receivers ≡ ws → G (seen P0 (send_side s c)) otherwise
      → G (seen P0 (Gate c ∷ [])) (send_to a clause c gate v otherwise ws)
  send_to_fits clause c gate v otherwise (w ∷ ws) at r h = met_fits c w (Some (v, true))
      (λ cells. proceeds a clause (sends_on c) kinds.Hand None (gate_has c (Some (without (w.go ∷ []) gate)) ∷ cells))
      (λ cells q. proceeds_fits clause (sends_on c) kinds.Hand None (gate_has c (Some (without (w.go ∷ []) gate)) ∷ cells) [] (Gate c ∷ woken s c (w.go ∷ []))
      (ap (λ x. touches [] (Gate c ∷ woken s c (front 1 (receivers_at x)))) at ∙ ap (λ (x : List (Waiter (Unit {0}))). touches [] (Gate c ∷ woken s c (front 1 (map (λ w. w.go) x)))) r)
      (ap (◌∷◌ (Gate c)) q) (λ o. ((λ z. grind (arith)), (λ z. grind (arith)))))
  send_to_fits clause c gate v otherwise [] at r h = room_fits s e c gate (elim [
    | Some n ↦ proceeds a clause (sends_on c) kinds.Buffer None (tail_has c (n + 1) ∷ slot_has c (n % gate.capacity) (Some (n, v)) ∷ [])
    | None ↦ otherwise
  ]) at
      (wide s e (seen (seen P0 (Gate c ∷ [])) (Tail c ∷ slot_at_tail s c)) (λ o. ((λ z. grind (arith)), (λ z. grind (arith)))) h)
      (λ q. proceeds_fits clause (sends_on c) kinds.Buffer None (tail_has c (s.tails c + 1) ∷ slot_has c (s.tails c % gate.capacity) (Some (s.tails c, v)) ∷ []) (Gate c ∷ []) (Tail c ∷ slot_at_tail s c) refl (ap (◌∷◌ (Tail c)) (sym q)) (λ o. ((λ z. grind (arith)), (λ z. grind (arith)))))

  send_fits : (clause : Option ℕ) (c : ChName) (v : Value) (otherwise : Attempt) → G (seen P0 (send_side s c)) otherwise
      → G P0 (send a clause c v otherwise)
  send_fits clause c v otherwise h = gate_fits s e c (λ gate at. if_fits s e gate.closed
      (with_fits (sends_on c) (Gate c ∷ []) (Run ∷ []) refl refl (λ o. ((λ z. grind (arith)), (λ z. grind (arith)))))
      (send_to_fits clause c gate v otherwise gate.receivers at refl h))

  take_fits : (clause : Option ℕ) (c : ChName) (gate : GateContent) (v : Value) (ws : List (Waiter Value))
      → s.gates c ≡ Some gate → gate.senders ≡ ws → slot_at_head s c ≡ Slot c (s.heads c % gate.capacity) ∷ []
      → G (seen (seen P0 (Gate c ∷ [])) (Head c ∷ slot_at_head s c)) (take a clause c gate (s.heads c, v) ws)
  take_fits clause c gate v [] at r q = proceeds_fits clause (receives_from c) kinds.Take (Some (v, true)) (head_has c (s.heads c + 1) ∷ slot_has c (s.heads c % gate.capacity) None ∷ []) (Gate c ∷ []) (Head c ∷ slot_at_head s c)
      (ap (λ x. taken s c (senders_at x)) at ∙ ap (λ (x : List (Waiter Value)). taken s c (map (λ w. w.go) x)) r)
      (ap (◌∷◌ (Head c)) (sym q)) (λ o. ((λ z. grind (arith)), (λ z. grind (arith))))
  take_fits clause c gate v (w ∷ ws) at r q = subst (λ l. G (seen (seen P0 (Gate c ∷ [])) (Head c ∷ l)) (take a clause c gate (s.heads c, v) (w ∷ ws))) (sym q) (asked s e (met_fits c w None
      (λ cells. proceeds a clause (receives_from c) kinds.Take (Some (v, true)) (
      gate_has c (Some (without (w.go ∷ []) gate)) ∷ head_has c (s.heads c + 1) ∷ tail_has c (s.tails c + 1)
      ∷ slot_has c (s.heads c % gate.capacity) (Some (s.tails c, w.value)) ∷ cells))
      (λ cells d. proceeds_fits clause (receives_from c) kinds.Take (Some (v, true)) (
      gate_has c (Some (without (w.go ∷ []) gate)) ∷ head_has c (s.heads c + 1) ∷ tail_has c (s.tails c + 1)
      ∷ slot_has c (s.heads c % gate.capacity) (Some (s.tails c, w.value)) ∷ cells) [] (Gate c ∷ Head c ∷ Tail c ∷ Slot c (s.heads c % gate.capacity) ∷ woken s c (w.go ∷ []))
      (ap (λ x. taken s c (senders_at x)) at ∙ ap (λ (x : List (Waiter Value)). taken s c (map (λ w. w.go) x)) r ∙ ap (λ l. touches [] (Gate c ∷ Head c ∷ Tail c ∷ l ++ woken s c (w.go ∷ []))) q)
      (ap (λ l. Gate c ∷ Head c ∷ Tail c ∷ Slot c (s.heads c % gate.capacity) ∷ l) d) (λ o. ((λ z. grind (arith)), (λ z. grind (arith)))))))

  receive_from_fits : (clause : Option ℕ) (c : ChName) (gate : GateContent) (zero : Value) (otherwise : Attempt) (ws : List (Waiter Value))
      → s.gates c ≡ Some gate → gate.senders ≡ ws → G (seen P0 (receive_side s c)) otherwise
      → G (seen (seen P0 (Gate c ∷ [])) (Head c ∷ slot_at_head s c)) (receive_from a clause c gate zero otherwise None ws)
  receive_from_fits clause c gate zero otherwise (w ∷ ws) at r h = met_fits c w None
      (λ cells. proceeds a clause (receives_from c) kinds.Meet (Some (w.value, true)) (gate_has c (Some (without (w.go ∷ []) gate)) ∷ cells))
      (λ cells d. proceeds_fits clause (receives_from c) kinds.Meet (Some (w.value, true)) (gate_has c (Some (without (w.go ∷ []) gate)) ∷ cells) (receive_side s c) (Gate c ∷ woken s c (w.go ∷ []))
      (ap (λ x. touches (receive_side s c) (Gate c ∷ woken s c (front 1 (senders_at x)))) at ∙ ap (λ (x : List (Waiter Value)). touches (receive_side s c) (Gate c ∷ woken s c (front 1 (map (λ w. w.go) x)))) r)
      (ap (◌∷◌ (Gate c)) d) (λ o. ((λ z. grind (arith)), (λ z. grind (arith)))))
  receive_from_fits clause c gate zero otherwise [] at r h = if_fits s e gate.closed
      (proceeds_fits clause (receives_from c) kinds.Closed (Some (zero, false)) [] (receive_side s c) [] refl refl (λ o. ((λ z. grind (arith)), (λ z. grind (arith)))))
      (wide s e (seen (seen P0 (Gate c ∷ [])) (Head c ∷ slot_at_head s c)) (λ o. ((λ z. grind (arith)), (λ z. grind (arith)))) h)

  receive_fits : (clause : Option ℕ) (c : ChName) (zero : Value) (otherwise : Attempt) → G (seen P0 (receive_side s c)) otherwise
      → G P0 (receive a clause c zero otherwise)
  receive_fits clause c zero otherwise h = gate_fits s e c (λ gate at. item_fits s e c gate (λ item. receive_from a clause c gate zero otherwise item gate.senders) at
      (receive_from_fits clause c gate zero otherwise gate.senders at refl h)
      (λ v q. take_fits clause c gate v gate.senders at refl q))

  pub enqueued_fits : {P : Object → Type 0} (name : List ℕ) (ws : List (Option ℕ × Communication)) (cs : List ChName) (k : List Cell → Attempt)
      → ((cells : List Cell) → map object_of cells ≡ map Gate cs → G (seen P (map Gate cs)) (k cells))
      → G P (ask_enqueued name ws cs k)
  enqueued_fits {P} name ws [] k h = wide s e P (λ o. ((λ z. grind (arith)), (λ z. grind (arith)))) (h [] refl)
  enqueued_fits {P} name ws (c ∷ cs) k h = gate_fits s e c (λ gate at.
      let cell = gate_has c (Some (fold (λ gate w. enqueued name c gate w.0 w.1) gate ws)) in
      enqueued_fits name ws cs (λ cells. k (cell ∷ cells))
      (λ cells d. wide s e (seen (seen P (Gate c ∷ [])) (map Gate cs)) (λ o. ((λ z. grind (arith)), (λ z. grind (arith)))) (h (cell ∷ cells) (ap (◌∷◌ (Gate c)) d))))

  sends_or_waits : (c : ChName) (v : Outcome Value)
      → G (seen P0 (send_side s c)) (wait a (Some (sends_on c)) kinds.SendWait ((None, Sending (Some c) v) ∷ []))
  sends_or_waits c v = enqueued_fits a.name ((None, Sending (Some c) v) ∷ []) (c ∷ [])
      (does a None (Some (sends_on c)) kinds.SendWait (record (a.before) { status = waiting (all_waits ((None, Sending (Some c) v) ∷ [])); steps = a.before.steps + 1 }))
      (λ cells d. with_fits (sends_on c) (send_side s c) (Gate c ∷ []) refl d (λ o. ((λ z. grind (arith)), (λ z. grind (arith)))))

  receives_or_waits : (c : ChName) (zero : Value)
      → G (seen P0 (receive_side s c)) (wait a (Some (receives_from c)) kinds.RecvWait ((None, Receiving (Some c) zero) ∷ []))
  receives_or_waits c zero = enqueued_fits a.name ((None, Receiving (Some c) zero) ∷ []) (c ∷ [])
      (does a None (Some (receives_from c)) kinds.RecvWait (record (a.before) { status = waiting (all_waits ((None, Receiving (Some c) zero) ∷ [])); steps = a.before.steps + 1 }))
      (λ cells d. with_fits (receives_from c) (receive_side s c) (Gate c ∷ []) refl d (λ o. ((λ z. grind (arith)), (λ z. grind (arith)))))

  pub communicate_fits : (clause : Option ℕ) (x : Communication) (otherwise : Attempt) → G P0 otherwise
      → G (seen P0 (side s x)) otherwise → G P0 (communicate a clause x otherwise)
  communicate_fits clause (Sending (Some c) (gives v)) otherwise g h = send_fits clause c v otherwise h
  communicate_fits clause (Sending (Some c) (faults f)) otherwise g h = refused s e
  communicate_fits clause (Sending (Some c) wrong) otherwise g h = refused s e
  communicate_fits clause (Sending None v) otherwise g h = g
  communicate_fits clause (Receiving (Some c) zero) otherwise g h = receive_fits clause c zero otherwise h
  communicate_fits clause (Receiving None zero) otherwise g h = g
  communicate_fits clause Otherwise otherwise g h = g

  pub proceed_fits : (x : Communication) → G P0 (proceed_or_wait a x)
  proceed_fits (Sending (Some c) (gives v)) = send_fits None c v _ (sends_or_waits c (gives v))
  proceed_fits (Sending (Some c) (faults f)) = refused s e
  proceed_fits (Sending (Some c) wrong) = refused s e
  proceed_fits (Sending None v) = without_fits [] [] refl refl (λ o. ((λ z. grind (arith)), (λ z. grind (arith))))
  proceed_fits (Receiving (Some c) zero) = receive_fits None c zero _ (receives_or_waits c zero)
  proceed_fits (Receiving None zero) = without_fits [] [] refl refl (λ o. ((λ z. grind (arith)), (λ z. grind (arith))))
  proceed_fits Otherwise = refused s e

  waiters_fits : {P : Object → Type 0} (names : List (List ℕ)) (k : List (List ℕ × Goroutine × List Wait) → Attempt)
      → ((ws : List (List ℕ × Goroutine × List Wait)) → map (λ w. w.0) ws ≡ names → flat_map (λ w. w.2) ws ≡ flat_map (λ n. waits_at (s.goroutines n)) names → G (seen P (map Go names)) (k ws))
      → G P (ask_waiters names k)
  waiters_fits {P} [] k h = wide s e P (λ o. ((λ z. grind (arith)), (λ z. grind (arith)))) (h [] refl refl)
  waiters_fits {P} (n ∷ ns) k h = waiter_fits s e n (λ g w. ask_waiters ns (λ others. k ((n, g, w) ∷ others))) (λ g w q.
      waiters_fits ns (λ others. k ((n, g, w) ∷ others)) (λ ws d f. wide s e (seen (seen P (Go n ∷ [])) (map Go ns)) (λ o. ((λ z. grind (arith)), (λ z. grind (arith))))
      (h ((n, g, w) ∷ ws) (ap (◌∷◌ n) d) (ap (λ x. x ++ flat_map (λ w. w.2) ws) (sym q) ∙ ap (λ y. waits_at (s.goroutines n) ++ y) f))))

  awake_names : (ws : List (List ℕ × Goroutine × List Wait)) (cells : List Cell)
      → map object_of (map (λ w. go_has w.0 (Some (record (w.1) { status = ready }))) ws ++ cells) ≡ map Go (map (λ w. w.0) ws) ++ map object_of cells
  awake_names [] cells = refl
  awake_names (w ∷ ws) cells = ap (◌∷◌ (Go w.0)) (awake_names ws cells)

  close_touched : (c : ChName) (xs ys : List Object) → Touched (seen (seen (seen P0 (Gate c ∷ [])) xs) ys) [] (Gate c ∷ xs ++ ys)
  close_touched c xs ys o = (
    λ z. elim z [
      | inl q ↦ elim q [
        | inl r ↦ elim r [ inl t ↦ small t | inr i ↦ inr (inr (inr (In-append_left o xs ys i))) ]
        | inr i ↦ inr (inr (inr (In-append_right o xs ys i)))
      ]
      | inr i ↦ inr i
    ],
    λ z. elim z [ inl i ↦ inl (inl (inl (inl (inl (inr i))))) | inr i ↦ inr i ],
  )
    where
      small : seen P0 (Gate c ∷ []) o → In o (Run ∷ []) ⊎ In o (Go a.name ∷ Gate c ∷ xs ++ ys)
      small t = grind (arith)

  close_open_fits : (c : ChName) (gate : GateContent) (names : List (List ℕ)) → s.gates c ≡ Some gate
      → names ≡ once (senders_at (s.gates c) ++ receivers_at (s.gates c)) → G (seen P0 (Gate c ∷ [])) (close_open a c gate names)
  close_open_fits c gate names at n = waiters_fits names _ (λ ws d f.
      withdrawn_fits s e names (channels_but (c ∷ []) (flat_map (λ w. w.2) ws))
      (λ cells. does a None (Some (closes c)) kinds.Close (onward a (goes_on a.frame)) (
      gate_has c (Some (record gate { closed = true; senders = []; receivers = [] })) ∷ map (λ w. go_has w.0 (Some (record (w.1) { status = ready }))) ws ++ cells))
      (λ cells q. with_fits (closes c) [] (Gate c ∷ map Go names ++ map Gate (channels_but (c ∷ []) (flat_map (λ w. w.2) ws)))
      (ap (λ x. touches [] (Gate c ∷ woken s c x)) (sym n) ∙ ap (λ x. touches [] (Gate c ∷ map Go names ++ map Gate (channels_but (c ∷ []) x))) (sym f))
      (ap (◌∷◌ (Gate c)) (awake_names ws cells ∙ ap (λ x. map Go x ++ map object_of cells) d ∙ ap (λ x. map Go names ++ x) q))
      (close_touched c (map Go names) (map Gate (channels_but (c ∷ []) (flat_map (λ w. w.2) ws))))))

  pub close_fits : (c : ChName) → G P0 (close a (Some c))
  close_fits c = gate_fits s e c (λ gate at. if_fits s e gate.closed
      (with_fits (closes c) (Gate c ∷ []) (Run ∷ []) refl refl (λ o. ((λ z. grind (arith)), (λ z. grind (arith)))))
      (close_open_fits c gate (once (map (λ w. w.go) gate.senders ++ map (λ w. w.go) gate.receivers)) at (sym (ap (λ x. once (senders_at x ++ receivers_at x)) at))))

  pub ready_fits : {P : Object → Type 0} (x : Communication) (k : Bool → Attempt)
      → ((b : Bool) → G (seen P (side s x)) (k b)) → G P (ask_ready x k)
  ready_fits {P} (Sending (Some c) v) k h = gate_fits s e c (λ gate at. room_fits s e c gate (λ room. k (gate.closed || has_any gate.receivers || is_some room)) at
      (wide s e (seen (seen P (Gate c ∷ [])) (Tail c ∷ slot_at_tail s c)) (λ o. ((λ z. grind (arith)), (λ z. grind (arith)))) (h _))
      (λ q. wide s e (seen (seen P (Gate c ∷ [])) (Tail c ∷ slot_at_tail s c)) (λ o. ((λ z. grind (arith)), (λ z. grind (arith)))) (h _)))
  ready_fits {P} (Sending None v) k h = wide s e P (λ o. ((λ z. grind (arith)), (λ z. grind (arith)))) (h false)
  ready_fits {P} (Receiving (Some c) zero) k h = gate_fits s e c (λ gate at. item_fits s e c gate (λ item. k (gate.closed || has_any gate.senders || is_some item)) at
      (wide s e (seen (seen P (Gate c ∷ [])) (Head c ∷ slot_at_head s c)) (λ o. ((λ z. grind (arith)), (λ z. grind (arith)))) (h _))
      (λ v q. wide s e (seen (seen P (Gate c ∷ [])) (Head c ∷ slot_at_head s c)) (λ o. ((λ z. grind (arith)), (λ z. grind (arith)))) (h _)))
  ready_fits {P} (Receiving None zero) k h = wide s e P (λ o. ((λ z. grind (arith)), (λ z. grind (arith)))) (h false)
  ready_fits {P} Otherwise k h = wide s e P (λ o. ((λ z. grind (arith)), (λ z. grind (arith)))) (h false)

  both_sides : (P : Object → Type 0) (xs ys : List Object) (o : Object) → seen P (xs ++ ys) o ↔ seen (seen P xs) ys o
  both_sides P xs ys o = (
    λ q. elim q [ inl r ↦ inl (inl r) | inr i ↦ elim (In-append_cases o xs ys i) [ inl j ↦ inl (inr j) | inr j ↦ inr j ] ],
    λ q. elim q [ inl r ↦ elim r [ inl t ↦ inl t | inr j ↦ inr (In-append_left o xs ys j) ] | inr j ↦ inr (In-append_right o xs ys j) ],
  )

  pub none_ready_fits : {P : Object → Type 0} (cs : List Communication) (x : Attempt) → G (seen P (flat_map (side s) cs)) x
      → G P (if_none_ready cs x)
  none_ready_fits {P} [] x h = wide s e P (λ o. ((λ z. grind (arith)), (λ z. grind (arith)))) h
  none_ready_fits {P} (c ∷ cs) x h = ready_fits c (λ b. if b then refuse no_such_choice else if_none_ready cs x) (λ b. if_fits s e b (refused s e)
      (none_ready_fits {P = seen P (side s c)} cs x (wide s e (seen (seen P (side s c)) (flat_map (side s) cs)) (both_sides P (side s c) (flat_map (side s) cs)) h)))
