-- Communications and `close` leave a sound state sound.
use Rattle.std.proofs.Common.{fold, ◌≡◌, ℕ, ◌+◌, ◌≤◌, nat_eq, ◌%◌, if◌then◌else◌, arith, Bool, true, false, List, [], ◌∷◌, ◌++◌, map, Option, Some, None, option_map, refl, sym, ◌∙◌, ap, subst, inl, inr}
use Rattle.std.specs.List.{flat_map}
use Rattle.gr_base.specs.declared.names.ChName.{ChName}
use Rattle.gr_base.specs.declared.values.Value.{Value}
use Rattle.gr_base.specs.declared.kinds.Fault.TheVariants.{SendOnClosed, CloseOfClosed, CloseOfNil}
use Rattle.gr_base.specs.declared.kinds.Kind.{Kind}
use Rattle.gr_base.specs.declared.kinds.Kind.TheVariants.{Hand, Buffer, Take, Meet, Closed, SendWait, RecvWait}
use Rattle.std.proofs.lemmas.Option.{same_Some}
use Rattle.gr_channels.specs.declared.waiter.Waiter.{Waiter}
use Rattle.gr_channels.specs.Objects.{GateContent}
use Rattle.gr_rules.specs.Outcomes.{gives, faults, wrong}
use Rattle.gr_rules.specs.Operators.{same_channel}
use Rattle.gr_rules.specs.Frames.{Frame}
use Rattle.gr_rules.specs.Deeds.{Communication, Sending, Receiving, Otherwise, past}
use Rattle.gr_rules.specs.Goroutines.{Wait, ready, waiting, Goroutine}
use Rattle.gr_rules.specs.States.{Cell, go_has, gate_has, tail_has, head_has, slot_has, State, updated, put}
use Rattle.gr_rules.specs.Attempts.{Operation, sends_on, receives_from, closes, Attempt}
use Rattle.gr_rules.specs.Actors.{Actor, onward, does, without, channels_but}
use Rattle.gr_rules.specs.Communications.{proceeds, send_to, send, take, receive_from, receive, communicate, all_waits, enqueued, ask_enqueued, wait, proceed_or_wait, once, ask_waiters, close_open, close}
use Rattle.gr_laws.specs.Soundness.{SoundBuffer, SoundChannel, made_by, Sound}
use Rattle.gr_laws.proofs.CellLemmas.{channel_is}
use Rattle.gr_laws.proofs.BufferLemmas.{shut, thinned, entered, left, moved_up}
use Rattle.gr_laws.proofs.SoundLemmas.{From, Fine, But, from_cells, from_itself, sound_from, entering, leaving, passing, K, refused, asked, if_keeps, gate_keeps, buffer, made, room_keeps, item_keeps, withdrawn_keeps, waiter_keeps, met_keeps, Any, own, any_fine, does_keeps, fault_keeps, given_keeps}

some_waits : {A : Type 0} (x : A) (xs : List A) → x ∷ xs ≡ [] → ⊥
some_waits x xs e = cc

-- the state in which the goroutine has gone on
abbrev pub mine : State → Actor → Goroutine → State
mine s a g = put s (go_has a.name (Some g))

-- a communication that has to wait: a send on a full buffer, a receive from an empty one, the channel being open
abbrev pub Blocked : State → Communication → Type 0
Blocked s (Sending (Some c) v) = (gate : GateContent) × (s.gates c ≡ Some gate) × (gate.closed ≡ false) × (s.tails c ≡ s.heads c + gate.capacity)
Blocked s (Receiving (Some c) initial) = (gate : GateContent) × (s.gates c ≡ Some gate) × (gate.closed ≡ false) × (s.tails c ≡ s.heads c)
Blocked s _ = Unit {0}

abbrev pub AllBlocked : State → List (Option ℕ × Communication) → Type 0
AllBlocked s [] = Unit {0}
AllBlocked s (w ∷ ws) = Blocked s w.1 × AllBlocked s ws

module _ (s : State) where
  -- a gate of the channel with more waiters
  record More (c : ChName) (gate more : GateContent) : Type 0 where
    capacity : more.capacity ≡ gate.capacity
    closed : more.closed ≡ gate.closed
    content : SoundBuffer more (s.heads c) (s.tails c) (s.slots c)

  more_senders : (c : ChName) (gate m : GateContent) (ws : List (Waiter Value)) → gate.closed ≡ false → s.tails c ≡ s.heads c + gate.capacity → More c gate m → More c gate (record m { senders = ws })
  more_senders c gate m ws opened full q = record {
    capacity = q.capacity;
    closed = q.closed;
    content = record {
      ordered = q.content.ordered;
      within = q.content.within;
      holds = q.content.holds;
      senders = inr (full ∙ ap (λ n. s.heads c + n) (sym q.capacity));
      receivers = q.content.receivers;
      closed = λ e. absurd (let f : false ≡ true = sym opened ∙ sym q.closed ∙ e in cc);
    };
  }

  more_receivers : (c : ChName) (gate m : GateContent) (ws : List (Waiter (Unit {0}))) → gate.closed ≡ false → s.tails c ≡ s.heads c → More c gate m → More c gate (record m { receivers = ws })
  more_receivers c gate m ws opened empty q = record {
    capacity = q.capacity;
    closed = q.closed;
    content = record {
      ordered = q.content.ordered;
      within = q.content.within;
      holds = q.content.holds;
      senders = q.content.senders;
      receivers = inr empty;
      closed = λ e. absurd (let f : false ≡ true = sym opened ∙ sym q.closed ∙ e in cc);
    };
  }

  enqueued_more : (name : List ℕ) (c : ChName) (gate m : GateContent) (clause : Option ℕ) (x : Communication) → s.gates c ≡ Some gate → Blocked s x → More c gate m → More c gate (enqueued name c m clause x)
  enqueued_more name c gate m clause (Sending (Some d) (gives v)) at b q = by_same (same_channel c d) refl
    where
      by_same : (t : Bool) → same_channel c d ≡ t → More c gate (if t then record m { senders = m.senders ++ record { go = name; case = clause; value = v } ∷ [] } else m)
      by_same true e =
          let same = channel_is c d e in
          let one : b.0 ≡ gate = same_Some _ _ (sym b.1 ∙ ap s.gates (sym same) ∙ at) in
          more_senders c gate m _ (ap (λ (g : GateContent). g.closed) (sym one) ∙ b.2)
          (ap s.tails same ∙ b.3 ∙ ap (λ (g : GateContent). s.heads d + g.capacity) one ∙ ap (λ d. s.heads d + gate.capacity) (sym same)) q
      by_same false e = q
  enqueued_more name c gate m clause (Sending (Some d) (faults f)) at b q = q
  enqueued_more name c gate m clause (Sending (Some d) wrong) at b q = q
  enqueued_more name c gate m clause (Sending None v) at b q = q
  enqueued_more name c gate m clause (Receiving (Some d) initial) at b q = by_same (same_channel c d) refl
    where
      by_same : (t : Bool) → same_channel c d ≡ t → More c gate (if t then record m { receivers = m.receivers ++ record { go = name; case = clause; value = tt } ∷ [] } else m)
      by_same true e =
          let same = channel_is c d e in
          let one : b.0 ≡ gate = same_Some _ _ (sym b.1 ∙ ap s.gates (sym same) ∙ at) in
          more_receivers c gate m _ (ap (λ (g : GateContent). g.closed) (sym one) ∙ b.2) (ap s.tails same ∙ b.3 ∙ ap s.heads (sym same)) q
      by_same false e = q
  enqueued_more name c gate m clause (Receiving None initial) at b q = q
  enqueued_more name c gate m clause Otherwise at b q = q

  all_more : (name : List ℕ) (c : ChName) (gate m : GateContent) (ws : List (Option ℕ × Communication)) → s.gates c ≡ Some gate → AllBlocked s ws → More c gate m
      → More c gate (fold (λ gate w. enqueued name c gate w.0 w.1) m ws)
  all_more name c gate m [] at b q = q
  all_more name c gate m (w ∷ ws) at b q = all_more name c gate (enqueued name c m w.0 w.1) ws at b.1 (enqueued_more name c gate m w.0 w.1 at b.0 q)

module _ (s : State) (sound : Sound s) (a : Actor) (here : s.goroutines a.name ≡ Some a.before) where
  abbrev G : Attempt → Type 0
  G = K s sound

  pub from_mine : (Left : ChName → Type 0) (g : Goroutine) → a.before.channels ≤ g.channels → From s Left (mine s a g)
  from_mine Left g le = from_cells s Left s (go_has a.name (Some g) ∷ []) (own s sound a here g le, tt) (from_itself s Left sound)

  -- a communication that proceeds, where what it writes leaves the state sound
  proceeds_keeps : (clause : Option ℕ) (operation : Operation) (kind : Kind) (got : Option (Value × Bool)) (cells : List Cell)
      → ((f : Frame) → Sound (fold put (mine s a (onward a f)) cells)) → G (proceeds a clause operation kind got cells)
  proceeds_keeps clause operation kind got cells h = given_keeps s sound a here (past a.frame clause got) (λ f. record { keeps = h f })

  -- a communication that proceeds, and leaves all buffers as they were
  passes_keeps : (clause : Option ℕ) (operation : Operation) (kind : Kind) (got : Option (Value × Bool)) (cells : List Cell)
      → Fine s (Any s sound a here) cells → G (proceeds a clause operation kind got cells)
  passes_keeps clause operation kind got cells o = given_keeps s sound a here (past a.frame clause got) (λ f. does_keeps s sound a here (omega arith) o)

  send_to_keeps : (clause : Option ℕ) (c : ChName) (gate : GateContent) (v : Value) (otherwise : Attempt) (ws : List (Waiter (Unit {0})))
      → s.gates c ≡ Some gate → gate.receivers ≡ ws → (s.tails c ≡ s.heads c + gate.capacity → K s sound otherwise) → K s sound (send_to a clause c gate v otherwise ws)
  send_to_keeps clause c gate v otherwise (w ∷ ws) at r h = met_keeps s sound c w (Some (v, true))
      (λ cells. proceeds a clause (sends_on c) Hand None (gate_has c (Some (without (w.go ∷ []) gate)) ∷ cells))
      (λ cells o. passes_keeps clause (sends_on c) Hand None _
      (tt, made s sound c gate at, thinned (w.go ∷ []) gate (s.heads c) (s.tails c) (s.slots c) (buffer s sound c gate at), any_fine s sound a here (But s c) cells o))
  send_to_keeps clause c gate v otherwise [] at r h = room_keeps s sound c gate (elim [
    | Some n ↦ proceeds a clause (sends_on c) Buffer None (tail_has c (n + 1) ∷ slot_has c (n % gate.capacity) (Some (n, v)) ∷ [])
    | None ↦ otherwise
  ]) at h (λ some e. proceeds_keeps clause (sends_on c) Buffer None _ (λ f.
      sound_from s (But s c) sound _ (entering s c (mine s a (onward a f)) (s.tails c + 1) (s.tails c % gate.capacity) (Some (s.tails c, v))
      (subst (λ x. SoundChannel x (s.heads c) (s.tails c + 1) (updated nat_eq (s.slots c) (s.tails c % gate.capacity) (Some (s.tails c, v)))) (sym at)
      (entered gate (s.heads c) (s.tails c) (s.slots c) (buffer s sound c gate at) v e some r)) (from_mine (But s c) (onward a f) (omega arith)))))

  send_keeps : (clause : Option ℕ) (c : ChName) (v : Value) (otherwise : Attempt)
      → ((gate : GateContent) → s.gates c ≡ Some gate → gate.closed ≡ false → s.tails c ≡ s.heads c + gate.capacity → G otherwise) → G (send a clause c v otherwise)
  send_keeps clause c v otherwise h = gate_keeps s sound (λ gate at. if_keeps s sound gate.closed
      (λ e. fault_keeps s sound a here (Some (sends_on c)) SendOnClosed)
      (λ e. send_to_keeps clause c gate v otherwise gate.receivers at refl (h gate at e)))

  take_keeps : (clause : Option ℕ) (c : ChName) (gate : GateContent) (n : ℕ) (v : Value) (ws : List (Waiter Value))
      → s.gates c ≡ Some gate → gate.senders ≡ ws → s.slots c (s.heads c % gate.capacity) ≡ Some (n, v) → G (take a clause c gate (s.heads c, v) ws)
  take_keeps clause c gate n v [] at r e = proceeds_keeps clause (receives_from c) Take (Some (v, true)) _ (λ f.
      sound_from s (But s c) sound _ (leaving s c (mine s a (onward a f)) (s.heads c + 1) (s.heads c % gate.capacity) None
      (subst (λ x. SoundChannel x (s.heads c + 1) (s.tails c) (updated nat_eq (s.slots c) (s.heads c % gate.capacity) None)) (sym at)
      (left gate (s.heads c) (s.tails c) (s.slots c) (buffer s sound c gate at) n v e r)) (from_mine (But s c) (onward a f) (omega arith))))
  take_keeps clause c gate n v (w ∷ ws) at r e = asked s sound (met_keeps s sound c w None
      (λ cells. proceeds a clause (receives_from c) Take (Some (v, true)) (
      gate_has c (Some (without (w.go ∷ []) gate)) ∷ head_has c (s.heads c + 1) ∷ tail_has c (s.tails c + 1)
      ∷ slot_has c (s.heads c % gate.capacity) (Some (s.tails c, w.value)) ∷ cells))
      (λ cells o. proceeds_keeps clause (receives_from c) Take (Some (v, true)) _ (λ f.
      let full : s.tails c ≡ s.heads c + gate.capacity = elim (buffer s sound c gate at).senders [ inl q ↦ absurd (some_waits w ws (sym r ∙ q)) | inr q ↦ q ] in
      let b = moved_up gate (s.heads c) (s.tails c) (s.slots c) (buffer s sound c gate at) n v w.value e full in
      let g = passing s c (mine s a (onward a f)) (Some (without (w.go ∷ []) gate)) (s.heads c + 1) (s.tails c + 1) (s.heads c % gate.capacity) (Some (s.tails c, w.value))
      (made s sound c gate at) (thinned (w.go ∷ []) gate _ _ _ b) (from_mine (But s c) (onward a f) (omega arith)) in
      sound_from s (But s c) sound _ (from_cells s (But s c) _ cells o g))))

  receive_from_keeps : (clause : Option ℕ) (c : ChName) (gate : GateContent) (initial : Value) (otherwise : Attempt) (ws : List (Waiter Value))
      → s.gates c ≡ Some gate → (gate.closed ≡ false → G otherwise) → G (receive_from a clause c gate initial otherwise None ws)
  receive_from_keeps clause c gate initial otherwise (w ∷ ws) at h = met_keeps s sound c w None
      (λ cells. proceeds a clause (receives_from c) Meet (Some (w.value, true)) (gate_has c (Some (without (w.go ∷ []) gate)) ∷ cells))
      (λ cells o. passes_keeps clause (receives_from c) Meet (Some (w.value, true)) _
      (tt, made s sound c gate at, thinned (w.go ∷ []) gate (s.heads c) (s.tails c) (s.slots c) (buffer s sound c gate at), any_fine s sound a here (But s c) cells o))
  receive_from_keeps clause c gate initial otherwise [] at h = if_keeps s sound gate.closed (λ e. passes_keeps clause (receives_from c) Closed (Some (initial, false)) [] tt) h

  receive_keeps : (clause : Option ℕ) (c : ChName) (initial : Value) (otherwise : Attempt)
      → ((gate : GateContent) → s.gates c ≡ Some gate → gate.closed ≡ false → s.tails c ≡ s.heads c → G otherwise) → G (receive a clause c initial otherwise)
  receive_keeps clause c initial otherwise h = gate_keeps s sound (λ gate at.
      item_keeps s sound c gate (λ item. receive_from a clause c gate initial otherwise item gate.senders) at
      (λ empty. receive_from_keeps clause c gate initial otherwise gate.senders at (λ e. h gate at e empty))
      (λ n v e. take_keeps clause c gate n v gate.senders at refl e))

  pub communicate_keeps : (clause : Option ℕ) (x : Communication) (otherwise : Attempt) → (Blocked s x → G otherwise) → G (communicate a clause x otherwise)
  communicate_keeps clause (Sending (Some c) (gives v)) otherwise h = send_keeps clause c v otherwise (λ gate at e q. h (gate, at, e, q))
  communicate_keeps clause (Sending (Some c) (faults f)) otherwise h = refused s sound
  communicate_keeps clause (Sending (Some c) wrong) otherwise h = refused s sound
  communicate_keeps clause (Sending None v) otherwise h = h tt
  communicate_keeps clause (Receiving (Some c) initial) otherwise h = receive_keeps clause c initial otherwise (λ gate at e q. h (gate, at, e, q))
  communicate_keeps clause (Receiving None initial) otherwise h = h tt
  communicate_keeps clause Otherwise otherwise h = h tt

  enqueued_keeps : (name : List ℕ) (ws : List (Option ℕ × Communication)) (cs : List ChName) (k : List Cell → Attempt) → AllBlocked s ws
      → ((cells : List Cell) → Fine s (Any s sound a here) cells → G (k cells)) → G (ask_enqueued name ws cs k)
  enqueued_keeps name ws [] k b h = h [] tt
  enqueued_keeps name ws (c ∷ cs) k b h = gate_keeps s sound (λ gate at.
      let m = all_more s name c gate gate ws at b (record { capacity = refl; closed = refl; content = buffer s sound c gate at }) in
      let cell = gate_has c (Some (fold (λ gate w. enqueued name c gate w.0 w.1) gate ws)) in
      enqueued_keeps name ws cs (λ cells. k (cell ∷ cells)) b (λ cells o. h (cell ∷ cells) (tt, made s sound c gate at, m.content, o)))

  pub wait_keeps : (operation : Option Operation) (kind : Kind) (ws : List (Option ℕ × Communication)) → AllBlocked s ws → G (wait a operation kind ws)
  wait_keeps operation kind ws b =
      enqueued_keeps a.name ws (channels_but [] (all_waits ws))
      (does a None operation kind (record (a.before) { status = waiting (all_waits ws); steps = a.before.steps + 1 })) b (λ cells o. does_keeps s sound a here (omega arith) o)

  pub alone_keeps : (x : Communication) → G (proceed_or_wait a x)
  alone_keeps (Sending c v) =
      communicate_keeps None (Sending c v) (wait a (option_map sends_on c) SendWait ((None, Sending c v) ∷ [])) (λ b. wait_keeps (option_map sends_on c) SendWait ((None, Sending c v) ∷ []) (b, tt))
  alone_keeps (Receiving c initial) =
      communicate_keeps None (Receiving c initial) (wait a (option_map receives_from c) RecvWait ((None, Receiving c initial) ∷ []))
      (λ b. wait_keeps (option_map receives_from c) RecvWait ((None, Receiving c initial) ∷ []) (b, tt))
  alone_keeps Otherwise = refused s sound

  abbrev Waiting : List (List ℕ × Goroutine × List Wait) → Type 0
  Waiting [] = Unit {0}
  Waiting (w ∷ ws) = (s.goroutines w.0 ≡ Some w.1) × Waiting ws

  waiters_keeps : (names : List (List ℕ)) (k : List (List ℕ × Goroutine × List Wait) → Attempt)
      → ((ws : List (List ℕ × Goroutine × List Wait)) → Waiting ws → G (k ws)) → G (ask_waiters names k)
  waiters_keeps [] k h = h [] tt
  waiters_keeps (n ∷ ns) k h = waiter_keeps s sound n (λ g w. ask_waiters ns (λ others. k ((n, g, w) ∷ others)))
      (λ g w at. waiters_keeps ns (λ others. k ((n, g, w) ∷ others)) (λ ws o. h ((n, g, w) ∷ ws) (at, o)))

  awake_fine : (ws : List (List ℕ × Goroutine × List Wait)) (cells : List Cell) → Waiting ws → Fine s (Any s sound a here) cells
      → Fine s (Any s sound a here) (map (λ w. go_has w.0 (Some (record (w.1) { status = ready }))) ws ++ cells)
  awake_fine [] cells w o = o
  awake_fine (x ∷ ws) cells w o = let e : made_by (s.goroutines x.0) ≡ x.1.channels = ap made_by w.0 in (omega arith, awake_fine ws cells w.1 o)

  close_open_keeps : (c : ChName) (gate : GateContent) (names : List (List ℕ)) → s.gates c ≡ Some gate → G (close_open a c gate names)
  close_open_keeps c gate names at = waiters_keeps names _ (λ ws o.
      withdrawn_keeps s sound (Any s sound a here) names (channels_but (c ∷ []) (flat_map (λ w. w.2) ws)) _ (λ d i. tt) (λ cells q. does_keeps s sound a here (omega arith)
      (tt, made s sound c gate at, shut gate (s.heads c) (s.tails c) (s.slots c) (buffer s sound c gate at), awake_fine ws cells o q)))

  pub close_keeps : (c : Option ChName) → G (close a c)
  close_keeps None = fault_keeps s sound a here None CloseOfNil
  close_keeps (Some c) = gate_keeps s sound (λ gate at. if_keeps s sound gate.closed (λ e. fault_keeps s sound a here (Some (closes c)) CloseOfClosed)
      (λ e. close_open_keeps c gate (once (map (λ w. w.go) gate.senders ++ map (λ w. w.go) gate.receivers)) at))
