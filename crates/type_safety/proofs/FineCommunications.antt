-- Sends and receives in a state whose values have sorts, and whether they can proceed.
use Rattle.std.proofs.Common.{◌≡◌, ℕ, ◌+◌, ◌%◌, ◌==◌, Bool, true, false, ◌||◌, if◌then◌else◌, List, [], ◌∷◌, Option, Some, None, is_some, option_map, refl, sym, ◌∙◌, ap, subst, inl}
use Rattle.std.proofs.lemmas.Option.{same_Some, none-some}
use Rattle.gr_base.specs.declared.names.ChName.{ChName}
use Rattle.gr_base.specs.declared.values.Value.{Value}
use Rattle.gr_base.specs.declared.kinds.Fault.TheVariants.{SendOnClosed}
use Rattle.gr_base.specs.declared.kinds.Kind.TheVariants.{Hand, Meet, Buffer, Take}
use Rattle.gr_causal.specs.Sequences.{In}
use Rattle.gr_channels.specs.declared.waiter.Waiter.{Waiter}
use Rattle.gr_channels.specs.Objects.{GateContent, has_any}
use Rattle.gr_typing.specs.Scopes.{Signature}
use Rattle.gr_rules.specs.Outcomes.{Outcome, gives, faults, wrong}
use Rattle.gr_rules.specs.Deeds.{Communication, Sending, Receiving, past}
use Rattle.gr_rules.specs.Goroutines.{ToSend, ToReceive}
use Rattle.gr_rules.specs.States.{gate_has, tail_has, head_has, slot_has, State}
use Rattle.gr_rules.specs.Attempts.{Refusal, sends_on, receives_from, Attempt}
use Rattle.gr_rules.specs.Actors.{Actor, without}
use Rattle.gr_rules.specs.Communications.{proceeds, send_to, send, take, receive_from, receive, communicate}
use Rattle.gr_rules.specs.Selects.{ask_ready}
use Rattle.gr_laws.specs.Soundness.{Stands}
use Rattle.gr_laws.proofs.WaitLemmas.{false_not, Known}
use Rattle.type_safety.proofs.Sorts.{Sort, Made, HasSort, Yields, yields, faulty}
use Rattle.type_safety.proofs.Running.{GoesOn, SortedState, SortedTransfer, sends_nil, sends, receives_nil, receives}
use Rattle.type_safety.proofs.Attempting.{Fine}
use Rattle.type_safety.proofs.Promises.{Acting, Readiness, ReadinessOf}
use Rattle.type_safety.proofs.FineAttempts.{IsFine, room_in, item_in, if_fine, tail_fine, gate_fine, room_fine, item_fine, goes_fine, goes_on_fine, fault_fine}
use Rattle.type_safety.proofs.FineMeetings.{past_send, past_receive, thin_sorted, met_fine}

none_of : (a b c : Bool) → a ≡ false → b ≡ false → c ≡ false → (a || b || c) ≡ false
none_of a b c d e f = rw (d, e, f) refl

-- whether a send on the channel with this gate can proceed, and whether a receive can
abbrev pub can_send : State → ChName → GateContent → Bool
can_send s c gate = gate.closed || has_any gate.receivers || is_some (room_in s c gate)

abbrev pub can_receive : State → ChName → GateContent → Bool
can_receive s c gate = gate.closed || has_any gate.senders || is_some (item_in s c gate)

-- a value of the sort of the channel's elements, in a slot
placed : (made : Made) (c : ChName) (e : Sort) (v : Value) → made c ≡ Some e → HasSort made v e → (l : Sort)
    → made c ≡ Some l → HasSort made v l
placed made c e v m h l n = subst (HasSort made v) (same_Some _ _ (sym m ∙ n)) h

-- the front item of a buffer has the sort of the channel's elements
item_sorted : (fs : List Signature) (made : Made) (s : State) → SortedState fs made s
    → (c : ChName) (e : Sort) (gate : GateContent) → made c ≡ Some e
    → (x : ℕ × Value) → item_in s c gate ≡ Some x → HasSort made x.1 e
item_sorted fs made s sorted c e gate m x q = by_capacity (gate.capacity == 0) q
  where
    by_slot : (y : Option (ℕ × Value)) → s.slots c (s.heads c % gate.capacity) ≡ y
        → option_map (λ x. (s.heads c, x.1)) y ≡ Some x → HasSort made x.1 e
    by_slot (Some y) d q =
        subst (λ z. HasSort made z e) (ap (λ (z : ℕ × Value). z.1) (same_Some _ _ q)) (sorted.items c _ y.0 y.1 e d m)
    by_slot None d q = absurd (none-some _ q)

    by_capacity : (b : Bool)
        → (if b then None else option_map (λ x. (s.heads c, x.1)) (s.slots c (s.heads c % gate.capacity))) ≡ Some x
        → HasSort made x.1 e
    by_capacity true q = absurd (none-some _ q)
    by_capacity false q = by_slot (s.slots c (s.heads c % gate.capacity)) refl q

module _ {P : Refusal → Type 0} {fs : List Signature} {made : Made} {s : State} {a : Actor} {k : Sort} (acting : Acting fs made s a k) where
  send_to_fine : (clause : Option ℕ) (c : ChName) (e : Sort) (gate : GateContent) (v : Value) (other : Attempt)
      (ws : List (Waiter (Unit {0})))
      → made c ≡ Some e → s.gates c ≡ Some gate → gate.receivers ≡ ws → HasSort made v e
      → GoesOn fs made k a.frame.function (past a.frame clause None)
      → (has_any ws ≡ false → is_some (room_in s c gate) ≡ false → IsFine P fs made s other)
      → IsFine P fs made s (send_to a clause c gate v other ws)
  send_to_fine clause c e gate v other (w ∷ ws) m at r h f o =
      met_fine acting.waits acting.sorted c w (Some (v, true)) (ToReceive c w.case)
      (λ cells. proceeds a clause (sends_on c) Hand None (gate_has c (Some (without (w.go ∷ []) gate)) ∷ cells))
      refl (subst (λ x. Stands x w.go (ToReceive c w.case)) (sym at) (w, subst (In w) (sym r) (inl refl), refl, refl))
      (λ l g us p st i. past_receive fs made l g p c e w.case us m st i v h)
      (λ cells q. goes_on_fine acting f
      (λ x d y. goes_fine acting d y (thin_sorted acting.sorted (w.go ∷ []) c gate at, q)))
  send_to_fine clause c e gate v other [] m at r h f o = room_fine c gate (elim [
    | Some n ↦
        proceeds a clause (sends_on c) Buffer None
        (tail_has c (n + 1) ∷ slot_has c (n % gate.capacity) (Some (n, v)) ∷ [])
    | None ↦ other
  ]) (by_room (room_in s c gate) refl)
    where
      by_room : (x : Option ℕ) → room_in s c gate ≡ x → IsFine P fs made s (elim x [
        | Some n ↦
            proceeds a clause (sends_on c) Buffer None
            (tail_has c (n + 1) ∷ slot_has c (n % gate.capacity) (Some (n, v)) ∷ [])
        | None ↦ other
      ])
      by_room (Some n) q = goes_on_fine acting f (λ x d y. goes_fine acting d y (tt, (placed made c e v m h, tt)))
      by_room None q = o refl (ap is_some q)

  send_fine : (clause : Option ℕ) (c : ChName) (e : Sort) (gate : GateContent) (v : Value) (other : Attempt)
      → made c ≡ Some e → s.gates c ≡ Some gate → HasSort made v e
      → GoesOn fs made k a.frame.function (past a.frame clause None)
      → (can_send s c gate ≡ false → IsFine P fs made s other)
      → IsFine P fs made s (send a clause c v other)
  send_fine clause c e gate v other m at h f o =
      gate_fine gate at (if_fine gate.closed (λ t. fault_fine acting (Some (sends_on c)) SendOnClosed)
      (λ t. send_to_fine clause c e gate v other gate.receivers m at refl h f
      (λ q r. o (none_of gate.closed (has_any gate.receivers) (is_some (room_in s c gate)) t q r))))

  take_fine : (clause : Option ℕ) (c : ChName) (e : Sort) (gate : GateContent) (item : ℕ × Value)
      (ws : List (Waiter Value))
      → made c ≡ Some e → s.gates c ≡ Some gate → gate.senders ≡ ws
      → GoesOn fs made k a.frame.function (past a.frame clause (Some (item.1, true)))
      → IsFine P fs made s (take a clause c gate item ws)
  take_fine clause c e gate item [] m at r f = goes_on_fine acting f (λ x d y. goes_fine acting d y (tt, (tt, tt)))
  take_fine clause c e gate item (w ∷ ws) m at r f =
      let i : In w gate.senders = subst (In w) (sym r) (inl refl) in
      tail_fine (met_fine acting.waits acting.sorted c w None (ToSend c w.case)
      (λ cells. proceeds a clause (receives_from c) Take (Some (item.1, true)) (
      gate_has c (Some (without (w.go ∷ []) gate)) ∷ head_has c (item.0 + 1) ∷ tail_has c (s.tails c + 1)
      ∷ slot_has c (item.0 % gate.capacity) (Some (s.tails c, w.value)) ∷ cells))
      refl (subst (λ x. Stands x w.go (ToSend c w.case)) (sym at) (w, i, refl, refl))
      (λ l g us p st i. past_send fs made l g p c w.case us st i)
      (λ cells q. goes_on_fine acting f (λ x d y. goes_fine acting d y (
        thin_sorted acting.sorted (w.go ∷ []) c gate at,
        (tt, (tt, (placed made c e w.value m (acting.sorted.senders c gate e w at m i), q))),
      ))))

  receive_from_fine : (clause : Option ℕ) (c : ChName) (e : Sort) (gate : GateContent) (initial : Value)
      (other : Attempt) (item : Option (ℕ × Value)) (ws : List (Waiter Value))
      → made c ≡ Some e → s.gates c ≡ Some gate → gate.senders ≡ ws → item_in s c gate ≡ item
      → GoesOn fs made k a.frame.function (past a.frame clause (Some (initial, false)))
      → ((v : Value) → HasSort made v e → GoesOn fs made k a.frame.function (past a.frame clause (Some (v, true))))
      → (gate.closed ≡ false → has_any ws ≡ false → is_some item ≡ false → IsFine P fs made s other)
      → IsFine P fs made s (receive_from a clause c gate initial other item ws)
  receive_from_fine clause c e gate initial other (Some item) ws m at r q f g o =
      take_fine clause c e gate item ws m at r (g item.1 (item_sorted fs made s acting.sorted c e gate m item q))
  receive_from_fine clause c e gate initial other None (w ∷ ws) m at r q f g o =
      let i : In w gate.senders = subst (In w) (sym r) (inl refl) in
      met_fine acting.waits acting.sorted c w None (ToSend c w.case)
      (λ cells. proceeds a clause (receives_from c) Meet (Some (w.value, true))
      (gate_has c (Some (without (w.go ∷ []) gate)) ∷ cells))
      refl (subst (λ x. Stands x w.go (ToSend c w.case)) (sym at) (w, i, refl, refl))
      (λ l x us p st i. past_send fs made l x p c w.case us st i)
      (λ cells z. goes_on_fine acting (g w.value (acting.sorted.senders c gate e w at m i))
      (λ x d y. goes_fine acting d y (thin_sorted acting.sorted (w.go ∷ []) c gate at, z)))
  receive_from_fine clause c e gate initial other None [] m at r q f g o =
      if_fine gate.closed (λ t. goes_on_fine acting f (λ x d y. goes_fine acting d y tt)) (λ t. o t refl refl)

  receive_fine : (clause : Option ℕ) (c : ChName) (e : Sort) (gate : GateContent) (initial : Value) (other : Attempt)
      → made c ≡ Some e → s.gates c ≡ Some gate
      → GoesOn fs made k a.frame.function (past a.frame clause (Some (initial, false)))
      → ((v : Value) → HasSort made v e → GoesOn fs made k a.frame.function (past a.frame clause (Some (v, true))))
      → (can_receive s c gate ≡ false → IsFine P fs made s other)
      → IsFine P fs made s (receive a clause c initial other)
  receive_fine clause c e gate initial other m at f g o =
      gate_fine gate at (item_fine c gate (λ item. receive_from a clause c gate initial other item gate.senders)
      (receive_from_fine clause c e gate initial other (item_in s c gate) gate.senders m at refl refl f g
      (λ t q r. o (none_of gate.closed (has_any gate.senders) (is_some (item_in s c gate)) t q r))))

  communicate_send_fine : (clause : Option ℕ) (c : ChName) (e : Sort) (gate : GateContent) (v : Outcome Value)
      (other : Attempt)
      → made c ≡ Some e → s.gates c ≡ Some gate → Yields made v e
      → GoesOn fs made k a.frame.function (past a.frame clause None)
      → Known (Sending (Some c) v)
      → (can_send s c gate ≡ false → IsFine P fs made s other)
      → IsFine P fs made s (communicate a clause (Sending (Some c) v) other)
  communicate_send_fine clause c e gate (gives v) other m at (yields h) f known o =
      send_fine clause c e gate v other m at h f o
  communicate_send_fine clause c e gate (faults x) other m at faulty f known o = absurd known
  communicate_send_fine clause c e gate wrong other m at y f known o = elim y [ ]

  -- a communication proceeds, or goes on with another attempt where it can't
  pub communicate_fine : (clause : Option ℕ) (x : Communication) (other : Attempt)
      → SortedTransfer fs made k a.frame clause x → Known x → IsFine P fs made s other
      → IsFine P fs made s (communicate a clause x other)
  communicate_fine clause x other (sends_nil y) known o = o
  communicate_fine clause x other (sends {c = c} {v = v} {e = e} m y f) known o =
      let g = acting.sorted.gates c e m in
      communicate_send_fine clause c e g.0 v other m g.1 y f known (λ t. o)
  communicate_fine clause x other receives_nil known o = o
  communicate_fine clause x other (receives {c = c} {zero = initial} {e = e} m f h) known o =
      let g = acting.sorted.gates c e m in
      receive_fine clause c e g.0 initial other m g.1 f h (λ t. o)

  -- on nil it never can
  never : (clause : Option ℕ) (x : Communication) → ((next : Bool → Attempt) → ask_ready x next ≡ next false)
      → ((other : Attempt) → communicate a clause x other ≡ other)
      → Readiness P fs made s a clause x
  never clause x asks is = record {
    can = false;
    asks = λ next h. subst (Fine P fs made s) (sym (asks next)) h;
    proceeds = λ other known t. absurd (false_not false t refl);
    or_else = λ other known h. subst (Fine P fs made s) (sym (is other)) h;
  }

  readiness : (clause : Option ℕ) (x : Communication) → SortedTransfer fs made k a.frame clause x
      → Readiness P fs made s a clause x
  readiness clause x (sends_nil y) = never clause x (λ next. refl) (λ other. refl)
  readiness clause x receives_nil = never clause x (λ next. refl) (λ other. refl)
  readiness clause x (sends {c = c} {v = v} {e = e} m y f) =
      let g = acting.sorted.gates c e m in
      record {
        can = can_send s c g.0;
        asks =
            λ next h. let r : IsFine P fs made s (ask_ready (Sending (Some c) v) next) = gate_fine g.0 g.1 (room_fine c g.0 (λ room. next (g.0.closed || has_any g.0.receivers || is_some room)) (record { fine = h })) in r.fine;
        proceeds =
            λ other known t.
            (communicate_send_fine clause c e g.0 v other m g.1 y f known (λ n. absurd (false_not _ t n))).fine;
        or_else =
            λ other known h. (communicate_send_fine clause c e g.0 v other m g.1 y f known (λ n. record { fine = h })).fine;
      }
  readiness clause x (receives {c = c} {zero = initial} {e = e} m f h) =
      let g = acting.sorted.gates c e m in
      record {
        can = can_receive s c g.0;
        asks =
            λ next h. let r : IsFine P fs made s (ask_ready (Receiving (Some c) initial) next) = gate_fine g.0 g.1 (item_fine c g.0 (λ item. next (g.0.closed || has_any g.0.senders || is_some item)) (record { fine = h })) in r.fine;
        proceeds =
            λ other known t.
            (receive_fine clause c e g.0 initial other m g.1 f h (λ n. absurd (false_not _ t n))).fine;
        or_else =
            λ other known o. (receive_fine clause c e g.0 initial other m g.1 f h (λ n. record { fine = o })).fine;
      }

pub readiness_of : ReadinessOf
readiness_of P fs made s a k clause x acting h = readiness acting clause x h
