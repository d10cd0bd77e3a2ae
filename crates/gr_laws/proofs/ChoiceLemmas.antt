-- Which choices a select has not: those that `Refusals` lists.
use Rattle.std.proofs.Common.{◌≡◌, ◌⊎◌, ℕ, ◌+◌, ◌%◌, ◌==◌, ◌||◌, ◌&&◌, not, Bool, true, false, if◌then◌else◌, List, [], ◌∷◌, is_some, is_none, Option, Some, None, option_map, refl, sym, ◌∙◌, ap, subst, inl, inr}
use Rattle.std.specs.List.{list_any}
use Rattle.gr_base.specs.declared.names.ChName.{ChName}
use Rattle.gr_base.specs.declared.values.Value.{Value}
use Rattle.gr_base.specs.declared.events.Choice.{Choice}
use Rattle.gr_base.specs.declared.events.Choice.TheVariants as choices
use Rattle.gr_base.specs.declared.kinds.Fault.{Fault}
use Rattle.gr_base.specs.declared.kinds.Fault.TheVariants.{SendOnClosed}
use Rattle.gr_base.specs.declared.kinds.Kind.TheVariants as kinds
use Rattle.gr_causal.proofs.ListLemmas.{or_false, true_or_false, some_is, none_not}
use Rattle.gr_channels.specs.declared.waiter.Waiter.{Waiter}
use Rattle.gr_channels.specs.Objects.{GateContent, has_any}
use Rattle.gr_rules.specs.Outcomes.{Outcome, gives, faults, wrong}
use Rattle.gr_rules.specs.Deeds.{Communication, Sending, Receiving, Otherwise, past}
use Rattle.gr_rules.specs.States.{gate_has, tail_has, slot_has, State, look}
use Rattle.gr_rules.specs.Attempts.{Refusal, no_such_choice, unsound, sends_on, receives_from, Attempt, refuse, perform, ask, refusal_in, if_there, room_for, ask_slot, ask_room, ask_item}
use Rattle.gr_rules.specs.Actors.{Actor, onward, simply, fault, without, clause_at, given}
use Rattle.gr_rules.specs.Communications.{proceeds, send_to, receive_from, communicate, wait}
use Rattle.gr_rules.specs.Selects.{values_of, ask_ready, if_none_ready, pick, default_from, numbered, default, park, choose}
use Rattle.gr_laws.specs.Refusals.{has_room, has_item, at_gate, can_proceed, CannotPick, HasNoSuch}
use Rattle.gr_laws.proofs.CellLemmas.{no_truth}
use Rattle.gr_laws.proofs.RuleRefusals.{Refuses, R, not_sound, asked, done, met_r, given_r, take_r, wait_r}

pub among : (s : State) (P : Refusal → Type 0) (fits : P unsound) (x : Attempt) → Refuses s P fits x → (r : Refusal)
    → refusal_in s x ≡ Some r → P r
among s P fits (refuse q) h r e = subst P (some_is q r e) h
among s P fits (perform report cells) h r e = absurd (none_not r e)
among s P fits (ask o f) h r e = among s P fits (f (look s o)) h r e

abbrev pub Unsound : Refusal → Type 0
Unsound r = r ≡ unsound

-- refused for the choice, or unsound
abbrev pub NoChoice : Option Refusal → Type 0
NoChoice o = (o ≡ Some no_such_choice) ⊎ (o ≡ Some unsound)

module _ (s : State) where
  -- the room and the front item that a rule is told
  abbrev room_in : ChName → GateContent → Option ℕ
  room_in c gate = if gate.capacity == 0 then None else room_for (s.tails c) (s.slots c (s.tails c % gate.capacity))

  abbrev numbered_item : ChName → Option (ℕ × Value) → Option (ℕ × Value)
  numbered_item c item = option_map (λ x. (s.heads c, x.1)) item

  abbrev item_in : ChName → GateContent → Option (ℕ × Value)
  item_in c gate = if gate.capacity == 0 then None else numbered_item c (s.slots c (s.heads c % gate.capacity))

  told_room : (c : ChName) (gate : GateContent) (k : Option ℕ → Attempt)
      → refusal_in s (ask_room c gate k) ≡ refusal_in s (k (room_in c gate))
  told_room c gate k = by_none (gate.capacity == 0)
    where
      by_none : (b : Bool)
          → refusal_in s (if b then k None else ask_slot c (s.tails c % gate.capacity) (λ item. k (room_for (s.tails c) item)))
          ≡ refusal_in s (k (if b then None else room_for (s.tails c) (s.slots c (s.tails c % gate.capacity))))
      by_none true = refl
      by_none false = refl

  told_item : (c : ChName) (gate : GateContent) (k : Option (ℕ × Value) → Attempt)
      → refusal_in s (ask_item c gate k) ≡ refusal_in s (k (item_in c gate))
  told_item c gate k = by_none (gate.capacity == 0)
    where
      by_none : (b : Bool)
          → refusal_in s (if b then k None else ask_slot c (s.heads c % gate.capacity) (λ item. k (numbered_item c item)))
          ≡ refusal_in s (k (if b then None else numbered_item c (s.slots c (s.heads c % gate.capacity))))
      by_none true = refl
      by_none false = refl

  room_is : (c : ChName) (gate : GateContent) → is_some (room_in c gate) ≡ has_room s c gate
  room_is c gate = elim (true_or_false (gate.capacity == 0)) [ inl t ↦ rw t refl | inr f ↦ rw f (by_slot (s.slots c (s.tails c % gate.capacity))) ]
    where
      by_slot : (x : Option (ℕ × Value)) → is_some (room_for (s.tails c) x) ≡ is_none x
      by_slot None = refl
      by_slot (Some x) = refl

  item_is : (c : ChName) (gate : GateContent) → is_some (item_in c gate) ≡ has_item s c gate
  item_is c gate = elim (true_or_false (gate.capacity == 0)) [ inl t ↦ rw t refl | inr f ↦ rw f (by_slot (s.slots c (s.heads c % gate.capacity))) ]
    where
      by_slot : (x : Option (ℕ × Value)) → is_some (numbered_item c x) ≡ is_some x
      by_slot None = refl
      by_slot (Some x) = refl

  -- asking whether a communication can proceed
  told_ready : (c : Communication) (k : Bool → Attempt)
      → (refusal_in s (ask_ready c k) ≡ Some unsound) ⊎ (refusal_in s (ask_ready c k) ≡ refusal_in s (k (can_proceed s c)))
  told_ready (Sending (Some c) v) k = by_gate (s.gates c)
    where
      by_gate : (x : Option GateContent)
          → (refusal_in s (if_there (λ gate. ask_room c gate (λ room. k (gate.closed || has_any gate.receivers || is_some room))) x) ≡ Some unsound)
          ⊎ (refusal_in s (if_there (λ gate. ask_room c gate (λ room. k (gate.closed || has_any gate.receivers || is_some room))) x)
          ≡ refusal_in s (k (at_gate x (λ gate. gate.closed || has_any gate.receivers || has_room s c gate))))
      by_gate None = inl refl
      by_gate (Some gate) = inr (told_room c gate (λ room. k (gate.closed || has_any gate.receivers || is_some room))
          ∙ ap (λ b. refusal_in s (k (gate.closed || has_any gate.receivers || b))) (room_is c gate))
  told_ready (Sending None v) k = inr refl
  told_ready (Receiving (Some c) zero) k = by_gate (s.gates c)
    where
      by_gate : (x : Option GateContent)
          → (refusal_in s (if_there (λ gate. ask_item c gate (λ item. k (gate.closed || has_any gate.senders || is_some item))) x) ≡ Some unsound)
          ⊎ (refusal_in s (if_there (λ gate. ask_item c gate (λ item. k (gate.closed || has_any gate.senders || is_some item))) x)
          ≡ refusal_in s (k (at_gate x (λ gate. gate.closed || has_any gate.senders || has_item s c gate))))
      by_gate None = inl refl
      by_gate (Some gate) = inr (told_item c gate (λ item. k (gate.closed || has_any gate.senders || is_some item))
          ∙ ap (λ b. refusal_in s (k (gate.closed || has_any gate.senders || b))) (item_is c gate))
  told_ready (Receiving None zero) k = inr refl
  told_ready Otherwise k = inr refl

  -- what comes where no clause can proceed
  some_ready : (cs : List Communication) (x : Attempt) → list_any (can_proceed s) cs ≡ true
      → NoChoice (refusal_in s (if_none_ready cs x))
  some_ready [] x h = absurd (no_truth h)
  some_ready (c ∷ cs) x h = elim (told_ready c (λ b. if b then refuse no_such_choice else if_none_ready cs x)) [
    | inl u ↦ inr u
    | inr e ↦ elim (true_or_false (can_proceed s c)) [
      | inl t ↦ inl (e ∙ ap (λ b. refusal_in s (if b then refuse no_such_choice else if_none_ready cs x)) t)
      | inr f ↦
          let rest : list_any (can_proceed s) cs ≡ true = rw f at h in
          subst NoChoice (sym (e ∙ ap (λ b. refusal_in s (if b then refuse no_such_choice else if_none_ready cs x)) f)) (some_ready cs x rest)
    ]
  ]

  none_ready : (cs : List Communication) (x : Attempt) → list_any (can_proceed s) cs ≡ false
      → (refusal_in s (if_none_ready cs x) ≡ Some unsound) ⊎ (refusal_in s (if_none_ready cs x) ≡ refusal_in s x)
  none_ready [] x h = inr refl
  none_ready (c ∷ cs) x h = elim (told_ready c (λ b. if b then refuse no_such_choice else if_none_ready cs x)) [
    | inl u ↦ inl u
    | inr e ↦ elim (true_or_false (can_proceed s c)) [
      | inl t ↦ absurd (let q : true ≡ false = rw t at h in cc)
      | inr f ↦
          let rest : list_any (can_proceed s) cs ≡ false = rw f at h in
          let on = e ∙ ap (λ b. refusal_in s (if b then refuse no_such_choice else if_none_ready cs x)) f in
          elim (none_ready cs x rest) [ inl u ↦ inl (on ∙ u) | inr u ↦ inr (on ∙ u) ]
    ]
  ]

  module _ (a : Actor) where
    abbrev U : Attempt → Type 0
    U = R s Unsound refl

    sent : (clause : Option ℕ) (c : ChName) (gate : GateContent) (v : Value) (ws : List (Waiter (Unit {0})))
        → (has_any ws || has_room s c gate) ≡ true → U (send_to a clause c gate v (refuse no_such_choice) ws)
    sent clause c gate v (w ∷ ws) h = met_r s Unsound refl c w (Some (v, true))
        (λ cells. proceeds a clause (sends_on c) kinds.Hand None (gate_has c (Some (without (w.go ∷ []) gate)) ∷ cells))
        (λ cells. given_r s Unsound refl a (past a.frame clause None) (λ f. done s Unsound refl))
    sent clause c gate v [] h = asked s Unsound refl (by_none (gate.capacity == 0) h)
      where
        by_slot : (n : ℕ) (x : Option (ℕ × Value)) → is_none x ≡ true → U (elim (room_for n x) [
          | Some n ↦ proceeds a clause (sends_on c) kinds.Buffer None (tail_has c (n + 1) ∷ slot_has c (n % gate.capacity) (Some (n, v)) ∷ [])
          | None ↦ refuse no_such_choice
        ])
        by_slot n None h = given_r s Unsound refl a (past a.frame clause None) (λ f. done s Unsound refl)
        by_slot n (Some x) h = absurd (no_truth h)

        by_none : (b : Bool) → (not b && is_none (s.slots c (s.tails c % gate.capacity))) ≡ true
            → U (if b then refuse no_such_choice else ask_slot c (s.tails c % gate.capacity) (λ item. elim (room_for (s.tails c) item) [
              | Some n ↦ proceeds a clause (sends_on c) kinds.Buffer None (tail_has c (n + 1) ∷ slot_has c (n % gate.capacity) (Some (n, v)) ∷ [])
              | None ↦ refuse no_such_choice
            ]))
        by_none true h = absurd (no_truth h)
        by_none false h = asked s Unsound refl (by_slot (s.tails c) (s.slots c (s.tails c % gate.capacity)) h)

    received : (clause : Option ℕ) (c : ChName) (gate : GateContent) (zero : Value) (item : Option (ℕ × Value)) (ws : List (Waiter Value))
        → (gate.closed || has_any ws || is_some item) ≡ true
        → U (receive_from a clause c gate zero (refuse no_such_choice) item ws)
    received clause c gate zero (Some item) ws h = take_r s Unsound refl a clause c gate item ws
    received clause c gate zero None (w ∷ ws) h = met_r s Unsound refl c w None
        (λ cells. proceeds a clause (receives_from c) kinds.Meet (Some (w.value, true)) (gate_has c (Some (without (w.go ∷ []) gate)) ∷ cells))
        (λ cells. given_r s Unsound refl a (past a.frame clause (Some (w.value, true))) (λ f. done s Unsound refl))
    received clause c gate zero None [] h = by_closed gate.closed h
      where
        by_closed : (b : Bool) → (b || false || false) ≡ true
            → U (if b then proceeds a clause (receives_from c) kinds.Closed (Some (zero, false)) [] else refuse no_such_choice)
        by_closed true h = given_r s Unsound refl a (past a.frame clause (Some (zero, false))) (λ f. done s Unsound refl)
        by_closed false h = absurd (no_truth h)

    -- a communication that can proceed is not refused for the choice
    picked : (clause : Option ℕ) (c : Communication) → can_proceed s c ≡ true → U (communicate a clause c (refuse no_such_choice))
    picked clause (Sending (Some c) (gives v)) t = asked s Unsound refl (by_gate (s.gates c) t)
      where
        by_closed : (gate : GateContent) (b : Bool) → (b || has_any gate.receivers || has_room s c gate) ≡ true
            → U (if b then fault a (Some (sends_on c)) SendOnClosed else send_to a clause c gate v (refuse no_such_choice) gate.receivers)
        by_closed gate true h = done s Unsound refl
        by_closed gate false h = sent clause c gate v gate.receivers h

        by_gate : (x : Option GateContent) → at_gate x (λ gate. gate.closed || has_any gate.receivers || has_room s c gate) ≡ true
            → U (if_there (λ gate. if gate.closed then fault a (Some (sends_on c)) SendOnClosed else send_to a clause c gate v (refuse no_such_choice) gate.receivers) x)
        by_gate None h = absurd (no_truth h)
        by_gate (Some gate) h = by_closed gate gate.closed h
    picked clause (Sending (Some c) (faults e)) t = not_sound s Unsound refl
    picked clause (Sending (Some c) wrong) t = not_sound s Unsound refl
    picked clause (Sending None v) t = absurd (no_truth t)
    picked clause (Receiving (Some c) zero) t = asked s Unsound refl (by_gate (s.gates c) t)
      where
        by_none : (gate : GateContent) (b : Bool)
            → (gate.closed || has_any gate.senders || (not b && is_some (s.slots c (s.heads c % gate.capacity)))) ≡ true
            → U (if b then receive_from a clause c gate zero (refuse no_such_choice) None gate.senders
            else ask_slot c (s.heads c % gate.capacity) (λ item. receive_from a clause c gate zero (refuse no_such_choice) (numbered_item c item) gate.senders))
        by_none gate true h = received clause c gate zero None gate.senders h
        by_none gate false h = asked s Unsound refl (received clause c gate zero (numbered_item c (s.slots c (s.heads c % gate.capacity))) gate.senders
            (subst (λ b. (gate.closed || has_any gate.senders || b) ≡ true) (sym (same_there (s.slots c (s.heads c % gate.capacity)))) h))
          where
            same_there : (x : Option (ℕ × Value)) → is_some (numbered_item c x) ≡ is_some x
            same_there None = refl
            same_there (Some x) = refl

        by_gate : (x : Option GateContent) → at_gate x (λ gate. gate.closed || has_any gate.senders || has_item s c gate) ≡ true
            → U (if_there (λ gate. ask_item c gate (λ item. receive_from a clause c gate zero (refuse no_such_choice) item gate.senders)) x)
        by_gate None h = absurd (no_truth h)
        by_gate (Some gate) h = asked s Unsound refl (by_none gate (gate.capacity == 0) h)
    picked clause (Receiving None zero) t = absurd (no_truth t)
    picked clause Otherwise t = absurd (no_truth t)

    -- one that cannot is
    not_picked : (clause : Option ℕ) (c : Communication) → can_proceed s c ≡ false
        → NoChoice (refusal_in s (communicate a clause c (refuse no_such_choice)))
    not_picked clause (Sending (Some c) (gives v)) f = by_gate (s.gates c) f
      where
        by_room : (gate : GateContent) (x : Option ℕ) → is_some x ≡ false → refusal_in s (elim x [
          | Some n ↦ proceeds a clause (sends_on c) kinds.Buffer None (tail_has c (n + 1) ∷ slot_has c (n % gate.capacity) (Some (n, v)) ∷ [])
          | None ↦ refuse no_such_choice
        ]) ≡ Some no_such_choice
        by_room gate None h = refl
        by_room gate (Some n) h = absurd (let q : true ≡ false = h in cc)

        by_waiters : (gate : GateContent) (ws : List (Waiter (Unit {0}))) → (has_any ws || has_room s c gate) ≡ false
            → refusal_in s (send_to a clause c gate v (refuse no_such_choice) ws) ≡ Some no_such_choice
        by_waiters gate (w ∷ ws) h = absurd (let q : true ≡ false = h in cc)
        by_waiters gate [] h = told_room c gate (elim [
          | Some n ↦ proceeds a clause (sends_on c) kinds.Buffer None (tail_has c (n + 1) ∷ slot_has c (n % gate.capacity) (Some (n, v)) ∷ [])
          | None ↦ refuse no_such_choice
        ]) ∙ by_room gate (room_in c gate) (room_is c gate ∙ h)

        by_closed : (gate : GateContent) (b : Bool) → (b || has_any gate.receivers || has_room s c gate) ≡ false
            → refusal_in s (if b then fault a (Some (sends_on c)) SendOnClosed else send_to a clause c gate v (refuse no_such_choice) gate.receivers) ≡ Some no_such_choice
        by_closed gate true h = absurd (let q : true ≡ false = h in cc)
        by_closed gate false h = by_waiters gate gate.receivers h

        by_gate : (x : Option GateContent)
            → at_gate x (λ gate. gate.closed || has_any gate.receivers || has_room s c gate) ≡ false
            → NoChoice (refusal_in s (if_there (λ gate. if gate.closed then fault a (Some (sends_on c)) SendOnClosed else send_to a clause c gate v (refuse no_such_choice) gate.receivers) x))
        by_gate None h = inr refl
        by_gate (Some gate) h = inl (by_closed gate gate.closed h)
    not_picked clause (Sending (Some c) (faults e)) f = inr refl
    not_picked clause (Sending (Some c) wrong) f = inr refl
    not_picked clause (Sending None v) f = inl refl
    not_picked clause (Receiving (Some c) zero) f = by_gate (s.gates c) f
      where
        by_closed : (gate : GateContent) (b : Bool) → (b || false || false) ≡ false
            → refusal_in s (if b then proceeds a clause (receives_from c) kinds.Closed (Some (zero, false)) [] else refuse no_such_choice) ≡ Some no_such_choice
        by_closed gate true h = absurd (let q : true ≡ false = h in cc)
        by_closed gate false h = refl

        by_item : (gate : GateContent) (x : Option (ℕ × Value)) (ws : List (Waiter Value))
            → (gate.closed || has_any ws || is_some x) ≡ false
            → refusal_in s (receive_from a clause c gate zero (refuse no_such_choice) x ws) ≡ Some no_such_choice
        by_item gate (Some x) ws h = absurd (let q : true ≡ false = (or_false (gate.closed || has_any ws) true h).1 in cc)
        by_item gate None (w ∷ ws) h = absurd (let q : true ≡ false = (or_false gate.closed true (or_false (gate.closed || true) false h).0).1 in cc)
        by_item gate None [] h = by_closed gate gate.closed h

        by_gate : (x : Option GateContent) → at_gate x (λ gate. gate.closed || has_any gate.senders || has_item s c gate) ≡ false
            → NoChoice (refusal_in s (if_there (λ gate. ask_item c gate (λ item. receive_from a clause c gate zero (refuse no_such_choice) item gate.senders)) x))
        by_gate None h = inr refl
        by_gate (Some gate) h = inl (told_item c gate (λ item. receive_from a clause c gate zero (refuse no_such_choice) item gate.senders)
            ∙ by_item gate (item_in c gate) gate.senders (ap (λ b. gate.closed || has_any gate.senders || b) (item_is c gate) ∙ h))
    not_picked clause (Receiving None zero) f = inl refl
    not_picked clause Otherwise f = inl refl

    abbrev NotForChoice : Attempt → Type 0
    NotForChoice x = refusal_in s x ≡ Some no_such_choice → ⊥

    unsound_only : (x : Attempt) → U x → NotForChoice x
    unsound_only x u e = let q : no_such_choice ≡ unsound = among s Unsound refl x u.refuses no_such_choice e in cc

    unsound_is_not : (x : Attempt) → refusal_in s x ≡ Some unsound → NotForChoice x
    unsound_is_not x u e = let q : no_such_choice ≡ unsound = some_is _ _ (sym e ∙ u) in cc

    -- to pick a clause
    abbrev if_ready_fault : Fault → Bool → Attempt
    if_ready_fault e b = if b then fault a None e else refuse no_such_choice

    not_to_pick : (i : ℕ) (vs : Outcome (List Value)) (o : Option Communication) → CannotPick s o
        → NoChoice (refusal_in s (pick a i vs o))
    not_to_pick i vs None h = inl refl
    not_to_pick i (gives vs) (Some c) h = not_picked (Some i) c h
    not_to_pick i (faults e) (Some c) h = elim (told_ready c (if_ready_fault e)) [ inl u ↦ inr u | inr q ↦ inl (q ∙ ap (λ b. refusal_in s (if_ready_fault e b)) h) ]
    not_to_pick i wrong (Some c) h = inr refl

    may_pick : (i : ℕ) (vs : Outcome (List Value)) (c : Communication) → can_proceed s c ≡ true
        → NotForChoice (pick a i vs (Some c))
    may_pick i (gives vs) c t e = unsound_only _ (picked (Some i) c t) e
    may_pick i (faults f) c t e = elim (told_ready c (if_ready_fault f)) [
      | inl u ↦ unsound_is_not (ask_ready c (if_ready_fault f)) u e
      | inr q ↦ none_not _ (sym (q ∙ ap (λ b. refusal_in s (if_ready_fault f b)) t) ∙ e)
    ]
    may_pick i wrong c t e = unsound_is_not (refuse unsound) refl e

    cannot_pick : (i : ℕ) (vs : Outcome (List Value)) (o : Option Communication)
        → refusal_in s (pick a i vs o) ≡ Some no_such_choice → CannotPick s o
    cannot_pick i vs None e = tt
    cannot_pick i vs (Some c) e = elim (true_or_false (can_proceed s c)) [ inl t ↦ absurd (may_pick i vs c t e) | inr f ↦ f ]

    -- where a clause that none can proceed leads to is refused for no choice
    only_if_ready : (cs : List Communication) (x : Attempt) → U x → refusal_in s (if_none_ready cs x) ≡ Some no_such_choice
        → list_any (can_proceed s) cs ≡ true
    only_if_ready cs x u e = elim (true_or_false (list_any (can_proceed s) cs)) [
      | inl t ↦ t
      | inr f ↦ elim (none_ready cs x f) [ inl q ↦ absurd (unsound_is_not (if_none_ready cs x) q e) | inr q ↦ absurd (unsound_only x u (sym q ∙ e)) ]
    ]

    defaulted : (cs : List Communication) (i : ℕ)
        → U (given a (values_of cs) (λ vs. given a (past a.frame (Some i) None) (λ f. simply a kinds.Default (onward a f) [])))
    defaulted cs i = given_r s Unsound refl a (values_of cs) (λ vs. given_r s Unsound refl a (past a.frame (Some i) None) (λ f. done s Unsound refl))

    parked : (cs : List Communication) → U (given a (values_of cs) (λ vs. wait a None kinds.SelectWait (numbered 1 cs)))
    parked cs = given_r s Unsound refl a (values_of cs) (λ vs. wait_r s Unsound refl a None kinds.SelectWait (numbered 1 cs))

    by_default : (cs : List Communication) (o : Option ℕ) → refusal_in s (default a cs o) ≡ Some no_such_choice
        → (o ≡ None) ⊎ (list_any (can_proceed s) cs ≡ true)
    by_default cs None e = inl refl
    by_default cs (Some i) e = inr (only_if_ready cs _ (defaulted cs i) e)

    by_park : (cs : List Communication) (o : Option ℕ) → refusal_in s (park a cs o) ≡ Some no_such_choice
        → ((i : ℕ) × (o ≡ Some i)) ⊎ (list_any (can_proceed s) cs ≡ true)
    by_park cs (Some i) e = inl (i, refl)
    by_park cs None e = inr (only_if_ready cs _ (parked cs) e)

    no_default : (cs : List Communication) (o : Option ℕ) → (o ≡ None) ⊎ (list_any (can_proceed s) cs ≡ true)
        → NoChoice (refusal_in s (default a cs o))
    no_default cs None h = inl refl
    no_default cs (Some i) h = elim h [ inl e ↦ absurd (none_not _ (sym e)) | inr t ↦ some_ready cs _ t ]

    no_park : (cs : List Communication) (o : Option ℕ) → ((i : ℕ) × (o ≡ Some i)) ⊎ (list_any (can_proceed s) cs ≡ true)
        → NoChoice (refusal_in s (park a cs o))
    no_park cs (Some i) h = inl refl
    no_park cs None h = elim h [ inl e ↦ absurd (none_not _ e.1) | inr t ↦ some_ready cs _ t ]

    -- a select refuses the choices that it has not, and no others for the choice
    pub has_not : (cs : List Communication) (choice : Choice)
        → refusal_in s (choose a cs choice) ≡ Some no_such_choice → HasNoSuch s cs choice
    has_not cs choices.Plain e = tt
    has_not cs (choices.Pick i) e = cannot_pick i (values_of cs) (clause_at cs i) e
    has_not cs choices.Default e = by_default cs (default_from 1 cs) e
    has_not cs choices.Park e = by_park cs (default_from 1 cs) e

    pub refused_choice : (cs : List Communication) (choice : Choice) → HasNoSuch s cs choice
        → NoChoice (refusal_in s (choose a cs choice))
    refused_choice cs choices.Plain h = inl refl
    refused_choice cs (choices.Pick i) h = not_to_pick i (values_of cs) (clause_at cs i) h
    refused_choice cs choices.Default h = no_default cs (default_from 1 cs) h
    refused_choice cs choices.Park h = no_park cs (default_from 1 cs) h
