-- A goroutine waits wherever it stands ready at communications that cannot proceed, and then it is at the end of their queues.
use Rattle.std.proofs.Common.{fold, ◌≡◌, ℕ, ◌+◌, ◌%◌, ◌==◌, Bool, true, false, ◌||◌, ◌&&◌, not, is_none, is_some, if◌then◌else◌, List, [], ◌∷◌, ◌++◌, map, Option, Some, None, option_map, refl, sym, ◌∙◌, ap, subst, inl, inr, append-nil, append_assoc}
use Rattle.std.specs.List.{list_any}
use Rattle.gr_base.specs.declared.names.ChName.{ChName}
use Rattle.gr_base.specs.declared.values.Value.{Value}
use Rattle.gr_base.specs.declared.events.Choice.TheVariants as choices
use Rattle.gr_base.specs.declared.events.Event.{Event}
use Rattle.gr_base.specs.declared.kinds.Fault.TheVariants.{SendOnClosed}
use Rattle.gr_base.specs.declared.kinds.Kind.{Kind}
use Rattle.gr_base.specs.declared.kinds.Kind.TheVariants as kinds
use Rattle.gr_base.specs.declared.objects.Object.{Object}
use Rattle.gr_causal.specs.Rules.{Plan, plan, carried, with_read}
use Rattle.gr_causal.specs.Sequences.{In}
use Rattle.gr_channels.specs.declared.waiter.Waiter.{Waiter}
use Rattle.gr_channels.specs.Objects.{GateContent, has_any}
use Rattle.gr_program.specs.Programs.{Program}
use Rattle.gr_rules.specs.Outcomes.{gives, faults, wrong}
use Rattle.gr_rules.specs.Operators.{same_channel}
use Rattle.gr_rules.specs.Frames.{Frame}
use Rattle.gr_rules.specs.Deeds.{Communication, Sending, Receiving, Otherwise, deed}
use Rattle.gr_rules.specs.Goroutines.{Wait, ToSend, ToReceive, channel_of, waiting, Goroutine}
use Rattle.gr_rules.specs.States.{Cell, go_has, gate_has, tail_has, slot_has, State, look, put}
use Rattle.gr_rules.specs.Attempts.{Operation, sends_on, receives_from, no_such_choice, Report, Attempt, refuse, ask, rule_of, ask_go, if_there, ask_gate, room_for, ask_room, ask_slot, ask_item}
use Rattle.gr_rules.specs.Actors.{Actor, does, fault, given, channels_but}
use Rattle.gr_rules.specs.Communications.{proceeds, send_to, receive_from, communicate, all_waits, enqueued, ask_enqueued, wait, proceed_or_wait}
use Rattle.gr_rules.specs.Selects.{if_none_ready, numbered, park}
use Rattle.gr_rules.specs.Steps.{act_by, act_in, if_ready, if_known, if_live, attempt, rulebook}
use Rattle.gr_laws.specs.Refusals.{has_room, has_item}
use Rattle.gr_laws.proofs.CellLemmas.{no_truth, channel_is, channel_self}
use Rattle.gr_laws.proofs.WaitLemmas.{covered, some_wait}
use Rattle.gr_schedules.specs.Schedules.{next_state}
use Rattle.gr_late.proofs.SideAttempts.{Idle, AllIdle, Told}
use Rattle.gr_late.proofs.SideEvents.{Stands, Waited, in_one, in_many}
use Rattle.gr_late.proofs.OffAttempts.{AllOf, joined, parked}

-- what a goroutine adds to the queues of a channel, for these communications
abbrev pub sends : List ℕ → List (Option ℕ × Communication) → ChName → List (Waiter Value)
sends name [] c = []
sends name ((i, Sending (Some d) (gives v)) ∷ ws) c = if same_channel c d then record { go = name; case = i; value = v } ∷ sends name ws c else sends name ws c
sends name ((i, _) ∷ ws) c = sends name ws c

abbrev pub receives : List ℕ → List (Option ℕ × Communication) → ChName → List (Waiter (Unit {0}))
receives name [] c = []
receives name ((i, Receiving (Some d) zero) ∷ ws) c = if same_channel c d then record { go = name; case = i; value = tt } ∷ receives name ws c else receives name ws c
receives name ((i, _) ∷ ws) c = receives name ws c

module _ (name : List ℕ) where
  pub sends_mine : (ws : List (Option ℕ × Communication)) (c : ChName) → AllOf name (sends name ws c)
  sends_mine [] c = tt
  sends_mine ((i, Sending (Some d) (gives v)) ∷ ws) c = by (same_channel c d) (sends_mine ws c)
    where
      by : (b : Bool) → AllOf name (sends name ws c) → AllOf name (if b then record { go = name; case = i; value = v } ∷ sends name ws c else sends name ws c)
      by true h = (refl, h)
      by false h = h
  sends_mine ((i, Sending (Some d) (faults f)) ∷ ws) c = sends_mine ws c
  sends_mine ((i, Sending (Some d) wrong) ∷ ws) c = sends_mine ws c
  sends_mine ((i, Sending None v) ∷ ws) c = sends_mine ws c
  sends_mine ((i, Receiving d zero) ∷ ws) c = sends_mine ws c
  sends_mine ((i, Otherwise) ∷ ws) c = sends_mine ws c

  pub receives_mine : (ws : List (Option ℕ × Communication)) (c : ChName) → AllOf name (receives name ws c)
  receives_mine [] c = tt
  receives_mine ((i, Receiving (Some d) zero) ∷ ws) c = by (same_channel c d) (receives_mine ws c)
    where
      by : (b : Bool) → AllOf name (receives name ws c) → AllOf name (if b then record { go = name; case = i; value = tt } ∷ receives name ws c else receives name ws c)
      by true h = (refl, h)
      by false h = h
  receives_mine ((i, Receiving None zero) ∷ ws) c = receives_mine ws c
  receives_mine ((i, Sending d v) ∷ ws) c = receives_mine ws c
  receives_mine ((i, Otherwise) ∷ ws) c = receives_mine ws c

  -- it waits on the channel
  abbrev pub WaitsOn : ChName → List (Option ℕ × Communication) → Type 0
  WaitsOn c ws = (w : Wait) × In w (all_waits ws) × (channel_of w ≡ c)

  later : (c : ChName) (x : Option ℕ × Communication) (ws : List (Option ℕ × Communication)) → WaitsOn c ws → WaitsOn c (x ∷ ws)
  later c (i, Sending (Some d) v) ws h = (h.0, inr h.1, h.2)
  later c (i, Sending None v) ws h = h
  later c (i, Receiving (Some d) zero) ws h = (h.0, inr h.1, h.2)
  later c (i, Receiving None zero) ws h = h
  later c (i, Otherwise) ws h = h

  -- where it waits on none of these, it adds nothing
  pub no_sends : (ws : List (Option ℕ × Communication)) (c : ChName) → (WaitsOn c ws → ⊥) → sends name ws c ≡ []
  no_sends [] c h = refl
  no_sends ((i, Sending (Some d) (gives v)) ∷ ws) c h = by (same_channel c d) refl (no_sends ws c (λ w. h (later c (i, Sending (Some d) (gives v)) ws w)))
    where
      by : (b : Bool) → same_channel c d ≡ b → sends name ws c ≡ [] → (if b then record { go = name; case = i; value = v } ∷ sends name ws c else sends name ws c) ≡ []
      by true e ih = absurd (h (ToSend d i, inl refl, sym (channel_is c d e)))
      by false e ih = ih
  no_sends ((i, Sending (Some d) (faults f)) ∷ ws) c h = no_sends ws c (λ w. h (later c (i, Sending (Some d) (faults f)) ws w))
  no_sends ((i, Sending (Some d) wrong) ∷ ws) c h = no_sends ws c (λ w. h (later c (i, Sending (Some d) wrong) ws w))
  no_sends ((i, Sending None v) ∷ ws) c h = no_sends ws c h
  no_sends ((i, Receiving d zero) ∷ ws) c h = no_sends ws c (λ w. h (later c (i, Receiving d zero) ws w))
  no_sends ((i, Otherwise) ∷ ws) c h = no_sends ws c h

  pub no_receives : (ws : List (Option ℕ × Communication)) (c : ChName) → (WaitsOn c ws → ⊥) → receives name ws c ≡ []
  no_receives [] c h = refl
  no_receives ((i, Receiving (Some d) zero) ∷ ws) c h = by (same_channel c d) refl (no_receives ws c (λ w. h (later c (i, Receiving (Some d) zero) ws w)))
    where
      by : (b : Bool) → same_channel c d ≡ b → receives name ws c ≡ [] → (if b then record { go = name; case = i; value = tt } ∷ receives name ws c else receives name ws c) ≡ []
      by true e ih = absurd (h (ToReceive d i, inl refl, sym (channel_is c d e)))
      by false e ih = ih
  no_receives ((i, Receiving None zero) ∷ ws) c h = no_receives ws c h
  no_receives ((i, Sending d v) ∷ ws) c h = no_receives ws c (λ w. h (later c (i, Sending d v) ws w))
  no_receives ((i, Otherwise) ∷ ws) c h = no_receives ws c h

  abbrev queued : ChName → List (Option ℕ × Communication) → GateContent → GateContent
  queued c ws gate = fold (λ gate w. enqueued name c gate w.0 w.1) gate ws

  gate_with : (gate : GateContent) (ss ts : List (Waiter Value)) (rs us : List (Waiter (Unit {0}))) → ss ≡ ts → rs ≡ us → record gate { senders = ss; receivers = rs } ≡ record gate { senders = ts; receivers = us }
  gate_with gate ss ts rs us p q = λ i. record gate { senders = p i; receivers = q i }

  -- the queues of a channel with these at the end
  pub queued_is : (c : ChName) (ws : List (Option ℕ × Communication)) (gate : GateContent) → queued c ws gate ≡ record gate { senders = gate.senders ++ sends name ws c; receivers = gate.receivers ++ receives name ws c }
  queued_is c [] gate = gate_with gate gate.senders (gate.senders ++ []) gate.receivers (gate.receivers ++ []) (sym (append-nil gate.senders)) (sym (append-nil gate.receivers))
  queued_is c ((i, Sending (Some d) (gives v)) ∷ ws) gate = by (same_channel c d) (queued_is c ws)
    where
      one : Waiter Value
      one = record { go = name; case = i; value = v }

      by : (b : Bool) → ((g : GateContent) → queued c ws g ≡ record g { senders = g.senders ++ sends name ws c; receivers = g.receivers ++ receives name ws c })
          → queued c ws (if b then record gate { senders = gate.senders ++ one ∷ [] } else gate)
          ≡ record gate { senders = gate.senders ++ (if b then one ∷ sends name ws c else sends name ws c); receivers = gate.receivers ++ receives name ws c }
      by true ih = ih (record gate { senders = gate.senders ++ one ∷ [] })
          ∙ gate_with gate ((gate.senders ++ one ∷ []) ++ sends name ws c) (gate.senders ++ (one ∷ sends name ws c)) _ _ (append_assoc gate.senders (one ∷ []) (sends name ws c)) refl
      by false ih = ih gate
  queued_is c ((i, Sending (Some d) (faults f)) ∷ ws) gate = queued_is c ws gate
  queued_is c ((i, Sending (Some d) wrong) ∷ ws) gate = queued_is c ws gate
  queued_is c ((i, Sending None v) ∷ ws) gate = queued_is c ws gate
  queued_is c ((i, Receiving (Some d) zero) ∷ ws) gate = by (same_channel c d) (queued_is c ws)
    where
      one : Waiter (Unit {0})
      one = record { go = name; case = i; value = tt }

      by : (b : Bool) → ((g : GateContent) → queued c ws g ≡ record g { senders = g.senders ++ sends name ws c; receivers = g.receivers ++ receives name ws c })
          → queued c ws (if b then record gate { receivers = gate.receivers ++ one ∷ [] } else gate)
          ≡ record gate { senders = gate.senders ++ sends name ws c; receivers = gate.receivers ++ (if b then one ∷ receives name ws c else receives name ws c) }
      by true ih = ih (record gate { receivers = gate.receivers ++ one ∷ [] })
          ∙ gate_with gate _ _ ((gate.receivers ++ one ∷ []) ++ receives name ws c) (gate.receivers ++ (one ∷ receives name ws c)) refl (append_assoc gate.receivers (one ∷ []) (receives name ws c))
      by false ih = ih gate
  queued_is c ((i, Receiving None zero) ∷ ws) gate = queued_is c ws gate
  queued_is c ((i, Otherwise) ∷ ws) gate = queued_is c ws gate

  module _ (ws : List (Option ℕ × Communication)) (left : Goroutine) (u : State) where
    abbrev gate_cell : ChName → Cell
    gate_cell c = gate_has c (option_map (queued c ws) (u.gates c))

    -- the gates with its waits
    gates_after : (cs : List ChName) (v : State) (d : ChName)
        → (fold put v (map gate_cell cs)).gates d ≡ (if list_any (same_channel d) cs then option_map (queued d ws) (u.gates d) else v.gates d)
    gates_after [] v d = refl
    gates_after (c ∷ cs) v d = gates_after cs (put v (gate_cell c)) d ∙ by (list_any (same_channel d) cs) (same_channel d c) refl
      where
        by : (a b : Bool) → same_channel d c ≡ b → (if a then option_map (queued d ws) (u.gates d) else (if b then option_map (queued c ws) (u.gates c) else v.gates d))
            ≡ (if b || a then option_map (queued d ws) (u.gates d) else v.gates d)
        by true true e = refl
        by true false e = refl
        by false true e = let q = channel_is d c e in ap (λ x. option_map (queued x ws) (u.gates x)) (sym q)
        by false false e = refl

    only_gates : (cs : List ChName) (v : State) → fold put v (map gate_cell cs) ≡ record v { gates = (fold put v (map gate_cell cs)).gates }
    only_gates [] v = refl
    only_gates (c ∷ cs) v = only_gates cs (put v (gate_cell c))

    any_in : (d : ChName) (cs : List ChName) → In d cs → list_any (same_channel d) cs ≡ true
    any_in d [] i = absurd i
    any_in d (c ∷ cs) (inl e) = ap (λ b. b || list_any (same_channel d) cs) (ap (same_channel d) (sym e) ∙ channel_self d)
    any_in d (c ∷ cs) (inr j) = by (same_channel d c) (any_in d cs j)
      where
        by : (b : Bool) → list_any (same_channel d) cs ≡ true → (b || list_any (same_channel d) cs) ≡ true
        by true h = refl
        by false h = h

    none_here : (d : ChName) → list_any (same_channel d) (channels_but [] (all_waits ws)) ≡ false → WaitsOn d ws → ⊥
    none_here d h w = elim (covered [] (all_waits ws) w.0 w.1) [
      | inl z ↦ z
      | inr i ↦ no_truth (sym h ∙ any_in d (channels_but [] (all_waits ws)) (subst (λ x. In x (channels_but [] (all_waits ws))) w.2 i))
    ]

    abbrev at_end : ChName → GateContent → GateContent
    at_end = joined name left (sends name ws) (receives name ws)

    on_gates : (d : ChName) → (if list_any (same_channel d) (channels_but [] (all_waits ws)) then option_map (queued d ws) (u.gates d) else u.gates d) ≡ option_map (at_end d) (u.gates d)
    on_gates d = by (list_any (same_channel d) (channels_but [] (all_waits ws))) refl (u.gates d)
      where
        by : (b : Bool) → list_any (same_channel d) (channels_but [] (all_waits ws)) ≡ b → (o : Option GateContent) → (if b then option_map (queued d ws) o else o) ≡ option_map (at_end d) o
        by true e None = refl
        by true e (Some gate) = ap Some (queued_is d ws gate)
        by false e None = refl
        by false e (Some gate) =
            let h = none_here d e in
            ap Some (gate_with gate gate.senders (gate.senders ++ sends name ws d) gate.receivers (gate.receivers ++ receives name ws d)
            (sym (ap (λ x. gate.senders ++ x) (no_sends ws d h) ∙ append-nil gate.senders)) (sym (ap (λ x. gate.receivers ++ x) (no_receives ws d h) ∙ append-nil gate.receivers)))

    pub parks_so : fold put u (go_has name (Some left) ∷ map gate_cell (channels_but [] (all_waits ws))) ≡ parked name left (sends name ws) (receives name ws) u
    parks_so =
        let v = put u (go_has name (Some left)) in
        only_gates (channels_but [] (all_waits ws)) v ∙ (λ i. record v { gates = λ d. (gates_after (channels_but [] (all_waits ws)) v d ∙ on_gates d) i })

  -- what an attempt comes to
  module _ (p : Program) (u : State) where
    record Comes (x : Attempt) (cells : List Cell) : Type 0 where
      planned : Plan Object Cell Report
      is : plan (rulebook p) u (rule_of x) ≡ Some planned
      writes : planned.cells ≡ cells

    comes_ask : {o : Object} {f : Cell → Attempt} {cells : List Cell} → Comes (f (look u o)) cells → Comes (ask o f) cells
    comes_ask {o} h = record { planned = record { kind = h.planned.kind; reads = o ∷ h.planned.reads; cells = h.planned.cells }; is = ap (with_read o) h.is; writes = h.writes }

    comes_gate : (c : ChName) (k : GateContent → Attempt) (gate : GateContent) {cells : List Cell} → u.gates c ≡ Some gate → Comes (k gate) cells → Comes (ask_gate c k) cells
    comes_gate c k gate {cells} at h = comes_ask (subst (λ o. Comes (if_there k o) cells) (sym at) h)

    comes_room : (c : ChName) (gate : GateContent) (k : Option ℕ → Attempt) {cells : List Cell} → has_room u c gate ≡ false → Comes (k None) cells → Comes (ask_room c gate k) cells
    comes_room c gate k {cells} full h = comes_ask (by (gate.capacity == 0) full)
      where
        by_slot : (o : Option (ℕ × Value)) → (not false && is_none o) ≡ false → Comes (k (room_for (u.tails c) o)) cells
        by_slot None e = absurd (no_truth (sym e))
        by_slot (Some x) e = h

        by : (b : Bool) → (not b && is_none (u.slots c (u.tails c % gate.capacity))) ≡ false → Comes (if b then k None else ask_slot c (u.tails c % gate.capacity) (λ item. k (room_for (u.tails c) item))) cells
        by true e = h
        by false e = comes_ask (by_slot (u.slots c (u.tails c % gate.capacity)) e)

    comes_item : (c : ChName) (gate : GateContent) (k : Option (ℕ × Value) → Attempt) {cells : List Cell} → has_item u c gate ≡ false → Comes (k None) cells → Comes (ask_item c gate k) cells
    comes_item c gate k {cells} empty h = comes_ask (by (gate.capacity == 0) empty)
      where
        by_slot : (o : Option (ℕ × Value)) → (not false && is_some o) ≡ false → Comes (k (option_map (λ x. (u.heads c, x.1)) o)) cells
        by_slot None e = h
        by_slot (Some x) e = absurd (no_truth (sym e))

        by : (b : Bool) → (not b && is_some (u.slots c (u.heads c % gate.capacity))) ≡ false → Comes (if b then k None else ask_slot c (u.heads c % gate.capacity) (λ item. k (option_map (λ x. (u.heads c, x.1)) item))) cells
        by true e = h
        by false e = comes_ask (by_slot (u.slots c (u.heads c % gate.capacity)) e)

    module _ (a : Actor) (named : a.name ≡ name) where
      comes_send : (clause : Option ℕ) (c : ChName) (v : Value) (m : Attempt) {cells : List Cell} → Idle u (Sending (Some c) (gives v)) → Comes m cells → Comes (communicate a clause (Sending (Some c) (gives v)) m) cells
      comes_send clause c v m {cells} i h = comes_gate c _ i.0 i.1 (
          subst (λ b. Comes (if b then fault a (Some (sends_on c)) SendOnClosed else send_to a clause c i.0 v m i.0.receivers) cells) (sym i.2)
          (subst (λ ws. Comes (send_to a clause c i.0 v m ws) cells) (sym i.3) (comes_room c i.0 (elim [
            | Some n ↦ proceeds a clause (sends_on c) kinds.Buffer None (tail_has c (n + 1) ∷ slot_has c (n % i.0.capacity) (Some (n, v)) ∷ [])
            | None ↦ m
          ]) i.4 h)))

      comes_receive : (clause : Option ℕ) (c : ChName) (zero : Value) (m : Attempt) {cells : List Cell} → Idle u (Receiving (Some c) zero) → Comes m cells → Comes (communicate a clause (Receiving (Some c) zero) m) cells
      comes_receive clause c zero m {cells} i h = comes_gate c _ i.0 i.1 (comes_item c i.0 (λ item. receive_from a clause c i.0 zero m item i.0.senders) i.4 (
          subst (λ ws. Comes (receive_from a clause c i.0 zero m None ws) cells) (sym i.3)
          (subst (λ b. Comes (if b then proceeds a clause (receives_from c) kinds.Closed (Some (zero, false)) [] else m) cells) (sym i.2) h)))

      -- its waits have gates
      pub there : (ws : List (Option ℕ × Communication)) → AllIdle u ws → (w : Wait) → In w (all_waits ws) → (gate : GateContent) × (u.gates (channel_of w) ≡ Some gate)
      there [] h w i = absurd i
      there ((k, Sending (Some c) v) ∷ ws) h w (inl e) = subst (λ x. (gate : GateContent) × (u.gates (channel_of x) ≡ Some gate)) (sym e) (h.0.0, h.0.1)
      there ((k, Sending (Some c) v) ∷ ws) h w (inr i) = there ws h.1 w i
      there ((k, Sending None v) ∷ ws) h w i = there ws h.1 w i
      there ((k, Receiving (Some c) zero) ∷ ws) h w (inl e) = subst (λ x. (gate : GateContent) × (u.gates (channel_of x) ≡ Some gate)) (sym e) (h.0.0, h.0.1)
      there ((k, Receiving (Some c) zero) ∷ ws) h w (inr i) = there ws h.1 w i
      there ((k, Receiving None zero) ∷ ws) h w i = there ws h.1 w i
      there ((k, Otherwise) ∷ ws) h w i = there ws h.1 w i

      module _ (ws : List (Option ℕ × Communication)) where
        abbrev left : Goroutine
        left = record (a.before) { status = waiting (all_waits ws); steps = a.before.steps + 1 }

        abbrev cell_of : ChName → Cell
        cell_of = gate_cell ws left u

        comes_queued : (cs : List ChName) (k : List Cell → Attempt) {cells : List Cell} → ((c : ChName) → In c cs → (gate : GateContent) × (u.gates c ≡ Some gate)) → Comes (k (map cell_of cs)) cells
            → Comes (ask_enqueued name ws cs k) cells
        comes_queued [] k all h = h
        comes_queued (c ∷ cs) k {cells} all h =
            let g = all c (inl refl) in
            comes_gate c _ g.0 g.1 (comes_queued cs (λ xs. k (gate_has c (Some (queued c ws g.0)) ∷ xs)) (λ d i. all d (inr i))
            (subst (λ o. Comes (k (gate_has c (option_map (queued c ws) o) ∷ map cell_of cs)) cells) g.1 h))

        comes_wait : (operation : Option Operation) (kind : Kind) → AllIdle u ws → Comes (wait a operation kind ws) (go_has name (Some left) ∷ map cell_of (channels_but [] (all_waits ws)))
        comes_wait operation kind idle =
            subst (λ n. Comes (ask_enqueued n ws (channels_but [] (all_waits ws)) (does a None operation kind left)) (go_has name (Some left) ∷ map cell_of (channels_but [] (all_waits ws)))) (sym named)
            (comes_queued (channels_but [] (all_waits ws)) (does a None operation kind left)
            (λ c i. let w = some_wait [] (all_waits ws) c i in subst (λ d. (gate : GateContent) × (u.gates d ≡ Some gate)) w.2 (there ws idle w.0 w.1))
            (record { planned = record { kind = _; reads = []; cells = go_has a.name (Some left) ∷ map cell_of (channels_but [] (all_waits ws)) }; is = refl; writes = ap (λ n. go_has n (Some left) ∷ map cell_of (channels_but [] (all_waits ws))) named }))

      comes_none : (i : ℕ) (cs : List Communication) (m : Attempt) {cells : List Cell} → AllIdle u (numbered i cs) → Comes m cells → Comes (if_none_ready cs m) cells
      comes_none i [] m h k = k
      comes_none i (Sending (Some c) v ∷ cs) m {cells} h k =
          let next = comes_none (i + 1) cs m h.1 k in
          comes_gate c _ h.0.0 h.0.1 (comes_room c h.0.0 (λ x. if h.0.0.closed || has_any h.0.0.receivers || is_some x then refuse no_such_choice else if_none_ready cs m) h.0.4
          (subst (λ b. Comes (if b || has_any h.0.0.receivers || false then refuse no_such_choice else if_none_ready cs m) cells) (sym h.0.2)
          (subst (λ ws. Comes (if false || has_any ws || false then refuse no_such_choice else if_none_ready cs m) cells) (sym h.0.3) next)))
      comes_none i (Sending None v ∷ cs) m h k = comes_none (i + 1) cs m h.1 k
      comes_none i (Receiving (Some c) zero ∷ cs) m {cells} h k =
          let next = comes_none (i + 1) cs m h.1 k in
          comes_gate c _ h.0.0 h.0.1 (comes_item c h.0.0 (λ x. if h.0.0.closed || has_any h.0.0.senders || is_some x then refuse no_such_choice else if_none_ready cs m) h.0.4
          (subst (λ b. Comes (if b || has_any h.0.0.senders || false then refuse no_such_choice else if_none_ready cs m) cells) (sym h.0.2)
          (subst (λ ws. Comes (if false || has_any ws || false then refuse no_such_choice else if_none_ready cs m) cells) (sym h.0.3) next)))
      comes_none i (Receiving None zero ∷ cs) m h k = comes_none (i + 1) cs m h.1 k
      comes_none i (Otherwise ∷ cs) m h k = comes_none (i + 1) cs m h.1 k

-- the communications at which a goroutine waits
abbrev pub comms_of : {s : State} {e : Event} {f : Frame} → Waited s e f → List (Option ℕ × Communication)
comms_of (in_one x c d t i) = (None, x) ∷ []
comms_of (in_many cs vs c d none v i) = numbered 1 cs

abbrev pub left_by : Goroutine → List (Option ℕ × Communication) → Goroutine
left_by g ws = record g { status = waiting (all_waits ws); steps = g.steps + 1 }

module _ (p : Program) (u : State) (w : Event) (st : Stands u w) where
  abbrev actor : Actor
  actor = record { program = p; name = w.go; before = st.goroutine; frame = st.frame; below = st.below }

  abbrev cells_by : List (Option ℕ × Communication) → List Cell
  cells_by ws = go_has w.go (Some (left_by st.goroutine ws)) ∷ map (gate_cell w.go ws (left_by st.goroutine ws) u) (channels_but [] (all_waits ws))

  comes_act : (wt : Waited u w st.frame) → Comes w.go p u (act_by actor w.choice (deed st.frame)) (cells_by (comms_of wt))
  comes_act (in_one x c d t i) =
      subst (λ z. Comes w.go p u (act_by actor z (deed st.frame)) (cells_by ((None, x) ∷ []))) (sym c)
      (subst (λ z. Comes w.go p u (act_by actor choices.Plain z) (cells_by ((None, x) ∷ []))) (sym d) (by x t i))
    where
      by : (x : Communication) → Told x → Idle u x → Comes w.go p u (proceed_or_wait actor x) (cells_by ((None, x) ∷ []))
      by (Sending (Some c) v) t i =
          subst (λ y. Comes w.go p u (proceed_or_wait actor (Sending (Some c) y)) (cells_by ((None, Sending (Some c) y) ∷ []))) (sym t.1)
          (comes_send w.go p u actor refl None c t.0 _ i (comes_wait w.go p u actor refl ((None, Sending (Some c) (gives t.0)) ∷ []) (Some (sends_on c)) kinds.SendWait (i, tt)))
      by (Sending None v) t i = comes_wait w.go p u actor refl ((None, Sending None v) ∷ []) None kinds.SendWait (tt, tt)
      by (Receiving (Some c) zero) t i = comes_receive w.go p u actor refl None c zero _ i (comes_wait w.go p u actor refl ((None, Receiving (Some c) zero) ∷ []) (Some (receives_from c)) kinds.RecvWait (i, tt))
      by (Receiving None zero) t i = comes_wait w.go p u actor refl ((None, Receiving None zero) ∷ []) None kinds.RecvWait (tt, tt)
      by Otherwise t i = absurd t
  comes_act (in_many cs vs c d none v i) =
      subst (λ z. Comes w.go p u (act_by actor z (deed st.frame)) (cells_by (numbered 1 cs))) (sym c)
      (subst (λ z. Comes w.go p u (act_by actor choices.Park z) (cells_by (numbered 1 cs))) (sym d)
      (subst (λ o. Comes w.go p u (park actor cs o) (cells_by (numbered 1 cs))) (sym none)
      (comes_none w.go p u actor refl 1 cs _ i
      (subst (λ o. Comes w.go p u (given actor o (λ vs. wait actor None kinds.SelectWait (numbered 1 cs))) (cells_by (numbered 1 cs))) (sym v)
      (comes_wait w.go p u actor refl (numbered 1 cs) None kinds.SelectWait i)))))

  comes_attempt : (wt : Waited u w st.frame) → Comes w.go p u (attempt p w) (cells_by (comms_of wt))
  comes_attempt wt =
      let cells = cells_by (comms_of wt) in
      comes_ask w.go p u (subst (λ z. Comes w.go p u (if_live (ask_go w.go (if_known p w)) z) cells) (sym st.runs)
      (comes_ask w.go p u (subst (λ z. Comes w.go p u (if_known p w z) cells) (sym st.here)
      (subst (λ z. Comes w.go p u (if_ready p w st.goroutine z) cells) (sym st.up)
      (subst (λ z. Comes w.go p u (act_in p w st.goroutine z) cells) (sym st.frames) (comes_act wt))))))

  -- the step waits, and the goroutine is at the end of the queues
  pub again : (wt : Waited u w st.frame) → next_state p u w ≡ Some (parked w.go (left_by st.goroutine (comms_of wt)) (sends w.go (comms_of wt)) (receives w.go (comms_of wt)) u)
  again wt =
      let h = comes_attempt wt in
      ap (λ x. option_map (λ r. r.0) (carried (rulebook p) u x)) h.is
      ∙ ap (λ cs. Some (fold put u cs)) h.writes
      ∙ ap Some (parks_so w.go (comms_of wt) (left_by st.goroutine (comms_of wt)) u)

  pub idle_of : (f : Frame) → (wt : Waited u w f) → AllIdle u (comms_of wt)
  idle_of f (in_one x c d t i) = (i, tt)
  idle_of f (in_many cs vs c d none v i) = i
