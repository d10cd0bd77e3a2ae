-- The step of a goroutine that comes to wait.
use Rattle.std.proofs.Common.{◌≡◌, ℕ, ◌+◌, Bool, true, false, if◌then◌else◌, List, [], ◌∷◌, ◌++◌, Option, Some, None, option_map, refl, sym, ◌∙◌, ap, subst, inl, inr}
use Rattle.std.specs.List.{list_any}
use Rattle.std.proofs.lemmas.Bool.{cases_Bool, or_parts}
use Rattle.gr_base.specs.declared.names.ChName.{ChName}
use Rattle.gr_channels.specs.Channels.{Content}
use Rattle.gr_channels.specs.Objects.{GateContent, gate_of}
use Rattle.gr_rules.specs.Outcomes.{gives, faults, wrong}
use Rattle.gr_rules.specs.Operators.{same_channel}
use Rattle.gr_rules.specs.Deeds.{Communication, Sending, Receiving, Otherwise}
use Rattle.gr_rules.specs.Goroutines.{Wait, channel_of, waiting, Goroutine}
use Rattle.gr_rules.specs.States.{Cell}
use Rattle.gr_rules.specs.Actors.{does, channels_but}
use Rattle.gr_rules.specs.Communications.{waits_for, all_waits, enqueued}
use Rattle.gr_refine.specs.Contents.{Contents, with_goroutine}
use Rattle.gr_refine.specs.Gates.{with_gate, gate_cells, with_gates, enqueuing}
use Rattle.gr_refine.specs.Performing.{StepsTo, reported}
use Rattle.gr_refine.specs.Waiting.{parked_for, parked_in, ParkingIsEnqueuing, WaitingParks, WaitingIsMade}
use Rattle.gr_refine.proofs.NameLemmas.{channel_is}
use Rattle.gr_refine.proofs.GateLemmas.{enqueuing_is_written}
use Rattle.gr_refine.proofs.PartnerLemmas.{enqueued_is_looked_up}
use Rattle.gr_refine.proofs.PresenceLemmas.{enqueued_is_there}
use Rattle.gr_refine.proofs.PerformingLemmas.{same_end_same_step, doing_is_a_step}
use Rattle.gr_refine.proofs.MeetingLemmas.{named}

-- every gate with the goroutine in its queues for these
abbrev all_enqueued : List ℕ → Contents → List (Option ℕ × Communication) → Contents
all_enqueued name s ws = record s { channels = λ d. option_map (λ x. with_gate (enqueuing name ws d (gate_of x)) x) (s.channels d) }

gate_kept : (o : Option Content) → o ≡ option_map (λ x. with_gate (gate_of x) x) o
gate_kept None = refl
gate_kept (Some x) = refl

gates_twice : (f h : GateContent → GateContent) (o : Option Content)
    → option_map (λ x. with_gate (f (gate_of x)) x) (option_map (λ x. with_gate (h (gate_of x)) x) o) ≡ option_map (λ x. with_gate (f (h (gate_of x))) x) o
gates_twice f h None = refl
gates_twice f h (Some x) = refl

one_gate : (h : GateContent → GateContent) (b : Bool) (o : Option Content)
    → (if b then option_map (λ x. with_gate (h (gate_of x)) x) o else o) ≡ option_map (λ x. with_gate (if b then h (gate_of x) else gate_of x) x) o
one_gate h true o = refl
one_gate h false o = gate_kept o

-- what stands under a name whose channel changes
here : (d c : ChName) (f : Content → Content) (g : ChName → Option Content)
    → (if same_channel d c then option_map f (g c) else g d) ≡ (if same_channel d c then option_map f (g d) else g d)
here d c f g = elim (cases_Bool (same_channel d c)) [
  | inl t ↦ ap (λ b. if b then option_map f (g c) else g d) t ∙ ap (λ k. option_map f (g k)) (sym (channel_is d c t))
      ∙ sym (ap (λ b. if b then option_map f (g d) else g d) t)
  | inr n ↦ ap (λ b. if b then option_map f (g c) else g d) n ∙ sym (ap (λ b. if b then option_map f (g d) else g d) n)
]

-- at each channel
parked_at : (name : List ℕ) (s : Contents) (clause : Option ℕ) (w : Communication) (d : ChName)
    → (parked_for name s clause w).channels d ≡ option_map (λ x. with_gate (enqueued name d (gate_of x) clause w) x) (s.channels d)
parked_at name s clause (Sending (Some c) (gives v)) d =
    let f = λ (gate : GateContent). record gate { senders = gate.senders ++ record { go = name; case = clause; value = v } ∷ [] } in
    here d c (λ x. with_gate (f (gate_of x)) x) s.channels ∙ one_gate f (same_channel d c) (s.channels d)
parked_at name s clause (Sending (Some c) (faults e)) d = gate_kept (s.channels d)
parked_at name s clause (Sending (Some c) wrong) d = gate_kept (s.channels d)
parked_at name s clause (Sending None v) d = gate_kept (s.channels d)
parked_at name s clause (Receiving (Some c) initial) d =
    let f = λ (gate : GateContent). record gate { receivers = gate.receivers ++ record { go = name; case = clause; value = tt } ∷ [] } in
    here d c (λ x. with_gate (f (gate_of x)) x) s.channels ∙ one_gate f (same_channel d c) (s.channels d)
parked_at name s clause (Receiving None initial) d = gate_kept (s.channels d)
parked_at name s clause Otherwise d = gate_kept (s.channels d)

same_goroutines : (name : List ℕ) (s : Contents) (clause : Option ℕ) (w : Communication) → (parked_for name s clause w).goroutines ≡ s.goroutines
same_goroutines name s clause (Sending (Some c) (gives v)) = refl
same_goroutines name s clause (Sending (Some c) (faults e)) = refl
same_goroutines name s clause (Sending (Some c) wrong) = refl
same_goroutines name s clause (Sending None v) = refl
same_goroutines name s clause (Receiving (Some c) initial) = refl
same_goroutines name s clause (Receiving None initial) = refl
same_goroutines name s clause Otherwise = refl

same_run : (name : List ℕ) (s : Contents) (clause : Option ℕ) (w : Communication) → (parked_for name s clause w).run ≡ s.run
same_run name s clause (Sending (Some c) (gives v)) = refl
same_run name s clause (Sending (Some c) (faults e)) = refl
same_run name s clause (Sending (Some c) wrong) = refl
same_run name s clause (Sending None v) = refl
same_run name s clause (Receiving (Some c) initial) = refl
same_run name s clause (Receiving None initial) = refl
same_run name s clause Otherwise = refl

parked_everywhere : (name : List ℕ) (s : Contents) (ws : List (Option ℕ × Communication)) → parked_in name s ws ≡ all_enqueued name s ws
parked_everywhere name s [] = λ i. record s { channels = λ d. gate_kept (s.channels d) i }
parked_everywhere name s (w ∷ ws) =
    let r = same_run name s w.0 w.1 in
    let g = same_goroutines name s w.0 w.1 in
    let c = λ (d : ChName). ap (option_map (λ x. with_gate (enqueuing name ws d (gate_of x)) x)) (parked_at name s w.0 w.1 d)
    ∙ gates_twice (enqueuing name ws d) (λ gate. enqueued name d gate w.0 w.1) (s.channels d) in
    parked_everywhere name (parked_for name s w.0 w.1) ws ∙ (λ i. record { run = r i; goroutines = g i; channels = λ d. c d i })

-- a gate in whose queues it does not come to wait
untouched_by : (name : List ℕ) (d : ChName) (gate : GateContent) (clause : Option ℕ) (w : Communication) (rest : List Wait)
    → list_any (λ w. same_channel d (channel_of w)) (waits_for clause w ++ rest) ≡ false
    → (enqueued name d gate clause w ≡ gate) × (list_any (λ w. same_channel d (channel_of w)) rest ≡ false)
untouched_by name d gate clause (Sending (Some c) (gives v)) rest none =
    let parts = or_parts (same_channel d c) (list_any (λ w. same_channel d (channel_of w)) rest) none in
    (ap (λ b. if b then record gate { senders = gate.senders ++ record { go = name; case = clause; value = v } ∷ [] } else gate) (parts.0), parts.1)
untouched_by name d gate clause (Sending (Some c) (faults e)) rest none = (
  refl,
  (or_parts (same_channel d c) (list_any (λ w. same_channel d (channel_of w)) rest) none).1,
)
untouched_by name d gate clause (Sending (Some c) wrong) rest none = (
  refl,
  (or_parts (same_channel d c) (list_any (λ w. same_channel d (channel_of w)) rest) none).1,
)
untouched_by name d gate clause (Sending None v) rest none = (refl, none)
untouched_by name d gate clause (Receiving (Some c) initial) rest none =
    let parts = or_parts (same_channel d c) (list_any (λ w. same_channel d (channel_of w)) rest) none in
    (ap (λ b. if b then record gate { receivers = gate.receivers ++ record { go = name; case = clause; value = tt } ∷ [] } else gate) (parts.0), parts.1)
untouched_by name d gate clause (Receiving None initial) rest none = (refl, none)
untouched_by name d gate clause Otherwise rest none = (refl, none)

untouched : (name : List ℕ) (d : ChName) (gate : GateContent) (ws : List (Option ℕ × Communication))
    → list_any (λ w. same_channel d (channel_of w)) (all_waits ws) ≡ false → enqueuing name ws d gate ≡ gate
untouched name d gate [] none = refl
untouched name d gate (w ∷ ws) none =
    let first = untouched_by name d gate w.0 w.1 (all_waits ws) none in
    ap (enqueuing name ws d) (first.0) ∙ untouched name d gate ws (first.1)

as_it_was : (h : GateContent → GateContent) (o : Option Content) → ((gate : GateContent) → h gate ≡ gate)
    → option_map (λ x. with_gate (h (gate_of x)) x) o ≡ o
as_it_was h None same = refl
as_it_was h (Some x) same = ap (λ (gate : GateContent). Some (with_gate gate x)) (same (gate_of x))

pub parking_is_enqueuing : ParkingIsEnqueuing
parking_is_enqueuing name s ws =
    let cs = channels_but [] (all_waits ws) in
    let h = λ (d : ChName) (x : Content). with_gate (enqueuing name ws d (gate_of x)) x in
    let at : (d : ChName) → option_map (h d) (s.channels d) ≡ (if list_any (same_channel d) cs then option_map (h d) (s.channels d) else s.channels d) = λ d.
    elim (cases_Bool (list_any (same_channel d) cs)) [
      | inl t ↦ sym (ap (λ b. if b then option_map (h d) (s.channels d) else s.channels d) t)
      | inr n ↦
          as_it_was (enqueuing name ws d) (s.channels d) (λ gate. untouched name d gate ws (sym (named d [] (all_waits ws)) ∙ n))
          ∙ sym (ap (λ b. if b then option_map (h d) (s.channels d) else s.channels d) n)
    ] in
    parked_everywhere name s ws ∙ (λ i. record s { channels = λ d. at d i })

pub waiting_parks : WaitingParks
waiting_parks frame s a operation kind ws g made is =
    let before = with_goroutine s a.name (Some g) in
    let cs = channels_but [] (all_waits ws) in
    let parked : Goroutine = record (a.before) { status = waiting (all_waits ws); steps = a.before.steps + 1 } in
    let cells : List Cell = gate_cells (enqueuing a.name ws) s cs in
    let step : StepsTo frame (does a None operation kind parked cells) s (with_gates (enqueuing a.name ws) before cs) (reported a None operation kind) =
    doing_is_a_step frame s (with_gates (enqueuing a.name ws) before cs) a None operation kind parked g cells is
    (enqueuing_is_written frame a.name ws before cs) in
    same_end_same_step frame _ _ s _ _ (enqueued_is_looked_up frame s a.name ws cs (does a None operation kind parked) made)
    (subst (λ t. StepsTo frame (does a None operation kind parked cells) s t (reported a None operation kind))
    (sym (parking_is_enqueuing a.name before ws)) step)

pub waiting_is_made : WaitingIsMade
waiting_is_made frame s a operation kind ws sound = enqueued_is_there frame s a.name ws (channels_but [] (all_waits ws)) _ sound
