-- Gates that change, at once and one after the other.
use Rattle.std.proofs.Common.{◌≡◌, fold, ℕ, Bool, true, false, not, ◌||◌, if◌then◌else◌, List, [], ◌∷◌, ◌++◌, map, Option, Some, None, option_map, refl, sym, ◌∙◌, ap, inl, inr}
use Rattle.std.specs.List.{list_any}
use Rattle.std.proofs.lemmas.Bool.{cases_Bool, and_parts, and_from, not-true, not_from_false, or_right}
use Rattle.gr_base.specs.declared.names.ChName.{ChName}
use Rattle.gr_channels.specs.Channels.{Content}
use Rattle.gr_channels.specs.Objects.{GateContent, gate_of, slot_from}
use Rattle.gr_channels.specs.Queues.{others}
use Rattle.gr_rules.specs.Outcomes.{gives, faults, wrong}
use Rattle.gr_rules.specs.Operators.{same_channel}
use Rattle.gr_rules.specs.Frames.{Frame}
use Rattle.gr_rules.specs.Deeds.{Communication, Sending, Receiving, Otherwise}
use Rattle.gr_rules.specs.Goroutines.{Wait, channel_of}
use Rattle.gr_rules.specs.States.{State, put, gate_has}
use Rattle.gr_rules.specs.Actors.{without, channels_but}
use Rattle.gr_rules.specs.Communications.{enqueued}
use Rattle.gr_code.specs.CodeFrames.{CodeFrame}
use Rattle.gr_refine.specs.Contents.{Contents, state_of, with_channel}
use Rattle.gr_refine.specs.Gates.{KeepsCapacity, with_gate, gate_cells, gate_changed, with_gates, withdrawing, enqueuing, each_once, GatesAreWritten, WithdrawingIsWritten, EnqueuingIsWritten, GatesGoInTurn, WaitsNameChannelsOnce}
use Rattle.gr_refine.proofs.NameLemmas.{channel_is, channel_self}
use Rattle.gr_refine.proofs.ChangeLemmas.{states, gate_at, tail_at, head_at, slots_at}

-- what stands under a name in front of a list of names, by whether it is the first, and whether it is among the others
pub chosen : {X : Type 0} (a b : Bool) (x y z : X) → (a ≡ true → b ≡ false → x ≡ y) → (if b then x else (if a then y else z)) ≡ (if a || b then x else z)
chosen true true x y z e = refl
chosen true false x y z e = sym (e refl refl)
chosen false true x y z e = refl
chosen false false x y z e = refl

gates_put : (h : ChName → Option GateContent) (t : State) (cs : List ChName)
    → fold put t (map (λ c. gate_has c (h c)) cs) ≡ record t { gates = λ d. if list_any (same_channel d) cs then h d else t.gates d }
gates_put h t [] = refl
gates_put h t (c ∷ cs) =
    gates_put h (put t (gate_has c (h c))) cs
    ∙ states _ _ refl (λ n. refl) (λ d. chosen (same_channel d c) (list_any (same_channel d) cs) (h d) (h c) (t.gates d)
    (λ e f. ap h (channel_is d c e))) (λ d. refl) (λ d. refl) (λ d. refl)

module _ (frame : CodeFrame → Frame) (f : ChName → GateContent → GateContent) (keeps : KeepsCapacity f) where
  gate_after : (c : ChName) (b : Bool) (o : Option Content)
      → gate_at (if b then option_map (λ x. with_gate (f c (gate_of x)) x) o else o) ≡ (if b then option_map (λ x. f c (gate_of x)) o else gate_at o)
  gate_after c true None = refl
  gate_after c true (Some x) = refl
  gate_after c false o = refl

  tail_after : (c : ChName) (b : Bool) (o : Option Content) → tail_at (if b then option_map (λ x. with_gate (f c (gate_of x)) x) o else o) ≡ tail_at o
  tail_after c true None = refl
  tail_after c true (Some x) = refl
  tail_after c false o = refl

  head_after : (c : ChName) (b : Bool) (o : Option Content) → head_at (if b then option_map (λ x. with_gate (f c (gate_of x)) x) o else o) ≡ head_at o
  head_after c true None = refl
  head_after c true (Some x) = refl
  head_after c false o = refl

  slots_after : (c : ChName) (b : Bool) (o : Option Content) → slots_at (if b then option_map (λ x. with_gate (f c (gate_of x)) x) o else o) ≡ slots_at o
  slots_after c true None = refl
  slots_after c true (Some x) = λ k i. slot_from (keeps c (gate_of x) k) i x.head x.items
  slots_after c false o = refl

  gates_written : (s : Contents) (cs : List ChName) → state_of frame (with_gates f s cs) ≡ fold put (state_of frame s) (gate_cells f s cs)
  gates_written s cs =
      states _ _ refl (λ n. refl)
      (λ d. gate_after d (list_any (same_channel d) cs) (s.channels d))
      (λ d. tail_after d (list_any (same_channel d) cs) (s.channels d))
      (λ d. head_after d (list_any (same_channel d) cs) (s.channels d))
      (λ d. slots_after d (list_any (same_channel d) cs) (s.channels d))
      ∙ sym (gates_put (λ c. option_map (λ x. f c (gate_of x)) (s.channels c)) (state_of frame s) cs)

pub gates_are_written : GatesAreWritten
gates_are_written frame f s cs keeps = gates_written frame f keeps s cs

capacity_without : (names : List (List ℕ)) (gate : GateContent) → (without names gate).capacity ≡ gate.capacity
capacity_without [] gate = refl
capacity_without (n ∷ names) gate = capacity_without names (record gate { senders = others n gate.senders; receivers = others n gate.receivers })

pub withdrawing_is_written : WithdrawingIsWritten
withdrawing_is_written frame names s cs = gates_written frame (withdrawing names) (λ c gate. capacity_without names gate) s cs

capacity_if : (b : Bool) (x y : GateContent) → x.capacity ≡ y.capacity → (if b then x else y).capacity ≡ y.capacity
capacity_if true x y e = e
capacity_if false x y e = refl

capacity_enqueued : (name : List ℕ) (c : ChName) (gate : GateContent) (clause : Option ℕ) (w : Communication)
    → (enqueued name c gate clause w).capacity ≡ gate.capacity
capacity_enqueued name c gate clause (Sending (Some d) (gives v)) =
    capacity_if (same_channel c d) (record gate { senders = gate.senders ++ record { go = name; case = clause; value = v } ∷ [] }) gate refl
capacity_enqueued name c gate clause (Sending (Some d) (faults e)) = refl
capacity_enqueued name c gate clause (Sending (Some d) wrong) = refl
capacity_enqueued name c gate clause (Sending None v) = refl
capacity_enqueued name c gate clause (Receiving (Some d) initial) =
    capacity_if (same_channel c d) (record gate { receivers = gate.receivers ++ record { go = name; case = clause; value = tt } ∷ [] }) gate refl
capacity_enqueued name c gate clause (Receiving None initial) = refl
capacity_enqueued name c gate clause Otherwise = refl

capacity_enqueuing : (name : List ℕ) (ws : List (Option ℕ × Communication)) (c : ChName) (gate : GateContent)
    → (enqueuing name ws c gate).capacity ≡ gate.capacity
capacity_enqueuing name [] c gate = refl
capacity_enqueuing name (w ∷ ws) c gate = capacity_enqueuing name ws c (enqueued name c gate w.0 w.1) ∙ capacity_enqueued name c gate w.0 w.1

pub enqueuing_is_written : EnqueuingIsWritten
enqueuing_is_written frame name ws s cs = gates_written frame (enqueuing name ws) (capacity_enqueuing name ws) s cs

-- a change of a gate further back in the list
later_gate : (f : ChName → GateContent → GateContent) (s : Contents) (c d : ChName) (a b : Bool) → same_channel d c ≡ a → (a ≡ true → b ≡ false)
    → (if b then option_map (λ x. with_gate (f d (gate_of x)) x) (if a then gate_changed f s c else s.channels d) else
    (if a then gate_changed f s c else s.channels d))
    ≡ (if a || b then gate_changed f s d else s.channels d)
later_gate f s c d true true e apart = absurd (let no : true ≡ false = apart refl in cc)
later_gate f s c d true false e apart = ap (gate_changed f s) (sym (channel_is d c e))
later_gate f s c d false true e apart = refl
later_gate f s c d false false e apart = refl

not_among : (c : ChName) (cs : List ChName) → not (list_any (same_channel c) cs) ≡ true → (d : ChName) → same_channel d c ≡ true
    → list_any (same_channel d) cs ≡ false
not_among c cs none d e = ap (λ (k : ChName). list_any (same_channel k) cs) (channel_is d c e) ∙ not-true (list_any (same_channel c) cs) none

pub gates_go_in_turn : GatesGoInTurn
gates_go_in_turn f s [] once = refl
gates_go_in_turn f s (c ∷ cs) once =
    let parts = and_parts (not (list_any (same_channel c) cs)) (each_once cs) once in
    let apart = not_among c cs (parts.0) in
    gates_go_in_turn f (with_channel s c (gate_changed f s c)) cs (parts.1)
    ∙ (λ k. record s { channels = λ d. later_gate f s c d (same_channel d c) (list_any (same_channel d) cs) refl (apart d) k })

-- no channel that was seen is named again
pub unseen : (c : ChName) (seen : List ChName) (ws : List Wait) → list_any (same_channel c) seen ≡ true
    → list_any (same_channel c) (channels_but seen ws) ≡ false
unseen c seen [] e = refl
unseen c seen (w ∷ ws) e = elim (cases_Bool (list_any (same_channel (channel_of w)) seen)) [
  | inl t ↦ rw t (unseen c seen ws e)
  | inr n ↦
      let other : same_channel c (channel_of w) ≡ false = elim (cases_Bool (same_channel c (channel_of w))) [
        | inl t ↦ let same = channel_is c (channel_of w) t in absurd
            (let no : true ≡ false = sym e ∙ ap (λ (k : ChName). list_any (same_channel k) seen) same ∙ n in cc)
        | inr k ↦ k
      ] in
      rw (n, other) (unseen c (channel_of w ∷ seen) ws (or_right _ _ e))
]

pub waits_name_channels_once : WaitsNameChannelsOnce
waits_name_channels_once seen [] = refl
waits_name_channels_once seen (w ∷ ws) = elim (cases_Bool (list_any (same_channel (channel_of w)) seen)) [
  | inl t ↦ rw t (waits_name_channels_once seen ws)
  | inr n ↦
      let self : list_any (same_channel (channel_of w)) (channel_of w ∷ seen) ≡ true = rw (channel_self (channel_of w)) refl in
      rw n (and_from _ _ (not_from_false _ (unseen (channel_of w) (channel_of w ∷ seen) ws self)) (waits_name_channels_once (channel_of w ∷ seen) ws))
]
