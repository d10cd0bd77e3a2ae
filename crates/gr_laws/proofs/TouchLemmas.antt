-- What the rules ask and write is what the table of touches says.
use Rattle.std.proofs.Common.{◌≡◌, ℕ, zero, suc, ◌%◌, ◌==◌, Bool, true, false, if◌then◌else◌, List, [], ◌∷◌, ◌++◌, map, Option, Some, None, option_map, ◌⊎◌, ◌↔◌, refl, sym, ◌∙◌, ap, subst, arith, inl, inr}
use Rattle.std.proofs.Math.Dec.{eqb-suc-zero}
use Rattle.gr_base.specs.declared.names.ChName.{ChName}
use Rattle.gr_base.specs.declared.values.Value.{Value}
use Rattle.gr_base.specs.declared.events.Event.{Event}
use Rattle.gr_base.specs.declared.objects.Object.{Object}
use Rattle.gr_base.specs.declared.objects.Object.TheVariants.{Go, Gate, Tail, Head, Slot}
use Rattle.gr_causal.specs.Sequences.{In}
use Rattle.gr_causal.proofs.ListLemmas.{In-append_cases, In-append_left, In-append_right}
use Rattle.gr_channels.specs.Objects.{GateContent}
use Rattle.gr_rules.specs.Goroutines.{Wait, Status, ready, waiting, finished, Goroutine}
use Rattle.gr_rules.specs.States.{Cell, gate_has, State, object_of, look}
use Rattle.gr_rules.specs.Attempts.{Refusal, Report, Attempt, refuse, perform, ask, if_there, ask_gate, room_for, ask_room, ask_item}
use Rattle.gr_rules.specs.Actors.{without, if_waiting, ask_waiter, ask_withdrawn}
use Rattle.gr_rules.specs.Touches.{Touches, touches, capacity_at, slot_numbered, slot_at_tail, slot_at_head, waits_at, table}

-- these objects, or objects that were read before
abbrev pub seen : (Object → Type 0) → List Object → Object → Type 0
seen P xs o = P o ⊎ In o xs

module _ (s : State) (e : Event) where
  -- the attempt, where it is a step, writes what the table says, and with what was read before touches what the table says
  abbrev pub Fits : (Object → Type 0) → Attempt → Type 0
  Fits P (refuse r) = Unit {0}
  Fits P (perform r cells) =
      let t = table s e r in
      (map object_of cells ≡ t.writes) × ((o : Object) → (P o ⊎ In o t.writes) ↔ In o (t.reads ++ t.writes))
  Fits P (ask x f) = Fits (seen P (x ∷ [])) (f (look s x))

  pub record F (P : Object → Type 0) (x : Attempt) : Type 0 where
    pub fits : Fits P x

  pub refused : {P : Object → Type 0} {r : Refusal} → F P (refuse r)
  refused = record { fits = tt }

  pub asked : {P : Object → Type 0} {x : Object} {f : Cell → Attempt} → F (seen P (x ∷ [])) (f (look s x)) → F P (ask x f)
  asked h = record { fits = h.fits }

  pub leaf : {P : Object → Type 0} {r : Report} {cells : List Cell} (reads writes : List Object)
      → table s e r ≡ touches reads writes → map object_of cells ≡ writes
      → ((o : Object) → (P o ⊎ In o writes) ↔ (In o reads ⊎ In o writes)) → F P (perform r cells)
  leaf {P} {r} {cells} reads writes t c h = record {
    fits = subst (λ (x : Touches). (map object_of cells ≡ x.writes) × ((o : Object) → (P o ⊎ In o x.writes) ↔ In o (x.reads ++ x.writes))) (sym t) (
      c,
      λ o. (
        λ q. elim ((h o).0 q) [ inl i ↦ In-append_left o reads writes i | inr i ↦ In-append_right o reads writes i ],
        λ i. (h o).1 (In-append_cases o reads writes i),
      ),
    );
  }

  pub there_fits : {A : Type 0} {P : Object → Type 0} {k : A → Attempt} (o : Option A)
      → ((x : A) → F P (k x)) → F P (if_there k o)
  there_fits (Some x) h = h x
  there_fits None h = refused

  widened : (P Q : Object → Type 0) → ((o : Object) → P o ↔ Q o) → (x : Attempt) → Fits P x → Fits Q x
  widened P Q same (refuse r) h = tt
  widened P Q same (perform r cells) h = (
    h.0,
    λ o. (
      λ q. (h.1 o).0 (elim q [ inl k ↦ inl ((same o).1 k) | inr i ↦ inr i ]),
      λ i. elim ((h.1 o).1 i) [ inl k ↦ inl ((same o).0 k) | inr j ↦ inr j ],
    ),
  )
  widened P Q same (ask x f) h = widened (seen P (x ∷ [])) (seen Q (x ∷ [])) (λ o. (
    λ q. elim q [ inl k ↦ inl ((same o).0 k) | inr i ↦ inr i ],
    λ q. elim q [ inl k ↦ inl ((same o).1 k) | inr i ↦ inr i ],
  )) (f (look s x)) h

  pub wide : {P : Object → Type 0} (Q : Object → Type 0) {x : Attempt} → ((o : Object) → P o ↔ Q o) → F P x → F Q x
  wide {P} Q {x} same h = record { fits = widened P Q same x h.fits }

  pub if_fits : {P : Object → Type 0} (b : Bool) {x y : Attempt} → F P x → F P y → F P (if b then x else y)
  if_fits true g h = g
  if_fits false g h = h

  pub gate_fits : {P : Object → Type 0} (c : ChName) {k : GateContent → Attempt}
      → ((gate : GateContent) → s.gates c ≡ Some gate → F (seen P (Gate c ∷ [])) (k gate)) → F P (ask_gate c k)
  gate_fits {P} c {k} h = asked (by_gate (s.gates c) refl)
    where
      by_gate : (x : Option GateContent) → s.gates c ≡ x → F (seen P (Gate c ∷ [])) (if_there k x)
      by_gate None at = refused
      by_gate (Some gate) at = h gate at

  -- a side of a buffer: its end, and the slot of that number, if there is one
  slots : {P : Object → Type 0} (end : Object) (c : ChName) (capacity n : ℕ) (x : Attempt) (f : Cell → Attempt)
      → F (seen P (end ∷ slot_numbered c capacity n)) x
      → (slot_numbered c capacity n ≡ Slot c (n % capacity) ∷ [] → F (seen P (end ∷ slot_numbered c capacity n)) (f (look s (Slot c (n % capacity)))))
      → F (seen P (end ∷ [])) (if capacity == 0 then x else ask (Slot c (n % capacity)) f)
  slots {P} end c zero n x f g h = g
  slots {P} end c (suc m) n x f g h = rw (eqb-suc-zero m) (asked (wide (seen (seen P (end ∷ [])) (Slot c (n % suc m) ∷ [])) (λ o. ((λ q. grind (arith)), (λ q. grind (arith)))) (h refl)))

  capacity_is : (c : ChName) (gate : GateContent) → s.gates c ≡ Some gate → capacity_at (s.gates c) ≡ gate.capacity
  capacity_is c gate at = ap capacity_at at

  pub room_fits : {P : Object → Type 0} (c : ChName) (gate : GateContent) (k : Option ℕ → Attempt) → s.gates c ≡ Some gate
      → F (seen P (Tail c ∷ slot_at_tail s c)) (k None)
      → (slot_at_tail s c ≡ Slot c (s.tails c % gate.capacity) ∷ [] → F (seen P (Tail c ∷ slot_at_tail s c)) (k (Some (s.tails c))))
      → F P (ask_room c gate k)
  room_fits {P} c gate k at none some =
      let same = capacity_is c gate at in
      let none' : F (seen P (Tail c ∷ slot_numbered c gate.capacity (s.tails c))) (k None) = subst (λ n. F (seen P (Tail c ∷ slot_numbered c n (s.tails c))) (k None)) same none in
      let some' : slot_numbered c gate.capacity (s.tails c) ≡ Slot c (s.tails c % gate.capacity) ∷ [] → F (seen P (Tail c ∷ slot_numbered c gate.capacity (s.tails c))) (k (Some (s.tails c)))
      = subst (λ n. slot_numbered c n (s.tails c) ≡ Slot c (s.tails c % gate.capacity) ∷ [] → F (seen P (Tail c ∷ slot_numbered c n (s.tails c))) (k (Some (s.tails c)))) same some in
      asked (slots (Tail c) c gate.capacity (s.tails c) (k None) _ none' (λ q. by_slot (s.slots c (s.tails c % gate.capacity)) none' (some' q)))
    where
      by_slot : (x : Option (ℕ × Value)) {Q : Object → Type 0} → F Q (k None) → F Q (k (Some (s.tails c)))
          → F Q (k (room_for (s.tails c) x))
      by_slot None a b = b
      by_slot (Some x) a b = a

  pub item_fits : {P : Object → Type 0} (c : ChName) (gate : GateContent) (k : Option (ℕ × Value) → Attempt)
      → s.gates c ≡ Some gate
      → F (seen P (Head c ∷ slot_at_head s c)) (k None)
      → ((v : Value) → slot_at_head s c ≡ Slot c (s.heads c % gate.capacity) ∷ [] → F (seen P (Head c ∷ slot_at_head s c)) (k (Some (s.heads c, v))))
      → F P (ask_item c gate k)
  item_fits {P} c gate k at none some =
      let same = capacity_is c gate at in
      let none' : F (seen P (Head c ∷ slot_numbered c gate.capacity (s.heads c))) (k None) = subst (λ n. F (seen P (Head c ∷ slot_numbered c n (s.heads c))) (k None)) same none in
      let some' : (v : Value) → slot_numbered c gate.capacity (s.heads c) ≡ Slot c (s.heads c % gate.capacity) ∷ [] → F (seen P (Head c ∷ slot_numbered c gate.capacity (s.heads c))) (k (Some (s.heads c, v)))
      = subst (λ n. (v : Value) → slot_numbered c n (s.heads c) ≡ Slot c (s.heads c % gate.capacity) ∷ [] → F (seen P (Head c ∷ slot_numbered c n (s.heads c))) (k (Some (s.heads c, v)))) same some in
      asked (slots (Head c) c gate.capacity (s.heads c) (k None) _ none' (λ q. by_slot (s.slots c (s.heads c % gate.capacity)) none' (λ v. some' v q)))
    where
      by_slot : (x : Option (ℕ × Value)) {Q : Object → Type 0} → F Q (k None) → ((v : Value) → F Q (k (Some (s.heads c, v))))
          → F Q (k (option_map (λ x. (s.heads c, x.1)) x))
      by_slot None a b = a
      by_slot (Some x) a b = b x.1

  pub withdrawn_fits : {P : Object → Type 0} (names : List (List ℕ)) (cs : List ChName) (k : List Cell → Attempt)
      → ((cells : List Cell) → map object_of cells ≡ map Gate cs → F (seen P (map Gate cs)) (k cells))
      → F P (ask_withdrawn names cs k)
  withdrawn_fits {P} names [] k h = wide P (λ o. ((λ q. grind (arith)), (λ q. grind (arith)))) (h [] refl)
  withdrawn_fits {P} names (c ∷ cs) k h = gate_fits c (λ gate at. withdrawn_fits names cs (λ cells. k (gate_has c (Some (without names gate)) ∷ cells))
      (λ cells e. wide (seen (seen P (Gate c ∷ [])) (map Gate cs)) (λ o. ((λ q. grind (arith)), (λ q. grind (arith)))) (h (gate_has c (Some (without names gate)) ∷ cells) (ap (◌∷◌ (Gate c)) e))))

  pub waiter_fits : {P : Object → Type 0} (n : List ℕ) (k : Goroutine → List Wait → Attempt)
      → ((g : Goroutine) (ws : List Wait) → waits_at (s.goroutines n) ≡ ws → F (seen P (Go n ∷ [])) (k g ws))
      → F P (ask_waiter n k)
  waiter_fits {P} n k h = asked (by_found (s.goroutines n) refl)
    where
      by_status : (g : Goroutine) → s.goroutines n ≡ Some g → (x : Status) → g.status ≡ x
          → F (seen P (Go n ∷ [])) (if_waiting (k g) x)
      by_status g at ready r = refused
      by_status g at (waiting ws) r = h g ws (ap waits_at at ∙ ap (λ (x : Status). elim x [ waiting ws ↦ ws | _ ↦ [] ]) r)
      by_status g at finished r = refused

      by_found : (x : Option Goroutine) → s.goroutines n ≡ x
          → F (seen P (Go n ∷ [])) (if_there (λ g. if_waiting (k g) g.status) x)
      by_found None at = refused
      by_found (Some g) at = by_status g at g.status refl
