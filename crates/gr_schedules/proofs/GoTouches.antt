-- Which goroutines a step touches beside its own: those that wait on its channel, and the one that it starts.
use Rattle.std.proofs.Common.{◌≡◌, ◌⊎◌, ℕ, ◌+◌, List, [], ◌∷◌, ◌++◌, map, take, Option, Some, None, refl, sym, subst, inl, inr}
use Rattle.std.specs.List.{flat_map, list_any}
use Rattle.gr_base.specs.declared.names.ChName.{ChName}
use Rattle.gr_base.specs.declared.events.Event.{Event}
use Rattle.gr_base.specs.declared.kinds.Kind.{Kind}
use Rattle.gr_base.specs.declared.kinds.Kind.TheVariants as kinds
use Rattle.gr_base.specs.declared.objects.Object.TheVariants.{Go, Gate}
use Rattle.gr_causal.specs.Sequences.{In}
use Rattle.gr_causal.proofs.ListLemmas.{true_or_false, In-append_cases, In-of_map}
use Rattle.gr_rules.specs.Deeds.{Communication, Sending, Receiving, Otherwise}
use Rattle.gr_rules.specs.Goroutines.{Goroutine}
use Rattle.gr_rules.specs.States.{State, same_go}
use Rattle.gr_rules.specs.Attempts.{Operation, sends_on, receives_from, takes_len_of, takes_cap_of, closes, Report}
use Rattle.gr_rules.specs.Communications.{once}
use Rattle.gr_rules.specs.Touches.{senders_at, receivers_at, slot_numbered, slot_at_head, woken, side, taken, with_channel, clauses_in, looked_at, without_channel, row, table}
use Rattle.gr_laws.proofs.CellLemmas.{go_name}
use Rattle.gr_laws.proofs.TouchedLemmas.{slot_is}

go_no_gate : (g : List ℕ) (c : ChName) → Go g ≡ Gate c → ⊥
go_no_gate g c e = cc

in_once : (ns : List (List ℕ)) (n : List ℕ) → In n (once ns) → In n ns
in_once [] n i = i
in_once (m ∷ ns) n i = elim (true_or_false (list_any (same_go m) ns)) [
  | inl t ↦ inr (in_once ns n (rw t at i))
  | inr f ↦ elim (rw f at i) [ inl e ↦ inl e | inr k ↦ inr (in_once ns n k) ]
]

in_first : (ns : List (List ℕ)) (n : List ℕ) → In n (take 1 ns) → In n ns
in_first [] n i = i
in_first (m ∷ ns) n i = elim i [ inl e ↦ inl e | inr j ↦ absurd j ]

module _ (s : State) (g : List ℕ) where
  -- it stands in a queue of the channel
  abbrev pub Queued : ChName → Type 0
  Queued c = In g (senders_at (s.gates c)) ⊎ In g (receivers_at (s.gates c))

  abbrev pub SomeQueue : Type 0
  SomeQueue = (c : ChName) × Queued c

  -- it is the child that the step of another starts
  abbrev pub IsChild : Event → Option Goroutine → Type 0
  IsChild e o = (x : Goroutine) × (o ≡ Some x) × (g ≡ e.go ++ (x.children + 1) ∷ [])

  among_names : (names : List (List ℕ)) → In (Go g) (map Go names) → In g names
  among_names names i = let k = In-of_map Go (Go g) names i in subst (λ n. In n names) (sym (go_name g k.0 k.2)) k.1

  among_gates : (cs : List ChName) → In (Go g) (map Gate cs) → ⊥
  among_gates cs i = let k = In-of_map Gate (Go g) cs i in go_no_gate g k.0 k.2

  among_woken : (c : ChName) (names : List (List ℕ)) → In (Go g) (woken s c names) → In g names
  among_woken c names i = elim (In-append_cases (Go g) (map Go names) _ i) [ inl j ↦ among_names names j | inr j ↦ absurd (among_gates _ j) ]

  no_slot : (c : ChName) (k n : ℕ) → In (Go g) (slot_numbered c k n) → ⊥
  no_slot c k n i = let at = slot_is s c (Go g) k n i in let e = at.1 in cc

  no_side : (x : Communication) → In (Go g) (side s x) → ⊥
  no_side (Sending (Some c) v) i = elim i [ inl e ↦ cc | inr i ↦ elim i [ inl e ↦ cc | inr j ↦ no_slot c _ _ j ] ]
  no_side (Receiving (Some c) v) i = elim i [ inl e ↦ cc | inr i ↦ elim i [ inl e ↦ cc | inr j ↦ no_slot c _ _ j ] ]
  no_side (Sending None v) i = i
  no_side (Receiving None v) i = i
  no_side Otherwise i = i

  no_sides : (cs : List Communication) → In (Go g) (flat_map (side s) cs) → ⊥
  no_sides [] i = i
  no_sides (c ∷ cs) i = elim (In-append_cases (Go g) (side s c) (flat_map (side s) cs) i) [ inl j ↦ no_side c j | inr j ↦ no_sides cs j ]

  read_taken : (c : ChName) (names : List (List ℕ)) → In (Go g) (taken s c names).reads → ⊥
  read_taken c [] i = elim i [ inl e ↦ cc | inr j ↦ j ]
  read_taken c (n ∷ ns) i = i

  written_taken : (c : ChName) (names : List (List ℕ)) → senders_at (s.gates c) ≡ names → In (Go g) (taken s c names).writes → SomeQueue
  written_taken c [] at i = elim i [ inl e ↦ absurd cc | inr j ↦ absurd (no_slot c _ _ j) ]
  written_taken c (n ∷ ns) at i = elim i [
    | inl e ↦ absurd cc
    | inr j ↦ elim j [
      | inl e ↦ absurd cc
      | inr j ↦ elim j [
        | inl e ↦ absurd cc
        | inr j ↦ elim (In-append_cases (Go g) (slot_at_head s c) (woken s c (n ∷ [])) j) [
          | inl j ↦ absurd (no_slot c _ _ j)
          | inr j ↦ (c, inl (subst (In g) (sym at) (in_first (n ∷ ns) g (among_woken c (n ∷ []) j))))
        ]
      ]
    ]
  ]

  by_gate : {P : Type 0} (c : ChName) (names : List (List ℕ)) → In (Go g) (Gate c ∷ woken s c names) → (In g names → P) → P
  by_gate c names i k = elim i [ inl e ↦ absurd (go_no_gate g c e) | inr j ↦ k (among_woken c names j) ]

  gate_alone : {P : Type 0} (c : ChName) → In (Go g) (Gate c ∷ []) → P
  gate_alone c i = elim i [ inl e ↦ absurd (go_no_gate g c e) | inr j ↦ absurd j ]

  -- what it does with a channel
  channel_written : (operation : Operation) (k : Kind) → In (Go g) (with_channel s operation k).writes → SomeQueue
  channel_written (sends_on c) kinds.Hand i = by_gate c _ i (λ j. (c, inr (in_first (receivers_at (s.gates c)) g j)))
  channel_written (sends_on c) kinds.Buffer i = elim i [ inl e ↦ absurd cc | inr j ↦ absurd (no_slot c _ _ j) ]
  channel_written (sends_on c) kinds.SendWait i = gate_alone c i
  channel_written (sends_on c) (kinds.Fault f) i = elim i [ inl e ↦ absurd cc | inr j ↦ absurd j ]
  channel_written (sends_on c) _ i = absurd i
  channel_written (receives_from c) kinds.Take i = written_taken c (senders_at (s.gates c)) refl i
  channel_written (receives_from c) kinds.Meet i = by_gate c _ i (λ j. (c, inl (in_first (senders_at (s.gates c)) g j)))
  channel_written (receives_from c) kinds.RecvWait i = gate_alone c i
  channel_written (receives_from c) _ i = absurd i
  channel_written (takes_len_of c) kinds.Length i = absurd i
  channel_written (takes_len_of c) _ i = absurd i
  channel_written (takes_cap_of c) kinds.Length i = absurd i
  channel_written (takes_cap_of c) _ i = absurd i
  channel_written (closes c) kinds.Close i =
      by_gate c _ i (λ j. (c, In-append_cases g (senders_at (s.gates c)) (receivers_at (s.gates c)) (in_once (senders_at (s.gates c) ++ receivers_at (s.gates c)) g j)))
  channel_written (closes c) (kinds.Fault f) i = elim i [ inl e ↦ absurd cc | inr j ↦ absurd j ]
  channel_written (closes c) _ i = absurd i

  channel_read : (operation : Operation) (k : Kind) → In (Go g) (with_channel s operation k).reads → ⊥
  channel_read (sends_on c) kinds.Buffer i = gate_alone c i
  channel_read (sends_on c) kinds.SendWait i = elim i [ inl e ↦ cc | inr i ↦ elim i [ inl e ↦ cc | inr j ↦ no_slot c _ _ j ] ]
  channel_read (sends_on c) (kinds.Fault f) i = gate_alone c i
  channel_read (sends_on c) _ i = i
  channel_read (receives_from c) kinds.Take i = read_taken c (senders_at (s.gates c)) i
  channel_read (receives_from c) kinds.Meet i = elim i [ inl e ↦ cc | inr i ↦ elim i [ inl e ↦ cc | inr j ↦ no_slot c _ _ j ] ]
  channel_read (receives_from c) kinds.Closed i = elim i [ inl e ↦ cc | inr i ↦ elim i [ inl e ↦ cc | inr j ↦ no_slot c _ _ j ] ]
  channel_read (receives_from c) kinds.RecvWait i = elim i [ inl e ↦ cc | inr i ↦ elim i [ inl e ↦ cc | inr j ↦ no_slot c _ _ j ] ]
  channel_read (receives_from c) _ i = i
  channel_read (takes_len_of c) kinds.Length i = elim i [ inl e ↦ cc | inr i ↦ elim i [ inl e ↦ cc | inr i ↦ elim i [ inl e ↦ cc | inr j ↦ j ] ] ]
  channel_read (takes_len_of c) _ i = i
  channel_read (takes_cap_of c) kinds.Length i = gate_alone c i
  channel_read (takes_cap_of c) _ i = i
  channel_read (closes c) (kinds.Fault f) i = gate_alone c i
  channel_read (closes c) _ i = i

  -- what it does without one
  other_written : (e : Event) (x : Goroutine) (k : Kind) → In (Go g) (without_channel s e x k).writes → g ≡ e.go ++ (x.children + 1) ∷ []
  other_written e x kinds.Go i = elim i [ inl q ↦ go_name g _ q | inr j ↦ absurd j ]
  other_written e x kinds.Make i = gate_alone _ i
  other_written e x kinds.Default i = absurd i
  other_written e x kinds.SelectWait i = absurd (among_gates _ i)
  other_written e x kinds.Exit i = elim i [ inl q ↦ absurd cc | inr j ↦ absurd j ]
  other_written e x (kinds.Fault f) i = elim i [ inl q ↦ absurd cc | inr j ↦ absurd j ]
  other_written e x _ i = absurd i

  other_read : (e : Event) (x : Goroutine) (k : Kind) → In (Go g) (without_channel s e x k).reads → ⊥
  other_read e x kinds.Default i = no_sides (clauses_in x.frames) i
  other_read e x kinds.SelectWait i = no_sides (clauses_in x.frames) i
  other_read e x (kinds.Fault f) i = no_sides (looked_at e.choice (clauses_in x.frames)) i
  other_read e x _ i = i

  abbrev pub Meant : Event → Type 0
  Meant e = SomeQueue ⊎ IsChild e (s.goroutines e.go)

  row_written : (e : Event) (r : Report) (x : Option Goroutine) (o : Option Operation) → s.goroutines e.go ≡ x → In (Go g) (row s e r x o).writes → Meant e
  row_written e r x (Some operation) h i = inl (channel_written operation r.deed i)
  row_written e r (Some x) None h i = inr (x, h, other_written e x r.deed i)
  row_written e r None None h i = absurd i

  row_read : (e : Event) (r : Report) (x : Option Goroutine) (o : Option Operation) → In (Go g) (row s e r x o).reads → ⊥
  row_read e r x (Some operation) i = channel_read operation r.deed i
  row_read e r (Some x) None i = other_read e x r.deed i
  row_read e r None None i = i

  -- a goroutine that is touched by the step of another
  pub touched_go : (e : Event) (r : Report) → (g ≡ e.go → ⊥) → In (Go g) ((table s e r).reads ++ (table s e r).writes) → Meant e
  touched_go e r other i = elim (In-append_cases (Go g) (table s e r).reads (table s e r).writes i) [
    | inl j ↦ elim j [ inl q ↦ absurd cc | inr j ↦ absurd (row_read e r (s.goroutines e.go) r.operation j) ]
    | inr j ↦ elim j [ inl q ↦ absurd (other (go_name g e.go q)) | inr j ↦ row_written e r (s.goroutines e.go) r.operation refl j ]
  ]
