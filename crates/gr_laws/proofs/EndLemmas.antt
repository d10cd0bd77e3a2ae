-- Which steps write an end of a buffer.
use Rattle.std.proofs.Common.{◌≡◌, ◌⊎◌, ℕ, List, [], ◌∷◌, map, Option, Some, None, refl, sym, ◌∙◌, inl, inr}
use Rattle.gr_base.specs.declared.names.ChName.{ChName}
use Rattle.gr_base.specs.declared.events.Event.{Event}
use Rattle.gr_base.specs.declared.kinds.Kind.{Kind}
use Rattle.gr_base.specs.declared.kinds.Kind.TheVariants as kinds
use Rattle.gr_base.specs.declared.kinds.Kind.TheVariants.{Buffer, Take}
use Rattle.gr_base.specs.declared.objects.Object.{Object}
use Rattle.gr_base.specs.declared.objects.Object.TheVariants.{Run, Go, Gate, Tail, Head, Slot}
use Rattle.gr_causal.specs.Sequences.{In}
use Rattle.gr_causal.proofs.ListLemmas.{In-append_cases, In-of_map}
use Rattle.gr_rules.specs.Goroutines.{Goroutine}
use Rattle.gr_rules.specs.States.{State}
use Rattle.gr_rules.specs.Attempts.{Operation, sends_on, receives_from, takes_len_of, takes_cap_of, closes, Report}
use Rattle.gr_rules.specs.Touches.{senders_at, slot_numbered, slot_at_head, woken, taken, with_channel, without_channel, row, table}
use Rattle.gr_laws.proofs.TouchedLemmas.{slot_is}

-- an end of a buffer is written by a send into the buffer, or by a receive from it
module _ (s : State) (o : Object) (no_run : o ≡ Run → ⊥) (no_go : (n : List ℕ) → o ≡ Go n → ⊥) (no_gate : (c : ChName) → o ≡ Gate c → ⊥)
    (no_slot : (c : ChName) (n : ℕ) → o ≡ Slot c n → ⊥) where
  not_of_go : (names : List (List ℕ)) → In o (map Go names) → ⊥
  not_of_go names i = let k = In-of_map Go o names i in no_go k.0 k.2

  not_of_gate : (cs : List ChName) → In o (map Gate cs) → ⊥
  not_of_gate cs i = let k = In-of_map Gate o cs i in no_gate k.0 k.2

  not_woken : (c : ChName) (names : List (List ℕ)) → In o (woken s c names) → ⊥
  not_woken c names i = elim (In-append_cases o (map Go names) _ i) [ inl j ↦ not_of_go names j | inr j ↦ not_of_gate _ j ]

  not_a_slot : (c : ChName) (k n : ℕ) → In o (slot_numbered c k n) → ⊥
  not_a_slot c k n i = let at = slot_is s c o k n i in no_slot c at.0 at.1

  -- who may write it, by operation and kind
  abbrev Sent : ChName → Operation → Kind → Type 0
  Sent c operation k = (operation ≡ sends_on c) × (k ≡ Buffer) × (o ≡ Tail c)

  abbrev Received : ChName → Operation → Kind → Type 0
  Received c operation k = (operation ≡ receives_from c) × (k ≡ Take) × ((o ≡ Head c) ⊎ ((o ≡ Tail c) × (senders_at (s.gates c) ≡ [] → ⊥)))

  abbrev pub Writes : Operation → Kind → Type 0
  Writes operation k = (c : ChName) × (Sent c operation k ⊎ Received c operation k)

  no_cons : {A : Type 0} {x : A} {xs : List A} → x ∷ xs ≡ [] → ⊥
  no_cons e = cc

  by_taken : (c : ChName) (names : List (List ℕ)) → senders_at (s.gates c) ≡ names → In o (taken s c names).writes → Writes (receives_from c) Take
  by_taken c [] at i = elim i [ inl e ↦ (c, inr (refl, refl, inl e)) | inr j ↦ absurd (not_a_slot c _ _ j) ]
  by_taken c (n ∷ ns) at i = elim i [
    | inl e ↦ absurd (no_gate c e)
    | inr j ↦ elim j [
      | inl e ↦ (c, inr (refl, refl, inl e))
      | inr j ↦ elim j [
        | inl e ↦ (c, inr (refl, refl, inr (e, λ q. no_cons (sym at ∙ q))))
        | inr j ↦ elim (In-append_cases o (slot_at_head s c) (woken s c (n ∷ [])) j) [ inl j ↦ absurd (not_a_slot c _ _ j) | inr j ↦ absurd (not_woken c (n ∷ []) j) ]
      ]
    ]
  ]

  by_gate : (c : ChName) (names : List (List ℕ)) → In o (Gate c ∷ woken s c names) → ⊥
  by_gate c names i = elim i [ inl e ↦ no_gate c e | inr j ↦ not_woken c names j ]

  by_channel : (operation : Operation) (k : Kind) → In o (with_channel s operation k).writes → Writes operation k
  by_channel (sends_on c) kinds.Hand i = absurd (by_gate c _ i)
  by_channel (sends_on c) kinds.Buffer i = elim i [ inl e ↦ (c, inl (refl, refl, e)) | inr j ↦ absurd (not_a_slot c _ _ j) ]
  by_channel (sends_on c) kinds.SendWait i = elim i [ inl e ↦ absurd (no_gate c e) | inr j ↦ absurd j ]
  by_channel (sends_on c) (kinds.Fault f) i = elim i [ inl e ↦ absurd (no_run e) | inr j ↦ absurd j ]
  by_channel (sends_on c) _ i = absurd i
  by_channel (receives_from c) kinds.Take i = by_taken c (senders_at (s.gates c)) refl i
  by_channel (receives_from c) kinds.Meet i = absurd (by_gate c _ i)
  by_channel (receives_from c) kinds.RecvWait i = elim i [ inl e ↦ absurd (no_gate c e) | inr j ↦ absurd j ]
  by_channel (receives_from c) kinds.Closed i = absurd i
  by_channel (receives_from c) _ i = absurd i
  by_channel (takes_len_of c) kinds.Length i = absurd i
  by_channel (takes_len_of c) _ i = absurd i
  by_channel (takes_cap_of c) kinds.Length i = absurd i
  by_channel (takes_cap_of c) _ i = absurd i
  by_channel (closes c) kinds.Close i = absurd (by_gate c _ i)
  by_channel (closes c) (kinds.Fault f) i = elim i [ inl e ↦ absurd (no_run e) | inr j ↦ absurd j ]
  by_channel (closes c) _ i = absurd i

  without : (e : Event) (g : Goroutine) (k : Kind) → In o (without_channel s e g k).writes → ⊥
  without e g kinds.Go i = elim i [ inl q ↦ no_go _ q | inr j ↦ j ]
  without e g kinds.Make i = elim i [ inl q ↦ no_gate _ q | inr j ↦ j ]
  without e g kinds.Default i = i
  without e g kinds.SelectWait i = not_of_gate _ i
  without e g kinds.Exit i = elim i [ inl q ↦ no_run q | inr j ↦ j ]
  without e g (kinds.Fault f) i = elim i [ inl q ↦ no_run q | inr j ↦ j ]
  without e g _ i = i

  by_row : (e : Event) (r : Report) (g : Option Goroutine) (x : Option Operation) → r.operation ≡ x → In o (row s e r g x).writes
      → (operation : Operation) × (r.operation ≡ Some operation) × Writes operation r.deed
  by_row e r g (Some operation) at i = (operation, at, by_channel operation r.deed i)
  by_row e r (Some g) None at i = absurd (without e g r.deed i)
  by_row e r None None at i = absurd i

  pub by_table : (e : Event) (r : Report) → In o (table s e r).writes
      → (operation : Operation) × (r.operation ≡ Some operation) × Writes operation r.deed
  by_table e r i = elim i [ inl q ↦ absurd (no_go e.go q) | inr j ↦ by_row e r (s.goroutines e.go) r.operation refl j ]
