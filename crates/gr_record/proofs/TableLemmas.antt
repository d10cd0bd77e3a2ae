-- What a step reads is told alike in states that agree on what it touches.
use Rattle.std.proofs.Common.{◌≡◌, ℕ, List, [], ◌∷◌, ◌++◌, Option, Some, None, refl, ap, ap₂, ◌∙◌, inl, inr}
use Rattle.std.specs.List.{flat_map}
use Rattle.gr_base.specs.declared.names.ChName.{ChName}
use Rattle.gr_base.specs.declared.events.Event.{Event}
use Rattle.gr_base.specs.declared.kinds.Kind.{Kind}
use Rattle.gr_base.specs.declared.kinds.Kind.TheVariants as kinds
use Rattle.gr_base.specs.declared.objects.Object.{Object}
use Rattle.gr_base.specs.declared.objects.Object.TheVariants.{Run, Go, Gate, Tail, Head}
use Rattle.gr_causal.specs.Sequences.{In}
use Rattle.gr_causal.proofs.ListLemmas.{In-append_cases, In-append_left, In-append_right}
use Rattle.gr_rules.specs.Attempts.{Operation, sends_on, receives_from, takes_len_of, takes_cap_of, closes, Report}
use Rattle.gr_rules.specs.Deeds.{Communication, Sending, Receiving, Otherwise}
use Rattle.gr_rules.specs.Goroutines.{Goroutine}
use Rattle.gr_rules.specs.States.{Cell, go_has, State, look}
use Rattle.gr_rules.specs.Steps.{count, steps_of}
use Rattle.gr_rules.specs.Touches.{capacity_at, slot_numbered, senders_at, send_side, receive_side, side, taken, with_channel, without_channel, clauses_in, looked_at, row, table}
use Rattle.gr_refine.proofs.StateLemmas.{gate_is, tail_is, head_is}

go_is : (n : List ℕ) (x y : Option Goroutine) → go_has n x ≡ go_has n y → x ≡ y
go_is n x y e = ap (λ (c : Cell). elim c [ go_has m z ↦ z | _ ↦ x ]) e

module _ (s t : State) where
  -- the states agree on these
  abbrev pub Agree : List Object → Type 0
  Agree os = (o : Object) → In o os → look t o ≡ look s o

  send_alike : (c : ChName) → Agree (send_side s c) → send_side t c ≡ send_side s c
  send_alike c same = ap₂ (λ k n. Gate c ∷ Tail c ∷ slot_numbered c k n)
      (ap capacity_at (gate_is c _ _ (same (Gate c) (inl refl)))) (tail_is c _ _ (same (Tail c) (inr (inl refl))))

  receive_alike : (c : ChName) → Agree (receive_side s c) → receive_side t c ≡ receive_side s c
  receive_alike c same = ap₂ (λ k n. Gate c ∷ Head c ∷ slot_numbered c k n)
      (ap capacity_at (gate_is c _ _ (same (Gate c) (inl refl)))) (head_is c _ _ (same (Head c) (inr (inl refl))))

  side_alike : (w : Communication) → Agree (side s w) → side t w ≡ side s w
  side_alike (Sending (Some c) v) same = send_alike c same
  side_alike (Sending None v) same = refl
  side_alike (Receiving (Some c) v) same = receive_alike c same
  side_alike (Receiving None v) same = refl
  side_alike Otherwise same = refl

  sides_alike : (ws : List Communication) → Agree (flat_map (side s) ws) → flat_map (side t) ws ≡ flat_map (side s) ws
  sides_alike [] same = refl
  sides_alike (w ∷ ws) same = ap₂ (λ (a b : List Object). a ++ b)
      (side_alike w (λ o i. same o (In-append_left o (side s w) (flat_map (side s) ws) i)))
      (sides_alike ws (λ o i. same o (In-append_right o (side s w) (flat_map (side s) ws) i)))

  gate_of_taken : (c : ChName) (names : List (List ℕ)) → In (Gate c) ((taken s c names).reads ++ (taken s c names).writes)
  gate_of_taken c [] = inl refl
  gate_of_taken c (n ∷ ns) = inl refl

  taken_alike : (c : ChName) (names : List (List ℕ)) → (taken t c names).reads ≡ (taken s c names).reads
  taken_alike c [] = refl
  taken_alike c (n ∷ ns) = refl

  channel_alike : (operation : Operation) (kind : Kind) → Agree ((with_channel s operation kind).reads ++ (with_channel s operation kind).writes)
      → (with_channel t operation kind).reads ≡ (with_channel s operation kind).reads
  channel_alike (sends_on c) kinds.Hand same = refl
  channel_alike (sends_on c) kinds.Buffer same = refl
  channel_alike (sends_on c) kinds.SendWait same = send_alike c (λ o i. same o (In-append_left o (send_side s c) (Gate c ∷ []) i))
  channel_alike (receives_from c) kinds.Take same =
      ap (λ o. (taken t c (senders_at o)).reads) (gate_is c _ _ (same (Gate c) (gate_of_taken c (senders_at (s.gates c)))))
      ∙ taken_alike c (senders_at (s.gates c))
  channel_alike (receives_from c) kinds.Meet same = receive_alike c (λ o i. same o (In-append_left o (receive_side s c) _ i))
  channel_alike (receives_from c) kinds.Closed same = receive_alike c (λ o i. same o (In-append_left o (receive_side s c) [] i))
  channel_alike (receives_from c) kinds.RecvWait same = receive_alike c (λ o i. same o (In-append_left o (receive_side s c) (Gate c ∷ []) i))
  channel_alike (closes c) kinds.Close same = refl
  channel_alike (sends_on c) (kinds.Fault e) same = refl
  channel_alike (closes c) (kinds.Fault e) same = refl
  channel_alike (takes_len_of c) kinds.Length same = refl
  channel_alike (takes_cap_of c) kinds.Length same = refl
  channel_alike _ _ same = refl

  other_alike : (e : Event) (g : Goroutine) (kind : Kind) → Agree ((without_channel s e g kind).reads ++ (without_channel s e g kind).writes)
      → (without_channel t e g kind).reads ≡ (without_channel s e g kind).reads
  other_alike e g kinds.Go same = refl
  other_alike e g kinds.Make same = refl
  other_alike e g kinds.Default same =
      sides_alike (clauses_in g.frames) (λ o i. same o (In-append_left o (flat_map (side s) (clauses_in g.frames)) [] i))
  other_alike e g kinds.SelectWait same =
      sides_alike (clauses_in g.frames) (λ o i. same o (In-append_left o (flat_map (side s) (clauses_in g.frames)) _ i))
  other_alike e g kinds.Exit same = refl
  other_alike e g (kinds.Fault f) same =
      sides_alike (looked_at e.choice (clauses_in g.frames))
      (λ o i. same o (In-append_left o (flat_map (side s) (looked_at e.choice (clauses_in g.frames))) (Run ∷ []) i))
  other_alike e g _ same = refl

  row_alike : (e : Event) (r : Report) (g : Option Goroutine) (o : Option Operation) → Agree ((row s e r g o).reads ++ (row s e r g o).writes)
      → (row t e r g o).reads ≡ (row s e r g o).reads
  row_alike e r g (Some operation) same = channel_alike operation r.deed same
  row_alike e r (Some g) None same = other_alike e g r.deed same
  row_alike e r None None same = refl

  module _ (e : Event) (r : Report) (same : Agree ((table s e r).reads ++ (table s e r).writes)) where
    own_alike : t.goroutines e.go ≡ s.goroutines e.go
    own_alike = go_is e.go _ _ (same (Go e.go) (In-append_right (Go e.go) (table s e r).reads (table s e r).writes (inl refl)))

    of_row : Agree ((row s e r (s.goroutines e.go) r.operation).reads ++ (row s e r (s.goroutines e.go) r.operation).writes)
    of_row o i =
        let x = row s e r (s.goroutines e.go) r.operation in
        same o (elim (In-append_cases o x.reads x.writes i) [
          | inl j ↦ In-append_left o (table s e r).reads (table s e r).writes (inr j)
          | inr j ↦ In-append_right o (table s e r).reads (table s e r).writes (inr j)
        ])

    pub reads_alike : (table t e r).reads ≡ (table s e r).reads
    reads_alike =
        ap (λ g. Run ∷ (row t e r g r.operation).reads) own_alike ∙ ap (λ os. Run ∷ os) (row_alike e r (s.goroutines e.go) r.operation of_row)

    pub count_alike : count t e.go ≡ count s e.go
    count_alike = ap steps_of own_alike
