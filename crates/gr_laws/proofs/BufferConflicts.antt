-- A receive and a send on one channel conflict exactly where they share what `OneBuffer` lists; a send that faults conflicts with
-- every step.
use Rattle.std.proofs.Common.{◌≡◌, ◌↔◌, ◌⊎◌, ℕ, true, ◌||◌, List, [], ◌∷◌, ◌++◌, Some, refl, sym, ◌∙◌, ap, subst, inl, inr}
use Rattle.gr_base.specs.declared.names.ChName.{ChName}
use Rattle.gr_base.specs.declared.events.Event.{Event}
use Rattle.gr_base.specs.declared.kinds.Kind.{Kind}
use Rattle.gr_base.specs.declared.kinds.Kind.TheVariants.{Hand, Buffer, SendWait, Take, Meet, Closed, RecvWait}
use Rattle.gr_base.specs.declared.objects.Object.{Object}
use Rattle.gr_base.specs.declared.objects.Object.TheVariants.{Run, Go, Gate, Tail, Head, Slot}
use Rattle.gr_causal.specs.Machine.{meets}
use Rattle.gr_causal.specs.Rules.{Note}
use Rattle.gr_causal.specs.Sequences.{In}
use Rattle.gr_causal.proofs.ListLemmas.{or_true, or_left, or_right, In-append_cases, In-append_left, In-append_right}
use Rattle.gr_program.specs.Programs.{Program}
use Rattle.gr_rules.specs.States.{State, same}
use Rattle.gr_rules.specs.Attempts.{Operation, sends_on, receives_from, Report}
use Rattle.gr_rules.specs.History.{sends, receives}
use Rattle.gr_rules.specs.Steps.{machine}
use Rattle.gr_rules.specs.Touches.{Touches, senders_at, slot_at_head, slot_at_tail, woken, taken, with_channel, and_always, row, table, AsTheTable}
use Rattle.gr_laws.specs.Reached.{Logged}
use Rattle.gr_laws.specs.Dependence.{clash}
use Rattle.gr_laws.specs.OneBuffer.{IsReceive, IsSend, FaultsAtSend, Shares, one_goroutine, one_slot, sender_moves, receiver_waits, sender_waits, sender_met, receiver_met}
use Rattle.gr_laws.specs.Touched.{TellTouches}
use Rattle.gr_laws.proofs.CellLemmas.{no_truth}
use Rattle.gr_laws.proofs.AttemptTouches.{touched_as}
use Rattle.gr_laws.proofs.TouchedLemmas.{meets_by, meets_in, slot_is, clash_by_lists}

no_cons : {A : Type 0} {x : A} {xs : List A} → x ∷ xs ≡ [] → ⊥
no_cons e = cc

-- what a step of the goroutine writes and touches, by its row of the table
abbrev written : List ℕ → Touches → List Object
written n row = Go n ∷ row.writes

abbrev touched : List ℕ → Touches → List Object
touched n row = (Run ∷ row.reads) ++ written n row

by_reads : (n : List ℕ) (row : Touches) (o : Object) → In o row.reads → In o (touched n row)
by_reads n row o i = In-append_left o (Run ∷ row.reads) (written n row) (inr i)

by_writes : (n : List ℕ) (row : Touches) (o : Object) → In o row.writes → In o (touched n row)
by_writes n row o i = In-append_right o (Run ∷ row.reads) (written n row) (inr i)

module _ (c : ChName) (s t : State) (g h : List ℕ) where
  abbrev R : Kind → Touches
  R k = with_channel s (receives_from c) k

  abbrev S : Kind → Touches
  S k = with_channel t (sends_on c) k

  -- what a receive and a send write, and what they touch
  abbrev WR : Kind → List Object
  WR k = written g (R k)

  abbrev TR : Kind → List Object
  TR k = touched g (R k)

  abbrev WS : Kind → List Object
  WS k = written h (S k)

  abbrev TS : Kind → List Object
  TS k = touched h (S k)

  abbrev Clash : Kind → Kind → Type 0
  Clash k l = (meets same (WR k) (TS l) || meets same (WS l) (TR k)) ≡ true

  -- every receive and every send touches the gate, and every receive the slot of the front item
  gate_taken : (names : List (List ℕ)) → In (Gate c) (touched g (taken s c names))
  gate_taken [] = by_reads g (taken s c []) (Gate c) (inl refl)
  gate_taken (n ∷ ns) = by_writes g (taken s c (n ∷ ns)) (Gate c) (inl refl)

  slot_taken : (names : List (List ℕ)) (o : Object) → In o (slot_at_head s c) → In o (touched g (taken s c names))
  slot_taken [] o i = by_writes g (taken s c []) o (inr i)
  slot_taken (n ∷ ns) o i = by_writes g (taken s c (n ∷ ns)) o (inr (inr (inr (In-append_left o (slot_at_head s c) (woken s c (n ∷ [])) i))))

  gate_received : (k : Kind) → receives k ≡ true → In (Gate c) (TR k)
  gate_received Take e = gate_taken (senders_at (s.gates c))
  gate_received Meet e = by_writes g (R Meet) (Gate c) (inl refl)
  gate_received Closed e = by_reads g (R Closed) (Gate c) (inl refl)
  gate_received RecvWait e = by_reads g (R RecvWait) (Gate c) (inl refl)
  gate_received _ e = absurd (no_truth e)

  gate_sent : (k : Kind) → sends k ≡ true → In (Gate c) (TS k)
  gate_sent Hand e = by_writes h (S Hand) (Gate c) (inl refl)
  gate_sent Buffer e = by_reads h (S Buffer) (Gate c) (inl refl)
  gate_sent SendWait e = by_reads h (S SendWait) (Gate c) (inl refl)
  gate_sent _ e = absurd (no_truth e)

  slot_received : (k : Kind) → receives k ≡ true → (o : Object) → In o (slot_at_head s c) → In o (TR k)
  slot_received Take e o i = slot_taken (senders_at (s.gates c)) o i
  slot_received Meet e o i = by_reads g (R Meet) o (inr (inr i))
  slot_received Closed e o i = by_reads g (R Closed) o (inr (inr i))
  slot_received RecvWait e o i = by_reads g (R RecvWait) o (inr (inr i))
  slot_received _ e o i = absurd (no_truth e)

  -- a common object makes a conflict
  by_receive : (k l : Kind) (o : Object) → In o (WR k) → In o (TS l) → Clash k l
  by_receive k l o i j = or_left (meets same (WR k) (TS l)) (meets same (WS l) (TR k)) (meets_in (WR k) (TS l) o i j)

  by_send : (k l : Kind) (o : Object) → In o (WS l) → In o (TR k) → Clash k l
  by_send k l o i j = or_right (meets same (WR k) (TS l)) (meets same (WS l) (TR k)) (meets_in (WS l) (TR k) o i j)

  moved_writes : (names : List (List ℕ)) → (names ≡ [] → ⊥) → In (Gate c) (taken s c names).writes
  moved_writes [] n = absurd (n refl)
  moved_writes (m ∷ ms) n = inl refl

  slot_clash : (k l : Kind) → receives k ≡ true → sends l ≡ true → (o : Object) → In o (slot_at_head s c)
      → In o (slot_at_tail t c) → Clash k l
  slot_clash k Buffer e f o i j = by_send k Buffer o (inr (inr j)) (slot_received k e o i)
  slot_clash k Hand e f o i j = by_send k Hand (Gate c) (inr (inl refl)) (gate_received k e)
  slot_clash k SendWait e f o i j = by_send k SendWait (Gate c) (inr (inl refl)) (gate_received k e)
  slot_clash k _ e f o i j = absurd (no_truth f)

  clashes : (k l : Kind) → receives k ≡ true → sends l ≡ true → Shares c s t k l (WR k) (WS l) → Clash k l
  clashes k l e f (one_goroutine n i j) = by_receive k l (Go n) i (In-append_right (Go n) (Run ∷ (S l).reads) (WS l) j)
  clashes k l e f (one_slot o i j) = slot_clash k l e f o i j
  clashes k l e f (sender_moves q n) = by_receive k l (Gate c) (inr (subst (λ x. In (Gate c) (R x).writes) (sym q) (moved_writes (senders_at (s.gates c)) n))) (gate_sent l f)
  clashes k l e f (receiver_waits q) = by_receive k l (Gate c) (inr (subst (λ x. In (Gate c) (R x).writes) (sym q) (inl refl))) (gate_sent l f)
  clashes k l e f (sender_waits q) = by_send k l (Gate c) (inr (subst (λ x. In (Gate c) (S x).writes) (sym q) (inl refl))) (gate_received k e)
  clashes k l e f (sender_met q) = by_receive k l (Gate c) (inr (subst (λ x. In (Gate c) (R x).writes) (sym q) (inl refl))) (gate_sent l f)
  clashes k l e f (receiver_met q) = by_send k l (Gate c) (inr (subst (λ x. In (Gate c) (S x).writes) (sym q) (inl refl))) (gate_received k e)

  -- A send into the buffer against a receive that writes the front of the buffer at most: what they have in common.
  tail_touched : (o : Object) → In o (TS Buffer) → (o ≡ Run) ⊎ ((o ≡ Gate c) ⊎ In o (WS Buffer))
  tail_touched o i = elim i [ inl e ↦ inl e | inr j ↦ elim j [ inl e ↦ inr (inl e) | inr k ↦ inr (inr k) ] ]

  tail_written : (o : Object) → In o (WS Buffer) → (o ≡ Go h) ⊎ ((o ≡ Tail c) ⊎ In o (slot_at_tail t c))
  tail_written o i = elim i [ inl e ↦ inl e | inr j ↦ elim j [ inl e ↦ inr (inl e) | inr k ↦ inr (inr k) ] ]

  abbrev Front : Kind → Type 0
  Front k = Shares c s t k Buffer (WR k) (WS Buffer)

  -- what a receive can have of the front of the buffer
  abbrev AtFront : Object → Type 0
  AtFront o = (o ≡ Go g) ⊎ ((o ≡ Head c) ⊎ In o (slot_at_head s c))

  no_tail_slot : (o : Object) → ((j : ℕ) → o ≡ Slot c j → ⊥) → In o (slot_at_tail t c) → ⊥
  no_tail_slot o n i = let at = slot_is t c o _ _ i in n at.0 at.1

  go_shared : (k : Kind) → In (Go g) (WS Buffer) → Front k
  go_shared k i = elim (tail_written (Go g) i) [
    | inl e ↦ one_goroutine g (inl refl) (inl e)
    | inr j ↦ elim j [ inl e ↦ absurd cc | inr x ↦ absurd (no_tail_slot (Go g) (λ j e. cc) x) ]
  ]

  no_head : In (Head c) (WS Buffer) → ⊥
  no_head i = elim (tail_written (Head c) i) [ inl e ↦ cc | inr j ↦ elim j [ inl e ↦ cc | inr x ↦ no_tail_slot (Head c) (λ j e. cc) x ] ]

  slot_shared : (k : Kind) (o : Object) → In o (slot_at_head s c) → In o (WS Buffer) → Front k
  slot_shared k o i w =
      let at = slot_is s c o _ _ i in elim (tail_written o w) [
        | inl e ↦ absurd (let q : Slot c at.0 ≡ Go h = sym at.1 ∙ e in cc)
        | inr j ↦ elim j [ inl e ↦ absurd (let q : Slot c at.0 ≡ Tail c = sym at.1 ∙ e in cc) | inr x ↦ one_slot o i x ]
      ]

  shared : (k : Kind) (o : Object) → AtFront o → In o (WS Buffer) → Front k
  shared k o a w = elim a [
    | inl e ↦ go_shared k (subst (λ x. In x (WS Buffer)) e w)
    | inr b ↦ elim b [ inl e ↦ absurd (no_head (subst (λ x. In x (WS Buffer)) e w)) | inr i ↦ slot_shared k o i w ]
  ]

  apart_of_front : (o : Object) → AtFront o → (o ≡ Run) ⊎ (o ≡ Gate c) → ⊥
  apart_of_front o a b = elim a [
    | inl e ↦ elim b [ inl q ↦ let r : Go g ≡ Run = sym e ∙ q in cc | inr q ↦ let r : Go g ≡ Gate c = sym e ∙ q in cc ]
    | inr x ↦ elim x [
      | inl e ↦ elim b [ inl q ↦ let r : Head c ≡ Run = sym e ∙ q in cc | inr q ↦ let r : Head c ≡ Gate c = sym e ∙ q in cc ]
      | inr i ↦
          let at = slot_is s c o _ _ i in
          elim b [ inl q ↦ let r : Slot c at.0 ≡ Run = sym at.1 ∙ q in cc | inr q ↦ let r : Slot c at.0 ≡ Gate c = sym at.1 ∙ q in cc ]
    ]
  ]

  not_sent : (o : Object) → (o ≡ Run) ⊎ (o ≡ Gate c) → In o (WS Buffer) → ⊥
  not_sent o b w = elim (tail_written o w) [
    | inl e ↦ elim b [ inl q ↦ let r : Go h ≡ Run = sym e ∙ q in cc | inr q ↦ let r : Go h ≡ Gate c = sym e ∙ q in cc ]
    | inr x ↦ elim x [
      | inl e ↦ elim b [ inl q ↦ let r : Tail c ≡ Run = sym e ∙ q in cc | inr q ↦ let r : Tail c ≡ Gate c = sym e ∙ q in cc ]
      | inr i ↦
          let at = slot_is t c o _ _ i in
          elim b [ inl q ↦ let r : Slot c at.0 ≡ Run = sym at.1 ∙ q in cc | inr q ↦ let r : Slot c at.0 ≡ Gate c = sym at.1 ∙ q in cc ]
    ]
  ]

  -- the receive writes at the front alone, and touches the front, `Run` and the gate alone
  by_front : (k : Kind) → ((o : Object) → In o (WR k) → AtFront o)
      → ((o : Object) → In o (TR k) → ((o ≡ Run) ⊎ (o ≡ Gate c)) ⊎ AtFront o) → Clash k Buffer → Front k
  by_front k w r x = elim (or_true (meets same (WR k) (TS Buffer)) (meets same (WS Buffer) (TR k)) x) [
    | inl m ↦ let o = meets_by (WR k) (TS Buffer) m in elim (tail_touched o.0 o.2) [
      | inl e ↦ absurd (apart_of_front o.0 (w o.0 o.1) (inl e))
      | inr j ↦ elim j [ inl e ↦ absurd (apart_of_front o.0 (w o.0 o.1) (inr e)) | inr i ↦ shared k o.0 (w o.0 o.1) i ]
    ]
    | inr m ↦ let o = meets_by (WS Buffer) (TR k) m in elim (r o.0 o.2) [ inl b ↦ absurd (not_sent o.0 b o.1) | inr a ↦ shared k o.0 a o.1 ]
  ]

  closed_touched : (o : Object) → In o (TR Closed) → ((o ≡ Run) ⊎ (o ≡ Gate c)) ⊎ AtFront o
  closed_touched o i = elim (In-append_cases o (Run ∷ Gate c ∷ Head c ∷ slot_at_head s c) (WR Closed) i) [
    | inl j ↦ elim j [
      | inl e ↦ inl (inl e)
      | inr j ↦ elim j [ inl e ↦ inl (inr e) | inr j ↦ inr (inr j) ]
    ]
    | inr j ↦ elim j [ inl e ↦ inr (inl e) | inr x ↦ absurd x ]
  ]

  taken_touched : (o : Object) → In o (touched g (taken s c [])) → ((o ≡ Run) ⊎ (o ≡ Gate c)) ⊎ AtFront o
  taken_touched o i = elim i [ inl e ↦ inl (inl e) | inr j ↦ elim j [ inl e ↦ inl (inr e) | inr k ↦ inr k ] ]

  by_senders : (names : List (List ℕ)) → senders_at (s.gates c) ≡ names → Clash Take Buffer → Front Take
  by_senders [] at x = by_front Take
      (λ o i. subst (λ names. In o (written g (taken s c names))) at i)
      (λ o i. taken_touched o (subst (λ names. In o (touched g (taken s c names))) at i)) x
  by_senders (n ∷ ns) at x = sender_moves refl (λ q. no_cons (sym at ∙ q))

  by_receive_kind : (k : Kind) → receives k ≡ true → Clash k Buffer → Front k
  by_receive_kind Take e x = by_senders (senders_at (s.gates c)) refl x
  by_receive_kind Meet e x = sender_met refl
  by_receive_kind Closed e x = by_front Closed (λ o i. elim i [ inl q ↦ inl q | inr j ↦ absurd j ]) closed_touched x
  by_receive_kind RecvWait e x = receiver_waits refl
  by_receive_kind _ e x = absurd (no_truth e)

  shares : (k l : Kind) → receives k ≡ true → sends l ≡ true → Clash k l → Shares c s t k l (WR k) (WS l)
  shares k Hand e f x = receiver_met refl
  shares k Buffer e f x = by_receive_kind k e x
  shares k SendWait e f x = sender_waits refl
  shares k _ e f x = absurd (no_truth f)

-- the row of a step with a channel
pub row_is : (s : State) (e : Event) (n : Note Object Report) (operation : Operation) → n.kind.operation ≡ Some operation
    → table s e n.kind ≡ and_always e (with_channel s operation n.kind.deed)
row_is s e n operation h = ap (λ o. and_always e (row s e n.kind (s.goroutines e.go) o)) h

row_tells : (s : State) (e : Event) (n : Note Object Report) (x : Touches) → table s e n.kind ≡ x → AsTheTable s e n
    → TellTouches x.reads x.writes n
row_tells s e n x h k = subst (λ (x : Touches). TellTouches x.reads x.writes n) h (record {
  written = λ o. (λ i. subst (In o) (sym k.written) i, λ i. subst (In o) k.written i);
  touched = λ o. ((k.touched o).1, (k.touched o).0);
})

pub buffer_clash : (p : Program) (s s' t t' : State) (a b : Logged p) (c : ChName)
    → (machine p).step s a.event ≡ Some (s', a.note) → (machine p).step t b.event ≡ Some (t', b.note)
    → IsReceive c a.note.kind → IsSend c b.note.kind
    → (clash p a b ≡ true) ↔ Shares c s t a.note.kind.deed b.note.kind.deed a.note.writes b.note.writes
buffer_clash p s s' t t' a b c ha hb ra sb =
    let ka = a.note.kind.deed in
    let kb = b.note.kind.deed in
    let ta = touched_as p s a.event s' a.note ha in
    let tb = touched_as p t b.event t' b.note hb in
    let rowa = row_is s a.event a.note (receives_from c) ra.0 in
    let rowb = row_is t b.event b.note (sends_on c) sb.0 in
    let xa = and_always a.event (with_channel s (receives_from c) ka) in
    let xb = and_always b.event (with_channel t (sends_on c) kb) in
    let same_clash = clash_by_lists p a b xa.reads xa.writes xb.reads xb.writes (row_tells s a.event a.note xa rowa ta) (row_tells t b.event b.note xb rowb tb) in
    let wa : a.note.writes ≡ xa.writes = ta.written ∙ ap (λ (x : Touches). x.writes) rowa in
    let wb : b.note.writes ≡ xb.writes = tb.written ∙ ap (λ (x : Touches). x.writes) rowb in (
      λ h. subst (λ w. Shares c s t ka kb w b.note.writes) (sym wa) (subst (λ w. Shares c s t ka kb xa.writes w) (sym wb)
          (shares c s t a.event.go b.event.go ka kb ra.1 sb.1 (sym same_clash ∙ h))),
      λ h. same_clash ∙ clashes c s t a.event.go b.event.go ka kb ra.1 sb.1
          (subst (λ w. Shares c s t ka kb xa.writes w) wb (subst (λ w. Shares c s t ka kb w b.note.writes) wa h)),
    )

-- a send that faults writes `Run`, which every step touches
pub fault_clash : (p : Program) (s s' t t' : State) (a b : Logged p) (c : ChName)
    → (machine p).step s a.event ≡ Some (s', a.note) → (machine p).step t b.event ≡ Some (t', b.note)
    → FaultsAtSend c b.note.kind
    → In Run b.note.writes × In Run ((machine p).touches a.note) × (clash p a b ≡ true)
fault_clash p s s' t t' a b c ha hb faulted =
    let ta = touched_as p s a.event s' a.note ha in
    let tb = touched_as p t b.event t' b.note hb in
    let rowb = row_is t b.event b.note (sends_on c) faulted.0 in
    let wb = tb.written ∙ ap (λ (x : Touches). x.writes) rowb in
    let ends : In Run (and_always b.event (with_channel t (sends_on c) b.note.kind.deed)).writes =
    subst (λ k. In Run (and_always b.event (with_channel t (sends_on c) k)).writes) (sym faulted.1.1) (inr (inl refl)) in
    let writes : In Run b.note.writes = subst (In Run) (sym wb) ends in
    let reads : In Run ((machine p).touches a.note) = (ta.touched Run).1 (inl refl) in (
      writes,
      reads,
      or_right (meets same a.note.writes ((machine p).touches b.note)) (meets same b.note.writes ((machine p).touches a.note))
          (meets_in b.note.writes ((machine p).touches a.note) Run writes reads),
    )
