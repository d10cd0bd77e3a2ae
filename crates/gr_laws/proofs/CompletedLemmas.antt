-- The k-th receive from a channel with C places, and the k+C-th send.
use Rattle.std.proofs.Common.{◌≡◌, ◌⊎◌, ℕ, zero, suc, ◌+◌, ◌<◌, ◌≤◌, Bool, true, false, if◌then◌else◌, List, [], ◌∷◌, ◌++◌, Option, Some, None, refl, sym, ◌∙◌, ap, subst, inl, inr, append_assoc, arith}
use Rattle.std.specs.List.{list_any}
use Rattle.gr_base.specs.declared.names.ChName.{ChName}
use Rattle.gr_base.specs.declared.values.Value.{Value}
use Rattle.gr_base.specs.declared.kinds.Kind.{Kind}
use Rattle.gr_base.specs.declared.kinds.Kind.TheVariants as kinds
use Rattle.gr_base.specs.declared.kinds.Kind.TheVariants.{Hand, Meet, Buffer, Take}
use Rattle.gr_base.specs.declared.objects.Object.TheVariants.{Go, Gate, Tail, Head, Slot}
use Rattle.gr_causal.specs.Sequences.{In, Before, IsAt}
use Rattle.gr_causal.specs.Dependence.{dependents}
use Rattle.gr_causal.proofs.DependenceLemmas.{dependents_are}
use Rattle.gr_causal.proofs.ListLemmas.{true_or_false, cons_is, In-append_left, In-append_right, Before-right}
use Rattle.gr_causal.proofs.PartLemmas.{Before-append_across}
use Rattle.gr_causal.proofs.PathLemmas.{Path, path_of, log_push, log_split, one_end}
use Rattle.gr_channels.specs.Objects.{GateContent}
use Rattle.gr_program.specs.Programs.{Program}
use Rattle.gr_rules.specs.States.{State, start, same}
use Rattle.gr_rules.specs.Attempts.{Operation, sends_on, receives_from, takes_len_of, takes_cap_of, closes}
use Rattle.gr_rules.specs.Steps.{machine}
use Rattle.gr_rules.specs.Touches.{Touches, senders_at, capacity_at, taken, with_channel, and_always}
use Rattle.gr_laws.specs.Completed.{hands_over, handed, sent, received, StandsIn, CompletesSend, CompletesReceive}
use Rattle.gr_laws.specs.Dependence.{clash}
use Rattle.gr_laws.specs.MemoryModel.{made_room}
use Rattle.gr_laws.specs.Reached.{Logged, IsRun}
use Rattle.gr_laws.specs.Soundness.{SoundChannel}
use Rattle.gr_laws.proofs.AttemptTouches.{touched_as}
use Rattle.gr_laws.proofs.BoundLemmas.{not_back}
use Rattle.gr_laws.proofs.BufferConflicts.{row_is}
use Rattle.gr_laws.proofs.CellLemmas.{no_truth, channel_is, same_is, same_self, tail_is, head_is, machine_laws}
use Rattle.gr_laws.proofs.CountLemmas.{GoesOn}
use Rattle.gr_laws.proofs.EndLemmas as ends
use Rattle.gr_laws.proofs.MemoryLemmas.{by_object, turned, before_in, ordered_clash}
use Rattle.gr_laws.proofs.RuleCounts.{stepped}
use Rattle.gr_laws.proofs.RuleSound.{reached_sound}
use Rattle.gr_laws.proofs.RunLemmas.{distinct_log}
use Rattle.gr_laws.proofs.TouchedLemmas.{any_in, none_in, slot_is}

-- two places of a list: they are one, or one is before the other
data Places {A : Type 0} (front other : List A) (a b : A) : Type 0 where
  one : front ≡ other → a ≡ b → Places front other a b
  first_before : (middle : List A) → other ≡ front ++ a ∷ middle → Places front other a b
  second_before : (middle : List A) → front ≡ other ++ b ∷ middle → Places front other a b

longer : {A : Type 0} (x : A) (front other : List A) (a b : A) → Places front other a b → Places (x ∷ front) (x ∷ other) a b
longer x front other a b (one e f) = one (ap (λ l. x ∷ l) e) f
longer x front other a b (first_before middle e) = first_before middle (ap (λ l. x ∷ l) e)
longer x front other a b (second_before middle e) = second_before middle (ap (λ l. x ∷ l) e)

compared : {A : Type 0} (front other behind rest : List A) (a b : A) → front ++ a ∷ behind ≡ other ++ b ∷ rest → Places front other a b
compared [] [] behind rest a b e = one refl (cons_is a b behind rest e).0
compared [] (y ∷ other) behind rest a b e = first_before other (ap (λ z. z ∷ other) (sym (cons_is a y behind (other ++ b ∷ rest) e).0))
compared (x ∷ front) [] behind rest a b e = second_before front (ap (λ z. z ∷ front) (cons_is x b (front ++ a ∷ behind) rest e).0)
compared (x ∷ front) (y ∷ other) behind rest a b e =
    let both = cons_is x y (front ++ a ∷ behind) (other ++ b ∷ rest) e in
    subst (λ z. Places (x ∷ front) (z ∷ other) a b) both.0 (longer x front other a b (compared front other behind rest a b both.1))

module _ (p : Program) (c : ChName) where
  abbrev Steps : State → Logged p → State → Type 0
  Steps s r t = (machine p).step s r.event ≡ Some (t, r.note)

  abbrev over : Logged p → Bool
  over r = hands_over c r.note.kind.operation r.note.kind.deed

  -- what is handed over, in a log of two parts
  abbrev one_if : Bool → ℕ
  one_if b = if b then 1 else 0

  handed_first : (r : Logged p) (log : List (Logged p)) → handed p c (r ∷ log) ≡ one_if (over r) + handed p c log
  handed_first r log = elim (true_or_false (over r)) [ inl t ↦ rw t (omega arith) | inr f ↦ rw f (omega arith) ]

  handed_append : (log more : List (Logged p)) → handed p c (log ++ more) ≡ handed p c log + handed p c more
  handed_append [] more = omega arith
  handed_append (r ∷ log) more =
      let whole = handed_first r (log ++ more) in
      let part = handed_first r log in
      let ih = handed_append log more in
      omega arith

  -- an end changes only where it is written, and never goes back
  tail_kept : (s t : State) (r : Logged p) → Steps s r t → (In (Tail c) r.note.writes → ⊥) → t.tails c ≡ s.tails c
  tail_kept s t r h n = tail_is c (t.tails c) (s.tails c) ((machine_laws p).only_writes s t r.event r.note h (Tail c) n)

  head_kept : (s t : State) (r : Logged p) → Steps s r t → (In (Head c) r.note.writes → ⊥) → t.heads c ≡ s.heads c
  head_kept s t r h n = head_is c (t.heads c) (s.heads c) ((machine_laws p).only_writes s t r.event r.note h (Head c) n)

  tail_on : (s t : State) (r : Logged p) → Steps s r t → GoesOn (s.tails c) (t.tails c)
  tail_on s t r h = (stepped p s r.event t r.note h).raised.tails c

  head_on : (s t : State) (r : Logged p) → Steps s r t → GoesOn (s.heads c) (t.heads c)
  head_on s t r h = (stepped p s r.event t r.note h).raised.heads c

  tails_on : (log : List (Logged p)) (s t : State) → Path (machine p) s log t → s.tails c ≤ t.tails c
  tails_on [] s t w = subst (λ (t : State). s.tails c ≤ t.tails c) w (omega arith)
  tails_on (r ∷ log) s t w =
      let here = not_back (s.tails c) (w.0.tails c) (tail_on s w.0 r w.1.does) in
      let rest = tails_on log w.0 t w.2 in
      omega arith

  -- what a step with the channel writes, by its row of the table
  writes_row : (s t : State) (r : Logged p) (operation : Operation) → Steps s r t → r.note.kind.operation ≡ Some operation
      → r.note.writes ≡ Go r.event.go ∷ (with_channel s operation r.note.kind.deed).writes
  writes_row s t r operation h o = (touched_as p s r.event t r.note h).written ∙ ap (λ (x : Touches). x.writes) (row_is s r.event r.note operation o)

  -- a step that hands a value over writes the gate
  gate_handed : (s t : State) (r : Logged p) → Steps s r t → over r ≡ true → In (Gate c) r.note.writes
  gate_handed s t r h k = by_kind r.note.kind.operation r.note.kind.deed refl refl k
    where
      written : (operation : Operation) (kind : Kind) → r.note.kind.operation ≡ Some operation → r.note.kind.deed ≡ kind
          → In (Gate c) (with_channel s operation kind).writes → In (Gate c) r.note.writes
      written operation kind o d i =
          subst (In (Gate c)) (sym (writes_row s t r operation h o)) (inr (subst (λ k. In (Gate c) (with_channel s operation k).writes) (sym d) i))

      by_kind : (o : Option Operation) (kind : Kind) → r.note.kind.operation ≡ o → r.note.kind.deed ≡ kind → hands_over c o kind ≡ true → In (Gate c) r.note.writes
      by_kind (Some (sends_on d)) kinds.Hand o e k = written (sends_on d) Hand o e (inl (ap Gate (channel_is c d k)))
      by_kind (Some (sends_on d)) _ o e k = absurd (no_truth k)
      by_kind (Some (receives_from d)) kinds.Meet o e k = written (receives_from d) Meet o e (inl (ap Gate (channel_is c d k)))
      by_kind (Some (receives_from d)) _ o e k = absurd (no_truth k)
      by_kind (Some (takes_len_of d)) kind o e k = absurd (no_truth k)
      by_kind (Some (takes_cap_of d)) kind o e k = absurd (no_truth k)
      by_kind (Some (closes d)) kind o e k = absurd (no_truth k)
      by_kind None kind o e k = absurd (no_truth k)

  -- what is known of a step with which a receive is complete, and of one with which a send is
  record FromBuffer (s : State) (r : Logged p) : Type 0 where
    on : r.note.kind.operation ≡ Some (receives_from c)
    kind : r.note.kind.deed ≡ Take
    none_waits : senders_at (s.gates c) ≡ []

  record IntoBuffer (r : Logged p) : Type 0 where
    on : r.note.kind.operation ≡ Some (sends_on c)
    kind : r.note.kind.deed ≡ Buffer

  abbrev WritesGate : Logged p → Type 0
  WritesGate r = In (Gate c) r.note.writes

  by_taken : (s t : State) (r : Logged p) → Steps s r t → r.note.kind.operation ≡ Some (receives_from c) → r.note.kind.deed ≡ Take
      → (names : List (List ℕ)) → senders_at (s.gates c) ≡ names → WritesGate r ⊎ FromBuffer s r
  by_taken s t r h o k [] at = inr (record { on = o; kind = k; none_waits = at })
  by_taken s t r h o k (n ∷ ns) at =
      let row : r.note.writes ≡ Go r.event.go ∷ (taken s c (n ∷ ns)).writes =
      writes_row s t r (receives_from c) h o ∙ ap (λ k. Go r.event.go ∷ (with_channel s (receives_from c) k).writes) k
      ∙ ap (λ names. Go r.event.go ∷ (taken s c names).writes) at in
      inl (subst (In (Gate c)) (sym row) (inr (inl refl)))

  head_name : (d : ChName) → Head c ≡ Head d → c ≡ d
  head_name d e = cc

  tail_name : (d : ChName) → Tail c ≡ Tail d → c ≡ d
  tail_name d e = cc

  -- the head is written by a receive from the buffer, and the tail by a send into it, or where a sender moves up
  head_by : (s t : State) (r : Logged p) → Steps s r t → In (Head c) r.note.writes → WritesGate r ⊎ FromBuffer s r
  head_by s t r h i =
      let w = ends.by_table s (Head c) (λ e. cc) (λ n e. cc) (λ d e. cc) (λ d n e. cc) r.event r.note.kind
      (subst (In (Head c)) (touched_as p s r.event t r.note h).written i) in
      elim w.2.1 [
        | inl out ↦ absurd (let q : Head c ≡ Tail w.2.0 = out.2 in cc)
        | inr got ↦ elim got.2 [
          | inl e ↦ by_taken s t r h (w.1 ∙ ap Some got.0 ∙ ap (λ d. Some (receives_from d)) (sym (head_name w.2.0 e))) got.1 (senders_at (s.gates c)) refl
          | inr other ↦ absurd (let q : Head c ≡ Tail w.2.0 = other.0 in cc)
        ]
      ]

  tail_by : (s t : State) (r : Logged p) → Steps s r t → In (Tail c) r.note.writes → WritesGate r ⊎ IntoBuffer r
  tail_by s t r h i =
      let w = ends.by_table s (Tail c) (λ e. cc) (λ n e. cc) (λ d e. cc) (λ d n e. cc) r.event r.note.kind
      (subst (In (Tail c)) (touched_as p s r.event t r.note h).written i) in
      elim w.2.1 [
        | inl out ↦ inr (record { on = w.1 ∙ ap Some out.0 ∙ ap (λ d. Some (sends_on d)) (sym (tail_name w.2.0 out.2)); kind = out.1 })
        | inr got ↦ elim got.2 [
          | inl e ↦ absurd (let q : Tail c ≡ Head w.2.0 = e in cc)
          | inr other ↦
              let is = tail_name w.2.0 other.0 in
              let some : senders_at (s.gates c) ≡ [] → ⊥ = subst (λ d. senders_at (s.gates d) ≡ [] → ⊥) (sym is) other.1 in
              elim (by_taken s t r h (w.1 ∙ ap Some got.0 ∙ ap (λ d. Some (receives_from d)) (sym is)) got.1 (senders_at (s.gates c)) refl) [
                | inl g ↦ inl g
                | inr b ↦ absurd (some b.none_waits)
              ]
        ]
      ]

  -- a step that hands nothing over adds nothing to what is handed over
  handed_push : (front : List (Logged p)) (r : Logged p) → over r ≡ false → handed p c (front ++ r ∷ []) ≡ handed p c front
  handed_push front r f =
      let whole = handed_append front (r ∷ []) in
      let last : handed p c (r ∷ []) ≡ 0 = rw f refl in
      omega arith

  -- with which steps a receive is complete, and with which a send
  at_receive : (front : List (Logged p)) (s t : State) (r : Logged p) (k : ℕ) → Steps s r t
      → received p c front s < k → k ≤ received p c (front ++ r ∷ []) t
      → WritesGate r ⊎ (FromBuffer s r × (t.heads c ≡ s.heads c + 1) × (over r ≡ false))
  at_receive front s t r k h before now = elim (true_or_false (over r)) [
    | inl o ↦ inl (gate_handed s t r h o)
    | inr f ↦ let same_count = handed_push front r f in elim (head_on s t r h) [
      | inl same ↦ absurd (omega arith)
      | inr more ↦ elim (true_or_false (list_any (same (Head c)) r.note.writes)) [
        | inl w ↦ elim (head_by s t r h (any_in same same_is same_self (Head c) r.note.writes w)) [ inl g ↦ inl g | inr b ↦ inr (b, more, f) ]
        | inr n ↦ let still = head_kept s t r h (none_in same same_is same_self (Head c) r.note.writes n) in absurd (omega arith)
      ]
    ]
  ]

  at_send : (front : List (Logged p)) (s t : State) (r : Logged p) (n : ℕ) → Steps s r t
      → sent p c front s < n → n ≤ sent p c (front ++ r ∷ []) t
      → WritesGate r ⊎ (IntoBuffer r × (t.tails c ≡ s.tails c + 1) × (over r ≡ false))
  at_send front s t r n h before now = elim (true_or_false (over r)) [
    | inl o ↦ inl (gate_handed s t r h o)
    | inr f ↦ let same_count = handed_push front r f in elim (tail_on s t r h) [
      | inl same ↦ absurd (omega arith)
      | inr more ↦ elim (true_or_false (list_any (same (Tail c)) r.note.writes)) [
        | inl w ↦ elim (tail_by s t r h (any_in same same_is same_self (Tail c) r.note.writes w)) [ inl g ↦ inl g | inr b ↦ inr (b, more, f) ]
        | inr m ↦ let still = tail_kept s t r h (none_in same same_is same_self (Tail c) r.note.writes m) in absurd (omega arith)
      ]
    ]
  ]

  -- both touch the gate
  abbrev TouchesGate : Logged p → Type 0
  TouchesGate r = In (Gate c) (r.note.reads ++ r.note.writes)

  written_is_touched : (r : Logged p) → WritesGate r → TouchesGate r
  written_is_touched r i = In-append_right (Gate c) r.note.reads r.note.writes i

  gate_read : (s t : State) (r : Logged p) (operation : Operation) (x : Touches) → Steps s r t → r.note.kind.operation ≡ Some operation
      → with_channel s operation r.note.kind.deed ≡ x → In (Gate c) x.reads → TouchesGate r
  gate_read s t r operation x h o e i =
      ((touched_as p s r.event t r.note h).touched (Gate c)).1
      (subst (λ (x : Touches). In (Gate c) (x.reads ++ x.writes)) (sym (row_is s r.event r.note operation o ∙ ap (and_always r.event) e))
      (inr (In-append_left (Gate c) x.reads (Go r.event.go ∷ x.writes) i)))

  receive_touches : (s t : State) (r : Logged p) → Steps s r t → FromBuffer s r → TouchesGate r
  receive_touches s t r h b =
      gate_read s t r (receives_from c) (taken s c []) h b.on
      (ap (with_channel s (receives_from c)) b.kind ∙ ap (taken s c) b.none_waits) (inl refl)

  send_touches : (s t : State) (r : Logged p) → Steps s r t → IntoBuffer r → TouchesGate r
  send_touches s t r h b =
      gate_read s t r (sends_on c) (with_channel s (sends_on c) Buffer) h b.on (ap (with_channel s (sends_on c)) b.kind) (inl refl)

  -- a receive from the buffer, while nobody waits to send, leaves the tail
  receive_leaves_tail : (s t : State) (r : Logged p) → Steps s r t → FromBuffer s r → t.tails c ≡ s.tails c
  receive_leaves_tail s t r h b = tail_kept s t r h (λ i.
      let row : r.note.writes ≡ Go r.event.go ∷ (taken s c []).writes =
      writes_row s t r (receives_from c) h b.on ∙ ap (λ k. Go r.event.go ∷ (with_channel s (receives_from c) k).writes) b.kind
      ∙ ap (λ names. Go r.event.go ∷ (taken s c names).writes) b.none_waits in
      elim (subst (In (Tail c)) row i) [
        | inl e ↦ let q : Tail c ≡ Go r.event.go = e in cc
        | inr j ↦ elim j [
          | inl e ↦ let q : Tail c ≡ Head c = e in cc
          | inr k ↦ let at = slot_is s c (Tail c) _ _ k in let q : Tail c ≡ Slot c at.0 = at.1 in cc
        ]
      ])

  -- some step of a log hands a value over, or none does
  some_handed : (log : List (Logged p)) → ((h : Logged p) × In h log × (over h ≡ true)) ⊎ (handed p c log ≡ 0)
  some_handed [] = inr refl
  some_handed (r ∷ log) = elim (true_or_false (over r)) [
    | inl t ↦ inl (r, inl refl, t)
    | inr f ↦ elim (some_handed log) [
      | inl w ↦ inl (w.0, inr w.1, w.2)
      | inr z ↦ let first = handed_first r log in let none : one_if (over r) ≡ 0 = ap one_if f in inr (omega arith)
    ]
  ]

  step_in : (log : List (Logged p)) (s t : State) (h : Logged p) → Path (machine p) s log t → In h log → (x : State) × (y : State) × Steps x h y
  step_in [] s t h w i = absurd i
  step_in (r ∷ log) s t h w i = elim i [
    | inl e ↦ (s, w.0, subst (λ z. Steps s z w.0) (sym e) w.1.does)
    | inr j ↦ step_in log w.0 t h w.2 j
  ]

  -- the ends of a channel with so many places
  bounds : (x : Option GateContent) (h t : ℕ) (f : ℕ → Option (ℕ × Value)) (places : ℕ) → SoundChannel x h t f → capacity_at x ≡ places → (h ≤ t) × (t ≤ h + places)
  bounds None h t f places sound e = let a = sound.none_left in let b = sound.none_entered in (omega arith, omega arith)
  bounds (Some gate) h t f places sound e = let a = sound.ordered in let b = sound.within in let same : gate.capacity ≡ places = e in (a, omega arith)

-- steps on the way from one to another
on_the_way : {A : Type 0} (front middle behind : List A) (a b h : A) → In h middle
    → Before (front ++ a ∷ (middle ++ b ∷ behind)) a h × Before (front ++ a ∷ (middle ++ b ∷ behind)) h b
on_the_way [] middle behind a b h i =
    (inl (refl, In-append_left h middle (b ∷ behind) i), inr (Before-append_across middle (b ∷ behind) h b i (inl refl)))
on_the_way (x ∷ front) middle behind a b h i = let w = on_the_way front middle behind a b h i in (inr w.0, inr w.1)

module _ (p : Program) (c : ChName) (t : State) (log : List (Logged p)) (l : IsRun p log t) (places k : ℕ) (a b : Logged p)
    (A : CompletesReceive p c places k log a) (B : CompletesSend p c places (k + places) log b) where
  -- the step, and the state after it
  stepped_at : (r : Logged p) (at : StandsIn p log r) → Steps p c at.old r at.new
  stepped_at r at =
      let path = path_of (machine p) at.old (r ∷ []) at.new at.step in
      subst (λ (x : State). Steps p c at.old r x) path.2 path.1.does

  run_to : (r : Logged p) (at : StandsIn p log r) → IsRun p (at.front ++ r ∷ []) at.new
  run_to r at = log_push (machine p) (start p) at.front at.old r at.new at.leads at.step

  -- without places nothing is received from a buffer
  no_places : places ≡ 0 → FromBuffer p c A.at.old a → A.at.new.heads c ≡ A.at.old.heads c + 1 → ⊥
  no_places e from more =
      let sound = (reached_sound p A.at.old A.at.front A.at.leads).channels c in
      let before = (bounds p c (A.at.old.gates c) (A.at.old.heads c) (A.at.old.tails c) (A.at.old.slots c) places sound A.places_are).1 in
      let sound_after = (reached_sound p A.at.new (A.at.front ++ a ∷ []) (run_to a A.at)).channels c in
      let after = (bounds p c (A.at.new.gates c) (A.at.new.heads c) (A.at.new.tails c) (A.at.new.slots c) (capacity_at (A.at.new.gates c)) sound_after refl).0 in
      let same_tail = receive_leaves_tail p c A.at.old A.at.new a (stepped_at a A.at) from in
      omega arith

  -- the send is not complete before the receive is
  not_first : (middle : List (Logged p)) → A.at.front ≡ B.at.front ++ b ∷ middle → ⊥
  not_first middle e =
      let front = B.at.front ++ b ∷ [] in
      let same_front : A.at.front ≡ front ++ middle = e ∙ sym (append_assoc B.at.front (b ∷ []) middle) in
      let parts = log_split (machine p) (start p) front middle A.at.old (subst (λ log. IsRun p log A.at.old) same_front A.at.leads) in
      let after = run_to b B.at in
      let here : parts.0 ≡ B.at.new = one_end (machine p) (start p) parts.0 B.at.new front parts.1 after in
      let on : parts.0.tails c ≤ A.at.old.tails c = tails_on p c middle parts.0 A.at.old (path_of (machine p) parts.0 middle A.at.old parts.2) in
      let tails : parts.0.tails c ≡ B.at.new.tails c = ap (λ (x : State). x.tails c) here in
      let count : handed p c A.at.front ≡ handed p c front + handed p c middle = ap (handed p c) same_front ∙ handed_append p c front middle in
      let sound = (reached_sound p A.at.old A.at.front A.at.leads).channels c in
      let within = bounds p c (A.at.old.gates c) (A.at.old.heads c) (A.at.old.tails c) (A.at.old.slots c) places sound A.places_are in
      let most = within.1 in
      let received_before = A.not_before in
      let sent_now = B.now in
      omega arith

  module _ (i : ℕ) (at : IsAt log i a) where
    abbrev Goes : Logged p → Type 0
    Goes r = In r (dependents (clash p) log i)

    goes_with : (r s : Logged p) → Before log r s → clash p r s ≡ true → Goes r → Goes s
    goes_with r s before conflict goes = (dependents_are (clash p) log i a (distinct_log p log t l) at).part.closed r s (before, conflict) goes

    itself : Goes a
    itself = (dependents_are (clash p) log i a (distinct_log p log t l) at).has

    module _ (middle : List (Logged p)) (e : B.at.front ≡ A.at.front ++ a ∷ middle) where
      whole : log ≡ A.at.front ++ a ∷ (middle ++ b ∷ B.at.behind)
      whole = B.at.split ∙ ap (λ front. front ++ b ∷ B.at.behind) e ∙ append_assoc A.at.front (a ∷ middle) (b ∷ B.at.behind)

      before : Before log a b
      before = subst (λ log. Before log a b) (sym whole) (before_in A.at.front middle B.at.behind a b)

      -- over a step between them that hands a value over
      over_hand : (h : Logged p) → In h middle → over p c h ≡ true → In (Gate c) (a.note.reads ++ a.note.writes) → In (Gate c) (b.note.reads ++ b.note.writes) → Goes b
      over_hand h j hands first second =
          let way = on_the_way A.at.front middle B.at.behind a b h j in
          let known = subst (λ log. Before log a h × Before log h b) (sym whole) way in
          let step = step_in p c log (start p) t h (path_of (machine p) (start p) log t l) (Before-right log a h known.0) in
          let gate = gate_handed p c step.0 step.1 h step.2 hands in
          goes_with h b known.1 (by_object p h b (Gate c) gate second) (goes_with a h known.0 (turned p h a (by_object p h a (Gate c) gate first)) itself)

      -- or in the slot of the value
      in_slot : (m : ℕ) → places ≡ m → FromBuffer p c A.at.old a → IntoBuffer p c b → A.at.new.heads c ≡ A.at.old.heads c + 1
          → B.at.old.tails c ≡ A.at.old.heads c + places → Goes b
      in_slot zero e from into more numbers = absurd (no_places e from more)
      in_slot (suc m) e from into more numbers =
          goes_with a b before
          (ordered_clash p A.at.old A.at.new B.at.old B.at.new a b (stepped_at a A.at) (stepped_at b B.at)
          (made_room c m (A.at.old.heads c)
          (record { on = from.on; kind = from.kind; places_are = A.places_are ∙ e; number_is = refl })
          (record { on = into.on; kind = into.kind; places_are = B.places_are ∙ e; number_is = numbers ∙ ap (λ k. A.at.old.heads c + k) e }))) itself

      between : Goes b
      between = elim (at_receive p c A.at.front A.at.old A.at.new a k (stepped_at a A.at) A.not_before A.now) [
        | inl gate ↦ elim (at_send p c B.at.front B.at.old B.at.new b (k + places) (stepped_at b B.at) B.not_before B.now) [
          | inl other ↦ goes_with a b before (by_object p a b (Gate c) gate (written_is_touched p c b other)) itself
          | inr into ↦ goes_with a b before (by_object p a b (Gate c) gate (send_touches p c B.at.old B.at.new b (stepped_at b B.at) into.0)) itself
        ]
        | inr from ↦
            let first = receive_touches p c A.at.old A.at.new a (stepped_at a A.at) from.0 in
            elim (at_send p c B.at.front B.at.old B.at.new b (k + places) (stepped_at b B.at) B.not_before B.now) [
              | inl gate ↦ goes_with a b before (turned p b a (by_object p b a (Gate c) gate first)) itself
              | inr into ↦ elim (some_handed p c middle) [
                | inl h ↦ over_hand h.0 h.1 h.2 first (send_touches p c B.at.old B.at.new b (stepped_at b B.at) into.0)
                | inr none ↦
                    let count : handed p c B.at.front ≡ handed p c A.at.front + handed p c (a ∷ middle) = ap (handed p c) e ∙ handed_append p c A.at.front (a ∷ middle) in
                    let own = handed_first p c a middle in
                    let nothing : one_if p c (over p c a) ≡ 0 = ap (one_if p c) from.2 in
                    let more_received = from.1 in
                    let more_sent = into.1 in
                    let after_receive = handed_push p c A.at.front a from.2 in
                    let after_send = handed_push p c B.at.front b into.2 in
                    let r1 = A.not_before in
                    let r2 = A.now in
                    let s1 = B.not_before in
                    let s2 = B.now in
                    in_slot places refl from.0 into.0 from.1 (omega arith)
              ]
            ]
      ]

    pub counted_within : Goes b
    counted_within = by_places (compared A.at.front B.at.front A.at.behind B.at.behind a b (sym A.at.split ∙ B.at.split))
      where
        by_places : Places A.at.front B.at.front a b → Goes b
        by_places (one e f) = subst Goes f itself
        by_places (first_before middle e) = between middle e
        by_places (second_before middle e) = absurd (not_first middle e)
