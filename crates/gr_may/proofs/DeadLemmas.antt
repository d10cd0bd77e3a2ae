-- Goroutines that wait, and that only goroutines among them may serve, stay as they are.
use Rattle.std.proofs.Common.{◌≡◌, ◌⊎◌, ℕ, ◌+◌, Bool, true, false, List, [], ◌∷◌, ◌++◌, map, take, Option, Some, None, refl, sym, ◌∙◌, ap, subst, inl, inr}
use Rattle.std.specs.List.{list_any}
use Rattle.std.proofs.lemmas.Bool.{cases_Bool}
use Rattle.std.proofs.lemmas.Option.{none-some}
use Rattle.gr_base.specs.declared.names.ChName.{ChName}
use Rattle.gr_base.specs.declared.values.Value.{Value}
use Rattle.gr_base.specs.declared.events.Event.{Event}
use Rattle.gr_base.specs.declared.kinds.Kind.{Kind}
use Rattle.gr_base.specs.declared.kinds.Kind.TheVariants as kinds
use Rattle.gr_base.specs.declared.objects.Object.{Object}
use Rattle.gr_base.specs.declared.objects.Object.TheVariants.{Go, Gate}
use Rattle.gr_causal.specs.Rules.{Note}
use Rattle.gr_causal.specs.Sequences.{In}
use Rattle.gr_causal.proofs.ListLemmas.{true_or_false, In-append_cases, In-of_map}
use Rattle.gr_causal.proofs.PathLemmas.{Path}
use Rattle.gr_channels.specs.declared.waiter.Waiter.{Waiter}
use Rattle.gr_channels.specs.Objects.{GateContent}
use Rattle.gr_program.specs.Programs.{Program}
use Rattle.gr_rules.specs.Goroutines.{Wait, ToSend, ToReceive, channel_of, Status, waiting, Goroutine}
use Rattle.gr_rules.specs.States.{Run, live, ended, faulted, Cell, go_has, State, same_go}
use Rattle.gr_rules.specs.Attempts.{Refusal, Operation, sends_on, receives_from, takes_len_of, takes_cap_of, closes, Report}
use Rattle.gr_rules.specs.Communications.{once}
use Rattle.gr_rules.specs.Steps.{machine, refusal}
use Rattle.gr_rules.specs.Touches.{senders_at, receivers_at, slot_numbered, slot_at_head, woken, waits_at, taken, with_channel, without_channel, row, table}
use Rattle.gr_laws.specs.Reached.{Logged}
use Rattle.gr_laws.specs.Soundness.{Sound, SoundWaits, Stands}
use Rattle.gr_laws.proofs.AttemptTouches.{touched_as}
use Rattle.gr_laws.proofs.CellLemmas.{go_name, machine_laws}
use Rattle.gr_laws.proofs.ReasonLemmas.{if_over, if_unknown, if_waits}
use Rattle.gr_laws.proofs.RefusalLemmas.{refused_is_no_step}
use Rattle.gr_laws.proofs.RuleSound.{after_sound}
use Rattle.gr_laws.proofs.RuleWaits.{stepped}
use Rattle.gr_laws.proofs.TouchedLemmas.{slot_is}
use Rattle.gr_may.specs.Uses.{to_close, Usage}
use Rattle.gr_may.specs.Dead.{answer, MayServe, WaitsFor, AreDead}
use Rattle.gr_may.proofs.FitAttempts.{OperationFits, Begins}
use Rattle.gr_may.proofs.FitRuns.{Within, step_within}

go_no_gate : (g : List ℕ) (c : ChName) → Go g ≡ Gate c → ⊥
go_no_gate g c e = cc

in_once : (ns : List (List ℕ)) (n : List ℕ) → In n (once ns) → In n ns
in_once [] n i = i
in_once (m ∷ ns) n i = elim (true_or_false (list_any (same_go m) ns)) [
  | inl t ↦ inr (in_once ns n (rw t at i))
  | inr f ↦ elim (rw f at i) [ inl e ↦ inl e | inr k ↦ inr (in_once ns n k) ]
]

in_first : (ns : List (List ℕ)) (n : List ℕ) → In n (take 1 ns) → In n ns
in_first [] n i = i
in_first (m ∷ ns) n i = elim i [ inl e ↦ inl e | inr j ↦ absurd j ]

-- The step of another that writes a goroutine serves it, or starts it.
module _ (s : State) (g : List ℕ) where
  -- what the operation with the channel ends of what the goroutine waits for
  abbrev pub Ends : Operation → Type 0
  Ends (sends_on c) = In g (receivers_at (s.gates c))
  Ends (receives_from c) = In g (senders_at (s.gates c))
  Ends (closes c) = In g (senders_at (s.gates c)) ⊎ In g (receivers_at (s.gates c))
  Ends _ = ⊥

  among_names : (names : List (List ℕ)) → In (Go g) (map Go names) → In g names
  among_names names i = let k = In-of_map Go (Go g) names i in subst (λ n. In n names) (sym (go_name g k.0 k.2)) k.1

  among_gates : (cs : List ChName) → In (Go g) (map Gate cs) → ⊥
  among_gates cs i = let k = In-of_map Gate (Go g) cs i in go_no_gate g k.0 k.2

  among_woken : (c : ChName) (names : List (List ℕ)) → In (Go g) (woken s c names) → In g names
  among_woken c names i = elim (In-append_cases (Go g) (map Go names) _ i) [ inl j ↦ among_names names j | inr j ↦ absurd (among_gates _ j) ]

  no_slot : (c : ChName) (k n : ℕ) → In (Go g) (slot_numbered c k n) → ⊥
  no_slot c k n i = let at = slot_is s c (Go g) k n i in let e = at.1 in cc

  by_taken : (c : ChName) (names : List (List ℕ)) → senders_at (s.gates c) ≡ names → In (Go g) (taken s c names).writes → In g (senders_at (s.gates c))
  by_taken c [] at i = elim i [ inl e ↦ absurd cc | inr j ↦ absurd (no_slot c _ _ j) ]
  by_taken c (n ∷ ns) at i = elim i [
    | inl e ↦ absurd cc
    | inr j ↦ elim j [
      | inl e ↦ absurd cc
      | inr j ↦ elim j [
        | inl e ↦ absurd cc
        | inr j ↦ elim (In-append_cases (Go g) (slot_at_head s c) (woken s c (n ∷ [])) j) [
          | inl j ↦ absurd (no_slot c _ _ j)
          | inr j ↦ subst (In g) (sym at) (in_first (n ∷ ns) g (among_woken c (n ∷ []) j))
        ]
      ]
    ]
  ]

  by_gate : {P : Type 0} (c : ChName) (names : List (List ℕ)) → In (Go g) (Gate c ∷ woken s c names) → (In g names → P) → P
  by_gate c names i k = elim i [ inl e ↦ absurd (go_no_gate g c e) | inr j ↦ k (among_woken c names j) ]

  gate_alone : {P : Type 0} (c : ChName) → In (Go g) (Gate c ∷ []) → P
  gate_alone c i = elim i [ inl e ↦ absurd (go_no_gate g c e) | inr j ↦ absurd j ]

  by_channel : (operation : Operation) (k : Kind) → In (Go g) (with_channel s operation k).writes → Ends operation
  by_channel (sends_on c) kinds.Hand i = by_gate c _ i (λ j. in_first (receivers_at (s.gates c)) g j)
  by_channel (sends_on c) kinds.Buffer i = elim i [ inl e ↦ absurd cc | inr j ↦ absurd (no_slot c _ _ j) ]
  by_channel (sends_on c) kinds.SendWait i = gate_alone c i
  by_channel (sends_on c) (kinds.Fault f) i = elim i [ inl e ↦ absurd cc | inr j ↦ absurd j ]
  by_channel (sends_on c) _ i = absurd i
  by_channel (receives_from c) kinds.Take i = by_taken c (senders_at (s.gates c)) refl i
  by_channel (receives_from c) kinds.Meet i = by_gate c _ i (λ j. in_first (senders_at (s.gates c)) g j)
  by_channel (receives_from c) kinds.RecvWait i = gate_alone c i
  by_channel (receives_from c) _ i = absurd i
  by_channel (takes_len_of c) kinds.Length i = absurd i
  by_channel (takes_len_of c) _ i = absurd i
  by_channel (takes_cap_of c) kinds.Length i = absurd i
  by_channel (takes_cap_of c) _ i = absurd i
  by_channel (closes c) kinds.Close i =
      by_gate c _ i (λ j. In-append_cases g (senders_at (s.gates c)) (receivers_at (s.gates c)) (in_once (senders_at (s.gates c) ++ receivers_at (s.gates c)) g j))
  by_channel (closes c) (kinds.Fault f) i = elim i [ inl e ↦ absurd cc | inr j ↦ absurd j ]
  by_channel (closes c) _ i = absurd i

  -- it is the child that the step starts
  abbrev pub Started : Event → Goroutine → Kind → Type 0
  Started e x k = (k ≡ kinds.Go) × (g ≡ e.go ++ (x.children + 1) ∷ [])

  by_itself : (e : Event) (x : Goroutine) (k : Kind) → In (Go g) (without_channel s e x k).writes → Started e x k
  by_itself e x kinds.Go i = elim i [ inl q ↦ (refl, go_name g _ q) | inr j ↦ absurd j ]
  by_itself e x kinds.Make i = gate_alone _ i
  by_itself e x kinds.Default i = absurd i
  by_itself e x kinds.SelectWait i = absurd (among_gates _ i)
  by_itself e x kinds.Exit i = elim i [ inl q ↦ absurd cc | inr j ↦ absurd j ]
  by_itself e x (kinds.Fault f) i = elim i [ inl q ↦ absurd cc | inr j ↦ absurd j ]
  by_itself e x _ i = absurd i

  abbrev pub Meant : Event → Report → Type 0
  Meant e r = ((operation : Operation) × (r.operation ≡ Some operation) × Ends operation)
      ⊎ ((x : Goroutine) × (s.goroutines e.go ≡ Some x) × Started e x r.deed)

  by_row : (e : Event) (r : Report) (x : Option Goroutine) (o : Option Operation) → s.goroutines e.go ≡ x → r.operation ≡ o → In (Go g) (row s e r x o).writes
      → Meant e r
  by_row e r x (Some operation) h at i = inl (operation, at, by_channel operation r.deed i)
  by_row e r (Some x) None h at i = inr (x, h, by_itself e x r.deed i)
  by_row e r None None h at i = absurd i

  pub written_by : (e : Event) (r : Report) → (g ≡ e.go → ⊥) → In (Go g) (table s e r).writes → Meant e r
  written_by e r other i = elim i [ inl q ↦ absurd (other (go_name g e.go q)) | inr j ↦ by_row e r (s.goroutines e.go) r.operation refl refl j ]

-- who stands in a queue waits for the channel
module _ (s : State) (waits : SoundWaits s) where
  sender_of : (n : List ℕ) (c : ChName) (ws : List (Waiter Value)) → In n (map (λ w. w.go) ws) → (w : Waiter Value) × In w ws × (n ≡ w.go)
  sender_of n c ws i = In-of_map (λ (w : Waiter Value). w.go) n ws i

  pub sender_waits : (n : List ℕ) (c : ChName) → In n (senders_at (s.gates c)) → (clause : Option ℕ) × In (ToSend c clause) (waits_at (s.goroutines n))
  sender_waits n c i = by_gate (s.gates c) refl i
    where
      by_gate : (x : Option GateContent) → s.gates c ≡ x → In n (senders_at x) → (clause : Option ℕ) × In (ToSend c clause) (waits_at (s.goroutines n))
      by_gate None e i = absurd i
      by_gate (Some gate) e i =
          let w = In-of_map (λ (w : Waiter Value). w.go) n gate.senders i in
          let stands : Stands (Some gate) n (ToSend c w.0.case) = (w.0, w.1, sym w.2, refl) in
          (w.0.case, (waits n (ToSend c w.0.case)).1 (subst (λ o. Stands o n (ToSend c w.0.case)) (sym e) stands))

  pub receiver_waits : (n : List ℕ) (c : ChName) → In n (receivers_at (s.gates c)) → (clause : Option ℕ) × In (ToReceive c clause) (waits_at (s.goroutines n))
  receiver_waits n c i = by_gate (s.gates c) refl i
    where
      by_gate : (x : Option GateContent) → s.gates c ≡ x → In n (receivers_at x) → (clause : Option ℕ) × In (ToReceive c clause) (waits_at (s.goroutines n))
      by_gate None e i = absurd i
      by_gate (Some gate) e i =
          let w = In-of_map (λ (w : Waiter (Unit {0})). w.go) n gate.receivers i in
          let stands : Stands (Some gate) n (ToReceive c w.0.case) = (w.0, w.1, sym w.2, refl) in
          (w.0.case, (waits n (ToReceive c w.0.case)).1 (subst (λ o. Stands o n (ToReceive c w.0.case)) (sym e) stands))

  -- an operation that ends a wait serves it
  pub serves : (p : Program) (usage : Usage) (m n : List ℕ) (operation : Operation) → OperationFits p usage m (Some operation) → Ends s n operation
      → (w : Wait) × In w (waits_at (s.goroutines n)) × MayServe usage m w
  serves p usage m n (sends_on c) o i = let w = receiver_waits n c i in (ToReceive c w.0, w.1, inl o)
  serves p usage m n (receives_from c) o i = let w = sender_waits n c i in (ToSend c w.0, w.1, inl o)
  serves p usage m n (closes c) o (inl i) = let w = sender_waits n c i in (ToSend c w.0, w.1, inr o)
  serves p usage m n (closes c) o (inr i) = let w = receiver_waits n c i in (ToReceive c w.0, w.1, inr o)
  serves p usage m n (takes_len_of c) o i = absurd i
  serves p usage m n (takes_cap_of c) o i = absurd i

waits_are : (s : State) (n : List ℕ) (ws : List Wait) → WaitsFor s n ws → waits_at (s.goroutines n) ≡ ws
waits_are s n ws w = ap waits_at w.1 ∙ ap (λ (status : Status). elim status [ waiting ws ↦ ws | _ ↦ [] ]) w.2

module _ (p : Program) (s t : State) (e : Event) (n : Note Object Report) (does : (machine p).step s e ≡ Some (t, n)) where
  not_refused : {r : Refusal} → refusal p s e ≡ Some r → ⊥
  not_refused {r} d = none-some _ (sym ((refused_is_no_step p s e).1 (r, d)) ∙ does)

  it_runs : s.run ≡ live
  it_runs = by_run s.run refl
    where
      by_run : (r : Run) → s.run ≡ r → s.run ≡ live
      by_run live l = l
      by_run ended l = absurd (not_refused (if_over p s e (λ k. let f : ended ≡ live = sym l ∙ k in cc)))
      by_run (faulted f) l = absurd (not_refused (if_over p s e (λ k. let d : faulted f ≡ live = sym l ∙ k in cc)))

  actor_there : (g : Goroutine) × (s.goroutines e.go ≡ Some g)
  actor_there = by_go (s.goroutines e.go) refl
    where
      by_go : (x : Option Goroutine) → s.goroutines e.go ≡ x → (g : Goroutine) × (s.goroutines e.go ≡ Some g)
      by_go None at = absurd (not_refused (if_unknown p s e (it_runs, at)))
      by_go (Some g) at = (g, at)

  no_waiter : (ws : List Wait) → WaitsFor s e.go ws → ⊥
  no_waiter ws w = not_refused (if_waits p s e ws (record { runs = it_runs; goroutine = w.0; here = w.1; has = w.2 }))

module _ (p : Program) (usage : Usage) (dead : List ℕ → Bool) where
  -- One step.
  module _ (s t : State) (e : Event) (n : Note Object Report) (are : AreDead p usage s dead) (sound : Sound s) (waits : SoundWaits s)
      (does : (machine p).step s e ≡ Some (t, n)) where
    within : Within p usage s t e n
    within = step_within p usage s are.covers sound e t n does

    pub acts_alive : dead e.go ≡ false
    acts_alive = elim (cases_Bool (dead e.go)) [
      | inl d ↦ let w = are.wait e.go d in absurd (no_waiter p s t e n does w.0 w.1)
      | inr d ↦ d
    ]

    same_unless : (m : List ℕ) → (In (Go m) n.writes → ⊥) → t.goroutines m ≡ s.goroutines m
    same_unless m h = let q = (machine_laws p).only_writes s t e n does (Go m) h in ap here q
      where
        here : Cell → Option Goroutine
        here x = elim x [ go_has n g ↦ g | _ ↦ None ]

    written : (m : List ℕ) → (m ≡ e.go → ⊥) → In (Go m) n.writes → Meant s m e n.kind
    written m other i = written_by s m e n.kind other (subst (In (Go m)) (touched_as p s e t n does).written i)

    -- no dead one is served
    unserved : (m : List ℕ) (ws : List Wait) → dead m ≡ true → WaitsFor s m ws → In (Go m) n.writes → ⊥
    unserved m ws d w i = elim (written m (λ q. let f : true ≡ false = sym d ∙ ap dead q ∙ acts_alive in cc) i) [
      | inl o ↦
          let fits : OperationFits p usage e.go (Some o.0) = subst (OperationFits p usage e.go) o.1 within.operation in
          let k = serves s waits p usage e.go m o.0 fits o.2 in
          let actor = actor_there p s t e n does in
          are.alone m ws k.0 e.go actor.0 d w (subst (In k.0) (waits_are s m ws w) k.1) actor.1 acts_alive k.2
      | inr x ↦
          let new : s.goroutines (e.go ++ (x.0.children + 1) ∷ []) ≡ None = (subst (Begins p usage s e.go) x.2.0 within.begins) x.0 x.1 in
          none-some _ (sym new ∙ ap s.goroutines (sym x.2.1) ∙ w.1)
    ]

    pub stays : (m : List ℕ) → dead m ≡ true → t.goroutines m ≡ s.goroutines m
    stays m d = let w = are.wait m d in same_unless m (unserved m w.0 d w.1)

    -- one that is there after the step was there, or was started by one that may do as much
    server_was : (m : List ℕ) (w : Wait) (x : Option Goroutine) → s.goroutines m ≡ x → (t.goroutines m ≡ None → ⊥)
        → ((g : Goroutine) → s.goroutines m ≡ Some g → MayServe usage m w → ⊥) → (MayServe usage e.go w → ⊥) → MayServe usage m w → ⊥
    server_was m w (Some g) at there known actor k = known g at k
    server_was m w None at there known actor k = there (same_unless m began ∙ at)
      where
        no_waits : (v : Wait) → In v (waits_at (s.goroutines m)) → ⊥
        no_waits v i = let j : In v (waits_at None) = subst (λ o. In v (waits_at o)) at i in j

        began : In (Go m) n.writes → ⊥
        began i = elim (written m (λ q. let there = actor_there p s t e n does in none-some _ (sym at ∙ ap s.goroutines q ∙ there.1)) i) [
          | inl o ↦
              let fits : OperationFits p usage e.go (Some o.0) = subst (OperationFits p usage e.go) o.1 within.operation in
              let k = serves s waits p usage e.go m o.0 fits o.2 in no_waits k.0 k.1
          | inr x ↦
              let same : usage.permits m ≡ usage.permits e.go =
              ap usage.permits x.2.1 ∙ are.covers.unstarted e.go (x.0.children + 1) (sym (ap s.goroutines x.2.1) ∙ at) in
              actor (subst (λ f. (f (channel_of w) (answer w) ≡ true) ⊎ (f (channel_of w) to_close ≡ true)) same k)
        ]

    waits_as_before : (m : List ℕ) (ws : List Wait) → dead m ≡ true → WaitsFor t m ws → WaitsFor s m ws
    waits_as_before m ws d w = (w.0, sym (stays m d) ∙ w.1, w.2)

    pub still_dead : AreDead p usage t dead
    still_dead = record {
      covers = within.covers;
      wait = λ m d. let w = are.wait m d in (w.0, (w.1.0, stays m d ∙ w.1.1, w.1.2));
      alone = λ m ws w l g d for i at alive.
          let before = waits_as_before m ws d for in
          let actor = actor_there p s t e n does in
          server_was l w (s.goroutines l) refl (λ q. none-some _ (sym q ∙ at))
          (λ x here. are.alone m ws w l x d before i here alive)
          (are.alone m ws w e.go actor.0 d before i actor.1 acts_alive);
    }

  -- Runs.
  pub none_acts : (s t : State) (steps : List (Logged p)) (r : Logged p) → AreDead p usage s dead → Sound s → SoundWaits s → Path (machine p) s steps t → In r steps
      → dead r.event.go ≡ false
  none_acts s t [] r are sound waits w i = absurd i
  none_acts s t (q ∷ qs) r are sound waits w (inl e) =
      ap (λ (q : Logged p). dead q.event.go) e ∙ acts_alive s w.0 q.event q.note are sound waits w.1.does
  none_acts s t (q ∷ qs) r are sound waits w (inr i) =
      none_acts w.0 t qs r (still_dead s w.0 q.event q.note are sound waits w.1.does) (after_sound p s sound q.event w.0 q.note w.1.does)
      (stepped p s sound waits q.event w.0 q.note w.1.does).0 w.2 i

  pub all_stay : (s t : State) (steps : List (Logged p)) (m : List ℕ) → AreDead p usage s dead → Sound s → SoundWaits s → Path (machine p) s steps t → dead m ≡ true
      → t.goroutines m ≡ s.goroutines m
  all_stay s t [] m are sound waits w d = ap (λ (s : State). s.goroutines m) (sym w)
  all_stay s t (q ∷ qs) m are sound waits w d =
      all_stay w.0 t qs m (still_dead s w.0 q.event q.note are sound waits w.1.does) (after_sound p s sound q.event w.0 q.note w.1.does)
      (stepped p s sound waits q.event w.0 q.note w.1.does).0 w.2 d ∙ stays s w.0 q.event q.note are sound waits w.1.does m d

  pub dead_later : (s t : State) (steps : List (Logged p)) → AreDead p usage s dead → Sound s → SoundWaits s → Path (machine p) s steps t → AreDead p usage t dead
  dead_later s t [] are sound waits w = subst (λ s. AreDead p usage s dead) w are
  dead_later s t (q ∷ qs) are sound waits w =
      dead_later w.0 t qs (still_dead s w.0 q.event q.note are sound waits w.1.does) (after_sound p s sound q.event w.0 q.note w.1.does)
      (stepped p s sound waits q.event w.0 q.note w.1.does).0 w.2
