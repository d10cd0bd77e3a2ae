-- For every machine of objects: a step that keeps within its own object, which no other step touches, may be taken alone.
use Rattle.std.proofs.Common.{◌≡◌, ◌⊎◌, Bool, true, Option, Some, None, option_map, refl, sym, ◌∙◌, ap, subst, inl, inr}
use Rattle.gr_causal.specs.Sequences.{In}
use Rattle.gr_causal.specs.Machine as causal
use Rattle.gr_causal.specs.Machine.{Machine}
use Rattle.gr_causal.proofs.ListLemmas.{some_is, none_not}
use Rattle.gr_causal.proofs.StepLemmas.{which, in_or_not}
use Rattle.gr_search.specs.System.{System, Reached, Passes, Ends, Laws}

module _ (M : Machine) where
  open M use {Object, Cell, State, Event, Note, same, look, put, step, touches, writes}

  -- the state after an event
  abbrev pub after : State → Event → Option State
  after s e = option_map (λ p. p.0) (step s e)

  -- the machine from a state, with what is bad, what is local, and what matters of a state
  abbrev pub system_of : {Matter : Type 0} → State → (State → Type 0) → (State → Event → Bool) → (State → Matter) → System State Event Matter
  system_of start bad local key = record { start = start; next = after; bad = bad; alone = local; key = key }

  -- the step touches nothing but the object that all ask for and its own, and writes nothing but its own
  pub record KeepsWithin (run : Object) (own : Object) (n : Note) : Type 0 where
    pub writes_own : (o : Object) → In o (writes n) → o ≡ own
    pub touches_own : (o : Object) → In o (touches n) → (o ≡ run) ⊎ (o ≡ own)

  -- what is shown of local steps: each event belongs to an object, its own; one object, `run`, is asked for by all
  pub record Locals {Matter : Type 0} (start : State) (bad : State → Type 0) (local : State → Event → Bool) (key : State → Matter) (run : Object) (own : Event → Object) : Type 0 where
    -- a local event is possible, and keeps within its own; nothing is bad yet
    pub goes : (s : State) (a : Event) → Reached (system_of start bad local key) s → local s a ≡ true
        → (t : State) × (n : Note) × (step s a ≡ Some (t, n)) × KeepsWithin run (own a) n
    pub fine : (s : State) (a : Event) → Reached (system_of start bad local key) s → local s a ≡ true → ¬ bad s
    -- whether it is local depends on its own and on `run`
    pub by_looks : (s r : State) (a : Event) → local s a ≡ true → look r run ≡ look s run → look r (own a) ≡ look s (own a) → local r a ≡ true
    -- nothing else of the same owner is possible
    pub alone_there : (s t : State) (n : Note) (a e : Event) → Reached (system_of start bad local key) s → local s a ≡ true → step s e ≡ Some (t, n) → own e ≡ own a → e ≡ a
    -- the others do not touch its own
    pub apart : (s t : State) (n : Note) (a e : Event) → Reached (system_of start bad local key) s → local s a ≡ true → step s e ≡ Some (t, n) → ¬ (own e ≡ own a) → ¬ In (own a) (touches n)
    -- what writes `run` ends all, and is bad by what it wrote there, where it left the own of a local event as it was
    pub ends : (s t : State) (n : Note) (e f : Event) → Reached (system_of start bad local key) s → step s e ≡ Some (t, n) → In run (writes n) → step t f ≡ None
    pub bad_by_run : (s t r : State) (n : Note) (a e : Event) → Reached (system_of start bad local key) s → local s a ≡ true → look t (own a) ≡ look s (own a)
        → step s e ≡ Some (t, n) → In run (writes n) → bad t → look r run ≡ look t run → bad r

  -- states in which the same matters go on alike
  pub record Alike {Matter : Type 0} (start : State) (bad : State → Type 0) (local : State → Event → Bool) (key : State → Matter) : Type 0 where
    pub next : (s r t : State) (e : Event) → Reached (system_of start bad local key) s → Reached (system_of start bad local key) r → key s ≡ key r → after s e ≡ Some t
        → (u : State) × (after r e ≡ Some u) × (key t ≡ key u)
    pub same_bad : (s r : State) → Reached (system_of start bad local key) s → Reached (system_of start bad local key) r → key s ≡ key r → bad s → bad r

module _ (M : Machine) (laws : causal.Laws M) where
  open M use {Object, Cell, State, Event, Note, same, look, put, step, touches, writes}
  open laws use {ext, within, only_writes, local}

  -- what was possible leads to a state with a note
  noted : (s t : State) (e : Event) → after M s e ≡ Some t → (n : Note) × (step s e ≡ Some (t, n))
  noted s t e h = by (step s e) refl h
    where
      by : (o : Option (State × Note)) → step s e ≡ o → option_map (λ p. p.0) o ≡ Some t → (n : Note) × (step s e ≡ Some (t, n))
      by None d g = absurd (none_not _ g)
      by (Some p) d g = (p.1, d ∙ ap (λ x. Some (x, p.1)) (some_is _ _ g))

  -- two events that are possible in one state, of which neither writes what the other touches, lead on to one state
  square : (s t u v w : State) (a e : Event) (n m : Note) → step s a ≡ Some (t, n) → step s e ≡ Some (u, m) → step t e ≡ Some (v, m) → step u a ≡ Some (w, n)
      → ((o : Object) → In o (writes n) → In o (touches m) → ⊥) → ((o : Object) → In o (writes m) → look v o ≡ look u o) → ((o : Object) → In o (writes n) → look w o ≡ look t o) → v ≡ w
  square s t u v w a e n m sa se te ua free ve wa = ext v w (λ o. elim (in_or_not M laws o (writes m)) [
    | inl i ↦ ve o i ∙ sym (only_writes u w a n ua o (λ j. free o j (within s u e m se o i)))
    | inr k ↦ only_writes t v e m te o k ∙ elim (in_or_not M laws o (writes n)) [
      | inl j ↦ sym (wa o j)
      | inr l ↦ only_writes s t a n sa o l ∙ sym (only_writes s u e m se o k) ∙ sym (only_writes u w a n ua o l)
    ]
  ])

  module _ {Matter : Type 0} (start : State) (bad : State → Type 0) (is_local : State → Event → Bool) (key : State → Matter) (run : Object) (own : Event → Object)
      (locals : Locals M start bad is_local key run own) where
    open locals use {goes, fine, by_looks, alone_there, apart, ends, bad_by_run}

    abbrev Y : System State Event Matter
    Y = system_of M start bad is_local key

    next_is : (s t : State) (e : Event) (n : Note) → step s e ≡ Some (t, n) → after M s e ≡ Some t
    next_is s t e n h = ap (option_map (λ p. p.0)) h

    none_is : (s : State) (e : Event) → step s e ≡ None → after M s e ≡ None
    none_is s e h = ap (option_map (λ p. p.0)) h

    -- an event of another owner, after which the run goes on, and one after which it does not
    apart_by : (s t u : State) (a e : Event) (n m : Note) → Reached Y s → is_local s a ≡ true → step s a ≡ Some (t, n) → KeepsWithin M run (own a) n → step s e ≡ Some (u, m)
        → (In (own a) (touches m) → ⊥) → Passes Y a e t u ⊎ Ends Y e t u
    apart_by s t u a e n m r h sa k se off =
        let free : (o : Object) → In o (writes n) → In o (touches m) → ⊥ = λ o i j. off (subst (λ x. In x (touches m)) (k.writes_own o i) j) in
        let away : (o : Object) → In o (touches m) → look t o ≡ look s o = λ o i. only_writes s t a n sa o (λ j. free o j i) in
        let v = local s u e m se t away in
        let mine : look u (own a) ≡ look s (own a) = only_writes s u e m se (own a) (λ j. off (within s u e m se (own a) j)) in
        elim (in_or_not M laws run (writes m)) [
          | inl i ↦ inr (record {
            none = λ f. none_is u f (ends s u m e f r se i);
            also = λ b. (v.0, next_is t v.0 e m v.1, bad_by_run s u v.0 m a e r h mine se i b (v.2 run i));
          })
          | inr i ↦
              let here : look u run ≡ look s run = only_writes s u e m se run i in
              let w = local s t a n sa u (λ o j. elim (k.touches_own o j) [
                | inl q ↦ subst (λ x. look u x ≡ look s x) (sym q) here
                | inr q ↦ subst (λ x. look u x ≡ look s x) (sym q) mine
              ]) in
              let one : v.0 ≡ w.0 = square s t u v.0 w.0 a e n m sa se v.1 w.1 free v.2 w.2 in
              inl (record {
                still = by_looks s u a h here mine;
                both = w.0;
                a_last = next_is u w.0 a n w.1;
                e_last = next_is t v.0 e m v.1 ∙ ap Some one;
              })
        ]

    apart_all : (s t u : State) (a e : Event) → Reached Y s → is_local s a ≡ true → after M s a ≡ Some t → after M s e ≡ Some u → (e ≡ a) ⊎ (Passes Y a e t u ⊎ Ends Y e t u)
    apart_all s t u a e r h sa se =
        let g = goes s a r h in
        let m = noted s u e se in
        let is : g.0 ≡ t = some_is _ _ (sym (next_is s g.0 a g.1 g.2) ∙ sa) in
        elim (which M laws (own e) (own a)) [
          | inl q ↦ inl (alone_there s u m.0 a e r h m.1 q)
          | inr q ↦ inr (apart_by s t u a e g.1 m.0 r h (g.2 ∙ ap (λ x. Some (x, g.1)) is) g.3 m.1 (apart s u m.0 a e r h m.1 q))
        ]

    pub local_laws : Alike M start bad is_local key → Laws Y
    local_laws alike = record {
      alone_goes = λ s a r h. let g = goes s a r h in (g.0, next_is s g.0 a g.1 g.2);
      alone_fine = fine;
      alone_apart = apart_all;
      like_next = alike.next;
      like_bad = alike.same_bad;
    }
