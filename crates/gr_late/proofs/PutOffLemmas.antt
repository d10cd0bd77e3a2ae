-- A wait of a goroutine can be put off until after a step of another.
use Rattle.std.proofs.Common.{fold, ◌≡◌, ◌⊎◌, ◌<◌, ℕ, zero, suc, ◌+◌, ◌%◌, ◌==◌, Bool, true, false, ◌&&◌, not, is_none, is_some, if◌then◌else◌, List, [], ◌∷◌, ◌++◌, map, Option, Some, None, option_map, refl, sym, ◌∙◌, ap, subst, inl, inr, arith}
use Rattle.std.proofs.Math.Nat.{add-mod_right}
use Rattle.gr_base.specs.declared.names.ChName.{ChName}
use Rattle.gr_base.specs.declared.values.Value.{Value}
use Rattle.gr_base.specs.declared.events.Event.{Event}
use Rattle.gr_base.specs.declared.objects.Object.{Object}
use Rattle.gr_causal.specs.Sequences.{In}
use Rattle.gr_causal.specs.Rules.{Plan, plan, carried}
use Rattle.gr_causal.proofs.ListLemmas.{some_is, none_not, In-append_left}
use Rattle.gr_channels.specs.declared.waiter.Waiter.{Waiter}
use Rattle.gr_channels.specs.Objects.{GateContent}
use Rattle.gr_program.specs.Programs.{Program}
use Rattle.gr_rules.specs.Outcomes.{Outcome}
use Rattle.gr_rules.specs.Frames.{Frame}
use Rattle.gr_rules.specs.Deeds.{Communication, Sending, Receiving, Otherwise}
use Rattle.gr_rules.specs.Goroutines.{Wait, ToSend, ToReceive, Status, waiting, Goroutine}
use Rattle.gr_rules.specs.States.{Run, live, same_go, Cell, go_has, State, object_of, put}
use Rattle.gr_rules.specs.Attempts.{Report, rule_of}
use Rattle.gr_rules.specs.Communications.{all_waits}
use Rattle.gr_rules.specs.Steps.{machine, rulebook, attempt}
use Rattle.gr_rules.specs.Touches.{waits_at}
use Rattle.gr_laws.specs.Reached.{Reached}
use Rattle.gr_laws.specs.Soundness.{SoundBuffer, SoundChannel, Sound, made_by, Stands as StandsIn, SoundWaits}
use Rattle.gr_laws.proofs.CellLemmas.{no_truth, go_self, updated_here}
use Rattle.gr_laws.proofs.RuleSound.{reached_sound}
use Rattle.gr_laws.proofs.RuleWaits.{reached_waits}
use Rattle.gr_record.specs.Running.{IsChecked}
use Rattle.gr_search.specs.System as system
use Rattle.gr_search.specs.Late.{IsWait, late_next, comes, undone, PutsOff}
use Rattle.gr_search.proofs.Safe.{reached_next}
use Rattle.gr_search.proofs.LateSteps.{Goes, takes, goes_late, meets_late}
use Rattle.gr_schedules.specs.Matters.{matter}
use Rattle.gr_schedules.specs.Schedules.{Origin, next_state, schedules}
use Rattle.gr_schedules.proofs.AloneLemmas.{run_written}
use Rattle.gr_schedules.proofs.SystemLaws.{reached_by}
use Rattle.gr_late.specs.Waiting.{waits_in, is_waiting}
use Rattle.gr_late.proofs.WaitLemmas.{waits_as, by_looks, still}
use Rattle.gr_late.proofs.SideAttempts.{Idle, AllIdle, for_nothing, up_calm}
use Rattle.gr_late.proofs.SideEvents.{Stands, Waited, in_one, in_many, WaitedAt, attempt_sides}
use Rattle.gr_late.proofs.SideLemmas.{why_waits, other_ready, plan_sides, one_sided}
use Rattle.gr_late.proofs.OffAttempts.{NoneOf, other_go, joined, parked, all_parked, own_kept, gates_keep, Other, OffPlan, off_plan}
use Rattle.gr_late.proofs.OffRules.{NextFresh, attempt_two}
use Rattle.gr_late.proofs.AgainLemmas.{sends, receives, sends_mine, receives_mine, WaitsOn, no_sends, no_receives, there, comms_of, left_by, again, idle_of}

none_of : {X : Type 0} (name : List ℕ) (ws : List (Waiter X)) → ((w : Waiter X) → In w ws → w.go ≡ name → ⊥) → NoneOf name ws
none_of name [] h = tt
none_of name (w ∷ ws) h = (h w (inl refl), none_of name ws (λ x i. h x (inr i)))

-- a planned step
record Planned (p : Program) (s : State) (e : Event) (t : State) : Type 0 where
  plan_is : Plan Object Cell Report
  planned : plan (rulebook p) s (rule_of (attempt p e)) ≡ Some plan_is
  to : fold put s plan_is.cells ≡ t

planned_by : (p : Program) (s t : State) (e : Event) → next_state p s e ≡ Some t → Planned p s e t
planned_by p s t e h = by (plan (rulebook p) s (rule_of (attempt p e))) refl h
  where
    by : (o : Option (Plan Object Cell Report)) → plan (rulebook p) s (rule_of (attempt p e)) ≡ o → option_map (λ r. r.0) (carried (rulebook p) s o) ≡ Some t → Planned p s e t
    by None d g = absurd (none_not _ g)
    by (Some x) d g = record { plan_is = x; planned = d; to = some_is _ _ g }

waits_is : (g : Goroutine) (ws : List Wait) (o : Option Goroutine) → o ≡ Some g → g.status ≡ waiting ws → waits_at o ≡ ws
waits_is g ws o e h = ap waits_at e ∙ ap (λ (x : Status). elim x [ waiting ws ↦ ws | _ ↦ [] ]) h

-- a full buffer has no room, and an empty one no item
full_room : (gate : GateContent) (head tail : ℕ) (slots : ℕ → Option (ℕ × Value)) → SoundBuffer gate head tail slots → tail ≡ head + gate.capacity
    → (not (gate.capacity == 0) && is_none (slots (tail % gate.capacity))) ≡ false
full_room gate head tail slots b full = by (gate.capacity == 0) refl
  where
    positive : (n : ℕ) → (n == 0) ≡ false → 0 < n
    positive zero e = absurd (no_truth (sym e))
    positive (suc n) e = omega arith

    by : (z : Bool) → (gate.capacity == 0) ≡ z → (not z && is_none (slots (tail % gate.capacity))) ≡ false
    by true e = refl
    by false e =
        let more = positive gate.capacity e in
        let here : head % gate.capacity ≡ tail % gate.capacity = sym (ap (λ n. n % gate.capacity) full ∙ add-mod_right head gate.capacity) in
        let held = (b.holds (tail % gate.capacity) head).1 (omega arith, omega (arith, full, more), here) in
        ap is_none held.1

empty_item : (gate : GateContent) (head tail : ℕ) (slots : ℕ → Option (ℕ × Value)) → SoundBuffer gate head tail slots → tail ≡ head
    → (not (gate.capacity == 0) && is_some (slots (head % gate.capacity))) ≡ false
empty_item gate head tail slots b empty = by (gate.capacity == 0) (slots (head % gate.capacity)) refl
  where
    by : (z : Bool) (o : Option (ℕ × Value)) → slots (head % gate.capacity) ≡ o → (not z && is_some o) ≡ false
    by true o e = refl
    by false None e = refl
    by false (Some x) e = absurd (let h = (b.holds (head % gate.capacity) x.0).0 (x.1, e) in let a = h.0 in let c = h.1 in omega (arith, a, c, empty))

-- it waits in one state as in another
waited_there : (s u : State) (w : Event) (f : Frame) (wt : Waited s w f) → AllIdle u (comms_of wt) → (there : Waited u w f) × (comms_of there ≡ comms_of wt)
waited_there s u w f (in_one x c d t i) idle = (in_one x c d t idle.0, refl)
waited_there s u w f (in_many cs vs c d none v i) idle = (in_many cs vs c d none v idle, refl)

waits_true : (s : State) (w : Event) → is_waiting s w ≡ true → waits_in (s.goroutines w.go) ≡ true
waits_true s w h =
    let x = waits_as s w h in
    ap waits_in x.status.here ∙ ap (λ (x : Status). elim x [ waiting ws ↦ true | _ ↦ false ]) x.status.has

not_both : (b : Bool) → b ≡ true → b ≡ false → ⊥
not_both b h g = cc

module _ (o : Origin) (checked : IsChecked o.program) where
  abbrev p : Program
  p = o.program

  -- how a goroutine comes to wait
  waited_of : (s m : State) (w : Event) → IsWait (schedules o) is_waiting s w m → WaitedAt s w
  waited_of s m w i =
      let k = planned_by p s m w i.goes in
      let h = waits_as m w i.then_waits in
      let waits : waits_in (m.goroutines w.go) ≡ true = ap waits_in h.status.here ∙ ap (λ (x : Status). elim x [ waiting ws ↦ true | _ ↦ false ]) h.status.has in
      why_waits s w.go (WaitedAt s w) k.plan_is.cells (plan_sides s w.go (WaitedAt s w) (attempt p w) p k.plan_is (attempt_sides p s w) k.planned)
      (ap (λ (x : State). waits_in (x.goroutines w.go)) k.to ∙ waits)

  module _ (s : State) (w : Event) (reached : Reached p s) (wa : WaitedAt s w) where
    abbrev st : Stands s w
    st = wa.stands

    abbrev ws : List (Option ℕ × Communication)
    ws = comms_of wa.waited

    abbrev left : Goroutine
    left = left_by st.goroutine ws

    -- the state in which it waits at the end of its queues
    abbrev with_it : State → State
    with_it = parked w.go left (sends w.go ws) (receives w.go ws)

    -- where it is ready it stands in no queue
    nowhere_in : (u : State) → SoundWaits u → u.goroutines w.go ≡ Some st.goroutine → (c : ChName) (gate : GateContent) → u.gates c ≡ Some gate → NoneOf w.go gate.senders × NoneOf w.go gate.receivers
    nowhere_in u sound here c gate at =
        let calm : waits_at (u.goroutines w.go) ≡ [] = ap waits_at here ∙ for_nothing (Some st.goroutine) (up_calm st.goroutine st.up) in (
          none_of w.go gate.senders (λ x i e. subst (In (ToSend c x.case)) calm ((sound w.go (ToSend c x.case)).1 (subst (λ g. StandsIn g w.go (ToSend c x.case)) (sym at) (x, i, e, refl)))),
          none_of w.go gate.receivers (λ x i e. subst (In (ToReceive c x.case)) calm ((sound w.go (ToReceive c x.case)).1 (subst (λ g. StandsIn g w.go (ToReceive c x.case)) (sym at) (x, i, e, refl)))),
        )

    made : (c : ChName) → s.gates c ≡ None → (sends w.go ws c ≡ []) × (receives w.go ws c ≡ [])
    made c none =
        let never : WaitsOn w.go c ws → ⊥ = λ x.
        let g = there w.go p s (record { program = p; name = w.go; before = st.goroutine; frame = st.frame; below = st.below }) refl ws (idle_of p s w st st.frame wa.waited) x.0 x.1 in
        none_not g.0 (sym none ∙ ap s.gates (sym x.2) ∙ g.1) in
        (no_sends w.go ws c never, no_receives w.go ws c never)

    fresh : (e : Event) → NextFresh s e.go (s.goroutines e.go)
    fresh e = by (s.goroutines e.go) refl
      where
        sound : Sound s
        sound = reached_sound p s reached.log reached.leads

        by : (x : Option Goroutine) → s.goroutines e.go ≡ x → NextFresh s e.go x
        by None at = tt
        by (Some g) at =
            let many : made_by (s.goroutines e.go) ≡ g.channels = ap made_by at in
            sound.named (record { go = e.go; n = g.channels + 1 }) (omega (arith, many))

    -- Where it has waited and still does, its communications cannot proceed either where it has not yet come.
    module _ (t u : State) (at_t : Reached p t) (at_u : Reached p u) (is : with_it u ≡ t) (here : u.goroutines w.go ≡ Some st.goroutine) where
      waits_t : waits_at (t.goroutines w.go) ≡ all_waits ws
      waits_t = waits_is left (all_waits ws) (t.goroutines w.go) (ap (λ (x : State). x.goroutines w.go) (sym is) ∙ ap (λ b. if b then Some left else u.goroutines w.go) (go_self w.go)) refl

      sound_t : Sound t
      sound_t = reached_sound p t at_t.log at_t.leads

      queues_t : SoundWaits t
      queues_t = reached_waits p t at_t.log at_t.leads

      off : (c : ChName) (gate : GateContent) → u.gates c ≡ Some gate → NoneOf w.go gate.senders × NoneOf w.go gate.receivers
      off = nowhere_in u (reached_waits p u at_u.log at_u.leads) here

      gate_t : (c : ChName) → t.gates c ≡ option_map (joined w.go left (sends w.go ws) (receives w.go ws) c) (u.gates c)
      gate_t c = ap (λ (x : State). x.gates c) (sym is)

      buffer : (c : ChName) (gate : GateContent) → t.gates c ≡ Some gate → SoundBuffer gate (u.heads c) (u.tails c) (u.slots c)
      buffer c gate at =
          let sound : SoundChannel (Some gate) (t.heads c) (t.tails c) (t.slots c) = subst (λ x. SoundChannel x (t.heads c) (t.tails c) (t.slots c)) at (sound_t.channels c) in
          subst (λ (x : State). SoundBuffer gate (x.heads c) (x.tails c) (x.slots c)) (sym is) sound

      not_mine : {X : Type 0} (name : List ℕ) (y : Waiter X) (ys : List (Waiter X)) → NoneOf name ys → In y ys → y.go ≡ name → ⊥
      not_mine name y [] h i e = i
      not_mine name y (z ∷ ys) h i e = elim i [ inl q ↦ h.0 (ap (λ v. v.go) (sym q) ∙ e) | inr j ↦ not_mine name y ys h.1 j e ]

      no_open : (b : Bool) (closed : Bool) → closed ≡ b → (closed ≡ true → ⊥) → closed ≡ false
      no_open true closed e h = absurd (h e)
      no_open false closed e h = e

      empty : {X : Type 0} (ys : List (Waiter X)) → ((y : Waiter X) → In y ys → ⊥) → ys ≡ []
      empty [] h = refl
      empty (y ∷ ys) h = absurd (h y (inl refl))

      -- its wait to send
      idle_send : (c : ChName) (v : Outcome Value) (i : Option ℕ) → In (ToSend c i) (all_waits ws) → Idle u (Sending (Some c) v)
      idle_send c v i j = by (u.gates c) refl
        where
          stands : StandsIn (t.gates c) w.go (ToSend c i)
          stands = (queues_t w.go (ToSend c i)).0 (subst (In (ToSend c i)) (sym waits_t) j)

          by : (x : Option GateContent) → u.gates c ≡ x → Idle u (Sending (Some c) v)
          by None at = absurd (subst (λ x. StandsIn x w.go (ToSend c i)) (gate_t c ∙ ap (option_map (joined w.go left (sends w.go ws) (receives w.go ws) c)) at) stands)
          by (Some gate) at =
              let here_t : t.gates c ≡ Some (joined w.go left (sends w.go ws) (receives w.go ws) c gate) = gate_t c ∙ ap (option_map (joined w.go left (sends w.go ws) (receives w.go ws) c)) at in
              let x = subst (λ x. StandsIn x w.go (ToSend c i)) here_t stands in
              let b = buffer c (joined w.go left (sends w.go ws) (receives w.go ws) c gate) here_t in
              let some : (gate.senders ++ sends w.go ws c) ≡ [] → ⊥ = λ e. subst (In x.0) e x.1 in
              let none : gate.receivers ≡ [] = empty gate.receivers (λ y k.
              let waits_y = (queues_t y.go (ToReceive c y.case)).1 (subst (λ z. StandsIn z y.go (ToReceive c y.case)) (sym here_t) (y, In-append_left y gate.receivers (receives w.go ws c) k, refl, refl)) in
              let same : w.go ≡ y.go = one_sided p t at_t w.go y.go c i y.case (subst (In (ToSend c i)) (sym waits_t) j) waits_y in
              not_mine w.go y gate.receivers (off c gate at).1 k (sym same)) in (
                gate,
                at,
                no_open gate.closed gate.closed refl (λ e. some (b.closed e).0),
                none,
                elim b.senders [ inl e ↦ absurd (some e) | inr full ↦ full_room (joined w.go left (sends w.go ws) (receives w.go ws) c gate) (u.heads c) (u.tails c) (u.slots c) b full ],
              )

      -- its wait to receive
      idle_receive : (c : ChName) (v : Value) (i : Option ℕ) → In (ToReceive c i) (all_waits ws) → Idle u (Receiving (Some c) v)
      idle_receive c v i j = by (u.gates c) refl
        where
          stands : StandsIn (t.gates c) w.go (ToReceive c i)
          stands = (queues_t w.go (ToReceive c i)).0 (subst (In (ToReceive c i)) (sym waits_t) j)

          by : (x : Option GateContent) → u.gates c ≡ x → Idle u (Receiving (Some c) v)
          by None at = absurd (subst (λ x. StandsIn x w.go (ToReceive c i)) (gate_t c ∙ ap (option_map (joined w.go left (sends w.go ws) (receives w.go ws) c)) at) stands)
          by (Some gate) at =
              let here_t : t.gates c ≡ Some (joined w.go left (sends w.go ws) (receives w.go ws) c gate) = gate_t c ∙ ap (option_map (joined w.go left (sends w.go ws) (receives w.go ws) c)) at in
              let x = subst (λ x. StandsIn x w.go (ToReceive c i)) here_t stands in
              let b = buffer c (joined w.go left (sends w.go ws) (receives w.go ws) c gate) here_t in
              let some : (gate.receivers ++ receives w.go ws c) ≡ [] → ⊥ = λ e. subst (In x.0) e x.1 in
              let none : gate.senders ≡ [] = empty gate.senders (λ y k.
              let waits_y = (queues_t y.go (ToSend c y.case)).1 (subst (λ z. StandsIn z y.go (ToSend c y.case)) (sym here_t) (y, In-append_left y gate.senders (sends w.go ws c) k, refl, refl)) in
              let same : y.go ≡ w.go = one_sided p t at_t y.go w.go c y.case i waits_y (subst (In (ToReceive c i)) (sym waits_t) j) in
              not_mine w.go y gate.senders (off c gate at).0 k same) in (
                gate,
                at,
                no_open gate.closed gate.closed refl (λ e. some (b.closed e).1),
                none,
                elim b.receivers [ inl e ↦ absurd (some e) | inr none ↦ empty_item (joined w.go left (sends w.go ws) (receives w.go ws) c gate) (u.heads c) (u.tails c) (u.slots c) b none ],
              )

      all_idle : (xs : List (Option ℕ × Communication)) → ((x : Wait) → In x (all_waits xs) → In x (all_waits ws)) → AllIdle u xs
      all_idle [] h = tt
      all_idle ((i, Sending (Some c) v) ∷ xs) h = (idle_send c v i (h (ToSend c i) (inl refl)), all_idle xs (λ x j. h x (inr j)))
      all_idle ((i, Sending None v) ∷ xs) h = (tt, all_idle xs h)
      all_idle ((i, Receiving (Some c) v) ∷ xs) h = (idle_receive c v i (h (ToReceive c i) (inl refl)), all_idle xs (λ x j. h x (inr j)))
      all_idle ((i, Receiving None v) ∷ xs) h = (tt, all_idle xs h)
      all_idle ((i, Otherwise) ∷ xs) h = (tt, all_idle xs h)

      -- so it waits there
      waits_again : u.run ≡ live → next_state p u w ≡ Some (with_it u)
      waits_again runs =
          let su : Stands u w = record { runs = runs; goroutine = st.goroutine; here = here; up = st.up; frame = st.frame; below = st.below; frames = st.frames } in
          let x = waited_there s u w st.frame wa.waited (all_idle ws (λ x j. j)) in
          again p u w su x.0 ∙ ap (λ xs. Some (parked w.go (left_by st.goroutine xs) (sends w.go xs) (receives w.go xs) u)) x.1

  -- A wait, and a step of another.
  module _ (s m t : State) (w e : Event) (reached : system.Reached (schedules o) s) (i : IsWait (schedules o) is_waiting s w m) (g : Goes (schedules o) is_waiting m e t) where
    at_s : Reached p s
    at_s = reached_by o s reached

    wa : WaitedAt s w
    wa = waited_of s m w i

    then_m : system.Reached (schedules o) m
    then_m = reached_next (schedules o) s m w reached i.goes

    at_m : Reached p m
    at_m = reached_by o m then_m

    at_t : Reached p t
    at_t = reached_by o t (reached_next (schedules o) m t e then_m g.goes)

    abbrev parks : State → State
    parks = with_it s w at_s wa

    m_is : parks s ≡ m
    m_is = some_is _ _ (sym (again p s w wa.stands wa.waited) ∙ i.goes)

    apart : e.go ≡ w.go → ⊥
    apart q =
        let waits : is_waiting m e ≡ true = ap (λ n. elim m.run [ live ↦ waits_in (m.goroutines n) | _ ↦ false ]) q ∙ i.then_waits in
        none_not t (sym (still o checked m e waits) ∙ g.goes)

    k : Planned p m e t
    k = planned_by p m t e g.goes

    -- taken as one
    together : is_waiting t w ≡ false → PutsOff (schedules o) is_waiting s w t
    together f = record {
      first = w ∷ e ∷ [];
      others = [];
      at = t;
      by = (t, meets_late (schedules o) is_waiting s t w e (record { middle = m; wait = i; goes = g.goes; first_up = f; last_up = g.up }), refl);
      after = undone refl;
    }

    module _ (h : is_waiting t w ≡ true) where
      runs_t : t.run ≡ live
      runs_t = (waits_as t w h).runs

      -- it was not met, nor did all end, nor does the other wait
      no_other : Other w.go (left s w at_s wa) (sends w.go (ws s w at_s wa)) (receives w.go (ws s w at_s wa)) s e.go k.plan_is.cells → ⊥
      no_other (inl j) =
          let l = plan_sides m e.go (WaitedAt m e) (attempt p e) p k.plan_is (attempt_sides p m e) k.planned in
          not_both (waits_in (t.goroutines w.go)) (waits_true t w h)
          (ap (λ (x : State). waits_in (x.goroutines w.go)) (sym k.to) ∙ other_ready m e.go (WaitedAt m e) k.plan_is.cells l w.go (λ q. apart (sym q)) j)
      no_other (inr (inl j)) =
          let n : (machine p).Note = record { kind = k.plan_is.kind; reads = k.plan_is.reads; writes = map object_of k.plan_is.cells } in
          run_written p m t n e at_m (ap (carried (rulebook p) m) k.planned ∙ ap (λ x. Some (x, n)) k.to) j runs_t
      no_other (inr (inr x)) =
          let own : t.goroutines e.go ≡ Some x.goroutine =
          ap (λ (y : State). y.goroutines e.go) (sym k.to) ∙ ap (λ cs. (fold put m cs).goroutines e.go) x.is
          ∙ ap (λ f. f e.go) (gates_keep w.go (left s w at_s wa) (sends w.go (ws s w at_s wa)) (receives w.go (ws s w at_s wa)) s e.go (put m (go_has e.go (Some x.goroutine))) x.gates x.all)
          ∙ updated_here same_go go_self m.goroutines e.go (Some x.goroutine) in
          not_both (is_waiting t e) (ap (λ (y : Run). elim y [ live ↦ waits_in (t.goroutines e.go) | _ ↦ false ]) runs_t ∙ ap waits_in own ∙ x.waits) g.up

      -- it comes after the step
      module _ (v : OffPlan w.go (left s w at_s wa) (sends w.go (ws s w at_s wa)) (receives w.go (ws s w at_s wa)) s e.go p (attempt p e) k.plan_is.cells) where
        abbrev u : State
        u = fold put s v.plan_is.cells

        goes : next_state p s e ≡ Some u
        goes = ap (λ x. option_map (λ r. r.0) (carried (rulebook p) s x)) v.planned

        t_is : parks u ≡ t
        t_is = sym (all_parked w.go (left s w at_s wa) (sends w.go (ws s w at_s wa)) (receives w.go (ws s w at_s wa)) s k.plan_is.cells v.plan_is.cells v.cells)
            ∙ ap (λ x. fold put x k.plan_is.cells) m_is ∙ k.to

        here_u : u.goroutines w.go ≡ Some wa.stands.goroutine
        here_u = own_kept w.go (left s w at_s wa) (sends w.go (ws s w at_s wa)) (receives w.go (ws s w at_s wa)) s k.plan_is.cells v.plan_is.cells v.cells ∙ wa.stands.here

        at_u : Reached p u
        at_u = reached_by o u (reached_next (schedules o) s u e reached goes)

        runs_u : u.run ≡ live
        runs_u = ap (λ (x : State). x.run) t_is ∙ runs_t

        own_u : u.goroutines e.go ≡ t.goroutines e.go
        own_u = sym (ap (λ b. if b then Some (left s w at_s wa) else u.goroutines e.go) (other_go e.go w.go apart)) ∙ ap (λ (x : State). x.goroutines e.go) t_is

        put_off : PutsOff (schedules o) is_waiting s w t
        put_off = record {
          first = e ∷ [];
          others = [];
          at = u;
          by = (u, goes_late (schedules o) is_waiting s u e (record { goes = goes; up = by_looks u t e (runs_u ∙ sym runs_t) own_u ∙ g.up }), refl);
          after = comes (parks u) (record { goes = waits_again s w at_s wa t u at_t at_u t_is here_u runs_u; then_waits = ap (λ x. is_waiting x w) t_is ∙ h }) (ap matter t_is);
        }

    one_step : PutsOff (schedules o) is_waiting s w t
    one_step = by (is_waiting t w) refl
      where
        by_kind : (h : is_waiting t w ≡ true) → Other w.go (left s w at_s wa) (sends w.go (ws s w at_s wa)) (receives w.go (ws s w at_s wa)) s e.go k.plan_is.cells
            ⊎ OffPlan w.go (left s w at_s wa) (sends w.go (ws s w at_s wa)) (receives w.go (ws s w at_s wa)) s e.go p (attempt p e) k.plan_is.cells → PutsOff (schedules o) is_waiting s w t
        by_kind h (inl x) = absurd (no_other h x)
        by_kind h (inr v) = put_off h v

        by : (b : Bool) → is_waiting t w ≡ b → PutsOff (schedules o) is_waiting s w t
        by false f = together f
        by true h = by_kind h (off_plan w.go (left s w at_s wa) (sends w.go (ws s w at_s wa)) (receives w.go (ws s w at_s wa)) s e.go p (attempt p e) (attempt p e) k.plan_is
            (attempt_two w.go (left s w at_s wa) (sends w.go (ws s w at_s wa)) (receives w.go (ws s w at_s wa)) (sends_mine w.go (ws s w at_s wa)) (receives_mine w.go (ws s w at_s wa)) s
            (nowhere_in s w at_s wa s (reached_waits p s at_s.log at_s.leads) wa.stands.here) (made s w at_s wa) e.go apart p e refl (fresh s w at_s wa e))
            (ap (λ x. plan (rulebook p) x (rule_of (attempt p e))) m_is ∙ k.planned))

  -- a wait can be put off until after one event
  pub past_one : (s m t : State) (w e : Event) → system.Reached (schedules o) s → IsWait (schedules o) is_waiting s w m → late_next (schedules o) is_waiting m (e ∷ []) ≡ Some t → PutsOff (schedules o) is_waiting s w t
  past_one s m t w e r i h = one_step s m t w e r i (takes (schedules o) is_waiting m t (e ∷ []) h)
