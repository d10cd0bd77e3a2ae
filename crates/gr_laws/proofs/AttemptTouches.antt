-- Each step touches what the table says.
use Rattle.std.proofs.Common.{◌≡◌, ℕ, ℤ, pos, negsuc, ◌+◌, ◌-◌, nat_le, if◌then◌else◌, List, [], ◌∷◌, ◌++◌, map, length, Option, Some, None, ◌⊎◌, ◌↔◌, refl, sym, ◌∙◌, ap, subst, arith, inl, inr}
use Rattle.std.proofs.lemmas.List.{append-nil}
use Rattle.std.specs.List.{flat_map}
use Rattle.gr_base.specs.declared.names.ChName.{ChName}
use Rattle.gr_base.specs.declared.values.Value.{Value}
use Rattle.gr_base.specs.declared.values.Value.TheVariants.{Int, Chan}
use Rattle.gr_base.specs.declared.events.Choice.{Choice}
use Rattle.gr_base.specs.declared.events.Choice.TheVariants as choices
use Rattle.gr_base.specs.declared.events.Event.{Event}
use Rattle.gr_base.specs.declared.kinds.Fault.{Fault}
use Rattle.gr_base.specs.declared.kinds.Fault.TheVariants.{CloseOfNil, BadSize, CallDepth, NameDepth, NameCount}
use Rattle.gr_base.specs.declared.kinds.Kind.TheVariants as kinds
use Rattle.gr_base.specs.declared.objects.Object.{Object}
use Rattle.gr_base.specs.declared.objects.Object.TheVariants.{Run, Go, Gate, Tail, Head}
use Rattle.gr_causal.specs.Sequences.{In}
use Rattle.gr_causal.specs.Rules.{Plan, Note, plan, carried, with_read}
use Rattle.gr_causal.proofs.ListLemmas.{In-append_cases, In-append_left, In-append_right, some_is, none_not}
use Rattle.gr_program.specs.Programs.{Program}
use Rattle.gr_rules.specs.Outcomes.{Outcome, gives, faults, wrong}
use Rattle.gr_rules.specs.Frames.{Frame, goes_on}
use Rattle.gr_rules.specs.Deeds.{Communication, Deed, Moves, Prints, Enters, Leaves, Starts, Makes, TakesLen, TakesCap, Closes, Communicates, Chooses, deed, resumed, past}
use Rattle.gr_rules.specs.Goroutines.{Status, ready, waiting, finished, Goroutine, started}
use Rattle.gr_rules.specs.States.{live, ended, faulted, Cell, go_has, State, object_of, look, call_of}
use Rattle.gr_rules.specs.States as states
use Rattle.gr_rules.specs.Limits.{most_places, most_counts, greatest_count}
use Rattle.gr_rules.specs.Attempts.{no_such_choice, Operation, takes_len_of, takes_cap_of, Report, Attempt, refuse, perform, ask, rule_of, ask_go}
use Rattle.gr_rules.specs.Actors.{Actor, onward, does, simply, fault, given, channels_but, clause_at}
use Rattle.gr_rules.specs.Communications.{all_waits, wait, close}
use Rattle.gr_rules.specs.Selects.{values_of, pick, default_from, numbered, default, park, choose}
use Rattle.gr_rules.specs.Steps.{is_deepest, enter, finish, leave, child, if_absent, go, new_channel, make, counted, take_len, take_cap, print, act, act_by, act_in, if_ready, if_known, if_live, attempt, rulebook, machine}
use Rattle.gr_rules.specs.Touches.{touches, side, clauses_by, clauses_in, looked_at, with_channel, and_always, row, table, AsTheTable}
use Rattle.gr_laws.proofs.SureLemmas.{sure_resumed, sure_past, sure_call}
use Rattle.gr_laws.proofs.TouchLemmas.{seen, Fits, F, refused, asked, leaf, if_fits, gate_fits}
use Rattle.gr_laws.proofs.RuleTouches.{e, G, P0, sure_fits, with_fits, without_fits, communicate_fits, proceed_fits, close_fits, enqueued_fits, ready_fits, none_ready_fits}

given_fits : {A : Type 0} (s : State) (a : Actor) (choice : Choice) {P : Object → Type 0} (x : Outcome A) {k : A → Attempt}
    → ((f : Fault) → F s (record { go = a.name; choice = choice }) P (fault a None f))
    → ((v : A) → F s (record { go = a.name; choice = choice }) P (k v))
    → F s (record { go = a.name; choice = choice }) P (given a x k)
given_fits s a choice (gives v) g h = h v
given_fits s a choice (faults f) g h = g f
given_fits s a choice wrong g h = refused s (record { go = a.name; choice = choice })

-- a select, with these clauses
module _ (s : State) (a : Actor) (here : s.goroutines a.name ≡ Some a.before) (cs : List Communication) (standing : clauses_in a.before.frames ≡ cs) where
  value_fault : (choice : Choice) → looked_at choice cs ≡ cs → (f : Fault)
      → G s a choice here (seen (P0 s a choice here) (flat_map (side s) cs)) (fault a None f)
  value_fault choice looked f = without_fits s a choice here (flat_map (side s) cs) (Run ∷ [])
      (ap (λ x. touches (flat_map (side s) (looked_at choice x)) (Run ∷ [])) standing ∙ ap (λ x. touches (flat_map (side s) x) (Run ∷ [])) looked) refl (λ o. ((λ z. grind (arith)), (λ z. grind (arith))))

  default_fits : (o : Option ℕ) → G s a choices.Default here (P0 s a choices.Default here) (default a cs o)
  default_fits (Some i) = none_ready_fits s a choices.Default here cs _
      (given_fits s a choices.Default (values_of cs) (value_fault choices.Default refl)
      (λ vs. sure_fits s a choices.Default here (past a.frame (Some i) None) (sure_past a.frame (Some i) None) (λ f. without_fits s a choices.Default here (flat_map (side s) cs) [] (ap (λ x. touches (flat_map (side s) x) []) standing) refl (λ o. ((λ z. grind (arith)), (λ z. grind (arith)))))))
  default_fits None = refused s (e s a choices.Default here)

  park_fits : (o : Option ℕ) → G s a choices.Park here (P0 s a choices.Park here) (park a cs o)
  park_fits (Some i) = refused s (e s a choices.Park here)
  park_fits None = none_ready_fits s a choices.Park here cs (given a (values_of cs) (λ vs. wait a None kinds.SelectWait (numbered 1 cs)))
      (given_fits s a choices.Park (values_of cs) (value_fault choices.Park refl)
      (λ vs. enqueued_fits s a choices.Park here a.name (numbered 1 cs) (channels_but [] (all_waits (numbered 1 cs)))
      (does a None None kinds.SelectWait (record (a.before) { status = waiting (all_waits (numbered 1 cs)); steps = a.before.steps + 1 }))
      (λ cells d. without_fits s a choices.Park here (flat_map (side s) cs) (map Gate (channels_but [] (all_waits (numbered 1 cs))))
      (ap (λ x. touches (flat_map (side s) x) (map Gate (channels_but [] (all_waits (numbered 1 x))))) standing) d (λ o. ((λ z. grind (arith)), (λ z. grind (arith)))))))

  pick_fits : (i : ℕ) (vs : Outcome (List Value)) (o : Option Communication) → clause_at cs i ≡ o
      → G s a (choices.Pick i) here (P0 s a (choices.Pick i) here) (pick a i vs o)
  pick_fits i vs None q = refused s (e s a (choices.Pick i) here)
  pick_fits i (gives vs) (Some c) q =
      communicate_fits s a (choices.Pick i) here (Some i) c (refuse no_such_choice) (refused s (e s a (choices.Pick i) here)) (refused s (e s a (choices.Pick i) here))
  pick_fits i (faults f) (Some c) q = ready_fits s a (choices.Pick i) here c (λ b. if b then fault a None f else refuse no_such_choice) (λ b. if_fits s (e s a (choices.Pick i) here) b
      (without_fits s a (choices.Pick i) here (side s c) (Run ∷ [])
      (ap (λ x. touches (flat_map (side s) (looked_at (choices.Pick i) x)) (Run ∷ [])) standing
      ∙ ap (λ (x : Option Communication). touches (flat_map (side s) (elim x [ Some c ↦ c ∷ [] | None ↦ [] ])) (Run ∷ [])) q
      ∙ ap (λ x. touches x (Run ∷ [])) (append-nil (side s c))) refl (λ o. ((λ z. grind (arith)), (λ z. grind (arith)))))
      (refused s (e s a (choices.Pick i) here)))
  pick_fits i wrong (Some c) q = refused s (e s a (choices.Pick i) here)

  choose_fits : (choice : Choice) → G s a choice here (P0 s a choice here) (choose a cs choice)
  choose_fits choices.Plain = refused s (e s a choices.Plain here)
  choose_fits (choices.Pick i) = pick_fits i (values_of cs) (clause_at cs i) refl
  choose_fits choices.Default = default_fits (default_from 1 cs)
  choose_fits choices.Park = park_fits (default_from 1 cs)

-- any other statement
module _ (s : State) (a : Actor) (here : s.goroutines a.name ≡ Some a.before) where
  abbrev E : Event
  E = record { go = a.name; choice = choices.Plain }

  abbrev H : Attempt → Type 0
  H = F s E (P0 s a choices.Plain here)

  module _ (standing : clauses_in a.before.frames ≡ []) where
    fault_fits : (f : Fault) → H (fault a None f)
    fault_fits f = without_fits s a choices.Plain here [] (Run ∷ []) (ap (λ x. touches (flat_map (side s) (looked_at choices.Plain x)) (Run ∷ [])) standing) refl (λ o. ((λ z. grind (arith)), (λ z. grind (arith))))

    enter_fits : (function : ℕ) (vs : List Value) → H (enter a function vs)
    enter_fits function vs = if_fits s E (is_deepest a.before.frames) (fault_fits CallDepth)
        (sure_fits s a choices.Plain here (call_of a.program function vs) (sure_call a.program function vs) (λ f. without_fits s a choices.Plain here [] [] refl refl (λ o. ((λ z. grind (arith)), (λ z. grind (arith))))))

    finish_fits : (name : List ℕ) → H (finish a name)
    finish_fits [] = without_fits s a choices.Plain here [] (Run ∷ []) refl refl (λ o. ((λ z. grind (arith)), (λ z. grind (arith))))
    finish_fits (n ∷ ns) = without_fits s a choices.Plain here [] [] refl refl (λ o. ((λ z. grind (arith)), (λ z. grind (arith))))

    leave_fits : (v : Value) (fs : List Frame) → H (leave a v fs)
    leave_fits v [] = finish_fits a.name
    leave_fits v (f ∷ fs) = sure_fits s a choices.Plain here (resumed f v) (sure_resumed f v) (λ f. without_fits s a choices.Plain here [] [] refl refl (λ o. ((λ z. grind (arith)), (λ z. grind (arith)))))

    go_fits : (function : ℕ) (vs : List Value) → H (go a function vs)
    go_fits function vs = if_fits s E (nat_le most_counts (length a.name)) (fault_fits NameDepth)
        (if_fits s E (nat_le greatest_count a.before.children) (fault_fits NameCount) (asked s E (by_child (s.goroutines (child a)))))
      where
        by_child : (x : Option Goroutine)
            → F s E (seen (P0 s a choices.Plain here) (Go (child a) ∷ [])) (if_absent (given a (call_of a.program function vs) (λ f. simply a kinds.Go (record (onward a (goes_on a.frame)) { children = a.before.children + 1 }) (go_has (child a) (Some (started f)) ∷ []))) x)
        by_child None = sure_fits s a choices.Plain here (call_of a.program function vs) (sure_call a.program function vs) (λ f. without_fits s a choices.Plain here [] (Go (child a) ∷ []) refl refl (λ o. ((λ z. grind (arith)), (λ z. grind (arith)))))
        by_child (Some g) = refused s E

    make_fits : (n : ℤ) → H (make a n)
    make_fits (negsuc n) = fault_fits BadSize
    make_fits (pos n) = if_fits s E (nat_le (most_places + 1) n) (fault_fits BadSize)
        (if_fits s E (nat_le greatest_count a.before.channels) (fault_fits NameCount)
        (let v = Chan (Some (new_channel a)) in sure_fits s a choices.Plain here (resumed a.frame v) (sure_resumed a.frame v)
        (λ f. without_fits s a choices.Plain here [] (Gate (new_channel a) ∷ []) refl refl (λ o. ((λ z. grind (arith)), (λ z. grind (arith)))))))

    counted_fits : (n : ℕ) → H (counted a None n)
    counted_fits n = sure_fits s a choices.Plain here (resumed a.frame (Int (pos n))) (sure_resumed a.frame (Int (pos n)))
        (λ f. without_fits s a choices.Plain here [] [] refl refl (λ o. ((λ z. grind (arith)), (λ z. grind (arith)))))

    counted_of : {P : Object → Type 0} (operation : Operation) (reads : List Object) (n : ℕ)
        → with_channel s operation kinds.Length ≡ touches reads []
        → ((o : Object) → (P o ⊎ In o (Go a.name ∷ [])) ↔ (In o (Run ∷ reads) ⊎ In o (Go a.name ∷ [])))
        → F s E P (counted a (Some operation) n)
    counted_of operation reads n t h = sure_fits s a choices.Plain here (resumed a.frame (Int (pos n))) (sure_resumed a.frame (Int (pos n)))
        (λ f. with_fits s a choices.Plain here operation reads [] t refl h)

    len_fits : (c : Option ChName) → H (take_len a c)
    len_fits None = counted_fits 0
    len_fits (Some c) = gate_fits s E c (λ gate at. asked s E (asked s E (counted_of (takes_len_of c) (Gate c ∷ Head c ∷ Tail c ∷ []) (s.tails c - s.heads c) refl (λ o. ((λ z. grind (arith)), (λ z. grind (arith)))))))

    cap_fits : (c : Option ChName) → H (take_cap a c)
    cap_fits None = counted_fits 0
    cap_fits (Some c) = gate_fits s E c (λ gate at. counted_of (takes_cap_of c) (Gate c ∷ []) gate.capacity refl (λ o. ((λ z. grind (arith)), (λ z. grind (arith)))))

    print_fits : (line : List ℕ) → H (print a line)
    print_fits line = leaf s E (Run ∷ []) (Go a.name ∷ [])
        (ap (λ x. and_always E (row s E (record { deed = kinds.Pure; clause = None; ordinal = a.before.steps + 1; printed = Some line; operation = None }) x None)) here)
        refl (λ o. ((λ z. grind (arith)), (λ z. grind (arith))))

    close_any : (c : Option ChName) → H (close a c)
    close_any None = fault_fits CloseOfNil
    close_any (Some c) = close_fits s a choices.Plain here c

  act_fits : (d : Deed) → clauses_in a.before.frames ≡ clauses_by (gives d) → H (act a d)
  act_fits (Moves on) q = without_fits s a choices.Plain here [] [] refl refl (λ o. ((λ z. grind (arith)), (λ z. grind (arith))))
  act_fits (Prints line) q = print_fits q line
  act_fits (Enters function vs) q = enter_fits q function vs
  act_fits (Leaves v) q = leave_fits q v a.below
  act_fits (Starts function vs) q = go_fits q function vs
  act_fits (Makes n) q = make_fits q n
  act_fits (TakesLen c) q = len_fits q c
  act_fits (TakesCap c) q = cap_fits q c
  act_fits (Closes c) q = close_any q c
  act_fits (Communicates c) q = proceed_fits s a choices.Plain here c
  act_fits (Chooses cs) q = refused s E

by_deed : (s : State) (a : Actor) (here : s.goroutines a.name ≡ Some a.before) (choice : Choice) (d : Deed)
    → clauses_in a.before.frames ≡ clauses_by (gives d)
    → G s a choice here (P0 s a choice here) (act_by a choice (gives d))
by_deed s a here choice (Chooses cs) q = choose_fits s a here cs q choice
by_deed s a here choices.Plain d q = act_fits s a here d q
by_deed s a here choice d q = refused s (e s a choice here)

by_outcome : (s : State) (a : Actor) (here : s.goroutines a.name ≡ Some a.before) (choice : Choice) (d : Outcome Deed)
    → clauses_in a.before.frames ≡ clauses_by d
    → G s a choice here (P0 s a choice here) (act_by a choice d)
by_outcome s a here choice (gives d) q = by_deed s a here choice d q
by_outcome s a here choices.Plain (faults f) q = fault_fits s a here q f
by_outcome s a here choices.Plain wrong q = refused s (e s a choices.Plain here)
by_outcome s a here choice (faults f) q = refused s (e s a choice here)
by_outcome s a here choice wrong q = refused s (e s a choice here)

module _ (p : Program) (s : State) (v : Event) where
  abbrev Begun : Object → Type 0
  Begun = seen (seen (λ o. ⊥) (Run ∷ [])) (Go v.go ∷ [])

  by_frames : (g : Goroutine) (fs : List Frame) → s.goroutines v.go ≡ Some g → g.frames ≡ fs → Fits s v Begun (act_in p v g fs)
  by_frames g [] h q = tt
  by_frames g (f ∷ fs) h q =
      let a : Actor = record { program = p; name = v.go; before = g; frame = f; below = fs } in
      (by_outcome s a h v.choice (deed f) (ap clauses_in q)).fits

  by_status : (g : Goroutine) (x : Status) → s.goroutines v.go ≡ Some g → Fits s v Begun (if_ready p v g x)
  by_status g finished h = tt
  by_status g (waiting ws) h = tt
  by_status g ready h = by_frames g g.frames h refl

  by_known : (x : Option Goroutine) → s.goroutines v.go ≡ x → Fits s v Begun (if_known p v x)
  by_known None h = tt
  by_known (Some g) h = by_status g g.status h

  by_run : (r : states.Run) → Fits s v (seen (λ o. ⊥) (Run ∷ [])) (if_live (ask_go v.go (if_known p v)) r)
  by_run live = by_known (s.goroutines v.go) refl
  by_run ended = tt
  by_run (faulted f) = tt

  -- what an attempt that fits comes to
  record Came (P : Object → Type 0) (x : Plan Object Cell Report) : Type 0 where
    written : map object_of x.cells ≡ (table s v x.kind).writes
    touched : (o : Object)
        → ((P o ⊎ In o x.reads) ⊎ In o (table s v x.kind).writes) ↔ In o ((table s v x.kind).reads ++ (table s v x.kind).writes)

  came : (P : Object → Type 0) (x : Attempt) (y : Plan Object Cell Report) → Fits s v P x
      → plan (rulebook p) s (rule_of x) ≡ Some y → Came P y
  came P (refuse r) y c h = absurd (none_not _ h)
  came P (perform r cells) y c h = subst (Came P) (some_is _ _ h) (record {
    written = c.0;
    touched = λ o. (
      λ z. (c.1 o).0 (elim z [ inl q ↦ elim q [ inl k ↦ inl k | inr i ↦ absurd i ] | inr i ↦ inr i ]),
      λ i. elim ((c.1 o).1 i) [ inl k ↦ inl (inl k) | inr j ↦ inr j ],
    );
  })
  came P (ask x f) y c h = by_rest (λ z. came (seen P (x ∷ [])) (f (look s x)) z c) (plan (rulebook p) s (rule_of (f (look s x)))) refl h
    where
      by_rest : ((z : Plan Object Cell Report) → plan (rulebook p) s (rule_of (f (look s x))) ≡ Some z → Came (seen P (x ∷ [])) z)
          → (r : Option (Plan Object Cell Report)) → plan (rulebook p) s (rule_of (f (look s x))) ≡ r
          → with_read x r ≡ Some y → Came P y
      by_rest ih None d g = absurd (none_not _ g)
      by_rest ih (Some z) d g = let w = ih z d in subst (Came P) (some_is _ _ g) (record {
        written = w.written;
        touched = λ o. (
          λ q. (w.touched o).0 (elim q [
            | inl k ↦ elim k [ inl t ↦ inl (inl (inl t)) | inr i ↦ elim i [ inl t ↦ inl (inl (inr (inl t))) | inr j ↦ inl (inr j) ] ]
            | inr i ↦ inr i
          ]),
          λ i. elim ((w.touched o).1 i) [
            | inl k ↦ elim k [ inl t ↦ elim t [ inl u ↦ inl (inl u) | inr j ↦ elim j [ inl u ↦ inl (inr (inl u)) | inr n ↦ absurd n ] ] | inr j ↦ inl (inr (inr j)) ]
            | inr j ↦ inr j
          ],
        );
      })

  pub touched_as : (t : State) (n : Note Object Report) → (machine p).step s v ≡ Some (t, n) → AsTheTable s v n
  touched_as t n h = by_plan (plan (rulebook p) s (rule_of (attempt p v))) refl h
    where
      by_plan : (x : Option (Plan Object Cell Report)) → plan (rulebook p) s (rule_of (attempt p v)) ≡ x
          → carried (rulebook p) s x ≡ Some (t, n) → AsTheTable s v n
      by_plan None d g = absurd (none_not _ g)
      by_plan (Some y) d g =
          let w = came (λ o. ⊥) (attempt p v) y (by_run s.run) d in
          subst (λ (r : State × Note Object Report). AsTheTable s v r.1) (some_is _ _ g) (record {
            written = w.written;
            touched = λ o. (
              λ i. (w.touched o).0 (elim (In-append_cases o y.reads (map object_of y.cells) i) [ inl j ↦ inl (inr j) | inr j ↦ inr (subst (In o) w.written j) ]),
              λ i. elim ((w.touched o).1 i) [
                | inl k ↦ elim k [ inl n ↦ absurd n | inr j ↦ In-append_left o y.reads (map object_of y.cells) j ]
                | inr j ↦ In-append_right o y.reads (map object_of y.cells) (subst (In o) (sym w.written) j)
              ],
            );
          })
