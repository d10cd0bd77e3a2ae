-- Which events are possible: choices of goroutines that can act.
use Rattle.std.proofs.Common.{◌≡◌, ◌⊎◌, ℕ, zero, suc, ◌+◌, ◌<◌, Bool, true, false, List, [], ◌∷◌, map, filter, length, Option, Some, None, is_none, if◌then◌else◌, refl, sym, ◌∙◌, ap, subst, inl, inr, arith}
use Rattle.std.specs.List.{range_with_len}
use Rattle.std.proofs.lemmas.Bool.{cases_Bool}
use Rattle.std.proofs.lemmas.Option.{slice_get_within}
use Rattle.gr_base.specs.declared.events.Choice.{Choice}
use Rattle.gr_base.specs.declared.events.Choice.TheVariants.{Plain, Pick, Default, Park}
use Rattle.gr_base.specs.declared.events.Event.{Event}
use Rattle.gr_causal.specs.Sequences.{In}
use Rattle.gr_causal.proofs.ListLemmas.{In-append_left, In-append_right}
use Rattle.gr_program.specs.Programs.{Program}
use Rattle.gr_rules.specs.Outcomes.{Outcome, gives, faults, wrong}
use Rattle.gr_rules.specs.Frames.{Frame}
use Rattle.gr_rules.specs.Deeds.{Communication, Deed, Moves, Prints, Enters, Leaves, Starts, Makes, TakesLen, TakesCap, Closes, Communicates, Chooses, deed}
use Rattle.gr_rules.specs.Goroutines.{Status, ready, waiting, finished, Goroutine}
use Rattle.gr_rules.specs.States.{Run, live, ended, faulted, State}
use Rattle.gr_rules.specs.Attempts.{Refusal}
use Rattle.gr_rules.specs.Actors.{clause_at}
use Rattle.gr_rules.specs.Steps.{machine, refusal}
use Rattle.gr_rules.specs.Tells.{may, how_many_clauses, ready_clauses, usual_choice}
use Rattle.gr_rules.specs.Touches.{clauses_by, clauses_in}
use Rattle.gr_laws.specs.Reached.{Reached}
use Rattle.gr_laws.specs.Refusals.{StandsReady, is_select, HasNoSuch, CannotPick}
use Rattle.gr_laws.proofs.RefusalLemmas.{refused_is_no_step}
use Rattle.gr_laws.proofs.ReasonLemmas.{if_over, if_unknown, if_done, if_waits, if_plain, if_select}
use Rattle.gr_laws.proofs.UsualLemmas.{step_is_usual}
use Rattle.type_safety.specs.Standing.{StandsAs, is_ready}
use Rattle.type_safety.proofs.CheckedRuns.{checked_stands}
use Rattle.gr_record.specs.Running.{IsChecked}
use Rattle.gr_schedules.specs.Schedules.{next_state}
use Rattle.gr_schedules.specs.Choices.{is_pick, event_by, choices_of, can_act, choices_at, all_choices}
use Rattle.gr_schedules.proofs.ScheduleLemmas.{noted}

none_some : {A : Type 0} (a : A) → None ≡ Some a → ⊥
none_some a e = cc

no_truth : false ≡ true → ⊥
no_truth e = cc

-- a select has clauses
clauses : (d : Outcome Deed) → is_select d ≡ true → (cs : List Communication) × (d ≡ gives (Chooses cs))
clauses (gives (Chooses cs)) t = (cs, refl)
clauses (gives (Moves on)) t = absurd (no_truth t)
clauses (gives (Prints line)) t = absurd (no_truth t)
clauses (gives (Enters f vs)) t = absurd (no_truth t)
clauses (gives (Leaves v)) t = absurd (no_truth t)
clauses (gives (Starts f vs)) t = absurd (no_truth t)
clauses (gives (Makes n)) t = absurd (no_truth t)
clauses (gives (TakesLen c)) t = absurd (no_truth t)
clauses (gives (TakesCap c)) t = absurd (no_truth t)
clauses (gives (Closes c)) t = absurd (no_truth t)
clauses (gives (Communicates c)) t = absurd (no_truth t)
clauses (faults e) t = absurd (no_truth t)
clauses wrong t = absurd (no_truth t)

picked : (c : Choice) → is_pick c ≡ true → (i : ℕ) × (c ≡ Pick i)
picked (Pick i) h = (i, refl)
picked Plain h = absurd (no_truth h)
picked Default h = absurd (no_truth h)
picked Park h = absurd (no_truth h)

in_map : {A B : Type 0} (f : A → B) (xs : List A) (x : A) → In x xs → In (f x) (map f xs)
in_map f [] x i = absurd i
in_map f (y ∷ xs) x (inl e) = inl (ap f e)
in_map f (y ∷ xs) x (inr i) = inr (in_map f xs x i)

in_filter : {A : Type 0} (test : A → Bool) (xs : List A) (x : A) → In x xs → test x ≡ true → In x (filter test xs)
in_filter test [] x i t = absurd i
in_filter test (y ∷ xs) x i t = elim (cases_Bool (test y)) [
  | inl h ↦ subst (In x) (sym (ap (λ b. if b then y ∷ filter test xs else filter test xs) h)) (elim i [ inl e ↦ inl e | inr j ↦ inr (in_filter test xs x j t) ])
  | inr h ↦ subst (In x) (sym (ap (λ b. if b then y ∷ filter test xs else filter test xs) h)) (elim i [
    | inl e ↦ absurd (no_truth (sym h ∙ ap test (sym e) ∙ t))
    | inr j ↦ in_filter test xs x j t
  ])
]

in_range : (a n k : ℕ) → k < n → In (a + k) (range_with_len a n)
in_range a zero k h = absurd (omega (arith, h))
in_range a (suc n) zero h = inl (omega arith)
in_range a (suc n) (suc k) h = inr (let e : (a + 1) + k ≡ a + suc k = omega arith in subst (λ m. In m (range_with_len (a + 1) n)) e (in_range (a + 1) n k (omega (arith, h))))

-- the frames of a goroutine that is ready
pub frame_there : (fs : List Frame) → StandsAs ready fs → (f : Frame) × (below : List Frame) × (fs ≡ f ∷ below)
frame_there _ (is_ready {f} {below} n a) = (f, below, refl)

-- how many clauses the select has at which a goroutine stands
how_many : (s : State) (go : List ℕ) (g : Goroutine) (f : Frame) (below : List Frame) (cs : List Communication) → s.goroutines go ≡ Some g → g.frames ≡ f ∷ below
    → deed f ≡ gives (Chooses cs) → how_many_clauses (s.goroutines go) ≡ length cs
how_many s go g f below cs there frames d =
    let all : how_many_clauses (s.goroutines go) ≡ length (clauses_in g.frames) = ap how_many_clauses there in
    let top : length (clauses_in g.frames) ≡ length (clauses_by (deed f)) = ap (λ fs. length (clauses_in fs)) frames in
    let these : length (clauses_by (deed f)) ≡ length cs = ap (λ x. length (clauses_by x)) d in
    all ∙ top ∙ these

-- the goroutine of an event that is possible
pub record Acts (s : State) (go : List ℕ) : Type 0 where
  pub runs : s.run ≡ live
  pub goroutine : Goroutine
  pub there : s.goroutines go ≡ Some goroutine
  pub is_up : goroutine.status ≡ ready

module _ (p : Program) (s : State) (e : Event) (possible : refusal p s e ≡ None) where
  allowed : (q : Refusal) → refusal p s e ≡ Some q → ⊥
  allowed q h = none_some q (sym possible ∙ h)

  not_ended : ended ≡ live → ⊥
  not_ended h = cc

  by_status : (g : Goroutine) (x : Status) → s.run ≡ live → s.goroutines e.go ≡ Some g → g.status ≡ x → Acts s e.go
  by_status g ready l h w = record { runs = l; goroutine = g; there = h; is_up = w }
  by_status g (waiting ws) l h w = absurd (allowed _ (if_waits p s e ws (record { runs = l; goroutine = g; here = h; has = w })))
  by_status g finished l h w = absurd (allowed _ (if_done p s e (record { runs = l; goroutine = g; here = h; has = w })))

  by_go : (o : Option Goroutine) → s.run ≡ live → s.goroutines e.go ≡ o → Acts s e.go
  by_go None l h = absurd (allowed _ (if_unknown p s e (l, h)))
  by_go (Some g) l h = by_status g g.status l h refl

  by_run : (r : Run) → s.run ≡ r → Acts s e.go
  by_run live l = by_go (s.goroutines e.go) l refl
  by_run ended l = absurd (allowed _ (if_over p s e (λ k. not_ended (sym l ∙ k))))
  by_run (faulted f) l = absurd (allowed _ (if_over p s e (λ k. let h : faulted f ≡ live = sym l ∙ k in cc)))

  pub acts : Acts s e.go
  acts = by_run s.run refl

  pub acts_is : can_act s e.go ≡ true
  acts_is = let a = acts in rw (a.runs, a.there, a.is_up) refl

  module _ (checked : IsChecked p) (reached : Reached p s) where
    stands : StandsAs ready acts.goroutine.frames
    stands = let a = acts in subst (λ x. StandsAs x a.goroutine.frames) a.is_up (checked_stands checked.file p s e.go a.goroutine checked.checked reached a.there)

    -- a clause that is picked is there
    module _ (i : ℕ) (is : e.choice ≡ Pick i) where
      at : StandsReady s e.go (frame_there acts.goroutine.frames stands).0
      at = record { runs = acts.runs; goroutine = acts.goroutine; here = acts.there; is_ready = acts.is_up; below = (frame_there acts.goroutine.frames stands).1; frames = (frame_there acts.goroutine.frames stands).2 }

      abbrev f : Frame
      f = (frame_there acts.goroutine.frames stands).0

      among : (n : ℕ) → how_many_clauses (s.goroutines e.go) ≡ n → (j : ℕ) → i ≡ suc j → j < n → In i (range_with_len 1 (how_many_clauses (s.goroutines e.go)))
      among n h j q l =
          let k : 1 + j ≡ i = let w : suc j ≡ i = sym q in omega (arith, w) in
          subst (λ m. In i (range_with_len 1 m)) (sym h) (subst (λ m. In m (range_with_len 1 n)) k (in_range 1 n j l))

      no_such : (cs : List Communication) → deed f ≡ gives (Chooses cs) → HasNoSuch s cs (Pick i) → ⊥
      no_such cs d h = elim ((if_select p s e f at cs d).1 (subst (HasNoSuch s cs) (sym is) h)) [ inl q ↦ allowed _ q | inr q ↦ allowed _ q ]

      by_clause : (cs : List Communication) → deed f ≡ gives (Chooses cs) → (k : ℕ) → i ≡ k → (o : Option Communication) → clause_at cs k ≡ o → In i (range_with_len 1 (how_many_clauses (s.goroutines e.go)))
      by_clause cs d k q None h = absurd (no_such cs d (subst (CannotPick s) (sym (ap (clause_at cs) q ∙ h)) tt))
      by_clause cs d zero q (Some c) h = absurd (none_some c h)
      by_clause cs d (suc j) q (Some c) h =
          let count = how_many s e.go acts.goroutine f (frame_there acts.goroutine.frames stands).1 cs acts.there (frame_there acts.goroutine.frames stands).2 d in
          among (length cs) count j q (slice_get_within cs j c h)

      in_clauses : In i (range_with_len 1 (how_many_clauses (s.goroutines e.go)))
      in_clauses = elim (cases_Bool (is_select (deed f))) [
        | inl t ↦ let cs = clauses (deed f) t in by_clause cs.0 cs.1 i refl (clause_at cs.0 i) refl
        | inr n ↦ absurd (allowed _ ((if_plain p s e f at n).1 (λ k. let h : Pick i ≡ Plain = sym is ∙ k in cc)))
      ]

      may_pick : may p s e.go (Pick i) ≡ true
      may_pick = ap (λ c. is_none (refusal p s (event_by e.go c))) (sym is) ∙ ap is_none possible

      pub in_ready : In i (ready_clauses p s e.go)
      in_ready = in_filter (λ i. may p s e.go (Pick i)) _ i in_clauses may_pick

    event_is : (c : Choice) → e.choice ≡ c → e ≡ event_by e.go c
    event_is c h i = record { go = e.go; choice = h i }

    pub in_choices : (e.choice ≡ usual_choice p s e.go) ⊎ ((i : ℕ) × (e.choice ≡ Pick i)) → In e (choices_of p s e.go)
    in_choices usual = elim (cases_Bool (is_pick e.choice)) [
      | inl t ↦
          let i = picked e.choice t in
          In-append_right e _ (map (λ i. event_by e.go (Pick i)) (ready_clauses p s e.go))
          (subst (λ x. In x (map (λ i. event_by e.go (Pick i)) (ready_clauses p s e.go))) (sym (event_is (Pick i.0) i.1)) (in_map (λ i. event_by e.go (Pick i)) (ready_clauses p s e.go) i.0 (in_ready i.0 i.1)))
      | inr n ↦ elim usual [
        | inl u ↦
            let plain : is_pick (usual_choice p s e.go) ≡ false = ap is_pick (sym u) ∙ n in
            In-append_left e _ (map (λ i. event_by e.go (Pick i)) (ready_clauses p s e.go))
            (subst (In e) (sym (ap (λ b. if b then [] else event_by e.go (usual_choice p s e.go) ∷ []) plain)) (inl (event_is (usual_choice p s e.go) u)))
        | inr w ↦ absurd (no_truth (sym n ∙ ap is_pick w.1))
      ]
    ]

pub possible_events : (p : Program) (s t : State) (e : Event) → IsChecked p → Reached p s → next_state p s e ≡ Some t → (can_act s e.go ≡ true) × In e (choices_of p s e.go)
possible_events p s t e checked reached next =
    let n = noted p s t e next in
    let possible : refusal p s e ≡ None = by_refusal n.0 n.1 (refusal p s e) refl in
    (acts_is p s e possible, in_choices p s e possible checked reached (step_is_usual p s t e n.0 n.1))
  where
    by_refusal : (n : (machine p).Note) → (machine p).step s e ≡ Some (t, n) → (o : Option Refusal) → refusal p s e ≡ o → refusal p s e ≡ None
    by_refusal n step None q = q
    by_refusal n step (Some r) q = absurd (none_some _ (sym ((refused_is_no_step p s e).1 (r, q)) ∙ step))

-- a goroutine that can act is there
pub acts_there : (s : State) (g : List ℕ) → can_act s g ≡ true → (x : Goroutine) × (s.goroutines g ≡ Some x)
acts_there s g a = by s.run (s.goroutines g) refl a
  where
    by : (r : Run) (o : Option Goroutine) → s.goroutines g ≡ o
        → (elim r [ live ↦ elim o [ Some x ↦ elim x.status [ ready ↦ true | _ ↦ false ] | None ↦ false ] | _ ↦ false ]) ≡ true → (x : Goroutine) × (s.goroutines g ≡ Some x)
    by live (Some x) e h = (x, e)
    by live None e h = absurd (no_truth h)
    by ended o e h = absurd (no_truth h)
    by (faulted f) o e h = absurd (no_truth h)

-- a list of choices has those of each goroutine
pub in_all_choices : (p : Program) (s : State) (names : List (List ℕ)) (e : Event) → In e.go names → can_act s e.go ≡ true → In e (choices_of p s e.go) → In e (all_choices p s names)
in_all_choices p s [] e i a c = absurd i
in_all_choices p s (n ∷ names) e i a c = elim i [
  | inl q ↦ In-append_left e (choices_at p s n) (all_choices p s names) (subst (λ m. In e (choices_at p s m)) q (subst (In e) (sym (ap (λ b. if b then choices_of p s e.go else []) a)) c))
  | inr j ↦ In-append_right e (choices_at p s n) (all_choices p s names) (in_all_choices p s names e j a c)
]
