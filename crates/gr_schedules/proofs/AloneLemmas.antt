-- The plain step of a goroutine that is local may be taken alone.
use Rattle.std.proofs.Common.{◌≡◌, ◌⊎◌, ◌<◌, ℕ, ◌+◌, true, false, List, [], ◌∷◌, ◌++◌, Option, Some, None, refl, sym, ◌∙◌, ap, subst, inl, inr, arith}
use Rattle.gr_base.specs.declared.names.ChName.{ChName}
use Rattle.gr_base.specs.declared.values.Value.{Value}
use Rattle.gr_base.specs.declared.events.Choice.{Choice}
use Rattle.gr_base.specs.declared.events.Choice.TheVariants.{Plain, Pick, Default, Park}
use Rattle.gr_base.specs.declared.events.Event.{Event}
use Rattle.gr_base.specs.declared.kinds.Fault.{Fault}
use Rattle.gr_base.specs.declared.objects.Object.TheVariants.{Run as TheRun, Go}
use Rattle.gr_causal.specs.Sequences.{In}
use Rattle.gr_causal.proofs.ListLemmas.{some_is, none_not, In-of_map}
use Rattle.gr_channels.specs.declared.waiter.Waiter.{Waiter}
use Rattle.gr_channels.specs.Objects.{GateContent}
use Rattle.gr_program.specs.Programs.{Program}
use Rattle.gr_rules.specs.Outcomes.{Outcome, gives, faults, wrong}
use Rattle.gr_rules.specs.Frames.{Frame}
use Rattle.gr_rules.specs.Deeds.{Deed, Chooses, deed}
use Rattle.gr_rules.specs.Goroutines.{Wait, ToSend, ToReceive, Status, ready, waiting, finished, Goroutine}
use Rattle.gr_rules.specs.States.{Run, live, ended, faulted, run_has, State, look}
use Rattle.gr_rules.specs.Attempts.{Refusal, program_is_over, no_such_goroutine, goroutine_is_done, goroutine_waits, no_such_choice, unsound}
use Rattle.gr_rules.specs.Steps.{machine, refusal}
use Rattle.gr_rules.specs.LocalSteps.{stays_within_by, is_local_at, is_local_in, is_local}
use Rattle.gr_rules.specs.Touches.{senders_at, receivers_at, waits_at}
use Rattle.gr_laws.specs.Reached.{Reached}
use Rattle.gr_laws.specs.Refusals.{StandsReady, is_select}
use Rattle.gr_laws.specs.Soundness.{Stands, SoundWaits}
use Rattle.gr_laws.proofs.CellLemmas.{no_truth, go_name, run_is, goroutine_is}
use Rattle.gr_laws.proofs.AttemptTouches.{touched_as}
use Rattle.gr_laws.proofs.LocalLemmas.{Plainly, local_step}
use Rattle.gr_laws.proofs.ReasonLemmas.{reason, if_over, if_plain}
use Rattle.gr_laws.proofs.RefusalLemmas.{refused_is_no_step}
use Rattle.gr_laws.proofs.RuleWaits.{reached_waits, reached_writes}
use Rattle.type_safety.specs.Standing.{children_of}
use Rattle.type_safety.proofs.CheckedRuns.{checked_sounds, checked_names}
use Rattle.gr_record.specs.Running.{IsChecked}
use Rattle.gr_schedules.specs.Schedules.{IsBad, is_alone}
use Rattle.gr_schedules.proofs.ChoiceLemmas.{acts}
use Rattle.gr_schedules.proofs.GoTouches.{touched_go}
use Rattle.gr_schedules.proofs.LocalSteps.{KeepsWithin}

-- an event that may be taken alone, and the goroutine whose step it is
pub record StandsAlone (s : State) (a : Event) : Type 0 where
  pub runs : s.run ≡ live
  pub plain : a.choice ≡ Plain
  pub is_local : is_local s a.go ≡ true
  pub goroutine : Goroutine
  pub there : s.goroutines a.go ≡ Some goroutine
  pub is_up : goroutine.status ≡ ready
  pub frame : Frame
  pub below : List Frame
  pub frames : goroutine.frames ≡ frame ∷ below
  pub no_select : is_select (deed frame) ≡ false

not_ended : ended ≡ live → ⊥
not_ended e = cc

live_not_faulted : (f : Fault) → live ≡ faulted f → ⊥
live_not_faulted f e = cc

ready_not_done : ready ≡ finished → ⊥
ready_not_done e = cc

ready_not_waiting : (ws : List Wait) → ready ≡ waiting ws → ⊥
ready_not_waiting ws e = cc

-- a local step is no select
no_select_by : (f : Frame) (below : List Frame) (d : Outcome Deed) → stays_within_by (f ∷ below) d ≡ true → is_select d ≡ false
no_select_by f below (gives (Chooses cs)) h = absurd (no_truth h)
no_select_by f below (gives d) h = refl
no_select_by f below (faults e) h = refl
no_select_by f below wrong h = refl

pub stands_alone : (s : State) (a : Event) → is_alone s a ≡ true → StandsAlone s a
stands_alone s a h = by_run s.run refl h
  where
    by_frames : (g : Goroutine) (fs : List Frame) → s.run ≡ live → a.choice ≡ Plain → is_local s a.go ≡ true → s.goroutines a.go ≡ Some g → g.status ≡ ready → g.frames ≡ fs
        → is_local_at fs ≡ true → StandsAlone s a
    by_frames g [] l c i t u q h = absurd (no_truth h)
    by_frames g (f ∷ below) l c i t u q h = record {
      runs = l;
      plain = c;
      is_local = i;
      goroutine = g;
      there = t;
      is_up = u;
      frame = f;
      below = below;
      frames = q;
      no_select = no_select_by f below (deed f) h;
    }

    by_status : (g : Goroutine) (x : Status) → s.run ≡ live → a.choice ≡ Plain → is_local s a.go ≡ true → s.goroutines a.go ≡ Some g → g.status ≡ x
        → (elim x [ ready ↦ is_local_at g.frames | _ ↦ false ]) ≡ true → StandsAlone s a
    by_status g ready l c i t u h = by_frames g g.frames l c i t u refl h
    by_status g (waiting ws) l c i t u h = absurd (no_truth h)
    by_status g finished l c i t u h = absurd (no_truth h)

    by_known : (o : Option Goroutine) → s.run ≡ live → a.choice ≡ Plain → is_local s a.go ≡ true → s.goroutines a.go ≡ o
        → (elim o [ Some x ↦ is_local_in x | None ↦ false ]) ≡ true → StandsAlone s a
    by_known None l c i t h = absurd (no_truth h)
    by_known (Some g) l c i t h = by_status g g.status l c i t refl h

    by_choice : (c : Choice) → s.run ≡ live → a.choice ≡ c → (elim c [ Plain ↦ is_local s a.go | _ ↦ false ]) ≡ true → StandsAlone s a
    by_choice Plain l c h = by_known (s.goroutines a.go) l c h refl h
    by_choice (Pick i) l c h = absurd (no_truth h)
    by_choice Default l c h = absurd (no_truth h)
    by_choice Park l c h = absurd (no_truth h)

    by_run : (r : Run) → s.run ≡ r → (elim r [ live ↦ elim a.choice [ Plain ↦ is_local s a.go | _ ↦ false ] | _ ↦ false ]) ≡ true → StandsAlone s a
    by_run live l h = by_choice a.choice l refl h
    by_run ended l h = absurd (no_truth h)
    by_run (faulted f) l h = absurd (no_truth h)

at_frame : (s : State) (a e : Event) (w : StandsAlone s a) → e.go ≡ a.go → StandsReady s e.go w.frame
at_frame s a e w same = record {
  runs = w.runs;
  goroutine = w.goroutine;
  here = ap s.goroutines same ∙ w.there;
  is_ready = w.is_up;
  below = w.below;
  frames = w.frames;
}

is_plain : (c : Choice) → (c ≡ Plain) ⊎ (c ≡ Plain → ⊥)
is_plain Plain = inl refl
is_plain (Pick i) = inr (λ e. cc)
is_plain Default = inr (λ e. cc)
is_plain Park = inr (λ e. cc)

-- whether an event may be taken alone depends on its goroutine and on whether the program runs
pub alone_by_looks : (s r : State) (a : Event) → is_alone s a ≡ true → look r TheRun ≡ look s TheRun → look r (Go a.go) ≡ look s (Go a.go) → is_alone r a ≡ true
alone_by_looks s r a h run own =
    ap (λ (x : Run). elim x [ live ↦ elim a.choice [ Plain ↦ is_local r a.go | _ ↦ false ] | _ ↦ false ]) (run_is r.run s.run run)
    ∙ ap (λ (o : Option Goroutine). elim s.run [ live ↦ elim a.choice [ Plain ↦ elim o [ Some x ↦ is_local_in x | None ↦ false ] | _ ↦ false ] | _ ↦ false ])
    (goroutine_is a.go (r.goroutines a.go) (s.goroutines a.go) own)
    ∙ h

-- nothing is bad where it may be
pub alone_is_fine : (s : State) (a : Event) → is_alone s a ≡ true → IsBad s → ⊥
alone_is_fine s a h b =
    let w = stands_alone s a h in
    elim b [ inl f ↦ live_not_faulted f.0 (sym w.runs ∙ f.1) | inr q ↦ q.1 a.go (w.goroutine, w.there, w.is_up) ]

-- a goroutine that stands in a queue waits
queued_waits : (s : State) (g : List ℕ) (c : ChName) (o : Option GateContent) → s.gates c ≡ o → SoundWaits s → In g (senders_at o) ⊎ In g (receivers_at o)
    → (w : Wait) × In w (waits_at (s.goroutines g))
queued_waits s g c None at sound q = elim q [ inl i ↦ absurd i | inr i ↦ absurd i ]
queued_waits s g c (Some gate) at sound q = elim q [
  | inl i ↦
      let k = In-of_map (λ (w : Waiter Value). w.go) g gate.senders i in
      (ToSend c k.0.case, (sound g (ToSend c k.0.case)).1 (subst (λ o. Stands o g (ToSend c k.0.case)) (sym at) (k.0, k.1, sym k.2, refl)))
  | inr i ↦
      let k = In-of_map (λ (w : Waiter (Unit {0})). w.go) g gate.receivers i in
      (ToReceive c k.0.case, (sound g (ToReceive c k.0.case)).1 (subst (λ o. Stands o g (ToReceive c k.0.case)) (sym at) (k.0, k.1, sym k.2, refl)))
]

no_waits : (o : Option Goroutine) (g : Goroutine) → o ≡ Some g → g.status ≡ ready → waits_at o ≡ []
no_waits o g here up = ap waits_at here ∙ ap (λ x. elim x [ waiting ws ↦ ws | _ ↦ [] ]) up

module _ (p : Program) where
  -- a possible event is not refused
  not_refused : (s t : State) (e : Event) (n : (machine p).Note) → (machine p).step s e ≡ Some (t, n) → refusal p s e ≡ None
  not_refused s t e n h = by (refusal p s e) refl
    where
      by : (o : Option Refusal) → refusal p s e ≡ o → refusal p s e ≡ None
      by None q = q
      by (Some r) q = absurd (none_not _ (sym ((refused_is_no_step p s e).1 (r, q)) ∙ h))

  goes_by : (s : State) (e : Event) → refusal p s e ≡ None → (t : State) × (n : (machine p).Note) × ((machine p).step s e ≡ Some (t, n))
  goes_by s e q = by ((machine p).step s e) refl
    where
      by : (o : Option (State × (machine p).Note)) → (machine p).step s e ≡ o → (t : State) × (n : (machine p).Note) × ((machine p).step s e ≡ Some (t, n))
      by None h = let r = (refused_is_no_step p s e).0 h in absurd (none_not r.0 (sym q ∙ r.1))
      by (Some x) h = (x.0, x.1, h)

  -- nothing else of the same goroutine is possible
  pub alone_is_plain : (s t : State) (n : (machine p).Note) (a e : Event) → is_alone s a ≡ true → (machine p).step s e ≡ Some (t, n) → Go e.go ≡ Go a.go → e ≡ a
  alone_is_plain s t n a e h se own =
      let w = stands_alone s a h in
      let same = go_name e.go a.go own in
      elim (is_plain e.choice) [
        | inl c ↦ λ i. record { go = same i; choice = (c ∙ sym w.plain) i }
        | inr c ↦ absurd (none_not _ (sym (not_refused s t e n se) ∙ (if_plain p s e w.frame (at_frame s a e w same) w.no_select).1 c))
      ]

  -- what ends the run ends all
  pub run_written : (s t : State) (n : (machine p).Note) (e : Event) → Reached p s → (machine p).step s e ≡ Some (t, n) → In TheRun n.writes → t.run ≡ live → ⊥
  run_written s t n e r h i l =
      let a = acts p s e (not_refused s t e n h) in
      (reached_writes p s t r.log e n r.leads h TheRun).0 i (ap run_has (l ∙ sym a.runs))

  pub over : (t : State) (f : Event) → (t.run ≡ live → ⊥) → (machine p).step t f ≡ None
  over t f n = (refused_is_no_step p t f).1 (program_is_over, if_over p t f n)

  module _ (checked : IsChecked p) where
    alone_possible : (s : State) (a : Event) → Reached p s → StandsAlone s a → refusal p s a ≡ None
    alone_possible s a r w = by (refusal p s a) refl
      where
        same : (g : Goroutine) → s.goroutines a.go ≡ Some g → (x : Status) → g.status ≡ x → ready ≡ x
        same g here x has = sym w.is_up ∙ ap (λ (g : Goroutine). g.status) (some_is _ _ (sym w.there ∙ here)) ∙ has

        never : (q : Refusal) → refusal p s a ≡ Some q → ⊥
        never program_is_over e = reason p s a program_is_over e w.runs
        never no_such_goroutine e = none_not _ (sym (reason p s a no_such_goroutine e).1 ∙ w.there)
        never goroutine_is_done e = let h = reason p s a goroutine_is_done e in ready_not_done (same h.goroutine h.here finished h.has)
        never goroutine_waits e = let h = reason p s a goroutine_waits e in ready_not_waiting h.0 (same h.1.goroutine h.1.here (waiting h.0) h.1.has)
        never no_such_choice e = (if_plain p s a w.frame (at_frame s a a w refl) w.no_select).0 e w.plain
        never unsound e = checked_sounds checked.file p s a checked.checked r e

        by : (x : Option Refusal) → refusal p s a ≡ x → refusal p s a ≡ None
        by None e = e
        by (Some q) e = absurd (never q e)

    -- it is possible, and keeps within its goroutine
    pub alone_keeps : (s : State) (a : Event) → Reached p s → is_alone s a ≡ true
        → (t : State) × (n : (machine p).Note) × ((machine p).step s a ≡ Some (t, n)) × KeepsWithin (machine p) TheRun (Go a.go) n
    alone_keeps s a r h =
        let w = stands_alone s a h in
        let g = goes_by s a (alone_possible s a r w) in
        let plainly : a ≡ Plainly p s a.go = λ i. record { go = a.go; choice = w.plain i } in
        let l = local_step p s a.go g.0 g.1 w.is_local (ap ((machine p).step s) (sym plainly) ∙ g.2) in
        (g.0, g.1, g.2, record { writes_own = λ o i. elim (subst (In o) l.1 i) [ inl e ↦ e | inr j ↦ absurd j ]; touches_own = l.0 })

    -- no step of another touches the goroutine
    pub alone_untouched : (s t : State) (n : (machine p).Note) (a e : Event) → Reached p s → is_alone s a ≡ true → (machine p).step s e ≡ Some (t, n) → (Go e.go ≡ Go a.go → ⊥)
        → In (Go a.go) (n.reads ++ n.writes) → ⊥
    alone_untouched s t n a e r h se other i =
        let w = stands_alone s a h in
        elim (touched_go s a.go e n.kind (λ q. other (ap Go (sym q))) (((touched_as p s e t n se).touched (Go a.go)).0 i)) [
          | inl q ↦
              let x = queued_waits s a.go q.0 (s.gates q.0) refl (reached_waits p s r.log r.leads) q.1 in
              subst (In x.0) (no_waits (s.goroutines a.go) w.goroutine w.there w.is_up) x.1
          | inr c ↦
              let fresh = checked_names checked.file p s checked.checked r e.go (c.0.children + 1) [] (more c.0.children (children_of (s.goroutines e.go)) (ap children_of c.1)) in
              none_not _ (sym fresh ∙ ap s.goroutines (sym c.2) ∙ w.there)
        ]
      where
        more : (k n : ℕ) → n ≡ k → n < k + 1
        more k n e = omega (arith, e)
