-- A local step touches `Run` and its own goroutine alone, and writes its own goroutine.
use Rattle.std.proofs.Common.{◌≡◌, ◌⊎◌, ℕ, Bool, true, false, not, List, [], ◌∷◌, ◌++◌, map, Option, Some, None, refl, ◌∙◌, ap, subst, inl, inr}
use Rattle.gr_base.specs.declared.values.Value.{Value}
use Rattle.gr_base.specs.declared.events.Choice.TheVariants as choices
use Rattle.gr_base.specs.declared.events.Event.{Event}
use Rattle.gr_base.specs.declared.objects.Object.{Object}
use Rattle.gr_base.specs.declared.objects.Object.TheVariants.{Run, Go}
use Rattle.gr_causal.specs.Sequences.{In}
use Rattle.gr_causal.specs.Rules.{Plan, Note, plan, carried, with_read}
use Rattle.gr_causal.proofs.ListLemmas.{In-append_cases, some_is, none_not}
use Rattle.gr_program.specs.Programs.{Program}
use Rattle.gr_rules.specs.Outcomes.{Outcome, gives, faults, wrong}
use Rattle.gr_rules.specs.Frames.{Frame}
use Rattle.gr_rules.specs.Deeds.{Deed, Moves, Prints, Enters, Leaves, deed, resumed}
use Rattle.gr_rules.specs.Goroutines.{Status, ready, waiting, finished, Goroutine}
use Rattle.gr_rules.specs.States.{live, ended, faulted, Cell, State, object_of, look, call_of}
use Rattle.gr_rules.specs.States as states
use Rattle.gr_rules.specs.Attempts.{Report, Attempt, refuse, perform, ask, rule_of, ask_go}
use Rattle.gr_rules.specs.Actors.{Actor, given}
use Rattle.gr_rules.specs.Steps.{is_deepest, enter, leave, act_by, act_in, if_ready, if_known, if_live, attempt, rulebook, machine}
use Rattle.gr_rules.specs.LocalSteps.{stays_within, stays_within_by, is_local_at, is_local_in, is_local}
use Rattle.gr_laws.proofs.CellLemmas.{no_truth}
use Rattle.gr_laws.proofs.SureLemmas.{Sure, sure_resumed, sure_call}

module _ (p : Program) (s : State) (g : List ℕ) where
  abbrev pub Plainly : Event
  Plainly = record { go = g; choice = choices.Plain }

  -- the attempt asks for `Run` and the goroutine alone, and writes the goroutine alone
  abbrev Near : Attempt → Type 0
  Near (refuse r) = Unit {0}
  Near (perform r cells) = map object_of cells ≡ Go g ∷ []
  Near (ask o f) = ((o ≡ Run) ⊎ (o ≡ Go g)) × Near (f (look s o))

  record N (x : Attempt) : Type 0 where
    near : Near x

  written_alone : {r : Report} {cells : List Cell} → map object_of cells ≡ Go g ∷ [] → N (perform r cells)
  written_alone h = record { near = h }

  given_near : {A : Type 0} (a : Actor) (x : Outcome A) {k : A → Attempt} → Sure x → ((v : A) → N (k v)) → N (given a x k)
  given_near a (gives v) h k = k v
  given_near a (faults e) h k = absurd h
  given_near a wrong h k = record { near = tt }

  enter_near : (a : Actor) → a.name ≡ g → (n : ℕ) (vs : List Value) (deepest : Bool) → is_deepest a.before.frames ≡ deepest
      → not deepest ≡ true → N (enter a n vs)
  enter_near a e n vs true d h = absurd (no_truth h)
  enter_near a e n vs false d h = rw d (given_near a (call_of a.program n vs) (sure_call a.program n vs) (λ f. written_alone (ap (λ m. Go m ∷ []) e)))

  act_near : (a : Actor) (d : Deed) → a.name ≡ g → a.before.frames ≡ a.frame ∷ a.below
      → stays_within (a.frame ∷ a.below) d ≡ true → N (act_by a choices.Plain (gives d))
  act_near a (Moves on) e q h = written_alone (ap (λ m. Go m ∷ []) e)
  act_near a (Prints line) e q h = written_alone (ap (λ m. Go m ∷ []) e)
  act_near a (Enters n vs) e q h = enter_near a e n vs (is_deepest (a.frame ∷ a.below)) (ap is_deepest q) h
  act_near a (Leaves v) e q h = leave_near a.below h
    where
      leave_near : (fs : List Frame) → stays_within (a.frame ∷ fs) (Leaves v) ≡ true → N (leave a v fs)
      leave_near [] h = absurd (no_truth h)
      leave_near (f ∷ fs) h = given_near a (resumed f v) (sure_resumed f v) (λ f. written_alone (ap (λ m. Go m ∷ []) e))
  act_near a _ e q h = absurd (no_truth h)

  by_outcome : (a : Actor) (d : Outcome Deed) → a.name ≡ g → a.before.frames ≡ a.frame ∷ a.below
      → stays_within_by (a.frame ∷ a.below) d ≡ true → N (act_by a choices.Plain d)
  by_outcome a (gives d) e q h = act_near a d e q h
  by_outcome a (faults x) e q h = absurd (no_truth h)
  by_outcome a wrong e q h = absurd (no_truth h)

  by_frames : (x : Goroutine) (fs : List Frame) → x.frames ≡ fs → is_local_at fs ≡ true → N (act_in p Plainly x fs)
  by_frames x [] q h = record { near = tt }
  by_frames x (f ∷ fs) q h = by_outcome (record { program = p; name = g; before = x; frame = f; below = fs }) (deed f) refl q h

  by_status : (x : Goroutine) (y : Status) → (elim y [ ready ↦ is_local_at x.frames | _ ↦ false ]) ≡ true
      → N (if_ready p Plainly x y)
  by_status x ready h = by_frames x x.frames refl h
  by_status x (waiting ws) h = record { near = tt }
  by_status x finished h = record { near = tt }

  by_known : (x : Option Goroutine) → (elim x [ Some y ↦ is_local_in y | None ↦ false ]) ≡ true → N (if_known p Plainly x)
  by_known None h = record { near = tt }
  by_known (Some x) h = by_status x x.status h

  by_run : (r : states.Run) → is_local s g ≡ true → Near (if_live (ask_go g (if_known p Plainly)) r)
  by_run live h = (inr refl, (by_known (s.goroutines g) h).near)
  by_run ended h = tt
  by_run (faulted f) h = tt

  record Stayed (x : Plan Object Cell Report) : Type 0 where
    reads : (o : Object) → In o x.reads → (o ≡ Run) ⊎ (o ≡ Go g)
    writes : map object_of x.cells ≡ Go g ∷ []

  stayed : (x : Attempt) (y : Plan Object Cell Report) → Near x → plan (rulebook p) s (rule_of x) ≡ Some y → Stayed y
  stayed (refuse r) y c h = absurd (none_not _ h)
  stayed (perform r cells) y c h = subst Stayed (some_is _ _ h) (record { reads = λ o i. absurd i; writes = c })
  stayed (ask o f) y c h = by_rest (λ z. stayed (f (look s o)) z c.1) (plan (rulebook p) s (rule_of (f (look s o)))) refl h
    where
      by_rest : ((z : Plan Object Cell Report) → plan (rulebook p) s (rule_of (f (look s o))) ≡ Some z → Stayed z)
          → (r : Option (Plan Object Cell Report)) → plan (rulebook p) s (rule_of (f (look s o))) ≡ r
          → with_read o r ≡ Some y → Stayed y
      by_rest ih None d q = absurd (none_not _ q)
      by_rest ih (Some z) d q = let w = ih z d in subst Stayed (some_is _ _ q) (record {
        reads = λ x i. elim i [ inl e ↦ elim c.0 [ inl u ↦ inl (e ∙ u) | inr u ↦ inr (e ∙ u) ] | inr j ↦ w.reads x j ];
        writes = w.writes;
      })

  pub local_step : (t : State) (n : Note Object Report) → is_local s g ≡ true → (machine p).step s Plainly ≡ Some (t, n)
      → ((o : Object) → In o (n.reads ++ n.writes) → (o ≡ Run) ⊎ (o ≡ Go g)) × (n.writes ≡ Go g ∷ [])
  local_step t n l h = by_plan (plan (rulebook p) s (rule_of (attempt p Plainly))) refl h
    where
      by_plan : (x : Option (Plan Object Cell Report)) → plan (rulebook p) s (rule_of (attempt p Plainly)) ≡ x
          → carried (rulebook p) s x ≡ Some (t, n)
          → ((o : Object) → In o (n.reads ++ n.writes) → (o ≡ Run) ⊎ (o ≡ Go g)) × (n.writes ≡ Go g ∷ [])
      by_plan None d q = absurd (none_not _ q)
      by_plan (Some y) d q =
          let w = stayed (attempt p Plainly) y (inl refl, by_run s.run l) d in
          let is = ap (λ (r : State × Note Object Report). r.1) (some_is _ _ q) in
          subst (λ (m : Note Object Report). ((o : Object) → In o (m.reads ++ m.writes) → (o ≡ Run) ⊎ (o ≡ Go g)) × (m.writes ≡ Go g ∷ [])) is (
            λ o i. elim (In-append_cases o y.reads (map object_of y.cells) i) [
              | inl j ↦ w.reads o j
              | inr j ↦ elim (subst (In o) w.writes j) [ inl e ↦ inr e | inr k ↦ absurd k ]
            ],
            w.writes,
          )
