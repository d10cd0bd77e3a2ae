-- A local step leaves its goroutine ready.
use Rattle.std.proofs.Common.{fold, ◌≡◌, ℕ, Bool, true, false, not, List, [], ◌∷◌, Option, Some, None, refl, sym, ◌∙◌, ap, subst}
use Rattle.gr_base.specs.declared.values.Value.{Value}
use Rattle.gr_base.specs.declared.events.Choice.TheVariants as choices
use Rattle.gr_base.specs.declared.objects.Object.{Object}
use Rattle.gr_causal.specs.Rules.{Plan, Note, plan, carried, with_read}
use Rattle.gr_causal.proofs.ListLemmas.{some_is, none_not}
use Rattle.gr_program.specs.Programs.{Program}
use Rattle.gr_rules.specs.Outcomes.{Outcome, gives, faults, wrong}
use Rattle.gr_rules.specs.Frames.{Frame}
use Rattle.gr_rules.specs.Deeds.{Deed, Moves, Prints, Enters, Leaves, deed, resumed}
use Rattle.gr_rules.specs.Goroutines.{Status, ready, waiting, finished, Goroutine}
use Rattle.gr_rules.specs.States.{Run, live, ended, faulted, Cell, go_has, State, same_go, look, put, call_of}
use Rattle.gr_rules.specs.Attempts.{Report, Attempt, refuse, perform, ask, rule_of, ask_go}
use Rattle.gr_rules.specs.Actors.{Actor, given}
use Rattle.gr_rules.specs.Steps.{is_deepest, enter, leave, act_by, act_in, if_ready, if_known, if_live, attempt, rulebook, machine}
use Rattle.gr_rules.specs.LocalSteps.{stays_within, stays_within_by, is_local_at, is_local_in, is_local}
use Rattle.gr_laws.proofs.CellLemmas.{no_truth, go_self, updated_here}
use Rattle.gr_laws.proofs.LocalLemmas.{Plainly}
use Rattle.gr_laws.proofs.SureLemmas.{Sure, sure_resumed, sure_call}

module _ (p : Program) (s : State) (g : List ℕ) where
  -- the one cell has the goroutine, which is ready
  record Up (cells : List Cell) : Type 0 where
    left : Goroutine
    is : cells ≡ go_has g (Some left) ∷ []
    up : left.status ≡ ready

  -- where the attempt is a step, it leaves the goroutine ready
  abbrev LeavesUp : Attempt → Type 0
  LeavesUp (refuse r) = Unit {0}
  LeavesUp (perform r cells) = Up cells
  LeavesUp (ask o f) = LeavesUp (f (look s o))

  record U (x : Attempt) : Type 0 where
    leaves : LeavesUp x

  one_up : {r : Report} (h : Goroutine) → h.status ≡ ready → (name : List ℕ) → name ≡ g → U (perform r (go_has name (Some h) ∷ []))
  one_up h q name e = record { leaves = record { left = h; is = ap (λ n. go_has n (Some h) ∷ []) e; up = q } }

  given_up : {A : Type 0} (a : Actor) (x : Outcome A) {k : A → Attempt} → Sure x → ((v : A) → U (k v)) → U (given a x k)
  given_up a (gives v) h k = k v
  given_up a (faults e) h k = absurd h
  given_up a wrong h k = record { leaves = tt }

  module _ (a : Actor) (named : a.name ≡ g) (up : a.before.status ≡ ready) where
    enter_up : (n : ℕ) (vs : List Value) (deepest : Bool) → is_deepest a.before.frames ≡ deepest → not deepest ≡ true → U (enter a n vs)
    enter_up n vs true d h = absurd (no_truth h)
    enter_up n vs false d h = rw d (given_up a (call_of a.program n vs) (sure_call a.program n vs) (λ f. one_up _ up a.name named))

    act_up : (d : Deed) → a.before.frames ≡ a.frame ∷ a.below → stays_within (a.frame ∷ a.below) d ≡ true → U (act_by a choices.Plain (gives d))
    act_up (Moves on) q h = one_up _ up a.name named
    act_up (Prints line) q h = one_up _ up a.name named
    act_up (Enters n vs) q h = enter_up n vs (is_deepest (a.frame ∷ a.below)) (ap is_deepest q) h
    act_up (Leaves v) q h = leave_up a.below h
      where
        leave_up : (fs : List Frame) → stays_within (a.frame ∷ fs) (Leaves v) ≡ true → U (leave a v fs)
        leave_up [] h = absurd (no_truth h)
        leave_up (f ∷ fs) h = given_up a (resumed f v) (sure_resumed f v) (λ f. one_up _ up a.name named)
    act_up _ q h = absurd (no_truth h)

    by_outcome : (d : Outcome Deed) → a.before.frames ≡ a.frame ∷ a.below → stays_within_by (a.frame ∷ a.below) d ≡ true → U (act_by a choices.Plain d)
    by_outcome (gives d) q h = act_up d q h
    by_outcome (faults x) q h = absurd (no_truth h)
    by_outcome wrong q h = absurd (no_truth h)

  by_frames : (x : Goroutine) → x.status ≡ ready → (fs : List Frame) → x.frames ≡ fs → is_local_at fs ≡ true → U (act_in p (Plainly p s g) x fs)
  by_frames x up [] q h = record { leaves = tt }
  by_frames x up (f ∷ fs) q h = by_outcome (record { program = p; name = g; before = x; frame = f; below = fs }) refl up (deed f) q h

  by_status : (x : Goroutine) (y : Status) → x.status ≡ y → (elim y [ ready ↦ is_local_at x.frames | _ ↦ false ]) ≡ true → U (if_ready p (Plainly p s g) x y)
  by_status x ready e h = by_frames x e x.frames refl h
  by_status x (waiting ws) e h = record { leaves = tt }
  by_status x finished e h = record { leaves = tt }

  by_known : (x : Option Goroutine) → (elim x [ Some y ↦ is_local_in y | None ↦ false ]) ≡ true → U (if_known p (Plainly p s g) x)
  by_known None h = record { leaves = tt }
  by_known (Some x) h = by_status x x.status refl h

  by_run : (r : Run) → is_local s g ≡ true → LeavesUp (if_live (ask_go g (if_known p (Plainly p s g))) r)
  by_run live h = (by_known (s.goroutines g) h).leaves
  by_run ended h = tt
  by_run (faulted f) h = tt

  cells_up : (x : Attempt) (y : Plan Object Cell Report) → LeavesUp x → plan (rulebook p) s (rule_of x) ≡ Some y → Up y.cells
  cells_up (refuse r) y c h = absurd (none_not _ h)
  cells_up (perform r cells) y c h = subst (λ (z : Plan Object Cell Report). Up z.cells) (some_is _ _ h) c
  cells_up (ask o f) y c h = by_rest (λ z. cells_up (f (look s o)) z c) (plan (rulebook p) s (rule_of (f (look s o)))) refl h
    where
      by_rest : ((z : Plan Object Cell Report) → plan (rulebook p) s (rule_of (f (look s o))) ≡ Some z → Up z.cells)
          → (r : Option (Plan Object Cell Report)) → plan (rulebook p) s (rule_of (f (look s o))) ≡ r → with_read o r ≡ Some y → Up y.cells
      by_rest ih None d q = absurd (none_not _ q)
      by_rest ih (Some z) d q = subst (λ (x : Plan Object Cell Report). Up x.cells) (some_is _ _ q) (ih z d)

  -- the goroutine after the step
  pub record LeftUp (t : State) : Type 0 where
    pub left : Goroutine
    pub there : t.goroutines g ≡ Some left
    pub up : left.status ≡ ready

  pub left_up : (t : State) (n : Note Object Report) → is_local s g ≡ true → (machine p).step s (Plainly p s g) ≡ Some (t, n) → LeftUp t
  left_up t n l h = by_plan (plan (rulebook p) s (rule_of (attempt p (Plainly p s g)))) refl h
    where
      by_plan : (x : Option (Plan Object Cell Report)) → plan (rulebook p) s (rule_of (attempt p (Plainly p s g))) ≡ x → carried (rulebook p) s x ≡ Some (t, n) → LeftUp t
      by_plan None d q = absurd (none_not _ q)
      by_plan (Some y) d q =
          let w = cells_up (attempt p (Plainly p s g)) y (by_run s.run l) d in
          let is = ap (λ (r : State × Note Object Report). r.0) (some_is _ _ q) in
          record {
            left = w.left;
            there = ap (λ (x : State). x.goroutines g) (sym is) ∙ ap (λ cs. (fold put s cs).goroutines g) w.is ∙ updated_here same_go go_self s.goroutines g (Some w.left);
            up = w.up;
          }
