-- Where an attempt ends is the step of the machine.
use Rattle.std.proofs.Common.{◌≡◌, fold, List, ◌∷◌, Option, Some, None, refl, sym, ◌∙◌, ap}
use Rattle.gr_base.specs.declared.events.Event.{Event}
use Rattle.gr_base.specs.declared.objects.Object.{Object}
use Rattle.gr_causal.specs.Rules.{Note, Plan, plan, carried, with_read}
use Rattle.gr_program.specs.Programs.{Program}
use Rattle.gr_rules.specs.States.{Cell, State, look, put}
use Rattle.gr_rules.specs.Attempts.{Refusal, Report, Attempt, refuse, perform, ask, rule_of, refusal_in}
use Rattle.gr_rules.specs.Steps.{attempt, machine, rulebook}
use Rattle.gr_refine.specs.Leaves.{Leaf, refused, performed, leaf}
use Rattle.gr_refine.specs.Machines.{asked_for, note_of, PerformedIsStep, StepIsPerformed, RefusalIsLeaf}

-- what a rule comes to, by where its attempt ends
abbrev plan_by : List Object → Leaf → Option (Plan Object Cell Report)
plan_by reads (refused r) = None
plan_by reads (performed report cells) = Some (record { kind = report; reads = reads; cells = cells })

read_more : (o : Object) (reads : List Object) (l : Leaf) → with_read o (plan_by reads l) ≡ plan_by (o ∷ reads) l
read_more o reads (refused r) = refl
read_more o reads (performed report cells) = refl

planned : (p : Program) (t : State) (a : Attempt) → plan (rulebook p) t (rule_of a) ≡ plan_by (asked_for t a) (leaf t a)
planned p t (refuse r) = refl
planned p t (perform report cells) = refl
planned p t (ask o f) = ap (with_read o) (planned p t (f (look t o))) ∙ read_more o (asked_for t (f (look t o))) (leaf t (f (look t o)))

stepped : (p : Program) (t : State) (e : Event) → (machine p).step t e ≡ carried (rulebook p) t (plan_by (asked_for t (attempt p e)) (leaf t (attempt p e)))
stepped p t e = ap (carried (rulebook p) t) (planned p t (attempt p e))

pub performed_is_step : PerformedIsStep
performed_is_step p t e report cells ends = stepped p t e ∙ ap (λ l. carried (rulebook p) t (plan_by (asked_for t (attempt p e)) l)) ends

some_is : {X : Type 0} (x y : X) → Some x ≡ Some y → x ≡ y
some_is x y e = cc

none_is_not : {X : Type 0} {x : X} → None ≡ Some x → ⊥
none_is_not e = cc

-- what a step says of the leaf that it comes from
record IsCarried (p : Program) (t u : State) (e : Event) (n : Note Object Report) (l : Leaf) : Type 0 where
  cells : List Cell
  ends : l ≡ performed n.kind cells
  after : u ≡ fold put t cells
  note : n ≡ note_of t (attempt p e) n.kind cells

by_leaf : (p : Program) (t u : State) (e : Event) (n : Note Object Report) (l : Leaf)
    → carried (rulebook p) t (plan_by (asked_for t (attempt p e)) l) ≡ Some (u, n) → IsCarried p t u e n l
by_leaf p t u e n (refused r) h = absurd (none_is_not h)
by_leaf p t u e n (performed report cells) h =
    let both : (fold put t cells, note_of t (attempt p e) report cells) ≡ (u, n) = some_is _ _ h in
    let state : fold put t cells ≡ u = ap (λ (x : State × Note Object Report). x.0) both in
    let note : note_of t (attempt p e) report cells ≡ n = ap (λ (x : State × Note Object Report). x.1) both in
    let kind : report ≡ n.kind = ap (λ (m : Note Object Report). m.kind) note in
    record { cells = cells; ends = ap (λ k. performed k cells) kind; after = sym state; note = sym note ∙ ap (λ k. note_of t (attempt p e) k cells) kind }

pub step_is_performed : StepIsPerformed
step_is_performed p t u e n h =
    let c = by_leaf p t u e n (leaf t (attempt p e)) (sym (stepped p t e) ∙ h) in
    (c.cells, c.ends, c.after, c.note)

abbrev refusal_by : Leaf → Option Refusal
refusal_by (refused r) = Some r
refusal_by (performed report cells) = None

refusal_at_leaf : (t : State) (a : Attempt) → refusal_in t a ≡ refusal_by (leaf t a)
refusal_at_leaf t (refuse r) = refl
refusal_at_leaf t (perform report cells) = refl
refusal_at_leaf t (ask o f) = refusal_at_leaf t (f (look t o))

refused_by : (l : Leaf) (r : Refusal) → refusal_by l ≡ Some r → l ≡ refused r
refused_by (refused q) r h = ap refused (some_is q r h)
refused_by (performed report cells) r h = absurd (none_is_not h)

pub refusal_is_leaf : RefusalIsLeaf
refusal_is_leaf p t e r = (
  λ h. refused_by (leaf t (attempt p e)) r (sym (refusal_at_leaf t (attempt p e)) ∙ h),
  λ h. refusal_at_leaf t (attempt p e) ∙ ap refusal_by h,
)
