-- An event is refused exactly where it is no step.
use Rattle.std.proofs.Common.{◌≡◌, Option, Some, None, ◌↔◌, refl, sym, ap}
use Rattle.gr_base.specs.declared.events.Event.{Event}
use Rattle.gr_base.specs.declared.objects.Object.{Object}
use Rattle.gr_causal.specs.Rules.{Plan, plan, carried, with_read}
use Rattle.gr_causal.proofs.ListLemmas.{none_not}
use Rattle.gr_program.specs.Programs.{Program}
use Rattle.gr_rules.specs.States.{Cell, State, look}
use Rattle.gr_rules.specs.Attempts.{Report, Refusal, Attempt, refuse, perform, ask, rule_of, refusal_in}
use Rattle.gr_rules.specs.Steps.{rulebook, machine, attempt, refusal}

module _ (p : Program) where
  abbrev Planned : State → Attempt → Option (Plan Object Cell Report)
  Planned s a = plan (rulebook p) s (rule_of a)

  no_read : (o : Object) (x : Option (Plan Object Cell Report)) → x ≡ None → with_read o x ≡ None
  no_read o x e = ap (with_read o) e

  back : (o : Object) (x : Option (Plan Object Cell Report)) → with_read o x ≡ None → x ≡ None
  back o None e = refl
  back o (Some a) e = absurd (none_not _ (sym e))

  no_plan : (s : State) (a : Attempt) (r : Refusal) → refusal_in s a ≡ Some r → Planned s a ≡ None
  no_plan s (refuse q) r e = refl
  no_plan s (perform report cells) r e = absurd (none_not _ e)
  no_plan s (ask o f) r e = no_read o _ (no_plan s (f (look s o)) r e)

  a_refusal : (s : State) (a : Attempt) → Planned s a ≡ None → (r : Refusal) × (refusal_in s a ≡ Some r)
  a_refusal s (refuse q) e = (q, refl)
  a_refusal s (perform report cells) e = absurd (none_not _ (sym e))
  a_refusal s (ask o f) e = a_refusal s (f (look s o)) (back o _ e)

  not_carried : (s : State) (x : Option (Plan Object Cell Report)) → carried (rulebook p) s x ≡ None → x ≡ None
  not_carried s None e = refl
  not_carried s (Some a) e = absurd (none_not _ (sym e))

  pub refused_is_no_step : (s : State) (e : Event) → ((machine p).step s e ≡ None) ↔ ((r : Refusal) × (refusal p s e ≡ Some r))
  refused_is_no_step s e = (
    λ h. a_refusal s (attempt p e) (not_carried s (Planned s (attempt p e)) h),
    λ h. ap (carried (rulebook p) s) (no_plan s (attempt p e) h.0 h.1),
  )
