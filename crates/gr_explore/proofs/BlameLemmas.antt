-- What is found of the step to blame.
use Rattle.std.proofs.Common.{◌≡◌, ◌≤◌, ◌<◌, ◌+◌, ℕ, List, [], ◌∷◌, take, length, refl, sym, ◌∙◌, ap, subst, arith}
use Rattle.gr_base.specs.declared.events.Event.{Event}
use Rattle.gr_program.specs.Programs.{Program}
use Rattle.gr_step.specs.Stores.{program_at}
use Rattle.gr_rollback.specs.declared.machine.Machine.{Machine}
use Rattle.gr_rollback.specs.Machines.{store_of, Stands, IsMachine}
use Rattle.gr_rollback.specs.Pasts.{Timeline, events_in}
use Rattle.gr_search.specs.declared.search.Answer.TheVariants.{Limited}
use Rattle.gr_search.specs.declared.searched.Limit.{Limit}
use Rattle.gr_search.specs.declared.searched.Limit.TheVariants as limits
use Rattle.gr_schedules.specs.declared.Aim.TheVariants.{EndsWell}
use Rattle.gr_schedules.specs.Schedules.{state_after}
use Rattle.gr_schedules.specs.Aims.{NoneComes, SomeComes}
use Rattle.gr_explore.specs.Exploring.{events_at, ComesTo, StandsAgain, IsHome}
use Rattle.gr_explore.specs.Leading.{seen_as}
use Rattle.gr_explore.specs.declared.blaming.Blame.{Blame}
use Rattle.gr_explore.specs.declared.blaming.Verdict.{Verdict}
use Rattle.gr_explore.specs.declared.blaming.Verdict.TheVariants.{Well, Lost, Unknown}
use Rattle.gr_explore.specs.Blaming.{CanEndWell, IsLost, IsBlame, IsVerdict, IsOf, GoesOn}
use Rattle.gr_explore.proofs.MoveLemmas.{state_here, take_whole, goes_on, stays_on, stands_again}

module _ (m : Machine) (is : IsMachine m) where
  abbrev p : Program
  p = program_at (store_of m)

  abbrev w : Timeline p
  w = is.world

  -- the state is that after all its events
  here : w.past.state ≡ state_after p (take (length (events_at m)) (events_at m))
  here = state_here p w m is.stands ∙ ap (state_after p) (sym (take_whole (events_at m)))

  pub lost_here : NoneComes EndsWell p w.past.state → IsLost p (events_at m) (length (events_at m))
  lost_here h = subst (NoneComes EndsWell p) here h

  pub well_here : (n : Machine) → ComesTo EndsWell p w n → CanEndWell p (events_at m) (length (events_at m))
  well_here n c = subst (SomeComes EndsWell p) here (record { steps = c.steps; state = c.state; leads = c.leads; comes = c.comes })

  pub found_on : (n : Machine) → ComesTo EndsWell p w n → GoesOn m n
  found_on n c = goes_on p w _ m n c.steps refl is.stands c.stands refl

  again_on : (n : Machine) → StandsAgain p w n → GoesOn m n
  again_on n a = stays_on p w _ m n refl is.stands a.stands refl

  pub nothing_on : (n : Machine) → StandsAgain p w n → GoesOn m n
  nothing_on n a = again_on n a

  pub limited_on : (n : Machine) (limit : Limit) → IsHome p w (Limited limit) n → GoesOn m n
  limited_on n limits.Back h = goes_on p w _ m n h.steps refl is.stands h.stands refl
  limited_on n limits.Memory h = again_on n h
  limited_on n limits.Steps h = again_on n h
  limited_on n limits.States h = again_on n h
  limited_on n limits.Turns h = again_on n h

-- the same events give the same verdict
pub verdict_by : (p q : Program) (events had : List Event) (place : ℕ) (v : Verdict) → p ≡ q → had ≡ take place events → IsVerdict p had (length had) v → IsVerdict q events place v
verdict_by p q events had place v e h is = subst (λ x. IsVerdict x events place v) e (by v is)
  where
    after : take (length had) had ≡ take place events
    after = take_whole had ∙ h

    by : (v : Verdict) → IsVerdict p had (length had) v → IsVerdict p events place v
    by Well s = subst (λ es. SomeComes EndsWell p (state_after p es)) after s
    by Lost s = subst (λ es. NoneComes EndsWell p (state_after p es)) after s
    by (Unknown limit) s = tt

-- what a verdict says, at a program that is the same
module _ (p q : Program) (events : List Event) (place : ℕ) (same : p ≡ q) (v : Verdict) where
  pub lost_by : v ≡ Lost → IsVerdict p events place v → IsLost q events place
  lost_by e h = subst (λ x. IsLost x events place) same (subst (IsVerdict p events place) e h)

  pub well_by : v ≡ Well → IsVerdict p events place v → CanEndWell q events place
  well_by e h = subst (λ x. CanEndWell x events place) same (subst (IsVerdict p events place) e h)

module _ (p : Program) where
  -- the next place is lost
  pub next_lost : (events : List Event) (well lost : ℕ) → well < lost → lost ≤ well + 1 → IsLost p events lost → IsLost p events (well + 1)
  next_lost events well lost a b h = let e : lost ≡ well + 1 = omega (arith, a, b) in subst (IsLost p events) e h

  -- some schedule ends well at first, and none at last: so there is a step
  pub some_step : (events : List Event) → CanEndWell p events 0 → IsLost p events (length events) → 0 < length events
  some_step [] well lost = absurd (lost well.steps well.state well.leads well.comes)
  some_step (e ∷ events) well lost = omega arith

-- the step to blame, along the events of a log
pub blame_at : (m : Machine) (events : List Event) (b : Blame) → events ≡ events_at m → IsBlame (program_at (store_of m)) events b
    → (p : Program) (w : Timeline p) → Stands p w m → IsBlame p (events_in p w.past.log) b
blame_at m events b e h p w s =
    let seen = seen_as p w m s in
    subst (λ q. IsBlame q (events_in p w.past.log) b) seen.program_is (subst (λ es. IsBlame (program_at (store_of m)) es b) (e ∙ seen.events_are) h)

-- back where it stood
pub home_at : (m l n : Machine) (events : List Event) (k : ℕ) → events ≡ events_at m → k ≡ length events → IsOf (program_at (store_of m)) l → IsOf (program_at (store_of l)) n
    → events_at n ≡ take k events → (p : Program) (w : Timeline p) → Stands p w m → StandsAgain p w n
home_at m l n events k e all of_l of_n there p w s =
    stands_again p w m n s (record { is = of_n.is; program = of_n.program ∙ of_l.program ∙ (seen_as p w m s).program_is })
    (there ∙ ap (λ j. take j events) all ∙ take_whole events ∙ e)
