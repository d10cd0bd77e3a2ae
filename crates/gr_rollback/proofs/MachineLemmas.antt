-- Machines before their first step, and after a step.
use Rattle.std.proofs.Common.{◌≡◌, ◌+◌, ◌≤◌, ℕ, [], refl, arith}
use Rattle.gr_base.specs.declared.events.Event.{Event}
use Rattle.gr_program.specs.Programs.{Program}
use Rattle.gr_rollback.specs.declared.TheConstants.{LOG_LIMIT}
use Rattle.gr_rollback.specs.declared.machine.Machine.{Machine}
use Rattle.gr_rollback.specs.declared.stepped.Stepped.{Stepped}
use Rattle.gr_rollback.specs.Courses.{Holds}
use Rattle.gr_rollback.specs.Machines.{again_of, Stands}
use Rattle.gr_rollback.specs.Pasts.{Past, Timeline}
use Rattle.gr_rollback.specs.Steps.{Keeps, Takes}

no_more : (n limit : ℕ) → n ≤ limit → n + 0 ≤ limit
no_more n limit h = omega (arith, h)

-- a past after which nothing may be done again
pub stands_alone : (p : Program) (past : Past p) (m : Machine) → Holds p past m.course → again_of m ≡ [] → Stands p (record { past = past; again = [] }) m
stands_alone p past m holds none = record {
  holds = holds;
  again = none;
  can_go = record { steps = []; state = past.state; leads = refl; events_are = refl };
  short = no_more _ LOG_LIMIT holds.short;
}

-- a step has joined the log
pub takes : (p : Program) (w : Timeline p) (e : Event) (told : Stepped) (m : Machine) → Keeps p w.past e told m.course → again_of m ≡ []
    → Takes p w e told m
takes p w e told m keeps none = record {
  step = keeps.step;
  state = keeps.state;
  joins = keeps.joins;
  tells = keeps.tells;
  stands = stands_alone p _ m keeps.holds none;
}
