-- What is known of a program that runs: the steps that are kept, the state to which they lead, and the steps that may be done
-- again. Lanese, Nishida, Palacios and Vidal, A theory of reversibility for Erlang (2018): a system with its history.
use Rattle.std.specs.Prelude.{List, [], map}
use Rattle.gr_base.specs.declared.events.Event.{Event}
use Rattle.gr_base.specs.declared.names.StepId.{StepId}
use Rattle.gr_program.specs.Programs.{Program}
use Rattle.gr_rules.specs.States.{State, start}
use Rattle.gr_laws.specs.Reached.{Logged}
pub use Rattle.gr_step.specs.Pairs.{id_of}

-- the steps that are kept, the oldest first, and the state to which they lead
pub record Past (p : Program) : Type 0 where
  pub log : List (Logged p)
  pub state : State

-- a past, and the events of the steps that may be done again, in the order in which they were taken
pub record Timeline (p : Program) : Type 0 where
  pub past : Past p
  pub again : List Event

-- no step, and the state in which the program starts
abbrev pub first_past : (p : Program) → Past p
first_past p = record { log = []; state = start p }

abbrev pub first_timeline : (p : Program) → Timeline p
first_timeline p = record { past = first_past p; again = [] }

-- the events of steps
abbrev pub events_in : (p : Program) → List (Logged p) → List Event
events_in p steps = map (λ r. r.event) steps

-- the names of steps
abbrev pub ids_of : (p : Program) → List (Logged p) → List StepId
ids_of p steps = map (id_of p) steps
