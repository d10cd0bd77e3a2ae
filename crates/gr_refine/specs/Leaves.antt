-- What an attempt comes to in a state, and when a change of the state is its step.
use Rattle.std.specs.Prelude.{fold, ◌≡◌, List}
use Rattle.gr_rules.specs.States.{Cell, State, look, put}
use Rattle.gr_rules.specs.Attempts.{Refusal, Report, Attempt, refuse, perform, ask}

-- where an attempt ends: in a refusal, or in a step with the cells that it writes
pub data Leaf : Type 0 where
  refused : Refusal → Leaf
  performed : Report → List Cell → Leaf

abbrev pub leaf : State → Attempt → Leaf
leaf s (refuse r) = refused r
leaf s (perform report cells) = performed report cells
leaf s (ask o f) = leaf s (f (look s o))

-- from the first state the attempt is a step with this report to the second
pub record Performs (attempt : Attempt) (s t : State) (report : Report) : Type 0 where
  pub cells : List Cell
  pub ends : leaf s attempt ≡ performed report cells
  pub after : t ≡ fold put s cells

abbrev pub Refuses : Attempt → State → Refusal → Type 0
Refuses attempt s r = leaf s attempt ≡ refused r
