use Rattle.gr_code.proofs.Simulation.{simulates}
use Rattle.gr_code.proofs.Staying.{stays}
use Rattle.gr_code.proofs.Remaining.{point_after_fill}
use Rattle.gr_code.proofs.ExampleLemmas.{joins, loops, chooses}
use Rattle.gr_code.proofs.ProgramExampleLemmas.{copies}
use Rattle.gr_code.proofs.law_of_code.Goals as goal

pub returns-clause-simulates : goal.returns-clause-simulates
returns-clause-simulates c =
    λ n means code function s all i is at none clear holds. simulates n means function s all holds none (means s.number) i (is s.number i at) clear

pub returns-clause-stays : goal.returns-clause-stays
returns-clause-stays c = λ n means code s all i is at none clear. stays n means s all none (means s.number) i (is s.number i at) clear

pub returns-clause-continues : goal.returns-clause-continues
returns-clause-continues c = λ n ts rest none below. point_after_fill n ts none rest below

pub returns-clause-copies : goal.returns-clause-copies
returns-clause-copies c = copies

pub returns-clause-joins : goal.returns-clause-joins
returns-clause-joins c = joins

pub returns-clause-loops : goal.returns-clause-loops
returns-clause-loops c = loops

pub returns-clause-chooses : goal.returns-clause-chooses
returns-clause-chooses c = chooses
