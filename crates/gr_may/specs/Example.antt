-- A worked example: a goroutine that is left waiting, while `main` goes on.
--
-- func main() {
--     c := make(chan int)
--     go read(c)
--     println()
-- }
--
-- func read(c chan int) { <-c }
use Rattle.std.specs.Prelude.{ℕ, pos, false, List, [], ◌∷◌, Some, None, if◌then◌else◌, codes}
use Rattle.gr_tree.specs.declared.expr.Direction.TheVariants.{Both}
use Rattle.gr_base.specs.declared.names.ChName.{ChName}
use Rattle.gr_base.specs.declared.values.Value.TheVariants.{Int, Chan}
use Rattle.gr_channels.specs.Objects.{GateContent}
use Rattle.gr_program.specs.Types.{IntType, ChanType}
use Rattle.gr_program.specs.Programs as program
use Rattle.gr_program.specs.Programs.{Number, Stmts, Does, stop, FunctionIs, Named, Takes, Program, ProgramIs, none, more}
use Rattle.gr_rules.specs.ExamplePoints.{line}
use Rattle.gr_rules.specs.Operands.{Variable, Receive, nothing, one}
use Rattle.gr_rules.specs.Points.{closing, Eval, Print, at}
use Rattle.gr_rules.specs.Goroutines.{ToReceive, ready, waiting, Goroutine}
use Rattle.gr_rules.specs.Operators.{same_channel}
use Rattle.gr_rules.specs.States.{live, State, same_go}

abbrev pub main_body : Stmts
main_body =
    program.then (Does (line 2) (program.Assign (Some 0 ∷ []) (more program.Make none)))
    (program.then (Does (line 3) (program.Go 1 (more (program.Variable 0) none)))
    (program.then (Does (line 4) (program.Print [])) stop))

abbrev pub read_body : Stmts
read_body = program.then (Does (line 7) (program.Eval (program.Receive (program.Variable 0) (Number (pos 0))))) stop

abbrev pub leaks : Program
leaks = ProgramIs (
    FunctionIs (codes "main") [] None (Named (codes "c") (ChanType Both IntType) ∷ []) main_body (line 5)
    ∷ FunctionIs (codes "read") (Takes (Some 0) (ChanType Both IntType) ∷ []) None (Named (codes "c") (ChanType Both IntType) ∷ []) read_body (line 7)
    ∷ []) 0

-- the channel that `main` made, and the goroutine that it started
abbrev pub made : ChName
made = record { go = []; n = 1 }

abbrev pub reader : List ℕ
reader = 1 ∷ []

-- `main` stands at `println`
abbrev pub main_goes_on : Goroutine
main_goes_on = record {
  status = ready;
  frames = record { function = 0; variables = Some (Chan (Some made)) ∷ []; point = at (line 4) (Print []) nothing (closing (line 5)) } ∷ [];
  steps = 2;
  children = 1;
  channels = 1;
  text = [];
}

abbrev pub reader_waits : Goroutine
reader_waits = record {
  status = waiting (ToReceive made None ∷ []);
  frames = record {
    function = 1;
    variables = Some (Chan (Some made)) ∷ [];
    point = at (line 7) Eval (one (Receive (Variable 0) (Int (pos 0)))) (closing (line 7));
  } ∷ [];
  steps = 1;
  children = 0;
  channels = 0;
  text = [];
}

abbrev pub gate : GateContent
gate = record { capacity = 0; closed = false; senders = []; receivers = record { go = reader; case = None; value = tt } ∷ [] }

abbrev pub leaked : State
leaked = record {
  run = live;
  goroutines = λ n. if same_go n [] then Some main_goes_on else (if same_go n reader then Some reader_waits else None);
  gates = λ c. if same_channel c made then Some gate else None;
  tails = λ c. 0;
  heads = λ c. 0;
  slots = λ c i. None;
}
