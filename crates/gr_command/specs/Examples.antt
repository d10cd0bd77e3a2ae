-- Worked examples of lines and of replies.
use Rattle.std.specs.Prelude.{◌≡◌, pos, true, false, List, ℕ, [], ◌∷◌, ◌++◌, map, Some, None, codes}
use Rattle.gr_base.specs.declared.kinds.Fault.TheVariants.{BadSize}
use Rattle.gr_base.specs.declared.kinds.Kind.TheVariants as kinds
use Rattle.gr_base.specs.declared.names.ChName.{ChName}
use Rattle.gr_base.specs.declared.names.StepId.{StepId}
use Rattle.gr_base.specs.declared.values.Value.TheVariants as values
use Rattle.gr_rules.specs.Goroutines as rules
use Rattle.gr_command.specs.declared.command.Command.TheVariants.{Step, Run, Undo, Back, Redo, Order, Dependents, Causes, Break, Clear, Free, Show, Chan, Text, Console, Log}
use Rattle.gr_command.specs.declared.command.Line.TheVariants.{Command, Quit, Blank, Rejected}
use Rattle.gr_command.specs.declared.refusal.Refusal.TheVariants.{Waits, NothingToUndo, NotKept, NotTheSteps, NothingToRedo}
use Rattle.gr_command.specs.declared.reply.RunEnd.TheVariants as ends
use Rattle.gr_command.specs.declared.target.Target.TheVariants as targets
use Rattle.gr_command.specs.Commands.{meaning}
use Rattle.gr_command.specs.Replies as said
use Rattle.gr_command.specs.Texts.{said_text}

-- a step, and a channel, by the counts of its goroutine and its own
abbrev step_of : List ℕ → ℕ → StepId
step_of go n = record { go = go; n = n }

abbrev channel_of : List ℕ → ℕ → ChName
channel_of go n = record { go = go; n = n }

-- commands that ask for steps, and questions, between spaces and tabs, one with a carriage return behind it
abbrev pub CommandsAreRead : Type 0
CommandsAreRead =
    map meaning (codes "step g0" ∷ codes "  step g0.2  4294967295 " ∷ codes "run 1000000" ∷ (codes "undo" ++ 13 ∷ []) ∷ (codes "show" ++ 9 ∷ codes "g0.10.1")
    ∷ codes "chan g0/c1" ∷ codes "text g0.1" ∷ codes "console" ∷ codes "log" ∷ codes "quit" ∷ [])
    ≡ Command (Step [] None) ∷ Command (Step (2 ∷ []) (Some 4294967295)) ∷ Command (Run 1000000) ∷ Command Undo ∷ Command (Show (10 ∷ 1 ∷ []))
    ∷ Command (Chan (record { go = []; n = 1 })) ∷ Command (Text (1 ∷ [])) ∷ Command Console ∷ Command Log ∷ Quit ∷ []

-- each way to take steps back, and to take them again
abbrev pub WaysBackAreRead : Type 0
WaysBackAreRead =
    map meaning (codes "back g0.1#12" ∷ codes "back go g0.2" ∷ codes "back send g0/c1 3" ∷ codes " back recv  g0.1/c2 4294967295" ∷ codes "back var g0 x_1"
    ∷ codes "back var g0.1 _" ∷ codes "redo" ∷ [])
    ≡ Command (Back (targets.Step (step_of (1 ∷ []) 12))) ∷ Command (Back (targets.Start (2 ∷ []))) ∷ Command (Back (targets.Send 3 (channel_of [] 1)))
    ∷ Command (Back (targets.Receive 4294967295 (channel_of (1 ∷ []) 2))) ∷ Command (Back (targets.Variable [] (codes "x_1")))
    ∷ Command (Back (targets.Variable (1 ∷ []) (codes "_"))) ∷ Command Redo ∷ []

-- an order, what depends on what, breakpoints, and what workers may do
abbrev pub OrdersAreRead : Type 0
OrdersAreRead =
    map meaning (codes "order g0#1" ∷ codes "order g0.1#1  g0#2 g0.1#1" ∷ codes "deps g0#18446744073709551615" ∷ codes "causes g0.3#7"
    ∷ codes "break 12" ∷ codes "clear 4294967295" ∷ codes "free 0" ∷ codes " free 1000000" ∷ [])
    ≡ Command (Order (step_of [] 1 ∷ [])) ∷ Command (Order (step_of (1 ∷ []) 1 ∷ step_of [] 2 ∷ step_of (1 ∷ []) 1 ∷ []))
    ∷ Command (Dependents (step_of [] 18446744073709551615)) ∷ Command (Causes (step_of (3 ∷ []) 7))
    ∷ Command (Break 12) ∷ Command (Clear 4294967295) ∷ Command (Free 0) ∷ Command (Free 1000000) ∷ []

-- a number that is too great or too small, or begins with 0; a name that is none; a word too few, or too many
abbrev pub OthersAreRejected : Type 0
OthersAreRejected =
    map meaning (codes "step g0 0" ∷ codes "step g0 01" ∷ codes "step g0 4294967296" ∷ codes "run 0" ∷ codes "run 1000001" ∷ codes "run 007" ∷ codes "run +7"
    ∷ codes "step g00" ∷ codes "stp g0" ∷ codes "Step g0" ∷ codes "chan g0" ∷ codes "show" ∷ codes "undo g0" ∷ codes "step g0 1 2" ∷ [])
    ≡ Rejected ∷ Rejected ∷ Rejected ∷ Rejected ∷ Rejected ∷ Rejected ∷ Rejected
    ∷ Rejected ∷ Rejected ∷ Rejected ∷ Rejected ∷ Rejected ∷ Rejected ∷ Rejected ∷ []

-- a way back that is none: no name of a step, no number, a keyword, a digit first, a word too few, or too many
abbrev pub OtherWaysAreRejected : Type 0
OtherWaysAreRejected =
    map meaning (codes "back" ∷ codes "back g0" ∷ codes "back g0#0" ∷ codes "back go" ∷ codes "back go g0#1" ∷ codes "back send g0/c1" ∷ codes "back send g0/c1 0"
    ∷ codes "back recv g0/c1 4294967296" ∷ codes "back recv g0 1" ∷ codes "back var g0 func" ∷ codes "back var g0 1x" ∷ codes "back var g0 a-b"
    ∷ codes "back var g0 x y" ∷ codes "back x g0" ∷ codes "redo 1" ∷ [])
    ≡ Rejected ∷ Rejected ∷ Rejected ∷ Rejected ∷ Rejected ∷ Rejected ∷ Rejected
    ∷ Rejected ∷ Rejected ∷ Rejected ∷ Rejected ∷ Rejected
    ∷ Rejected ∷ Rejected ∷ Rejected ∷ []

-- an order of no step, or of one that is none; a question about no step, or about two; a line or a grant that is no number
abbrev pub OtherOrdersAreRejected : Type 0
OtherOrdersAreRejected =
    map meaning (codes "order" ∷ codes "order g0#1 g0" ∷ codes "order g0#01" ∷ codes "deps" ∷ codes "deps g0#1 g0#2" ∷ codes "causes g0"
    ∷ codes "causes g0#18446744073709551616" ∷ codes "break" ∷ codes "break 0" ∷ codes "break 007" ∷ codes "clear 4294967296" ∷ codes "clear x"
    ∷ codes "free" ∷ codes "free 00" ∷ codes "free 01" ∷ codes "free 1000001" ∷ codes "free 1 2" ∷ codes "free -1" ∷ codes "turn" ∷ [])
    ≡ Rejected ∷ Rejected ∷ Rejected ∷ Rejected ∷ Rejected ∷ Rejected
    ∷ Rejected ∷ Rejected ∷ Rejected ∷ Rejected ∷ Rejected ∷ Rejected
    ∷ Rejected ∷ Rejected ∷ Rejected ∷ Rejected ∷ Rejected ∷ Rejected ∷ Rejected ∷ []

-- a line without a word
abbrev pub LinesAreBlank : Type 0
LinesAreBlank = map meaning ([] ∷ codes "  " ∷ (9 ∷ 32 ∷ 13 ∷ []) ∷ []) ≡ Blank ∷ Blank ∷ Blank ∷ []

-- replies of one line
abbrev pub LinesAreWritten : Type 0
LinesAreWritten =
    map said_text (said.Stepped (record { go = 2 ∷ []; n = 1 }) (kinds.Pick 2)
    ∷ said.Ran 8 ends.Ended ∷ said.Ran 4 (ends.Fault BadSize) ∷ said.Ran 0 ends.Memory
    ∷ said.Undone (record { go = []; n = 6 }) ∷ said.Lines [] ∷ said.Log [] ∷ said.No Waits ∷ [])
    ≡ codes "ok g0.2#1 pick 2\n" ∷ codes "ok 8 ended\n" ∷ codes "ok 4 fault\n" ∷ codes "ok 0 memory\n"
    ∷ codes "ok g0#6\n" ∷ codes "ok\n" ∷ codes "ok 0\n" ∷ codes "no N3\n" ∷ []

-- replies to commands that take steps back, take them again or put them in an order; replies to questions about steps, to
-- grants, and to batches
abbrev pub StepsAreWritten : Type 0
StepsAreWritten =
    map said_text (said.Steps (step_of [] 7 ∷ []) ∷ said.Steps (step_of [] 1 ∷ step_of (1 ∷ []) 12 ∷ []) ∷ said.Steps []
    ∷ said.PartlyDone [] ∷ said.PartlyDone (step_of (2 ∷ []) 3 ∷ step_of [] 4 ∷ [])
    ∷ said.BreaksDependence (step_of [] 2) (step_of (1 ∷ []) 1) ∷ said.Acknowledged ∷ said.Ran 3 (ends.Break 14)
    ∷ said.Granted 0 ∷ said.Granted 1000 ∷ said.Committed 5 ∷ said.Stale
    ∷ said.No NothingToUndo ∷ said.No NotKept ∷ said.No NotTheSteps ∷ said.No NothingToRedo ∷ [])
    ≡ codes "ok 1 g0#7\n" ∷ codes "ok 2 g0#1 g0.1#12\n" ∷ codes "ok 0\n"
    ∷ codes "no B6 0\n" ∷ codes "no B6 2 g0.2#3 g0#4\n"
    ∷ codes "no B4 g0#2 g0.1#1\n" ∷ codes "ok\n" ∷ codes "ok 3 break 14\n"
    ∷ codes "ok grant 0\n" ∷ codes "ok grant 1000\n" ∷ codes "ok batch 5\n" ∷ codes "no stale\n"
    ∷ codes "no B1\n" ∷ codes "no B2\n" ∷ codes "no B3\n" ∷ codes "no B5\n" ∷ []

-- a goroutine that waits, and one that is done
abbrev pub GoroutinesAreShown : Type 0
GoroutinesAreShown =
    map said_text (said.Shown [] (record {
      status = rules.waiting [];
      steps = 4;
      line = Some 8;
      frames = record {
        function = codes "main";
        variables = (codes "c", values.Chan (Some (record { go = []; n = 1 }))) ∷ (codes "ok", values.Bool true) ∷ [];
      } ∷ [];
    }) ∷ said.Shown (1 ∷ []) (record { status = rules.finished; steps = 2; line = None; frames = [] }) ∷ [])
    ≡ codes "| g0 waiting 4 line 8\n| main c=g0/c1 ok=true\nok\n" ∷ codes "| g0.1 done 2\nok\n" ∷ []

-- a full buffer with two senders, one of them in a select; two receivers, one of them in a select; a closed channel
abbrev pub ChannelsAreShown : Type 0
ChannelsAreShown =
    map said_text (said.Channel (record {
      capacity = 2;
      closed = false;
      items = values.Int (pos 1) ∷ values.Unit ∷ [];
      senders = record { go = 3 ∷ []; case = None; value = values.Int (pos 3) } ∷ record { go = 1 ∷ []; case = Some 1; value = values.Chan None } ∷ [];
      receivers = [];
    }) ∷ said.Channel (record {
      capacity = 0;
      closed = false;
      items = [];
      senders = [];
      receivers = record { go = 1 ∷ []; case = None; value = tt } ∷ record { go = 2 ∷ []; case = Some 1; value = tt } ∷ [];
    }) ∷ said.Channel (record { capacity = 1; closed = true; items = values.Bool false ∷ []; senders = []; receivers = [] }) ∷ [])
    ≡ codes "| cap 2 open\n| items 1 {}\n| senders g0.3=3 g0.1@1=nil\n| receivers\nok\n"
    ∷ codes "| cap 0 open\n| items\n| senders\n| receivers g0.1 g0.2@1\nok\n"
    ∷ codes "| cap 1 closed\n| items false\n| senders\n| receivers\nok\n" ∷ []

-- printed lines, and a log
abbrev pub RowsAreWritten : Type 0
RowsAreWritten =
    map said_text (said.Lines (codes "7 -2" ∷ [] ∷ [])
    ∷ said.Log ((record { go = []; n = 1 }, kinds.Make) ∷ (record { go = 1 ∷ []; n = 1 }, kinds.SendWait) ∷ []) ∷ [])
    ≡ codes "| 7 -2\n| \nok\n" ∷ codes "| g0#1 make\n| g0.1#1 send-wait\nok 2\n" ∷ []
