-- What is shown of the state after the first steps of a log.
use Rattle.std.specs.Prelude.{◌≡◌, ◌≤◌, ◌<◌, ℕ, List, [], length, take}
use Rattle.serde_json.specs.Data.{Data}
use Rattle.gr_command.specs.declared.command.Command.{Command}
use Rattle.gr_command.specs.declared.command.Command.TheVariants as commands
use Rattle.gr_command.specs.declared.refusal.Refusal.TheVariants.{NotKept}
use Rattle.gr_command.specs.declared.request.View.{View}
use Rattle.gr_command.specs.declared.request.View.TheVariants.{Goroutine, Channel, Text, Console}
use Rattle.gr_command.specs.Replies.{Said, No}
use Rattle.gr_json.specs.Replies.{said_data}
use Rattle.gr_laws.specs.Reached.{Logged, IsRun}
use Rattle.gr_program.specs.Programs.{Program}
use Rattle.gr_rollback.specs.Pasts.{Past}
use Rattle.gr_rules.specs.States.{State}
use Rattle.gr_session.specs.declared.journal.Memory.TheVariants.{Enough}
use Rattle.gr_session.specs.Journal.{World, Leads, first_world, moved}

-- the command that shows it
abbrev pub command_of : View → Command
command_of (Goroutine go) = commands.Show go
command_of (Channel channel) = commands.Chan channel
command_of (Text go) = commands.Text go
command_of Console = commands.Console

-- the world in which just these steps were taken
abbrev pub world_of : (p : Program) → Past p → World p
world_of p past = moved p (first_world p) past []

-- it is the reply of the command in that world
abbrev pub Shows : (p : Program) → Past p → View → Said → Type 0
Shows p past view said = Leads p (world_of p past) (command_of view) Enough (world_of p past) said

-- it is the reply after so many of the first steps, which lead to this state from the start of the program
pub record ShowsAfter (p : Program) (log : List (Logged p)) (steps : ℕ) (view : View) (said : Said) : Type 0 where
  pub state : State
  pub run : IsRun p (take steps log) state
  pub shows : Shows p (record { log = take steps log; state = state }) view said

-- it is that reply where so many steps are kept, and else that no such step is
pub record ShowsAt (p : Program) (log : List (Logged p)) (steps : ℕ) (view : View) (said : Said) : Type 0 where
  pub kept : steps ≤ length log → ShowsAfter p log steps view said
  pub not_kept : length log < steps → said ≡ No NotKept

pub record TellsAt (p : Program) (log : List (Logged p)) (steps : ℕ) (view : View) (d : Data) : Type 0 where
  pub said : Said
  pub shows : ShowsAt p log steps view said
  pub is : d ≡ said_data said
