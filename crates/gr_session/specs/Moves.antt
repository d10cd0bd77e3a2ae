-- Entries of a journal as trips: which moves each makes, and which commands make any moves. Lanese, Nishida, Palacios and Vidal,
-- A theory of reversibility for Erlang (2018): the uncontrolled semantics, and one that is driven by requests.
use Rattle.std.specs.Prelude.{◌≡◌, ℕ, suc, ◌-◌, ◌<◌, Bool, List, [], ◌∷◌, ◌++◌, map, length, reverse, All, Option}
use Rattle.gr_causal.specs.Trips.{Move, taking, taking_back, TripFrom, Changes}
use Rattle.gr_causal.specs.Trips.Move.{forth, back}
use Rattle.gr_program.specs.Programs.{Program}
use Rattle.gr_rules.specs.Limits.{most_steps}
use Rattle.gr_rules.specs.States.{start}
use Rattle.gr_rules.specs.Steps.{machine}
use Rattle.gr_laws.specs.Reached.{Logged}
use Rattle.gr_command.specs.declared.command.Command.{Command}
use Rattle.gr_command.specs.declared.command.Command.TheVariants as commands
use Rattle.gr_command.specs.declared.reply.RunEnd.{RunEnd}
use Rattle.gr_command.specs.declared.target.Target.{Target}
use Rattle.gr_command.specs.Replies as replies
use Rattle.gr_command.specs.Replies.{Said}
use Rattle.gr_queries.specs.Said.{step_kind}
use Rattle.gr_rollback.specs.LocalRun.{LocalRun}
use Rattle.gr_rollback.specs.Pasts.{id_of, ids_of}
use Rattle.gr_session.specs.declared.journal.Asked.{Asked}
use Rattle.gr_session.specs.declared.journal.Asked.TheVariants as asks
use Rattle.gr_session.specs.declared.journal.Entry.{Entry}
use Rattle.gr_session.specs.declared.journal.Memory.TheVariants.{Enough}
use Rattle.gr_session.specs.Journal.{World}
use Rattle.gr_session.specs.Entries.{Means, Lead}

-- these moves are a trip from the log of one world to that of another, and change the one state into the other
pub record Travels (p : Program) (w : World p) (moves : List (Move (Logged p))) (u : World p) : Type 0 where
  pub trip : TripFrom (machine p) (start p) w.log moves u.log
  pub changes : Changes (machine p) w.state moves u.state

-- the moves of what was asked, as the reply tells them: by the names of the steps, or by their number
pub data Makes (p : Program) : Asked → Said → List (Move (Logged p)) → Type 0 where
  takes : {go : List ℕ} {clause : Option ℕ} (r : Logged p)
      → Makes p (asks.Command (commands.Step go clause)) (replies.Stepped (id_of p r) (step_kind p r)) (forth r ∷ [])
  runs : {wanted : ℕ} {why : RunEnd} (rs : List (Logged p)) → Makes p (asks.Command (commands.Run wanted)) (replies.Ran (length rs) why) (taking rs)
  turns : {why : RunEnd} (rs : List (Logged p)) → Makes p (asks.Command commands.Turn) (replies.Ran (length rs) why) (taking rs)
  commits : {batch : LocalRun} {stood : Bool} (rs : List (Logged p)) → Makes p (asks.Batch batch stood) (replies.Committed (length rs)) (taking rs)
  undoes : (r : Logged p) → Makes p (asks.Command commands.Undo) (replies.Undone (id_of p r)) (back r ∷ [])
  takes_back : {target : Target} (rs : List (Logged p))
      → Makes p (asks.Command (commands.Back target)) (replies.Steps (ids_of p rs)) (taking_back (reverse rs))
  takes_some_back : {target : Target} (rs : List (Logged p))
      → Makes p (asks.Command (commands.Back target)) (replies.PartlyDone (ids_of p rs)) (taking_back (reverse rs))
  takes_again : (rs : List (Logged p)) → Makes p (asks.Command commands.Redo) (replies.Steps (ids_of p rs)) (taking rs)
  takes_some_again : (rs : List (Logged p)) → Makes p (asks.Command commands.Redo) (replies.PartlyDone (ids_of p rs)) (taking rs)
  -- None: what was asked was refused, or asks something, or puts the steps in another order. Of an entry that takes steps, or takes
  -- some back, this is no trip, since its logs differ in length.
  stays : {asked : Asked} {reply : Said} → Makes p asked reply []

-- entries travel from one world to another: each makes its moves, from where the ones before it lead
pub data Journey (p : Program) : World p → List Entry → List (Move (Logged p)) → World p → Type 0 where
  no_move : {w : World p} → Journey p w [] [] w
  one_more_entry : {w u v : World p} {before : List Entry} {moves more : List (Move (Logged p))} {reply : Said} (e : Entry)
      → Journey p w before moves u → Means p u e.asked e.memory v reply → Makes p e.asked reply more → Travels p u more v
      → Journey p w (before ++ e ∷ []) (moves ++ more) v

-- a log of this length has room for each step that the moves take
abbrev pub LogHasRoom : {A : Type 0} → ℕ → List (Move A) → Type 0
LogHasRoom n [] = Unit {0}
LogHasRoom n (forth r ∷ moves) = (n < most_steps) × LogHasRoom (suc n) moves
LogHasRoom n (back r ∷ moves) = LogHasRoom (n - 1) moves

-- the commands that take one step, take the last one back, or put the steps in another order
abbrev pub IsOfOneMove : Command → Type 0
IsOfOneMove (commands.Step go clause) = Unit {0}
IsOfOneMove commands.Undo = Unit {0}
IsOfOneMove (commands.Order ids) = Unit {0}
IsOfOneMove command = ⊥

-- commands of the first asker, for each of which memory was enough
abbrev pub entries_of : List Command → List Entry
entries_of asked = map (λ c. record { asker = 1; asked = asks.Command c; memory = Enough }) asked

-- such commands lead from the world to a log
pub record CommandsLead (p : Program) (w : World p) (log : List (Logged p)) : Type 0 where
  pub asked : List Command
  pub only : All IsOfOneMove asked
  pub world : World p
  pub lead : Lead p w (entries_of asked) world
  pub log_is : world.log ≡ log
