-- What a command may need memory for, and what it leaves.
use Rattle.std.specs.Prelude.{◌≡◌, []}
use Rattle.gr_command.specs.declared.command.Command.{Command}
use Rattle.gr_command.specs.declared.command.Command.TheVariants as commands
use Rattle.gr_command.specs.Replies.{Said, No, BreaksDependence, PartlyDone, Ran}
use Rattle.gr_rollback.specs.Store.{Store}
use Rattle.gr_rollback.specs.Stores.{contents_at}

-- the command takes no step, takes none back, and leaves their order
abbrev pub LeavesStore : Command → Type 0
LeavesStore (commands.Step go clause) = ⊥
LeavesStore (commands.Run count) = ⊥
LeavesStore commands.Undo = ⊥
LeavesStore (commands.Back target) = ⊥
LeavesStore commands.Redo = ⊥
LeavesStore (commands.Order ids) = ⊥
LeavesStore commands.Turn = ⊥
LeavesStore command = Unit {0}

-- the reply tells that no step was taken and none was taken back: the command was refused, or its steps ended before the first
abbrev pub TellsNoStep : Said → Type 0
TellsNoStep (No why) = Unit {0}
TellsNoStep (BreaksDependence earlier later) = Unit {0}
TellsNoStep (PartlyDone ids) = ids ≡ []
TellsNoStep (Ran steps end) = steps ≡ 0
TellsNoStep reply = ⊥

-- with such a reply the store contains what it did before
abbrev pub KeepsContents : Said → Store → Store → Type 0
KeepsContents reply old new = TellsNoStep reply → contents_at new ≡ contents_at old

-- the command may need memory beside that of its entry, before it is carried out: for names, for a breakpoint, or for an answer
abbrev pub MayWantMemory : Command → Type 0
MayWantMemory (commands.Run count) = ⊥
MayWantMemory commands.Undo = ⊥
MayWantMemory commands.Redo = ⊥
MayWantMemory (commands.Order ids) = ⊥
MayWantMemory (commands.Clear line) = ⊥
MayWantMemory (commands.Free steps) = ⊥
MayWantMemory commands.Turn = ⊥
MayWantMemory command = Unit {0}
