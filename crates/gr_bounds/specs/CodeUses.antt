-- What an instruction does with the channels that stand in the cells of its frame, which are the variables and the temporaries by
-- their numbers. Each use has to be within bounds.
use Rattle.std.specs.Prelude.{ℕ, List, [], ◌∷◌, map, Option, Some, None}
use Rattle.gr_program.specs.Programs.{Program}
use Rattle.gr_rules.specs.Parts.{Ask, Calls, Receives, CountsItems, CountsPlaces, Decides}
use Rattle.gr_rules.specs.Parts as parts
use Rattle.gr_code.specs.Instructions.{Arm, DefaultArm, SendArm, ReceiveArm, Action, Assigns, AssignsReceived, ClosesChannel, Sends, StartsFunction, Returns, Ranges, Turns, Instruction, Part, Decide, Perform, Choose}
use Rattle.gr_may.specs.Uses.{to_send, to_receive, to_close, to_count, to_share, Uses, no_use, only, Within, Usage, Shared, target}
use Rattle.gr_may.specs.Demands.{parameter_uses, OperandFits, OperandsFit}

-- an instruction of the goroutine with a name, in the function with a number, whose cells are used so
module _ (p : Program) (usage : Usage) (n : List ℕ) (uses : ℕ → Uses) (function : ℕ) where
  abbrev pub AskFits : Ask → Type 0
  AskFits (Calls k arguments) = OperandsFit p usage n uses function (parameter_uses p usage k) arguments
  AskFits (Receives c zero) = OperandFits p usage n uses function (only to_receive) c × Shared usage zero
  AskFits (parts.Makes size) = OperandFits p usage n uses function no_use size
  AskFits (CountsItems c) = OperandFits p usage n uses function (only to_count) c
  AskFits (CountsPlaces c) = OperandFits p usage n uses function no_use c
  AskFits (Decides op left) = OperandFits p usage n uses function no_use left

  -- the temporary in which the value of a part stands: what a call returns is used as results of the function are
  abbrev pub SlotFits : Ask → ℕ → Type 0
  SlotFits (Calls k arguments) d = Within (uses d) (usage.results k)
  SlotFits _ d = Unit {0}

  abbrev pub SlotFitsIfAny : Ask → Option ℕ → Type 0
  SlotFitsIfAny ask slot = elim slot [ Some d ↦ SlotFits ask d | None ↦ Unit {0} ]

  abbrev pub action_uses : Action → List Uses
  action_uses (Assigns targets on) = map (target uses) targets
  action_uses (AssignsReceived zero value ok on) = only to_receive ∷ []
  action_uses (ClosesChannel on) = only to_close ∷ []
  action_uses (Sends on) = only to_send ∷ only to_share ∷ []
  action_uses (StartsFunction k on) = parameter_uses p usage k
  action_uses Returns = usage.results function ∷ []
  action_uses (Ranges slot on) = only to_receive ∷ []
  action_uses (Turns slot body after) = only to_receive ∷ []
  action_uses _ = []

  abbrev pub ArmFits : Arm → Type 0
  ArmFits (DefaultArm on) = Unit {0}
  ArmFits (SendArm channel value on) = OperandFits p usage n uses function (only to_send) channel × OperandFits p usage n uses function (only to_share) value
  ArmFits (ReceiveArm channel zero into on) = OperandFits p usage n uses function (only to_receive) channel

  abbrev pub ArmsFit : List Arm → Type 0
  ArmsFit [] = Unit {0}
  ArmsFit (arm ∷ arms) = ArmFits arm × ArmsFit arms

  abbrev pub InstructionFits : Instruction → Type 0
  InstructionFits (Part ask slot on) = AskFits ask × SlotFitsIfAny ask slot
  InstructionFits (Decide op left slot settled right) = OperandFits p usage n uses function no_use left
  InstructionFits (Perform action operands) = OperandsFit p usage n uses function (action_uses action) operands
  InstructionFits (Choose arms) = ArmsFit arms

  abbrev pub CodeFits : List Instruction → Type 0
  CodeFits [] = Unit {0}
  CodeFits (i ∷ is) = InstructionFits i × CodeFits is
