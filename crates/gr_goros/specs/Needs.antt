-- What the next step of a goroutine asks for.
use Rattle.std.specs.Prelude.{◌≡◌, Bool, true, false, List, [], ◌∷◌, Option}
use Rattle.gr_base.specs.declared.names.ChName.{ChName}
use Rattle.gr_base.specs.declared.values.Value.{Value}
use Rattle.gr_rules.specs.Outcomes.{Outcome, gives, faults, wrong, ◌>>=◌}
use Rattle.gr_rules.specs.Operands.{Operand}
use Rattle.gr_rules.specs.Evaluation.{Variables, evaluate}
use Rattle.gr_rules.specs.Deeds.{Communication, Sending, Receiving, Otherwise, Leaves, Starts, Makes, TakesLen, TakesCap, Closes, Communicates, Chooses, as_channel}
use Rattle.gr_code.specs.Instructions.{Arm, DefaultArm, SendArm, ReceiveArm, Instruction, Part, Decide, Perform, Choose}
use Rattle.gr_code.specs.CodeFrames.{ProgramCode, CodeFrame, Task, Wants}
use Rattle.gr_code.specs.Goroutines.{CodeGoroutine, instruction_in, task_of, is_local}
use Rattle.gr_goros.specs.Views.{communications_of}
use Rattle.gr_goros.specs.declared.needs.Need.{Need}
use Rattle.gr_goros.specs.declared.needs.Need.TheVariants as needs

-- the channel that an operand is
abbrev pub one_channel : Variables → Operand → Outcome (Option ChName)
one_channel cells e = evaluate cells e >>= as_channel

-- a clause of a select
abbrev pub clause_by : Variables → Arm → Outcome Communication
clause_by cells (DefaultArm on) = gives Otherwise
clause_by cells (SendArm channel value on) = one_channel cells channel >>= λ c. gives (Sending c (evaluate cells value))
clause_by cells (ReceiveArm channel initial into on) = one_channel cells channel >>= λ c. gives (Receiving c initial)

-- the need is the task of a frame that has no caller
abbrev pub Wanted : Need → Outcome Task → Type 0
Wanted needs.Local o = ⊥
Wanted needs.Exit o = (v : Value) × (o ≡ gives (Wants (Leaves v)))
Wanted (needs.Start f vs) o = o ≡ gives (Wants (Starts f vs.items))
Wanted (needs.Make n) o = o ≡ gives (Wants (Makes n))
Wanted (needs.Len c) o = o ≡ gives (Wants (TakesLen c))
Wanted (needs.Cap c) o = o ≡ gives (Wants (TakesCap c))
Wanted (needs.Close c) o = o ≡ gives (Wants (Closes c))
Wanted (needs.Send c v) o = o ≡ gives (Wants (Communicates (Sending c (gives v))))
Wanted (needs.Receive c initial) o = o ≡ gives (Wants (Communicates (Receiving c initial)))
Wanted (needs.Select cs) o = o ≡ gives (Wants (Chooses (communications_of cs.items)))
Wanted (needs.Fault e) o = ⊥

-- the operands of the next step are these
abbrev pub NeedIs : Need → ProgramCode → CodeGoroutine → Type 0
NeedIs needs.Local code g = is_local code g ≡ true
NeedIs needs.Exit code g = (f : CodeFrame) × (v : Value) × (g.frames ≡ f ∷ []) × (task_of code g ≡ gives (Wants (Leaves v)))
NeedIs (needs.Start f vs) code g = task_of code g ≡ gives (Wants (Starts f vs.items))
NeedIs (needs.Make n) code g = task_of code g ≡ gives (Wants (Makes n))
NeedIs (needs.Len c) code g = task_of code g ≡ gives (Wants (TakesLen c))
NeedIs (needs.Cap c) code g = task_of code g ≡ gives (Wants (TakesCap c))
NeedIs (needs.Close c) code g = task_of code g ≡ gives (Wants (Closes c))
NeedIs (needs.Send c v) code g = task_of code g ≡ gives (Wants (Communicates (Sending c (gives v))))
NeedIs (needs.Receive c initial) code g = task_of code g ≡ gives (Wants (Communicates (Receiving c initial)))
NeedIs (needs.Select cs) code g = task_of code g ≡ gives (Wants (Chooses (communications_of cs.items)))
NeedIs (needs.Fault e) code g = (is_local code g ≡ false) × (task_of code g ≡ faults e)

-- the value that a clause sends comes to one, or to a fault, as in each checked program
abbrev pub CanSend : Variables → Arm → Type 0
CanSend cells (DefaultArm on) = Unit {0}
CanSend cells (SendArm channel value on) = ¬ (evaluate cells value ≡ wrong)
CanSend cells (ReceiveArm channel initial into on) = Unit {0}

abbrev pub AllCanSend : Variables → List Arm → Type 0
AllCanSend cells [] = Unit {0}
AllCanSend cells (a ∷ arms) = CanSend cells a × AllCanSend cells arms

-- each clause of the select at which the innermost frame stands can send
abbrev pub SendsAt : Variables → Instruction → Type 0
SendsAt cells (Part ask slot on) = Unit {0}
SendsAt cells (Decide op left slot settled right) = Unit {0}
SendsAt cells (Perform action operands) = Unit {0}
SendsAt cells (Choose arms) = AllCanSend cells arms

abbrev pub SendsHere : Variables → Outcome Instruction → Type 0
SendsHere cells o = elim o [ gives i ↦ SendsAt cells i | _ ↦ Unit {0} ]

abbrev pub SendsIn : ProgramCode → List CodeFrame → Type 0
SendsIn code [] = Unit {0}
SendsIn code (f ∷ below) = SendsHere f.cells (instruction_in code f)

-- whether the next instruction is that of a select
abbrev pub is_choice : Outcome Instruction → Bool
is_choice o = elim o [ gives (Choose arms) ↦ true | _ ↦ false ]

abbrev pub is_select_in : ProgramCode → List CodeFrame → Bool
is_select_in code [] = false
is_select_in code (f ∷ below) = is_choice (instruction_in code f)

-- the next instruction is that of a select with these clauses
abbrev pub SelectsIn : ProgramCode → List CodeFrame → List Arm → Type 0
SelectsIn code [] arms = ⊥
SelectsIn code (f ∷ below) arms = instruction_in code f ≡ gives (Choose arms)
