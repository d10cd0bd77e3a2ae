-- The text of a kind of step, as replies print it.
use Rattle.std.specs.Prelude.{ℕ, List, ◌++◌, codes, decimal}
use Rattle.gr_base.specs.declared.kinds.Fault.{Fault}
use Rattle.gr_base.specs.declared.kinds.Fault.TheVariants.{DivideByZero, NegativeShift, SendOnClosed, CloseOfClosed, CloseOfNil, BadSize, CallDepth, NameDepth, NameCount}
use Rattle.gr_base.specs.declared.kinds.Kind.{Kind}
use Rattle.gr_base.specs.declared.kinds.Kind.TheVariants.{Pure, Call, Return, Go, Make, Length, Hand, Meet, Buffer, Take, Closed, SendWait, RecvWait, Pick, Default, SelectWait, Close, Exit, Fault as Faulted}

-- a fault's name
abbrev pub fault_text : Fault → List ℕ
fault_text DivideByZero = codes "DivideByZero"
fault_text NegativeShift = codes "NegativeShift"
fault_text SendOnClosed = codes "SendOnClosed"
fault_text CloseOfClosed = codes "CloseOfClosed"
fault_text CloseOfNil = codes "CloseOfNil"
fault_text BadSize = codes "BadSize"
fault_text CallDepth = codes "CallDepth"
fault_text NameDepth = codes "NameDepth"
fault_text NameCount = codes "NameCount"

-- a kind in small letters; `pick` with its clause, `fault` with the fault
abbrev pub kind_text : Kind → List ℕ
kind_text Pure = codes "pure"
kind_text Call = codes "call"
kind_text Return = codes "return"
kind_text Go = codes "go"
kind_text Make = codes "make"
kind_text Length = codes "length"
kind_text Hand = codes "hand"
kind_text Meet = codes "meet"
kind_text Buffer = codes "buffer"
kind_text Take = codes "take"
kind_text Closed = codes "closed"
kind_text SendWait = codes "send-wait"
kind_text RecvWait = codes "recv-wait"
kind_text (Pick clause) = codes "pick " ++ decimal clause
kind_text Default = codes "default"
kind_text SelectWait = codes "select-wait"
kind_text Close = codes "close"
kind_text Exit = codes "exit"
kind_text (Faulted fault) = codes "fault " ++ fault_text fault
