-- A session may be lent to threads, one at a time: each of its parts may.
use denote.Param.Send.{IsSend, IsSync, sendable}
use Rattle.std.proofs.Crossing.{crosses}
use Rattle.gr_program.proofs.types.Type.TheLaws.TheKnot as types
use Rattle.gr_program.proofs.program.Expr.TheLaws.TheKnot as exprs
use Rattle.gr_program.proofs.program.Case.TheLaws.TheKnot as stmts
use Rattle.gr_code.proofs.code.Operand.TheLaws.TheKnot as operands
use Rattle.gr_program.proofs.program.Literal.TheSendSync as literal
use Rattle.gr_scan.proofs.token.Place.TheSendSync as place
use Rattle.gr_tree.proofs.expr.BinaryOp.TheSendSync as binary
use Rattle.gr_tree.proofs.expr.UnaryOp.TheSendSync as unary
use Rattle.gr_tree.proofs.expr.Direction.TheSendSync as direction
use Rattle.gr_code.proofs.code.Action.TheSendSync as action
use Rattle.gr_rollback.proofs.ObjectsSendSync as objects
use Rattle.gr_rollback.proofs.LogSendSync as log
use Rattle.gr_pool.proofs.pool.Pool.TheSendSync as pool
use Rattle.gr_base.proofs.names.GoName.TheSendSync as name
use Rattle.gr_base.proofs.events.Event.TheSendSync as event
use Rattle.gr_rollback.proofs.GoroutineSendSync as goroutine
use Rattle.gr_command.proofs.command.Command.TheSendSync as command
use Rattle.gr_program.specs.contracts.types.Type as Types
use Rattle.gr_program.specs.contracts.program.Expr as Expr
use Rattle.gr_program.specs.contracts.program.Printed as Printed
use Rattle.gr_program.specs.contracts.program.Act as Act
use Rattle.gr_program.specs.contracts.program.Opening as Opening
use Rattle.gr_program.specs.contracts.program.Parameter as Parameter
use Rattle.gr_program.specs.contracts.program.Variable as Variable
use Rattle.gr_program.specs.contracts.program.Stmt as Stmt
use Rattle.gr_program.specs.contracts.program.Function as Function
use Rattle.gr_program.specs.contracts.program.Program as Program
use Rattle.gr_code.specs.contracts.code.Operand as Operand
use Rattle.gr_code.specs.contracts.code.Ask as Ask
use Rattle.gr_code.specs.contracts.code.Arm as Arm
use Rattle.gr_code.specs.contracts.code.Instruction as Instruction
use Rattle.gr_code.specs.contracts.code.FunctionCode as FunctionCode
use Rattle.gr_code.specs.contracts.code.Code as Code
use Rattle.gr_rollback.specs.ListingContracts as Listing
use Rattle.gr_rollback.specs.StoreContracts as Store
use Rattle.gr_rollback.specs.LentContracts as Lent
use Rattle.gr_rollback.specs.LocalRunContracts as LocalRun
use Rattle.gr_rollback.specs.contracts.course.Course as Course
use Rattle.gr_rollback.specs.contracts.machine.Machine as Machine
use Rattle.gr_session.specs.contracts.debuggee.Debuggee as Debuggee
use Rattle.gr_session.specs.contracts.journal.Asked as Asked
use Rattle.gr_session.specs.contracts.journal.Entry as Entry
use Rattle.gr_session.specs.contracts.session.Session as Session

pub Type-send : IsSend Types.the_field.row
Type-send = search (types.crosses, direction.the_field_send, sendable, crosses) depth 20

pub Type-sync : IsSync Types.the_field.row
Type-sync = search (types.crosses, direction.the_field_sync, sendable, crosses) depth 20

pub Expr-send : IsSend Expr.the_field.row
Expr-send = search (exprs.crosses, literal.the_field_send, unary.the_field_send, binary.the_field_send, sendable, crosses) depth 20

pub Expr-sync : IsSync Expr.the_field.row
Expr-sync = search (exprs.crosses, literal.the_field_sync, unary.the_field_sync, binary.the_field_sync, sendable, crosses) depth 20

pub Printed-send : IsSend Printed.the_field.row
Printed-send = search (Expr-send, sendable, crosses) depth 20

pub Printed-sync : IsSync Printed.the_field.row
Printed-sync = search (Expr-sync, sendable, crosses) depth 20

pub Act-send : IsSend Act.the_field.row
Act-send = search (Expr-send, Printed-send, literal.the_field_send, binary.the_field_send, sendable, crosses) depth 20

pub Act-sync : IsSync Act.the_field.row
Act-sync = search (Expr-sync, Printed-sync, literal.the_field_sync, binary.the_field_sync, sendable, crosses) depth 20

pub Opening-send : IsSend Opening.the_field.row
Opening-send = search (Act-send, place.the_field_send, sendable, crosses) depth 20

pub Opening-sync : IsSync Opening.the_field.row
Opening-sync = search (Act-sync, place.the_field_sync, sendable, crosses) depth 20

pub Parameter-send : IsSend Parameter.the_field.row
Parameter-send = search (Type-send, sendable, crosses) depth 20

pub Parameter-sync : IsSync Parameter.the_field.row
Parameter-sync = search (Type-sync, sendable, crosses) depth 20

pub Variable-send : IsSend Variable.the_field.row
Variable-send = search (Type-send, sendable, crosses) depth 20

pub Variable-sync : IsSync Variable.the_field.row
Variable-sync = search (Type-sync, sendable, crosses) depth 20

pub Stmt-send : IsSend Stmt.the_field.row
Stmt-send = search (stmts.crosses, Act-send, Opening-send, Expr-send, literal.the_field_send, place.the_field_send, sendable, crosses) depth 20

pub Stmt-sync : IsSync Stmt.the_field.row
Stmt-sync = search (stmts.crosses, Act-sync, Opening-sync, Expr-sync, literal.the_field_sync, place.the_field_sync, sendable, crosses) depth 20

pub Function-send : IsSend Function.the_field.row
Function-send = search (Stmt-send, Type-send, Parameter-send, Variable-send, place.the_field_send, sendable, crosses) depth 20

pub Function-sync : IsSync Function.the_field.row
Function-sync = search (Stmt-sync, Type-sync, Parameter-sync, Variable-sync, place.the_field_sync, sendable, crosses) depth 20

pub Program-send : IsSend Program.the_field.row
Program-send = search (Function-send, sendable, crosses) depth 20

pub Program-sync : IsSync Program.the_field.row
Program-sync = search (Function-sync, sendable, crosses) depth 20

pub Operand-send : IsSend Operand.the_field.row
Operand-send = search (operands.crosses, literal.the_field_send, unary.the_field_send, binary.the_field_send, sendable, crosses) depth 20

pub Operand-sync : IsSync Operand.the_field.row
Operand-sync = search (operands.crosses, literal.the_field_sync, unary.the_field_sync, binary.the_field_sync, sendable, crosses) depth 20

pub Ask-send : IsSend Ask.the_field.row
Ask-send = search (Operand-send, literal.the_field_send, sendable, crosses) depth 20

pub Ask-sync : IsSync Ask.the_field.row
Ask-sync = search (Operand-sync, literal.the_field_sync, sendable, crosses) depth 20

pub Arm-send : IsSend Arm.the_field.row
Arm-send = search (Operand-send, literal.the_field_send, sendable, crosses) depth 20

pub Arm-sync : IsSync Arm.the_field.row
Arm-sync = search (Operand-sync, literal.the_field_sync, sendable, crosses) depth 20

pub Instruction-send : IsSend Instruction.the_field.row
Instruction-send = search (Operand-send, Ask-send, Arm-send, action.the_field_send, binary.the_field_send, sendable, crosses) depth 20

pub Instruction-sync : IsSync Instruction.the_field.row
Instruction-sync = search (Operand-sync, Ask-sync, Arm-sync, action.the_field_sync, binary.the_field_sync, sendable, crosses) depth 20

pub FunctionCode-send : IsSend FunctionCode.the_field.row
FunctionCode-send = search (Instruction-send, sendable, crosses) depth 20

pub FunctionCode-sync : IsSync FunctionCode.the_field.row
FunctionCode-sync = search (Instruction-sync, sendable, crosses) depth 20

pub Code-send : IsSend Code.the_field.row
Code-send = search (FunctionCode-send, sendable, crosses) depth 20

pub Code-sync : IsSync Code.the_field.row
Code-sync = search (FunctionCode-sync, sendable, crosses) depth 20

pub Listing-send : IsSend Listing.the_field.row
Listing-send = search (Program-send, Program-sync, Code-send, Code-sync, sendable, crosses) depth 20

pub Store-send : IsSend Store.the_field.row
Store-send = search (Listing-send, objects.the_field_send, sendable, crosses) depth 20

pub Course-send : IsSend Course.the_field.row
Course-send = search (Store-send, log.the_field_send, pool.the_send, name.the_send, sendable, crosses) depth 20

pub Machine-send : IsSend Machine.the_field.row
Machine-send = search (Course-send, event.the_field_send, sendable, crosses) depth 20

pub Debuggee-send : IsSend Debuggee.the_field.row
Debuggee-send = search (Machine-send, sendable, crosses) depth 20

pub Lent-send : IsSend Lent.the_field.row
Lent-send = search (Listing-send, goroutine.the_send, name.the_send, sendable, crosses) depth 20

pub LocalRun-send : IsSend LocalRun.the_field.row
LocalRun-send = search (Lent-send, sendable, crosses) depth 20

pub Asked-send : IsSend Asked.the_field.row
Asked-send = search (LocalRun-send, command.the_field_send, sendable, crosses) depth 20

pub Entry-send : IsSend Entry.the_field.row
Entry-send = search (Asked-send, sendable, crosses) depth 20

pub Session-send : IsSend Session.the_field.row
Session-send = search (Debuggee-send, Entry-send, sendable, crosses) depth 20

pub session_send : IsSend Session.the_row
session_send = search (Session-send, sendable) depth 20
