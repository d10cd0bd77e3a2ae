use denote.Param.Send.{IsSend, IsSync, sendable}
use Rattle.std.proofs.Crossing.{crosses}
use Rattle.atomic_table.proofs.shared.Seat.TheSendSync as seat
use Rattle.gr_share.proofs.desk.Call.TheSendSync as call
use Rattle.gr_share.proofs.desk.Desk.TheSendSync as desk
use Rattle.gr_share.proofs.desk.Worker.TheSendSync as worker
use Rattle.gr_share.proofs.tie.Tie.TheSendSync as tie
use Rattle.gr_share.specs.contracts.locked.Locked as Locked
use Rattle.gr_share.specs.contracts.shared.Shared as Shared
use Rattle.gr_share.proofs.Crossing.{session_send}
use Rattle.races.specs.contracts.race.Caller as Caller
use Rattle.races.proofs.race.fn.call_at_once.scope.Goals as goal

pub spawn-requires-send-F : goal.spawn-requires-send-F
spawn-requires-send-F g c = λ κs within.
    let caller : IsSend (Caller.the_row g.row.B g.B.Room) = search (desk.the_send, worker.the_send, sendable, crosses) depth 20 in
    let held : IsSend (Locked.the_row g.row.B g.B.Room) = search (session_send, seat.the_send, call.the_send, sendable, crosses) depth 20 in
    let shared : IsSync (Shared.the_row g.row.B g.B.Room) = search (tie.the_field_sync, sendable, crosses) depth 20 in
    search (sendable, crosses) depth 20
