use denote.Param.Send.{IsSend, IsSync, sendable}
use Rattle.std.proofs.Crossing.{crosses}
use Rattle.atomic_table.proofs.shared.Seat.TheSendSync as seat
use Rattle.gr_share.proofs.desk.Call.TheSendSync as call
use Rattle.gr_share.proofs.desk.Worker.TheSendSync as worker
use Rattle.gr_share.proofs.tie.Tie.TheSendSync as tie
use Rattle.gr_share.specs.contracts.locked.Locked as Locked
use Rattle.gr_share.specs.contracts.shared.Shared as Shared
use Rattle.gr_share.specs.contracts.desk.Worker as Worker
use Rattle.gr_share.proofs.Crossing.{session_send}
use Rattle.rewind.proofs.threads.start.Goals as goal

pub spawn_with-requires-send-F : goal.spawn_with-requires-send-F
spawn_with-requires-send-F g c = λ κs within.
    let me : IsSend (Worker.the_row g.row.B g.B.Room) = search (worker.the_send, sendable) depth 20 in
    let held : IsSend (Locked.the_row g.row.B g.B.Room) = search (session_send, seat.the_send, call.the_send, sendable, crosses) depth 20 in
    let shared : IsSync (Shared.the_row g.row.B g.B.Room) = search (tie.the_field_sync, sendable, crosses) depth 20 in
    search (sendable, crosses) depth 20
