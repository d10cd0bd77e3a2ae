use Rattle.std.proofs.Common.{◌≡◌, ◌+◌, ◌≤◌, [], ◌∷◌, ◌++◌, length, subst, ap, sym, ◌∙◌, arith}
use Rattle.gr_lines.specs.Devices.{change, known}
use Rattle.gr_share.specs.Seats.{AreAll}
use Rattle.rewind.specs.Beside.{Settled, Streamed, EndedWith}
use Rattle.rewind.proofs.Seats.{all_here}
use Rattle.rewind.proofs.Sharing.{ends, no_memory, no_threads}
use Rattle.rewind.proofs.workers.serve_beside.Goals as goal

pub ended-requires-clause-all : goal.ended-requires-clause-all
ended-requires-clause-all g c =
    let one : c.push_reserved.new.self.items ≡ c.in-Some.desk ∷ [] = c.push_reserved.ensures.items ∙ ap (λ ds. ds ++ c.in-Some.desk ∷ []) c.in-Ok-room_for_desk.ensures.empty.0 in
    let seats = c.in-Ok-worker_seats.ensures in
    let few : g.B.Room.last ≤ 1 + length c.in-Ok-worker_seats.workers.items = omega (arith, seats.1, c.requires.seats, c.requires.session.1, c.requires.fresh) in
    subst (λ ds. AreAll 0 g.B.Room.last ds c.in-Some.workers.items) (sym one)
    (all_here g.B.Room.last c.in-Some.desk c.in-Ok-worker_seats.workers.items c.in-Some.workers.items
    (c.in-Some.ensures.seats.0 ∙ c.in-Ok.ensures.1) seats.0 c.in-Some.ensures.seats.1 few)

pub returns-in-None : goal.returns-in-None
returns-in-None g c =
    no_threads g.B.Room.program (change g.R.Read.remaining c.args.reader.now c.serve_among.new.reader) (change g.W.Write.contents c.args.writer.now c.serve_among.new.writer)
    c.in-None.ensures.none.0 c.in-None.ensures.none.1

pub returns-in-Some : goal.returns-in-Some
returns-in-Some g c =
    let reader = change g.R.Read.remaining c.args.reader.now c.serve_among.new.reader in
    let writer = change g.W.Write.contents c.args.writer.now c.serve_among.new.writer in
    let streamed : Streamed c.in-Ok.desk c.in-Some.desk c.in-Some.served reader writer = rw (c.in-Some.desk-is, c.in-Some.served-is) c.in-Some.ensures.served in
    let one : c.push_reserved.new.self.items ≡ c.in-Some.desk ∷ [] = c.push_reserved.ensures.items ∙ ap (λ ds. ds ++ c.in-Some.desk ∷ []) c.in-Ok-room_for_desk.ensures.empty.0 in
    ends g.B.Room.program c.in-Some.served c.ended.result c.in-Ok.desk c.in-Some.desk reader writer c.in-Ok.ensures.0 streamed
    (subst (λ ds. EndedWith c.in-Some.served (Settled g.B.Room.program ds) c.ended.result) one c.ended.ensures)

pub returns-in_default-worker_seats : goal.returns-in_default-worker_seats
returns-in_default-worker_seats g c =
    no_memory g.B.Room.program (known g.R.Read.remaining c.args.reader.now) (known g.W.Write.contents c.args.writer.now)

pub returns-in_default-room_for_desk : goal.returns-in_default-room_for_desk
returns-in_default-room_for_desk g c =
    no_memory g.B.Room.program (known g.R.Read.remaining c.args.reader.now) (known g.W.Write.contents c.args.writer.now)
