use Rattle.std.proofs.Common.{rules, arith}
use Rattle.gr_touches.proofs.RoomLemmas.{run_has_room}
use Rattle.gr_touches.proofs.lanes.Lanes.add_to_run.Goals as goal

pub returns-in_err-reserve : goal.returns-in_err-reserve
returns-in_err-reserve c = record {
  ok = search rules;
  err = search rules;
  succeeds = λ fits.
      let room = run_has_room c.args.self.now c.args.touch fits in
      absurd (omega (arith, room, c.in_err-reserve.ensures.full, c.args.self.now.run.ok.0));
  room = search rules;
}
