use Rattle.std.proofs.Common.{rules, ◌≤◌, length}
use Rattle.gr_share.proofs.Seats.{no_desk}
use Rattle.gr_share.proofs.finishing.is_desk.Goals as goal

pub returns-clause-missing : goal.returns-clause-missing
returns-clause-missing g c =
    let all : length c.args.desks.now ≤ c.loop-desk.desk-index = search rules in
    λ _ is. no_desk c.args.number c.loop-desk.desk-index c.args.desks.now c.loop-desk.invariant all is
