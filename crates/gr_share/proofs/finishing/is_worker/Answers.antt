use Rattle.std.proofs.Common.{rules, ◌≤◌, length}
use Rattle.gr_share.proofs.Seats.{no_worker}
use Rattle.gr_share.proofs.finishing.is_worker.Goals as goal

pub returns-clause-missing : goal.returns-clause-missing
returns-clause-missing g c =
    let all : length c.args.workers.now ≤ c.loop-worker.worker-index = search rules in
    λ _ is. no_worker c.args.number c.loop-worker.worker-index c.args.workers.now c.loop-worker.invariant all is
