use Rattle.std.proofs.Common.{◌≡◌, drop}
use Rattle.gr_search.specs.System.{Follows}
use Rattle.gr_search.proofs.search.follow.Given as goal

abbrev pub invariant-loop-count : goal.invariant-loop-count
invariant-loop-count g l =
    let m = g.M.Searched in
    record {
      stands : m.stands l.machine;
      fixed : m.fixed l.machine ≡ m.fixed l.fn.machine;
      -- what follows from here follows from where it began
      follows : (u : m.State) → Follows (m.system (m.fixed l.fn.machine)) (m.state l.machine) u → Follows (m.system (m.fixed l.fn.machine)) (m.state l.fn.machine) u;
      log : drop l.count (m.log l.machine) ≡ m.log l.fn.machine;
    }
