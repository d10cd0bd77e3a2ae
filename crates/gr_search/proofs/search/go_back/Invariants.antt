use Rattle.std.proofs.Common.{◌≡◌, drop}
use Rattle.gr_search.proofs.search.go_back.Given as goal

abbrev pub invariant-loop : goal.invariant-loop
invariant-loop g l =
    let m = g.M.Searched in
    record {
      stands : m.stands l.machine;
      fixed : m.fixed l.machine ≡ m.fixed l.fn.machine;
      log : m.log l.machine ≡ drop l.counter (m.log l.fn.machine);
    }
