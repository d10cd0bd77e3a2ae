use Rattle.std.proofs.Common.{◌≡◌}
use Rattle.gr_search.specs.Going.{Going, Known, AreReached, Does, keys_of}
use Rattle.gr_search.proofs.search.explore.Given as goal

abbrev pub invariant-loop : goal.invariant-loop
invariant-loop g l =
    let m = g.M.Searched in
    record {
      stands : m.stands l.machine;
      fixed : m.fixed l.machine ≡ m.fixed l.fn.machine;
      going : Going (m.system (m.fixed l.fn.machine)) (Known (m.means (m.fixed l.fn.machine)) (keys_of l.seen)) l.tasks.items (m.log l.machine);
      reached : AreReached (m.system (m.fixed l.fn.machine)) (m.means (m.fixed l.fn.machine)) (keys_of l.seen);
      does : Does (m.system (m.fixed l.fn.machine)) (m.means (m.fixed l.fn.machine)) (m.offers (m.fixed l.fn.machine)) (keys_of l.seen) l.tasks.items l.counter;
    }
