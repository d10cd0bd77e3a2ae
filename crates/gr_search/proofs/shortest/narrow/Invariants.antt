use Rattle.std.proofs.Common.{◌≡◌, ◌-◌, []}
use Rattle.gr_search.specs.Narrowing.{IsBetween}
use Rattle.gr_search.proofs.shortest.narrow.Given as goal

abbrev pub invariant-loop-between : goal.invariant-loop-between
invariant-loop-between g l =
    let m = g.M.Searched in
    let f = m.fixed l.fn.machine in
    record {
      stands : m.stands l.machine;
      fixed : m.fixed l.machine ≡ f;
      start : m.log l.machine ≡ [];
      between : IsBetween (m.system f) (m.means f) (m.offers f) (m.longest f) l.limits.states l.limits.turns l.between;
    }

abbrev pub decreases-loop-between : goal.decreases-loop-between
decreases-loop-between g l = l.between.top - l.between.safe
