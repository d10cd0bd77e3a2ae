use Rattle.std.proofs.Common.{inl}
use Rattle.gr_search.proofs.ShortestLemmas.{not_safe_there, unfinished}
use Rattle.gr_search.proofs.shortest.settle.Goals as goal

pub unreachable-requires : goal.unreachable-requires
unreachable-requires g c =
    let m = g.M.Searched in
    let f = m.fixed c.args.machine.now in
    not_safe_there (m.system f) (m.means f) (m.offers f) (m.longest f) c.args.limits.now.states c.args.limits.now.turns c.args.between.top c.args.between.end c.in-Bad.is c.requires.between.end
    (c.search_within.ensures.nothing _ c.in-Nothing.is)

pub returns-in-Limited-clause-ends : goal.returns-in-Limited-clause-ends
returns-in-Limited-clause-ends g c =
    let m = g.M.Searched in
    let f = m.fixed c.args.machine.now in (
      unfinished (m.system f) (m.means f) (m.offers f) (m.longest f) c.args.limits.now.states c.args.limits.now.turns c.args.between c.in-Limited.limit c.requires.next c.requires.between
          (inl (c.search_within.ensures.limited c.in-Limited.limit c.in-Limited.is)),
      c.in-Limited.ensures.home,
    )
