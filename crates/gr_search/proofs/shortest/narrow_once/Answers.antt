use Rattle.std.proofs.Common.{inl, refl, arith}
use Rattle.gr_search.proofs.ShortestLemmas.{cut_goes_on, cut_comes_closer}
use Rattle.gr_search.proofs.shortest.narrow_once.Goals as goal

pub returns-in-Limited-clause-narrowed : goal.returns-in-Limited-clause-narrowed
returns-in-Limited-clause-narrowed g c =
    let m = g.M.Searched in
    let f = m.fixed c.args.machine.now in
    let b = c.args.between in
    cut_goes_on (m.system f) (m.means f) (m.offers f) (m.longest f) c.args.limits.now.states c.args.limits.now.turns _ b.safe b.known c.requires.between.safe c.requires.between.known (omega arith)
    c.in-Limited.limit c.cut_at.result (m.log c.search_within.new.machine) (m.state c.search_within.new.machine) (inl (c.search_within.ensures.limited c.in-Limited.limit c.in-Limited.is)) c.in-Limited.ensures.home
    c.cut_at.ensures

pub returns-in-Limited-clause-closer : goal.returns-in-Limited-clause-closer
returns-in-Limited-clause-closer g c =
    let m = g.M.Searched in
    let f = m.fixed c.args.machine.now in
    let b = c.args.between in
    cut_comes_closer (m.system f) (m.means f) (m.offers f) (m.longest f) c.args.limits.now.states c.args.limits.now.turns _ b.safe b.known c.requires.between.safe c.requires.between.known (omega arith)
    b refl (omega arith) c.in-Limited.limit c.cut_at.result c.cut_at.ensures
