use Rattle.gr_search.proofs.BoundLemmas.{safe_within}
use Rattle.gr_search.proofs.bounded.search_within.Goals as goal

pub returns-clause-nothing : goal.returns-clause-nothing
returns-clause-nothing g c states e =
    let m = g.M.Searched in
    safe_within (m.system (m.fixed c.args.machine.now)) c.args.most (c.search.ensures.nothing states e)
