use Rattle.std.proofs.Common.{ap}
use Rattle.gr_search.specs.Going.{Known, keys_of}
use Rattle.gr_search.proofs.Begins.{arriving_first, none_known}
use Rattle.gr_search.proofs.search.begin.Goals as goal

pub arrive-requires-clause-arriving : goal.arrive-requires-clause-arriving
arrive-requires-clause-arriving g c =
    let m = g.M.Searched in
    let f = m.fixed c.args.machine.now in
    let h = m.fixed c.follow.new.machine in
    arriving_first (m.system f) (m.system h) (Known (m.means h) (keys_of c.args.seen.now)) _ (m.state c.args.machine.now) (m.state c.follow.new.machine)
    (m.log c.args.machine.now) (m.log c.follow.new.machine) c.in_ok-steps.steps (ap m.system c.in_ok-steps.ensures.fixed)
    (none_known (m.means h) (keys_of c.args.seen.now) c.requires.no_keys) c.requires.no_tasks
    (g.met.M.Searched.leads c.args.machine.now c.requires.stands) c.requires.start c.in_ok-steps.ensures.follows c.in_ok-steps.ensures.log
