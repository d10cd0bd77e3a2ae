use Rattle.gr_search.proofs.ShortestLemmas.{goes_closer, comes_closer}
use Rattle.gr_search.proofs.shortest.come_closer.Goals as goal

pub returns-in-Ok-clause-narrowed : goal.returns-in-Ok-clause-narrowed
returns-in-Ok-clause-narrowed g c states turns =
    let m = g.M.Searched in
    let f = m.fixed c.args.machine.now in
    goes_closer (m.system f) (m.means f) (m.offers f) (m.longest f) states turns c.args.safe (m.log c.args.machine.now) (m.state c.args.machine.now) c.taken-steps.result
    (g.met.M.Searched.leads c.args.machine.now c.requires.stands) c.taken-steps.ensures c.requires.bad c.requires.safe (m.log c.take_all_back.new.machine) (m.state c.take_all_back.new.machine) c.in-Ok.ensures.home

pub returns-in-Ok-clause-closer : goal.returns-in-Ok-clause-closer
returns-in-Ok-clause-closer g c b here l =
    let m = g.M.Searched in
    let f = m.fixed c.args.machine.now in
    comes_closer (m.system f) (m.means f) (m.offers f) (m.longest f) 0 0 c.args.safe (m.log c.args.machine.now) (m.state c.args.machine.now) c.taken-steps.result
    (g.met.M.Searched.leads c.args.machine.now c.requires.stands) c.taken-steps.ensures c.requires.bad c.requires.safe b here l
