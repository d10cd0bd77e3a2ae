use Rattle.std.proofs.Common.{◌+◌, sym, ◌∙◌, subst}
use Rattle.gr_search.specs.Going.{Going, Known, AreReached, Does, Ended, keys_of}
use Rattle.gr_search.specs.declared.search.Explored.TheVariants.{AllStates}
use Rattle.gr_search.proofs.Turns.{all_seen, goes_on}
use Rattle.gr_search.proofs.search.explore.Goals as goal

pub take_turn-requires-clause-reached : goal.take_turn-requires-clause-reached
take_turn-requires-clause-reached g c =
    let m = g.M.Searched in
    subst (λ f. AreReached (m.system f) (m.means f) (keys_of c.loop.seen)) (sym c.loop.invariant.fixed) c.loop.invariant.reached

pub loop-preserved : goal.loop-preserved
loop-preserved g c =
    let m = g.M.Searched in
    let same = c.loop.invariant.fixed in
    let turn = c.in_ok-take_turn.ensures in
    record {
      stands = c.take_turn.ensures.stands;
      fixed = c.take_turn.ensures.fixed ∙ same;
      going = subst (λ f. Going (m.system f) (Known (m.means f) (keys_of c.take_turn.new.seen)) c.take_turn.new.tasks.items (m.log c.take_turn.new.machine)) same
          (goes_on (m.system (m.fixed c.loop.machine)) c.in_ok-take_turn.field-0 _ c.take_turn.new.tasks.items (m.log c.take_turn.new.machine) (m.state c.take_turn.new.machine) c.in-GoOn-2.is turn.turned);
      reached = subst (λ f. AreReached (m.system f) (m.means f) (keys_of c.take_turn.new.seen)) same c.take_turn.ensures.reached;
      does = subst (λ f. Does (m.system f) (m.means f) (m.offers f) (keys_of c.take_turn.new.seen) c.take_turn.new.tasks.items (c.loop.counter + 1)) same
          (turn.does c.in-GoOn-2.is c.loop.counter
          (subst (λ f. Does (m.system f) (m.means f) (m.offers f) (keys_of c.loop.seen) c.loop.tasks.items c.loop.counter) (sym same) c.loop.invariant.does));
    }

pub returns-in-Done-2-clause-ended : goal.returns-in-Done-2-clause-ended
returns-in-Done-2-clause-ended g c =
    let m = g.M.Searched in
    let f = m.fixed c.loop.machine in
    subst (λ f. Ended (m.system f) (m.means f) (AllStates c.len-in-Done-2.result) (m.log c.take_turn.new.machine) (m.state c.take_turn.new.machine)) c.loop.invariant.fixed
    (all_seen (m.system f) (m.means f) c.in_ok-take_turn.field-0 c.take_turn.new.seen.keys _ c.take_turn.new.tasks.items (m.log c.take_turn.new.machine) (m.state c.take_turn.new.machine)
    c.in-Done-2.is c.in_ok-take_turn.ensures.turned c.take_turn.ensures.reached c.len-in-Done-2.ensures.unique c.len-in-Done-2.ensures.len)
