use Rattle.std.proofs.Common.{◌∙◌, ap}
use Rattle.gr_search.specs.Going.{Known, keys_of}
use Rattle.gr_search.proofs.Tasks.{no_task, back_task, no_step, arriving_on, at_fixed, none_left}
use Rattle.gr_search.proofs.search.take_turn.Goals as goal

pub returns-then-not-branch-clause-turned : goal.returns-then-not-branch-clause-turned
returns-then-not-branch-clause-turned g c =
    let m = g.M.Searched in
    let f = m.fixed c.args.machine.now in
    no_step (m.system f) (Known (m.means f) (keys_of c.args.seen.now)) _ _ _ c.requires.going c.pop_front.result c.in-Some-Try.field-0 c.in-Some-Try.event
    c.pop_front.ensures.items c.in-Some-Try.is c.in-Some-Try.field-0-is _ (g.met.M.Searched.leads c.args.machine.now c.requires.stands)
    c.in_ok-step-in-Some-Try.field-0 (g.M.Searched.state c.step.new.self) (g.M.Searched.log c.step.new.self) c.if-not-branch.true c.in_ok-step-in-Some-Try.ensures.stepped

pub arrive-requires-clause-arriving : goal.arrive-requires-clause-arriving
arrive-requires-clause-arriving g c =
    let m = g.M.Searched in
    let f = m.fixed c.args.machine.now in
    at_fixed m.system m.means (keys_of c.args.seen.now) f (m.fixed c.follow.new.machine) _ _ _ (c.in_ok-more-in-Some-Try.ensures.fixed ∙ c.in_ok-step-in-Some-Try.ensures.fixed)
    (arriving_on (m.system f) (Known (m.means f) (keys_of c.args.seen.now)) _ _ _ c.requires.going c.pop_front.result c.in-Some-Try.field-0 c.in-Some-Try.event
    c.pop_front.ensures.items c.in-Some-Try.is c.in-Some-Try.field-0-is _ (g.met.M.Searched.leads c.args.machine.now c.requires.stands)
    (m.system (m.fixed c.step.new.self)) (ap m.system c.in_ok-step-in-Some-Try.ensures.fixed)
    c.in_ok-step-in-Some-Try.field-0 (m.state c.step.new.self) (m.state c.follow.new.machine) (m.log c.step.new.self) (m.log c.follow.new.machine) c.in_ok-more-in-Some-Try.more
    c.if-not-branch.false c.in_ok-step-in-Some-Try.ensures.stepped c.in_ok-more-in-Some-Try.ensures.follows c.in_ok-more-in-Some-Try.ensures.log)

pub returns-in-None-clause-turned : goal.returns-in-None-clause-turned
returns-in-None-clause-turned g c =
    let m = g.M.Searched in
    let f = m.fixed c.args.machine.now in
    no_task (m.system f) (Known (m.means f) (keys_of c.args.seen.now)) _ _ _ c.requires.going c.pop_front.result c.pop_front.ensures.items c.in-None.is
    (none_left _ _ c.pop_front.result c.pop_front.ensures.items c.in-None.is c.pop_front.ensures.rest) (g.met.M.Searched.laws c.args.machine.now c.requires.stands)

pub returns-in_ok-go_back-in-Some-TakeBack-clause-turned : goal.returns-in_ok-go_back-in-Some-TakeBack-clause-turned
returns-in_ok-go_back-in-Some-TakeBack-clause-turned g c =
    let m = g.M.Searched in
    let f = m.fixed c.args.machine.now in
    back_task (m.system f) (Known (m.means f) (keys_of c.args.seen.now)) _ _ _ c.requires.going c.pop_front.result c.in-Some-TakeBack.field-0 c.in-Some-TakeBack.count _
    c.pop_front.ensures.items c.in-Some-TakeBack.is c.in-Some-TakeBack.field-0-is c.in_ok-go_back-in-Some-TakeBack.ensures.log
