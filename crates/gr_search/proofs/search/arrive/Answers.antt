use Rattle.std.proofs.Common.{◌∙◌, ap, drop, subst, sym}
use Rattle.gr_search.specs.Going.{Going, HasAll, Known, tries, keys_of}
use Rattle.gr_search.proofs.Safe.{not_both}
use Rattle.gr_search.proofs.Seen.{was_there, was_new}
use Rattle.gr_search.proofs.Looks.{look_known, look_new, of_same}
use Rattle.gr_search.proofs.Works.{does_known, does_new}
use Rattle.gr_search.proofs.search.arrive.Goals as goal

pub returns-then-not-is_new-clause-turned : goal.returns-then-not-is_new-clause-turned
returns-then-not-is_new-clause-turned g c =
    let m = g.M.Searched in
    let f = m.fixed c.args.machine.now in
    look_known (m.system f) (m.means f) (keys_of c.args.seen.now) (keys_of c.insert.new.self) c.in_ok-key.key c.in-Ok.ensures.updates.0
    (m.state c.args.machine.now) c.in_ok-key.ensures.means
    _ _ _ (was_there _ _ c.in-Ok.ensures.added c.if-not-is_new.true)
    (c.in_ok-go_back.ensures.log ∙ ap (drop c.args.steps) c.key.ensures.log) c.requires.arriving

pub returns-clause-turned : goal.returns-clause-turned
returns-clause-turned g c =
    let m = g.M.Searched in
    let f = m.fixed c.args.machine.now in
    let all = of_same (λ f s. HasAll (m.system f) s c.in_ok-events.events.items) _ _ _ _ c.key.ensures.fixed c.key.ensures.state c.in_ok-events.ensures.all in
    subst (Going (m.system f) (Known (m.means f) (keys_of c.insert.new.self)) _) (sym c.key.ensures.log)
    (look_new (m.system f) (m.means f) (keys_of c.args.seen.now) (keys_of c.insert.new.self) c.in_ok-key.key c.in-Ok.ensures.updates.0
    (m.state c.args.machine.now) c.in_ok-key.ensures.means (g.met.M.Searched.one f)
    _ _ c.args.steps _ c.in_ok-events.events.items (c.in_ok-push_tries.ensures.tries ∙ ap (tries c.in_ok-events.events.items) c.in-Ok-push_front.ensures.items)
    (g.met.M.Searched.leads c.args.machine.now c.requires.stands) (λ b. not_both _ (c.is_bad.ensures.1 b) c.if-is_bad.false) all c.requires.arriving)

pub returns-then-not-is_new-clause-does : goal.returns-then-not-is_new-clause-does
returns-then-not-is_new-clause-does g c done d =
    let m = g.M.Searched in
    let f = m.fixed c.args.machine.now in
    does_known (m.system f) (m.means f) (m.offers f) (keys_of c.args.seen.now) (keys_of c.insert.new.self) c.in_ok-key.key c.in-Ok.ensures.updates.0 _ done d

pub returns-clause-does : goal.returns-clause-does
returns-clause-does g c done d =
    let m = g.M.Searched in
    let f = m.fixed c.args.machine.now in
    does_new (m.system f) (m.means f) (m.offers f) (keys_of c.args.seen.now) (keys_of c.insert.new.self) c.in_ok-key.key c.in-Ok.ensures.updates.0
    _ _ c.args.steps (m.state c.args.machine.now) _ done (was_new _ _ c.in-Ok.ensures.added c.if-not-is_new.false)
    (record { log = m.log c.args.machine.now; leads = g.met.M.Searched.leads c.args.machine.now c.requires.stands }) c.in_ok-key.ensures.means
    (of_same (λ f s. m.offers f s c.in_ok-events.events.items) _ _ _ _ c.key.ensures.fixed c.key.ensures.state c.in_ok-events.ensures.offered)
    (c.in_ok-push_tries.ensures.tries ∙ ap (tries c.in_ok-events.events.items) c.in-Ok-push_front.ensures.items) d
