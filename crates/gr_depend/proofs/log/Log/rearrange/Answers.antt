use Rattle.std.proofs.Common.{◌≡◌, ◌+◌, ◌∙◌, drop, ◌∷◌, ◌++◌, [], OnOk, is_some, slice_set, subst, sym, ap}
use Rattle.gr_causal.specs.Sequences.{Distinct}
use Rattle.gr_causal.proofs.ListLemmas.{some_is}
use Rattle.gr_record.specs.Conflicts.{touched_by}
use Rattle.gr_depend.specs.Logs.{records_of}
use Rattle.gr_depend.specs.Ordering.{elements_at}
use Rattle.gr_depend.specs.Room.{CanTake}
use Rattle.gr_depend.proofs.ArrangeLemmas.{none_put_back, next_there, is_next, can_take_next, can_take_none, one_put_back, all_put_back, touched_distinct}
use Rattle.gr_depend.proofs.log.Log.rearrange.Goals as goal

pub loop-i-init : goal.loop-i-init
loop-i-init c =
    none_put_back c.args.self.now c.take_all.new.self c.args.from.now c.take_all.new.steps.items c.requires.distinct c.requires.order c.take_all.ensures.steps
    c.take_all.ensures.none c.take_all.ensures.room

pub unwrap-step-requires : goal.unwrap-step-requires
unwrap-step-requires c =
    let old = c.args.self.now in
    let log = c.loop-i.self in
    let next = next_there old log c.args.from.now c.loop-i.i c.loop-i.steps.items c.requires.within c.requires.order c.loop-i-test.true c.loop-i.invariant in
    let is =
    is_next old log c.args.from.now c.loop-i.i c.loop-i.steps.items c.requires.within c.requires.order c.loop-i-test.true c.loop-i.invariant
    c.index_mut.result.now c.take.result c.index_mut.ensures.value c.take.ensures.value in
    ap is_some is

pub push-requires : goal.push-requires
push-requires c =
    let old = c.args.self.now in
    let log = c.loop-i.self in
    let next = next_there old log c.args.from.now c.loop-i.i c.loop-i.steps.items c.requires.within c.requires.order c.loop-i-test.true c.loop-i.invariant in
    let is =
    is_next old log c.args.from.now c.loop-i.i c.loop-i.steps.items c.requires.within c.requires.order c.loop-i-test.true c.loop-i.invariant
    c.index_mut.result.now c.take.result c.index_mut.ensures.value c.take.ensures.value in
    subst (λ r. Distinct (touched_by r)) (some_is next.0 c.unwrap-step.result (sym is ∙ c.unwrap-step.ensures))
    (touched_distinct (records_of old) _ next.0 old.once next.1)

pub unwrap-requires : goal.unwrap-requires
unwrap-requires c =
    let old = c.args.self.now in
    let log = c.loop-i.self in
    let next = next_there old log c.args.from.now c.loop-i.i c.loop-i.steps.items c.requires.within c.requires.order c.loop-i-test.true c.loop-i.invariant in
    let is =
    is_next old log c.args.from.now c.loop-i.i c.loop-i.steps.items c.requires.within c.requires.order c.loop-i-test.true c.loop-i.invariant
    c.index_mut.result.now c.take.result c.index_mut.ensures.value c.take.ensures.value in
    let rest = drop (c.loop-i.i + 1) (elements_at c.args.from.now (records_of old)) ++ [] in
    c.push.ensures.succeeds rest
    (subst (λ r. CanTake log (r ∷ rest)) (some_is next.0 c.unwrap-step.result (sym is ∙ c.unwrap-step.ensures))
    (can_take_next old log c.args.from.now c.loop-i.i c.loop-i.steps.items c.requires.within c.requires.order c.loop-i-test.true c.loop-i.invariant [] (can_take_none old)))

pub loop-i-preserved : goal.loop-i-preserved
loop-i-preserved c =
    let old = c.args.self.now in
    let log = c.loop-i.self in
    let next = next_there old log c.args.from.now c.loop-i.i c.loop-i.steps.items c.requires.within c.requires.order c.loop-i-test.true c.loop-i.invariant in
    let is =
    is_next old log c.args.from.now c.loop-i.i c.loop-i.steps.items c.requires.within c.requires.order c.loop-i-test.true c.loop-i.invariant
    c.index_mut.result.now c.take.result c.index_mut.ensures.value c.take.ensures.value in
    let same = some_is next.0 c.unwrap-step.result (sym is ∙ c.unwrap-step.ensures) in
    one_put_back old log c.args.from.now c.loop-i.i c.loop-i.steps.items c.requires.within c.requires.order c.loop-i-test.true c.loop-i.invariant
    c.push.new.self _ (ap (slice_set c.loop-i.steps.items _) c.take.ensures.after)
    (subst (λ r. records_of c.push.new.self ≡ records_of log ++ r ∷ []) (sym same) (subst (λ x. OnOk x (records_of c.push.new.self ≡ records_of log ++ c.unwrap-step.result ∷ [])) c.unwrap.ensures c.push.ensures.ok))
    (λ rest can. subst (λ x. OnOk x (CanTake c.push.new.self rest)) c.unwrap.ensures (c.push.ensures.room rest (subst (λ r. CanTake log (r ∷ rest)) same can)))

pub returns-clause-ok : goal.returns-clause-ok
returns-clause-ok c = (all_put_back c.args.self.now c.loop-i.self c.args.from.now c.loop-i.i c.loop-i.steps.items c.requires.within c.loop-i-test.false c.loop-i.invariant).0

pub returns-clause-room : goal.returns-clause-room
returns-clause-room c = (all_put_back c.args.self.now c.loop-i.self c.args.from.now c.loop-i.i c.loop-i.steps.items c.requires.within c.loop-i-test.false c.loop-i.invariant).1
