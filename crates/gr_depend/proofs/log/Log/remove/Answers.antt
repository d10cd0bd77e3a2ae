use Rattle.std.proofs.Common.{◌+◌, drop, take, Some, sym, ap, subst, ◌∙◌, arith}
use Rattle.gr_record.specs.Conflicts.{touched_by}
use Rattle.gr_touches.specs.Touches.{touches_in}
use Rattle.gr_depend.proofs.ArrangeLemmas.{once_distinct}
use Rattle.gr_depend.proofs.MiddleLemmas.{AllOnce, FitsAll, at_place, fits_as_they_are, its_once, left_fits, left_once, parted, takes_at_end}
use Rattle.gr_depend.proofs.log.Log.remove.Goals as goal

pub note_from-requires-clause-once : goal.note_from-requires-clause-once
note_from-requires-clause-once c =
    let log = c.args.self.now in
    subst AllOnce (sym (c.as_slice-2.ensures.value ∙ c.remove-step.ensures.by_index.2))
    (left_once log.records.items c.args.at c.remove-step.result c.requires c.remove-step.ensures.value log.once)

pub note_from-requires-clause-room : goal.note_from-requires-clause-room
note_from-requires-clause-room c =
    let log = c.args.self.now in
    let lanes = c.forget_from.new.lanes in
    subst (FitsAll lanes) (sym (c.as_slice-2.ensures.value ∙ c.remove-step.ensures.by_index.2))
    (left_fits log.records.items c.args.at c.remove-step.result c.requires c.remove-step.ensures.value lanes
    (c.forget_from.ensures.room _ (fits_as_they_are log)))

pub invariant_of-self : goal.invariant_of-self
invariant_of-self c =
    let log = c.args.self.now in
    record {
      touches = λ o. c.note_from.ensures.lists o ∙ ap (touches_in o 0) c.as_slice-2.ensures.value;
      once = subst AllOnce (sym c.remove-step.ensures.by_index.2)
          (left_once log.records.items c.args.at c.remove-step.result c.requires c.remove-step.ensures.value log.once);
      few =
          let few = log.few in
          let count = c.remove-step.ensures.len in
          omega (arith, few, count, log.records.ok.0, c.remove-step.new.self.ok.0);
    }

pub returns-clause-removed : goal.returns-clause-removed
returns-clause-removed c =
    at_place c.args.self.now.records.items c.args.at c.remove-step.result c.requires ∙ ap Some (sym c.remove-step.ensures.value)

pub returns-clause-once : goal.returns-clause-once
returns-clause-once c =
    let log = c.args.self.now in
    once_distinct (touched_by c.remove-step.result) (its_once log.records.items log.once c.args.at c.remove-step.result c.requires c.remove-step.ensures.value)

pub returns-clause-room : goal.returns-clause-room
returns-clause-room c rest can =
    let log = c.args.self.now in
    let rs = log.records.items in
    takes_at_end log _ (take c.args.at rs) (drop (c.args.at + 1) rs) rest c.remove-step.result
    (parted rs c.args.at c.remove-step.result c.requires c.remove-step.ensures.value) c.remove-step.ensures.by_index.2
    (omega (arith, c.remove-step.ensures.capacity)) (λ lists fits. c.note_from.ensures.room lists (c.forget_from.ensures.room lists fits)) can
