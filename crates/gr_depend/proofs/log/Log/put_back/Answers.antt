use Rattle.std.proofs.Common.{if◌then◌else◌, drop, length, take, sym, ap, subst, ◌∙◌, arith}
use Rattle.std.specs.Prelude.{insert, is_ok}
use Rattle.gr_record.specs.Conflicts.{touched_by}
use Rattle.gr_touches.specs.Touches.{touches_in}
use Rattle.gr_touches.proofs.TouchLemmas.{distinct_once}
use Rattle.gr_depend.proofs.MiddleLemmas.{AllOnce, FitsAll, more_count, more_fits, more_once, takes_in_middle, whole}
use Rattle.gr_depend.proofs.log.Log.put_back.Goals as goal

pub note_from-requires-clause-once : goal.note_from-requires-clause-once
note_from-requires-clause-once c =
    let log = c.args.self.now in
    let items = c.insert.ensures.items ∙ ap (λ r. if is_ok r then insert log.records.items c.args.at c.args.step else log.records.items) c.unwrap.ensures in
    subst AllOnce (sym (c.as_slice-2.ensures.value ∙ items))
    (more_once log.records.items c.args.at c.args.step (distinct_once (touched_by c.args.step) c.requires.once) log.once)

pub note_from-requires-clause-room : goal.note_from-requires-clause-room
note_from-requires-clause-room c =
    let log = c.args.self.now in
    let items = c.insert.ensures.items ∙ ap (λ r. if is_ok r then insert log.records.items c.args.at c.args.step else log.records.items) c.unwrap.ensures in
    let lanes = c.forget_from.new.lanes in
    subst (FitsAll lanes) (sym (c.as_slice-2.ensures.value ∙ items))
    (more_fits log.records.items c.args.at c.args.step lanes c.requires.room.0 (c.forget_from.ensures.room _ c.requires.room.1.touches))

pub invariant_of-self : goal.invariant_of-self
invariant_of-self c =
    let log = c.args.self.now in
    let items = c.insert.ensures.items ∙ ap (λ r. if is_ok r then insert log.records.items c.args.at c.args.step else log.records.items) c.unwrap.ensures in
    record {
      touches = λ o. c.note_from.ensures.lists o ∙ ap (touches_in o 0) c.as_slice-2.ensures.value;
      once = subst AllOnce (sym items) (more_once log.records.items c.args.at c.args.step (distinct_once (touched_by c.args.step) c.requires.once) log.once);
      few =
          let long = ap length items in
          let count = more_count log.records.items c.args.at c.args.step c.requires.room.0 in
          let fit = c.requires.room.1.places in
          omega (arith, long, count, fit);
    }

pub returns-clause-room : goal.returns-clause-room
returns-clause-room c rest can =
    let log = c.args.self.now in
    let rs = log.records.items in
    let items = c.insert.ensures.items ∙ ap (λ r. if is_ok r then insert rs c.args.at c.args.step else rs) c.unwrap.ensures in
    takes_in_middle _ log (take c.args.at rs) (drop c.args.at rs) rest c.args.step items (whole rs c.args.at c.args.step)
    (omega (arith, c.insert.ensures.capacity)) (λ lists fits. c.note_from.ensures.room lists (c.forget_from.ensures.room lists fits)) can
