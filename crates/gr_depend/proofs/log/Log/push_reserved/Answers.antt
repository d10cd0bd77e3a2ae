use Rattle.std.proofs.Common.{◌≡◌, [], ◌∷◌, ◌++◌, true, length, subst, sym, ap, ◌∙◌, append_assoc, length-append, arith}
use Rattle.std.specs.List.{list_all}
use Rattle.std.specs.Prelude.{OnOk}
use Rattle.gr_base.specs.declared.objects.Object.{Object}
use Rattle.gr_record.specs.Conflicts.{touched_by}
use Rattle.gr_touches.specs.Touches.{touches_in, none_twice, kept_for}
use Rattle.gr_touches.specs.Lists.{list_of}
use Rattle.gr_touches.proofs.TouchLemmas.{distinct_once, with_step, all_once_last}
use Rattle.gr_touches.proofs.RoomLemmas.{fits_step}
use Rattle.gr_depend.proofs.RoomLemmas.{takes_on}
use Rattle.gr_depend.proofs.log.Log.push_reserved.Goals as goal

pub unwrap-requires : goal.unwrap-requires
unwrap-requires c =
    let log = c.args.self.now in
    c.note.ensures.succeeds
    (fits_step log.lanes log.records.items c.args.step c.requires.room.0 c.len.result (distinct_once (touched_by c.args.step) c.requires.once) log.touches
    (omega (arith, log.records.ok.0, c.len.ensures)) c.requires.room.1.touches)

pub invariant_of-self : goal.invariant_of-self
invariant_of-self c =
    let log = c.args.self.now in
    let once : none_twice (touched_by c.args.step) ≡ true = distinct_once (touched_by c.args.step) c.requires.once in
    let items : c.push_reserved.new.self.items ≡ log.records.items ++ c.args.step ∷ [] = c.push_reserved.ensures.items in
    let noted : (q : Object) → list_of c.note.new.self q ≡ list_of log.lanes q ++ kept_for q c.len.result c.args.step =
    subst (λ r. OnOk r ((q : Object) → list_of c.note.new.self q ≡ list_of log.lanes q ++ kept_for q c.len.result c.args.step)) c.unwrap.ensures c.note.ensures.ok in
    record {
      touches = λ o. with_step log.records.items c.args.step once o (list_of log.lanes o) (list_of c.note.new.self o) c.len.result
          (log.touches o) (omega (arith, log.records.ok.0, c.len.ensures)) (noted o) ∙ ap (touches_in o 0) (sym items);
      once = subst (λ l. list_all (λ r. none_twice (touched_by r)) l ≡ true) (sym items) (all_once_last log.records.items c.args.step log.once once);
      few =
          let long = ap length items in let one_more = length-append log.records.items (c.args.step ∷ []) in
          let all = length-append log.records.items (c.args.step ∷ c.requires.room.0) in let fit = c.requires.room.1.places in
          omega (arith, long, one_more, all, fit);
    }

pub returns-clause-room : goal.returns-clause-room
returns-clause-room c rest can =
    let log = c.args.self.now in
    takes_on log _ (c.args.step ∷ rest) rest
    (ap (λ l. l ++ rest) c.push_reserved.ensures.items ∙ append_assoc log.records.items (c.args.step ∷ []) rest)
    (omega (arith, c.push_reserved.ensures.capacity)) c.note.ensures.room can
