use Rattle.std.proofs.Common.{◌≡◌, ◌≤◌, ◌^◌, ℕ, List, [], ◌∷◌, ◌++◌, true, get_or, length, take, subst, sym, ap, ◌∙◌, append_assoc, length-append, arith}
use Rattle.std.proofs.Math.Seq.{take-append_seam}
use Rattle.std.proofs.lemmas.List.{get_or_push}
use Rattle.std.specs.List.{list_all}
use Rattle.gr_record.specs.declared.record.Record.{Record}
use Rattle.gr_record.specs.Conflicts.{touched_by}
use Rattle.gr_touches.specs.Room.{Fits}
use Rattle.gr_touches.specs.Touches.{touches_in, kept_for, none_twice}
use Rattle.gr_touches.specs.Lists.{list_of}
use Rattle.gr_touches.proofs.TouchLemmas.{distinct_once, with_step, all_once_last}
use Rattle.gr_touches.proofs.RoomLemmas.{fits_step}
use Rattle.gr_depend.proofs.RoomLemmas.{takes_on}
use Rattle.gr_depend.proofs.log.Log.push.Goals as goal

-- what stands at the place of a step that was put behind others is that step
found : (xs ys : List Record) (r step : Record) (i : ℕ) → ys ≡ xs ++ step ∷ [] → length xs ≡ i → r ≡ get_or ys i r → r ≡ step
found xs ys r step i is at at_i = at_i ∙ ap (λ l. get_or l i r) is ∙ get_or_push xs step r i at

-- without it they are as before
left : (xs ys : List Record) (step : Record) (n : ℕ) → ys ≡ xs ++ step ∷ [] → length xs ≡ n → take n ys ≡ xs
left xs ys step n is at = ap (take n) is ∙ ap (λ k. take k (xs ++ step ∷ [])) (sym at) ∙ take-append_seam xs (step ∷ [])

pub invariant_of-self-in-Ok : goal.invariant_of-self-in-Ok
invariant_of-self-in-Ok c =
    let log = c.args.self.now in
    let step = c.args.step in
    let pushed = c.push_reserved.ensures.items ∙ ap (λ l. l ++ step ∷ []) c.reserve-reserved.ensures.items in
    let at : length log.records.items ≡ c.len-place.result = omega (arith, log.records.ok.0, c.len-place.ensures, c.reserve-reserved.ensures.len) in
    let once : none_twice (touched_by step) ≡ true = distinct_once (touched_by step) c.requires in
    record {
      touches = λ o. with_step log.records.items step once o (list_of log.lanes o) (list_of c.note.new.self o) c.len-place.result
          (log.touches o) (sym at)
          (c.in-Ok.ensures.ok o ∙ ap (λ r. list_of log.lanes o ++ kept_for o c.len-place.result r)
          (found log.records.items c.push_reserved.new.self.items c.index.result.now step c.len-place.result pushed at c.index.ensures))
          ∙ ap (touches_in o 0) (sym pushed);
      once = subst (λ l. list_all (λ r. none_twice (touched_by r)) l ≡ true) (sym pushed) (all_once_last log.records.items step log.once once);
      few = let long = ap length pushed in let one_more = length-append log.records.items (step ∷ []) in omega (arith, long, one_more, at, c.if-place-ge-MOST_STEPS.false);
    }

pub invariant_of-self-in-Err-note : goal.invariant_of-self-in-Err-note
invariant_of-self-in-Err-note c =
    let log = c.args.self.now in
    let step = c.args.step in
    let pushed = c.push_reserved.ensures.items ∙ ap (λ l. l ++ step ∷ []) c.reserve-reserved.ensures.items in
    let back : c.pop.new.self.items ≡ log.records.items =
    c.pop.ensures.rest ∙ left log.records.items c.push_reserved.new.self.items step _ pushed
    (omega (arith, log.records.ok.0, c.reserve-reserved.ensures.len, c.push_reserved.ensures.len)) in
    record {
      touches = λ o. c.in-Err-note.ensures.err o ∙ log.touches o ∙ ap (touches_in o 0) (sym back);
      once = subst (λ l. list_all (λ r. none_twice (touched_by r)) l ≡ true) (sym back) log.once;
      few = subst (λ l. length l ≤ 2 ^ 31) (sym back) log.few;
    }

pub returns-in-Ok-clause-room : goal.returns-in-Ok-clause-room
returns-in-Ok-clause-room c rest can =
    let log = c.args.self.now in
    let pushed = c.push_reserved.ensures.items ∙ ap (λ l. l ++ c.args.step ∷ []) c.reserve-reserved.ensures.items in
    takes_on log _ (c.args.step ∷ rest) rest (ap (λ l. l ++ rest) pushed ∙ append_assoc log.records.items (c.args.step ∷ []) rest)
    (omega (arith, c.reserve-reserved.ensures.capacity, c.push_reserved.ensures.capacity)) c.note.ensures.room can

pub returns-in-Err-note-clause-succeeds : goal.returns-in-Err-note-clause-succeeds
returns-in-Err-note-clause-succeeds c rest can =
    let log = c.args.self.now in
    let step = c.args.step in
    let pushed = c.push_reserved.ensures.items ∙ ap (λ l. l ++ step ∷ []) c.reserve-reserved.ensures.items in
    let at : length log.records.items ≡ c.len-place.result = omega (arith, log.records.ok.0, c.len-place.ensures, c.reserve-reserved.ensures.len) in
    c.in-Err-note.ensures.succeeds
    (subst (λ r. Fits log.lanes (λ q. list_of log.lanes q ++ kept_for q c.len-place.result r))
    (sym (found log.records.items c.push_reserved.new.self.items c.index.result.now step c.len-place.result pushed at c.index.ensures))
    (fits_step log.lanes log.records.items step rest c.len-place.result (distinct_once (touched_by step) c.requires) log.touches (sym at) can.touches))

pub returns-in-Err-note-clause-room_err : goal.returns-in-Err-note-clause-room_err
returns-in-Err-note-clause-room_err c rest can =
    let log = c.args.self.now in
    let step = c.args.step in
    let pushed = c.push_reserved.ensures.items ∙ ap (λ l. l ++ step ∷ []) c.reserve-reserved.ensures.items in
    let back : c.pop.new.self.items ≡ log.records.items =
    c.pop.ensures.rest ∙ left log.records.items c.push_reserved.new.self.items step _ pushed
    (omega (arith, log.records.ok.0, c.reserve-reserved.ensures.len, c.push_reserved.ensures.len)) in
    takes_on log _ rest rest (ap (λ l. l ++ rest) back)
    (omega (arith, c.reserve-reserved.ensures.capacity, c.push_reserved.ensures.capacity, c.pop.ensures.capacity)) c.note.ensures.room can
