use Rattle.std.proofs.Common.{◌≡◌, ◌++◌, subst, arith}
use Rattle.std.specs.Prelude.{OnOk}
use Rattle.gr_base.specs.declared.objects.Object.{Object}
use Rattle.gr_touches.specs.Lists.{list_of}
use Rattle.gr_touches.specs.Touches.{kept_for}
use Rattle.gr_depend.proofs.MiddleLemmas.{one_fits, one_more}
use Rattle.gr_depend.proofs.middle.note_from.Goals as goal

pub unwrap-requires : goal.unwrap-requires
unwrap-requires c =
    let steps = c.args.steps.now in
    c.note.ensures.succeeds
    (one_fits steps c.requires.once c.loop-place.place c.index-steps-place.result (omega arith) c.index-steps-place.is
    c.loop-place.lanes c.loop-place.invariant.lists (c.loop-place.invariant.room _ c.requires.room))

pub loop-place-preserved : goal.loop-place-preserved
loop-place-preserved c =
    let steps = c.args.steps.now in
    let noted : (q : Object) → list_of c.note.new.self q ≡ list_of c.loop-place.lanes q ++ kept_for q c.loop-place.place c.index-steps-place.result =
    subst (λ r. OnOk r ((q : Object) → list_of c.note.new.self q ≡ list_of c.loop-place.lanes q ++ kept_for q c.loop-place.place c.index-steps-place.result))
    c.unwrap.ensures c.note.ensures.ok in
    record {
      lists = one_more steps c.requires.once c.loop-place.place c.index-steps-place.result (omega arith) c.index-steps-place.is
          c.loop-place.lanes c.note.new.self c.loop-place.invariant.lists noted;
      room = λ lists fits. c.note.ensures.room lists (c.loop-place.invariant.room lists fits);
    }
