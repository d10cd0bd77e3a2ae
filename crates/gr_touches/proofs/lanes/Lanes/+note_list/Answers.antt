use Rattle.std.proofs.Common.{[], ◌∷◌, refl, sym}
use Rattle.std.proofs.lemmas.Result.{err_from_is_err_and}
use Rattle.gr_touches.specs.ObjectRefs.{seen}
use Rattle.gr_touches.specs.Told.{seen_in}
use Rattle.gr_touches.proofs.AddingLemmas.{noted_as, first_refused, second_refused, both_noted}
use Rattle.gr_touches.proofs.lanes.Lanes.+note_list.Goals as goal

pub returns-in_default : goal.returns-in_default
returns-in_default n c =
    noted_as c.args.self.now c.note_all.new.self c.args.touch _ _ (sym c.in_default.ensures.first) c.note_all.ensures

pub returns-in_err-add : goal.returns-in_err-add
returns-in_err-add n c =
    let told = err_from_is_err_and c.from_residual.result c.from_residual.ensures.1 in
    noted_as c.args.self.now c.add.new.self c.args.touch _ _ (sym c.in-Some.ensures.first)
    (first_refused c.args.self.now c.add.new.self c.args.touch (seen c.in-Some.first ∷ []) (seen_in c.next.new.self) refl told.1 c.in_err-add.ensures)

pub returns-in-Err : goal.returns-in-Err
returns-in-Err n c =
    noted_as c.args.self.now c.retract.new.self c.args.touch _ _ (sym c.in-Some.ensures.first)
    (second_refused c.args.self.now c.add.new.self c.note_list-noted.new.self c.retract.new.self c.args.touch (seen c.in-Some.first ∷ []) (seen_in c.next.new.self) refl refl refl c.in_ok-add.ensures c.in-Err.ensures c.retract.ensures.lists
    c.retract.ensures.room)

pub returns : goal.returns
returns n c =
    noted_as c.args.self.now c.note_list-noted.new.self c.args.touch _ _ (sym c.in-Some.ensures.first)
    (both_noted c.args.self.now c.add.new.self c.note_list-noted.new.self c.args.touch (seen c.in-Some.first ∷ []) (seen_in c.next.new.self) refl refl refl c.in_ok-add.ensures c.in_default-noted.ensures)
