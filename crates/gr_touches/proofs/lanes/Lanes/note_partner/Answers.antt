use Rattle.std.proofs.Common.{[], ◌∷◌, refl}
use Rattle.std.proofs.lemmas.Result.{err_from_is_err_and}
use Rattle.gr_base.specs.declared.objects.Object.TheVariants.{Go}
use Rattle.gr_touches.proofs.AddingLemmas.{first_refused, second_refused, both_noted}
use Rattle.gr_touches.proofs.lanes.Lanes.note_partner.Goals as goal

pub returns-in_err-add_to_lane : goal.returns-in_err-add_to_lane
returns-in_err-add_to_lane c =
    let told = err_from_is_err_and c.from_residual.result c.from_residual.ensures.1 in
    first_refused c.args.self.now c.add_to_lane.new.self c.args.touch (Go c.args.go.now ∷ []) c.args.others.now refl told.1 c.in_err-add_to_lane.ensures

pub returns-in-Err : goal.returns-in-Err
returns-in-Err c =
    second_refused c.args.self.now c.add_to_lane.new.self c.note_all-noted.new.self c.take_from_lane.new.self c.args.touch (Go c.args.go.now ∷ []) c.args.others.now refl refl refl c.in_ok-add_to_lane.ensures c.in-Err.ensures c.take_from_lane.ensures.lists c.take_from_lane.ensures.room

pub returns : goal.returns
returns c =
    both_noted c.args.self.now c.add_to_lane.new.self c.note_all-noted.new.self c.args.touch (Go c.args.go.now ∷ []) c.args.others.now refl refl refl c.in_ok-add_to_lane.ensures c.in_default.ensures
