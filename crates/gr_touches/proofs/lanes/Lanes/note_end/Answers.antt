use Rattle.std.proofs.Common.{ℕ, Option, [], ◌∷◌, refl, sym, ap, ◌∙◌}
use Rattle.std.proofs.lemmas.Result.{err_from_is_err_and}
use Rattle.gr_base.specs.declared.objects.Object.TheVariants.{Slot}
use Rattle.gr_record.specs.Parts.{slot_before}
use Rattle.gr_touches.specs.ObjectRefs.{seen}
use Rattle.gr_touches.proofs.AddingLemmas.{noted_as, first_refused, second_refused, both_noted}
use Rattle.gr_touches.proofs.lanes.Lanes.note_end.Goals as goal

pub returns-in_err-add_to_lane : goal.returns-in_err-add_to_lane
returns-in_err-add_to_lane c =
    let told = err_from_is_err_and c.from_residual.result c.from_residual.ensures.1 in
    first_refused c.args.self.now c.add_to_lane.new.self c.args.touch (seen c.args.end.now ∷ []) (slot_before c.args.channel.now c.args.slot []) refl told.1 c.in_err-add_to_lane.ensures

pub returns-in_default : goal.returns-in_default
returns-in_default c =
    noted_as c.args.self.now c.add_to_lane.new.self c.args.touch (seen c.args.end.now ∷ []) _ (ap (λ (s : Option ℕ). seen c.args.end.now ∷ slot_before c.args.channel.now s []) (sym c.in_default.is ∙ c.get.ensures)) c.in_ok-add_to_lane.ensures

pub returns-in-Err : goal.returns-in-Err
returns-in-Err c =
    noted_as c.args.self.now c.take_from_lane.new.self c.args.touch _ _ (ap (λ (s : Option ℕ). seen c.args.end.now ∷ slot_before c.args.channel.now s []) (sym c.in-Some.is ∙ c.get.ensures))
    (second_refused c.args.self.now c.add_to_lane.new.self c.add_to_lane-added.new.self c.take_from_lane.new.self c.args.touch (seen c.args.end.now ∷ []) (Slot c.args.channel.now c.in-Some.place ∷ []) refl refl refl
    c.in_ok-add_to_lane.ensures c.in-Err.ensures c.take_from_lane.ensures.lists c.take_from_lane.ensures.room)

pub returns : goal.returns
returns c =
    noted_as c.args.self.now c.add_to_lane-added.new.self c.args.touch _ _ (ap (λ (s : Option ℕ). seen c.args.end.now ∷ slot_before c.args.channel.now s []) (sym c.in-Some.is ∙ c.get.ensures))
    (both_noted c.args.self.now c.add_to_lane.new.self c.add_to_lane-added.new.self c.args.touch (seen c.args.end.now ∷ []) (Slot c.args.channel.now c.in-Some.place ∷ []) refl refl refl
    c.in_ok-add_to_lane.ensures c.in_default-added.ensures)
