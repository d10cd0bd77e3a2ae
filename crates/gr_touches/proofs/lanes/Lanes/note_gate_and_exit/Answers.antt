use Rattle.std.proofs.Common.{[], ◌∷◌, refl}
use Rattle.std.proofs.lemmas.Result.{err_from_is_err_and}
use Rattle.gr_base.specs.declared.objects.Object.TheVariants.{Gate, Head}
use Rattle.gr_record.specs.Parts.{slot_before}
use Rattle.gr_touches.proofs.AddingLemmas.{first_refused, second_refused, both_noted}
use Rattle.gr_touches.proofs.lanes.Lanes.note_gate_and_exit.Goals as goal

pub returns-in_err-add_to_lane : goal.returns-in_err-add_to_lane
returns-in_err-add_to_lane c =
    let rest = Head c.args.channel.now ∷ slot_before c.args.channel.now c.args.slot [] in
    let told = err_from_is_err_and c.from_residual.result c.from_residual.ensures.1 in
    first_refused c.args.self.now c.add_to_lane.new.self c.args.touch (Gate c.args.channel.now ∷ []) rest refl told.1 c.in_err-add_to_lane.ensures

pub returns-in-Err : goal.returns-in-Err
returns-in-Err c =
    let rest = Head c.args.channel.now ∷ slot_before c.args.channel.now c.args.slot [] in
    second_refused c.args.self.now c.add_to_lane.new.self c.note_end-noted.new.self c.take_from_lane.new.self c.args.touch (Gate c.args.channel.now ∷ []) rest refl refl refl c.in_ok-add_to_lane.ensures c.in-Err.ensures c.take_from_lane.ensures.lists c.take_from_lane.ensures.room

pub returns : goal.returns
returns c =
    let rest = Head c.args.channel.now ∷ slot_before c.args.channel.now c.args.slot [] in
    both_noted c.args.self.now c.add_to_lane.new.self c.note_end-noted.new.self c.args.touch (Gate c.args.channel.now ∷ []) rest refl refl refl c.in_ok-add_to_lane.ensures c.in_default.ensures
