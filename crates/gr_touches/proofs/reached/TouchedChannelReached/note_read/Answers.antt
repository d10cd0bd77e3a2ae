use Rattle.std.proofs.Common.{[], ◌∷◌, refl}
use Rattle.std.proofs.lemmas.Result.{err_from_is_err_and}
use Rattle.gr_base.specs.declared.objects.Object.TheVariants.{Run}
use Rattle.gr_touches.specs.Told.{read_on}
use Rattle.gr_touches.proofs.AddingLemmas.{first_refused, second_refused, both_noted}
use Rattle.gr_touches.proofs.reached.TouchedChannelReached.note_read.Goals as goal

pub returns-in_err-add_to_run : goal.returns-in_err-add_to_run
returns-in_err-add_to_run c =
    let is = err_from_is_err_and c.from_residual.result c.from_residual.ensures.1 in
    let told = read_on c.args.self.now.channel.now c.args.self.now.touched in
    first_refused c.args.lanes.now c.add_to_run.new.self c.args.touch (Run ∷ []) told refl is.1 c.in_err-add_to_run.ensures

pub returns-in-Err : goal.returns-in-Err
returns-in-Err c =
    let told = read_on c.args.self.now.channel.now c.args.self.now.touched in
    second_refused c.args.lanes.now c.add_to_run.new.self c.note_parts-noted.new.self c.take_from_run.new.self c.args.touch (Run ∷ []) told refl refl refl c.in_ok-add_to_run.ensures c.in-Err.ensures
    c.take_from_run.ensures.lists c.take_from_run.ensures.room

pub returns : goal.returns
returns c =
    let told = read_on c.args.self.now.channel.now c.args.self.now.touched in
    both_noted c.args.lanes.now c.add_to_run.new.self c.note_parts-noted.new.self c.args.touch (Run ∷ []) told refl refl refl c.in_ok-add_to_run.ensures c.in_default.ensures
