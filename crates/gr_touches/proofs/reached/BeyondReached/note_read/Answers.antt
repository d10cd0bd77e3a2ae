use Rattle.std.proofs.Common.{[], ◌∷◌, refl}
use Rattle.std.proofs.lemmas.Result.{err_from_is_err_and}
use Rattle.gr_base.specs.declared.objects.Object.TheVariants.{Run}
use Rattle.gr_record.specs.Parts.{reads_in}
use Rattle.gr_touches.proofs.AddingLemmas.{noted_as, first_refused, second_refused, both_noted, reads_going, reads_stopping}
use Rattle.gr_touches.proofs.reached.BeyondReached.note_read.Goals as goal

pub returns-then-self : goal.returns-then-self
returns-then-self c =
    noted_as c.args.lanes.now c.note_read_beside_run.new.self c.args.touch _ _ (reads_stopping c.args.self.now c.if-self.true) c.note_read_beside_run.ensures

pub returns-in_err-add_to_run : goal.returns-in_err-add_to_run
returns-in_err-add_to_run c =
    let is = err_from_is_err_and c.from_residual.result c.from_residual.ensures.1 in
    noted_as c.args.lanes.now c.add_to_run.new.self c.args.touch _ _ (reads_going c.args.self.now c.if-self.false)
    (first_refused c.args.lanes.now c.add_to_run.new.self c.args.touch (Run ∷ []) (reads_in c.args.self.now) refl is.1 c.in_err-add_to_run.ensures)

pub returns-in-Err : goal.returns-in-Err
returns-in-Err c =
    noted_as c.args.lanes.now c.take_from_run.new.self c.args.touch _ _ (reads_going c.args.self.now c.if-self.false)
    (second_refused c.args.lanes.now c.add_to_run.new.self c.note_read_beside_run-noted.new.self c.take_from_run.new.self c.args.touch (Run ∷ []) (reads_in c.args.self.now) refl refl refl c.in_ok-add_to_run.ensures c.in-Err.ensures
    c.take_from_run.ensures.lists c.take_from_run.ensures.room)

pub returns : goal.returns
returns c =
    noted_as c.args.lanes.now c.note_read_beside_run-noted.new.self c.args.touch _ _ (reads_going c.args.self.now c.if-self.false)
    (both_noted c.args.lanes.now c.add_to_run.new.self c.note_read_beside_run-noted.new.self c.args.touch (Run ∷ []) (reads_in c.args.self.now) refl refl refl c.in_ok-add_to_run.ensures c.in_default.ensures)
