use Rattle.std.proofs.Common.{[], ◌∷◌, refl}
use Rattle.std.proofs.lemmas.Result.{err_from_is_err_and}
use Rattle.gr_base.specs.declared.objects.Object.TheVariants.{Run, Go}
use Rattle.gr_touches.proofs.NoteLemmas.{read_alone, written_alone}
use Rattle.gr_touches.proofs.AddingLemmas.{noted_with, read_refused, write_refused, step_noted}
use Rattle.gr_touches.proofs.lanes.Lanes.note_alone.Goals as goal

pub returns-in_err-add_to_run : goal.returns-in_err-add_to_run
returns-in_err-add_to_run c =
    let told = err_from_is_err_and c.from_residual.result c.from_residual.ensures.1 in
    read_refused c.args.place c.args.step.now (Run ∷ []) (Go c.args.step.now.id.go ∷ []) (read_alone c.args.step.now c.requires.alone) (written_alone c.args.step.now c.requires.alone) c.args.self.now c.add_to_run.new.self refl told.1 (noted_with _ _ (Run ∷ []) c.new-read.ensures c.in_err-add_to_run.ensures)

pub returns-in-Err : goal.returns-in-Err
returns-in-Err c =
    write_refused c.args.place c.args.step.now (Run ∷ []) (Go c.args.step.now.id.go ∷ []) (read_alone c.args.step.now c.requires.alone) (written_alone c.args.step.now c.requires.alone) c.args.self.now c.add_to_run.new.self c.add_to_lane-noted.new.self c.take_from_run.new.self refl refl refl (noted_with _ _ (Run ∷ []) c.new-read.ensures c.in_ok-add_to_run.ensures) (noted_with _ _ (Go c.args.step.now.id.go ∷ []) c.new-written.ensures c.in-Err.ensures)
    c.take_from_run.ensures.lists c.take_from_run.ensures.room

pub returns : goal.returns
returns c =
    step_noted c.args.place c.args.step.now (Run ∷ []) (Go c.args.step.now.id.go ∷ []) (read_alone c.args.step.now c.requires.alone) (written_alone c.args.step.now c.requires.alone) c.args.self.now c.add_to_run.new.self c.add_to_lane-noted.new.self refl refl refl (noted_with _ _ (Run ∷ []) c.new-read.ensures c.in_ok-add_to_run.ensures) (noted_with _ _ (Go c.args.step.now.id.go ∷ []) c.new-written.ensures c.in_default.ensures)
