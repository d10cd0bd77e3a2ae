use Rattle.std.proofs.Common.{List, ◌∷◌, refl, subst}
use Rattle.std.proofs.lemmas.Result.{err_from_is_err_and}
use Rattle.gr_base.specs.declared.objects.Object.{Object}
use Rattle.gr_base.specs.declared.objects.Object.TheVariants.{Go}
use Rattle.gr_touches.specs.Lists.{TakesFor}
use Rattle.gr_touches.proofs.AddingLemmas.{noted_with, read_refused, write_refused, step_noted}
use Rattle.gr_touches.proofs.lanes.Lanes.note_reached.Goals as goal

pub returns-in_err-note_read : goal.returns-in_err-note_read
returns-in_err-note_read g c =
    let told = err_from_is_err_and c.from_residual.result c.from_residual.ensures.1 in
    read_refused c.args.place c.args.step.now (g.R.Reached.read c.args.reached.now) (Go c.args.step.now.id.go ∷ g.R.Reached.written c.args.reached.now) c.requires.read c.requires.written c.args.self.now c.note_read.new.lanes refl told.1 (noted_with _ _ (g.R.Reached.read c.args.reached.now) c.new-read.ensures c.in_err-note_read.ensures)

pub returns-in-Err : goal.returns-in-Err
returns-in-Err g c =
    write_refused c.args.place c.args.step.now (g.R.Reached.read c.args.reached.now) (Go c.args.step.now.id.go ∷ g.R.Reached.written c.args.reached.now) c.requires.read c.requires.written c.args.self.now c.note_read.new.lanes c.note_written-noted.new.self c.forget_list.new.self refl refl refl (noted_with _ _ (g.R.Reached.read c.args.reached.now) c.new-read.ensures c.in_ok-note_read.ensures) (noted_with _ _ (Go c.args.step.now.id.go ∷ g.R.Reached.written c.args.reached.now) c.new-written.ensures c.in-Err.ensures)
    (subst (λ (os : List Object). TakesFor os c.note_written-noted.new.self c.forget_list.new.self) c.objects_read.ensures c.forget_list.ensures.lists)
    c.forget_list.ensures.room

pub returns : goal.returns
returns g c =
    step_noted c.args.place c.args.step.now (g.R.Reached.read c.args.reached.now) (Go c.args.step.now.id.go ∷ g.R.Reached.written c.args.reached.now) c.requires.read c.requires.written c.args.self.now c.note_read.new.lanes c.note_written-noted.new.self refl refl refl (noted_with _ _ (g.R.Reached.read c.args.reached.now) c.new-read.ensures c.in_ok-note_read.ensures) (noted_with _ _ (Go c.args.step.now.id.go ∷ g.R.Reached.written c.args.reached.now) c.new-written.ensures c.in_default.ensures)
