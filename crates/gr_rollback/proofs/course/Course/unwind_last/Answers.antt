use Rattle.std.proofs.Common.{◌-◌, false, refl, sym, ap, ◌∙◌, get_or}
use Rattle.gr_depend.specs.Logs.{records_of}
use Rattle.gr_rollback.proofs.UnwindLemmas.{last_goes, removal_goes_on, aside_goes_on}
use Rattle.gr_rollback.proofs.course.Course.unwind_last.Goals as goal

pub remove_last-requires-clause-goes : goal.remove_last-requires-clause-goes
remove_last-requires-clause-goes c =
    last_goes c.requires.rolls.start c.args.at c.args.marks.now c.requires.rolls.rolls c.args.self.now c.args.rollback.now c.requires.rolls.way c.requires.within
    false (ap (λ n. get_or c.args.marks.now ((n - 1) - c.args.at) false) (sym c.len-place.ensures) ∙ c.if-marks-place.true)

pub returns-then-marks-place-clause-way : goal.returns-then-marks-place-clause-way
returns-then-marks-place-clause-way c =
    removal_goes_on c.args.at c.args.marks.now c.args.self.now c.args.rollback.now c.remove_last.new.self c.remove_last.new.rollback c.remove_last.result
    c.requires.within false (ap (λ n. get_or c.args.marks.now ((n - 1) - c.args.at) false) (sym c.len-place.ensures) ∙ c.if-marks-place.true)
    c.remove_last.ensures.ok c.remove_last.ensures.err c.remove_last.ensures.room c.remove_last.ensures.err_rollback

pub returns-clause-way : goal.returns-clause-way
returns-clause-way c =
    let laid = c.lay_aside.ensures in
    aside_goes_on c.args.at c.args.marks.now c.args.self.now c.args.rollback.now _ _ (records_of c.lay_aside.new.self) laid.step
    c.requires.within false (ap (λ n. get_or c.args.marks.now ((n - 1) - c.args.at) false) (sym c.len-place.ensures) ∙ c.if-marks-place.false)
    laid.records refl refl refl refl laid.room laid.items laid.len laid.capacity refl refl
