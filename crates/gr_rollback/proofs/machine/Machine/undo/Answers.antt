use Rattle.std.proofs.Common.{reverse, ap, ◌∙◌, rules}
use Rattle.gr_depend.specs.Logs.{records_of}
use Rattle.gr_rollback.proofs.Basics.{last_item, last_same, no_item}
use Rattle.gr_rollback.proofs.CourseLemmas.{stays}
use Rattle.gr_rollback.proofs.RedoLemmas.{stands_still}
use Rattle.gr_rollback.proofs.UndoLemmas.{last_goes_back, last_is_kept, none_is_kept, undoes}
use Rattle.gr_rollback.proofs.machine.Machine.undo.Goals as goal

pub returns-in_default-clause-undone : goal.returns-in_default-clause-undone
returns-in_default-clause-undone c = λ p w s. (none_is_kept p w.past c.args.self.now.course s.holds (no_item (records_of c.args.self.now.course.log) c.in_default.ensures), s)

pub returns-in_default-copy-clause-undone : goal.returns-in_default-copy-clause-undone
returns-in_default-copy-clause-undone c = λ p w s.
    let end = last_item (records_of c.args.self.now.course.log) c.in-Some.last.now c.in-Some.ensures in
    (last_is_kept p w.past c.args.self.now.course s.holds end.rest c.in-Some.last.now end.whole, search rules, s)

pub retract_last-requires : goal.retract_last-requires
retract_last-requires c =
    let end = last_item (records_of c.args.self.now.course.log) c.in-Some.last.now c.in-Some.ensures in
    last_goes_back _ c.requires.world.past c.args.self.now.course c.requires.stands.holds end.rest c.in-Some.last.now end.whole

pub returns-in-Ok-retract_last-clause-undone : goal.returns-in-Ok-retract_last-clause-undone
returns-in-Ok-retract_last-clause-undone c = λ p w s.
    let back = c.in-Ok-retract_last.ensures.ok in
    let last = last_same (records_of c.args.self.now.course.log) (records_of c.retract_last.new.self.course.log) back.course.step c.in-Some.last.now
    back.course.records c.in-Some.ensures in
    undoes p w c.args.self.now c.retract_last.new.self s c.in-Ok-retract_last.ensures.listing back _
    (λ i. record { go = (c.in-Ok.ensures ∙ ap (λ r. r.id.go) last) i; n = ap (λ r. r.id.n) last i })

pub returns-in-Err-clause-undone : goal.returns-in-Err-clause-undone
returns-in-Err-clause-undone c = λ p w s.
    let end = last_item (records_of c.args.self.now.course.log) c.in-Some.last.now c.in-Some.ensures in (
      last_is_kept p w.past c.args.self.now.course s.holds end.rest c.in-Some.last.now end.whole,
      search rules,
      stands_still p w c.args.self.now c.retract_last.new.self s (stays p w.past c.args.self.now.course c.retract_last.new.self.course s.holds c.in-Err.ensures.err)
          (ap reverse c.in-Err.ensures.err_again),
    )

pub returns-in-Err-clause-err : goal.returns-in-Err-clause-err
returns-in-Err-clause-err c = c.in-Err.ensures.err.contents
