use Rattle.std.proofs.Common.{drop, slice_get, ap, ◌∙◌, arith}
use Rattle.std.proofs.lemmas.List.{take_at}
use Rattle.gr_record.specs.Conflicts.{conflict_of}
use Rattle.gr_record.specs.Back.{marked, unmarked}
use Rattle.gr_depend.proofs.MarkedLemmas.{dependents_marked, first_set, kept_unmarked}
use Rattle.gr_depend.proofs.log.Log.dependents.Goals as goal

pub returns-clause-members : goal.returns-clause-members
returns-clause-members c =
    let rs = c.args.self.now.records.items in
    ap (λ m. marked m (drop c.args.at rs)) (take_at c.mark_dependents.new.marks _ c.in_ok-marks.marks.len (omega (arith, c.in_ok-marks.marks.ok.0)))
    ∙ ap (λ m. marked m (drop c.args.at rs)) c.mark_dependents.ensures ∙ dependents_marked conflict_of rs c.args.at

pub returns-clause-others : goal.returns-clause-others
returns-clause-others c =
    let rs = c.args.self.now.records.items in
    ap (λ m. unmarked m (drop c.args.at rs)) (take_at c.mark_dependents.new.marks _ c.in_ok-marks.marks.len (omega (arith, c.in_ok-marks.marks.ok.0)))
    ∙ ap (λ m. unmarked m (drop c.args.at rs)) c.mark_dependents.ensures ∙ kept_unmarked conflict_of rs c.args.at

pub returns-clause-first : goal.returns-clause-first
returns-clause-first c =
    let rs = c.args.self.now.records.items in
    ap (λ m. slice_get m 0) (take_at c.mark_dependents.new.marks _ c.in_ok-marks.marks.len (omega (arith, c.in_ok-marks.marks.ok.0)))
    ∙ ap (λ m. slice_get m 0) c.mark_dependents.ensures ∙ first_set conflict_of rs c.args.at c.requires
