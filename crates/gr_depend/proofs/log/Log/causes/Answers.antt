use Rattle.std.proofs.Common.{ap, ◌∙◌, arith}
use Rattle.std.proofs.lemmas.List.{take_at}
use Rattle.gr_record.specs.Conflicts.{conflict_of}
use Rattle.gr_record.specs.Back.{marked}
use Rattle.gr_depend.proofs.MarkedLemmas.{causes_marked}
use Rattle.gr_depend.proofs.log.Log.causes.Goals as goal

pub returns-clause-members : goal.returns-clause-members
returns-clause-members c =
    let rs = c.args.self.now.records.items in
    ap (λ m. marked m rs) (take_at c.mark_causes.new.marks _ c.in_ok-marks.marks.len (omega (arith, c.in_ok-marks.marks.ok.0)))
    ∙ ap (λ m. marked m rs) c.mark_causes.ensures ∙ causes_marked conflict_of rs c.args.at
