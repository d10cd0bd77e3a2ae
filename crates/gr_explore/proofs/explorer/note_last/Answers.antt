use Rattle.std.proofs.Common.{◌∙◌, ap, sym}
use Rattle.gr_depend.specs.Logs.{records_of}
use Rattle.gr_rollback.proofs.Basics.{last_item}
use Rattle.gr_explore.proofs.explorer.note_last.Goals as goal

pub returns-in-Some : goal.returns-in-Some
returns-in-Some c p s t apart f whole =
    let end = last_item (records_of c.log.result.now) c.in-Some.last.now c.in-Some.ensures in
    c.note.ensures p s t (apart end.rest c.in-Some.last.now (sym (ap records_of c.log.ensures) ∙ end.whole)) f whole
