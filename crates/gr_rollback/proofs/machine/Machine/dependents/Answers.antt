use Rattle.std.proofs.lemmas.Result.{err_from_is_err_and}
use Rattle.gr_depend.specs.Logs.{records_of}
use Rattle.gr_rollback.proofs.AskLemmas.{tells_dependents}
use Rattle.gr_rollback.proofs.BackLemmas.{named_here, within_list, not_named}
use Rattle.gr_rollback.proofs.machine.Machine.dependents.Goals as goal

pub names_of_dependents-requires : goal.names_of_dependents-requires
names_of_dependents-requires c = within_list (records_of c.args.self.now.course.log) c.in-Some.at c.in-Some.ensures.found.step c.in-Some.ensures.found.there

pub returns-in_default : goal.returns-in_default
returns-in_default c = λ p w s place named. not_named p w.past c.args.self.now.course s.holds c.args.id.now place (c.in_default.ensures.missing place) named

pub returns : goal.returns
returns c = λ p w s.
    tells_dependents p w c.args.self.now s c.args.id.now c.in-Some.at c.in-Some.ensures.found _ c.in_ok-ids.ensures

pub returns-in_err-ids : goal.returns-in_err-ids
returns-in_err-ids c = λ p w s.
    let why = err_from_is_err_and c.from_residual.result c.from_residual.ensures.1 in
    rw why.1 (c.in-Some.at, named_here p w.past c.args.self.now.course s.holds c.args.id.now c.in-Some.at c.in-Some.ensures.found)
