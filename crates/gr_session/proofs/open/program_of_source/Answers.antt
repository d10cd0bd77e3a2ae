use Rattle.gr_session.proofs.Sources.{check_refused}
use Rattle.gr_session.proofs.open.program_of_source.Goals as goal

pub returns-in-Err-clause-none : goal.returns-in-Err-clause-none
returns-in-Err-clause-none c =
    rw c.check_error.ensures (check_refused c.one_list.ensures c.one_tree.ensures c.in-Err.error _ _ c.in_ok-file.ensures.file c.in-Err.ensures.none)
