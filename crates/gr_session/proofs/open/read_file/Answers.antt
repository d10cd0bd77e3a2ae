use Rattle.gr_session.proofs.Sources.{scan_refused, parse_refused}
use Rattle.gr_session.proofs.open.read_file.Goals as goal

pub returns-in-Err-clause-none : goal.returns-in-Err-clause-none
returns-in-Err-clause-none c = rw c.scan_error.ensures (scan_refused c.in-Err.error _ c.in-Err.ensures.none c.in-Err.ensures.fault)

pub returns-clause-none : goal.returns-clause-none
returns-clause-none c =
    rw (c.parse_error.ensures, c.as_slice-in-Err-parse.ensures.value)
    (parse_refused c.one_list.ensures c.in-Err-parse.error _ _ c.in-Ok.ensures.tokens (rw c.as_slice.ensures.value at c.in-Err-parse.ensures.none))
