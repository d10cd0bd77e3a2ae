use Rattle.gr_program.specs.Views.{program_of}
use Rattle.gr_session.proofs.JournalLemmas.{keeps_first}
use Rattle.gr_session.proofs.session.Session.new.Goals as goal

pub invariant_of-result-2 : goal.invariant_of-result-2
invariant_of-result-2 c = rw c.new.ensures.items (keeps_first (program_of c.args.program) c.in_ok-debuggee.debuggee c.in_ok-debuggee.ensures)
