-- That the store of a session's machine is one of a run.
use Rattle.std.proofs.Common.{◌≡◌, List, sym, subst}
use Rattle.gr_program.specs.Programs.{Program}
use Rattle.gr_session.specs.declared.journal.Entry.{Entry}
use Rattle.gr_session.specs.Entries.{InItsWorld}
use Rattle.gr_session.specs.Journal.{course_of}
use Rattle.gr_step.specs.declared.store.Store.{Store}
use Rattle.gr_step.specs.Stores.{IsRun}
use Rattle.gr_rollback.specs.declared.machine.Machine.{Machine}
use Rattle.gr_rollback.specs.Machines.{Stands, store_of}

pub runs : (p : Program) (journal : List Entry) (m : Machine) (s : Store)
    → InItsWorld p journal (λ w. Stands p (course_of p w) m) → s ≡ store_of m → IsRun s
runs p journal m s here e = subst IsRun (sym e) here.holds.holds.run
