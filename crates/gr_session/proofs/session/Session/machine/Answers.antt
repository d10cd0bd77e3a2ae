use Rattle.std.proofs.Common.{subst}
use Rattle.gr_program.specs.Views.{program_of}
use Rattle.gr_rollback.specs.Machines as rollback
use Rattle.gr_session.specs.Journal.{course_of}
use Rattle.gr_session.specs.Entries.{InItsWorld}
use Rattle.gr_session.specs.Keeps.{Seen}
use Rattle.gr_session.proofs.session.Session.machine.Goals as goal

pub returns-clause-stands : goal.returns-clause-stands
returns-clause-stands c =
    subst
    (λ (s : Seen). InItsWorld (program_of s.program) s.journal
    (λ w. rollback.Stands (program_of s.program) (course_of (program_of s.program) w) c.self.inside.debuggee.machine))
    c.self.view_is (record { world = c.self.invariant.world; means = c.self.invariant.means; holds = c.self.invariant.stands.machine })
