use Rattle.std.proofs.Common.{subst, sym}
use Rattle.gr_program.specs.Views.{program_of}
use Rattle.gr_rollback.specs.Machines as rollback
use Rattle.gr_session.specs.Journal.{course_of}
use Rattle.gr_session.specs.Entries.{InItsWorld}
use Rattle.gr_session.specs.Keeps.{Seen}
use Rattle.gr_session.proofs.session.Session.into_machine.Goals as goal

pub returns : goal.returns
returns c =
    subst
    (λ (s : Seen). InItsWorld (program_of s.program) s.journal
    (λ w. rollback.Stands (program_of s.program) (course_of (program_of s.program) w) c.into_machine.result))
    c.self.view_is
    (record {
      world = c.self.invariant.world;
      means = c.self.invariant.means;
      holds = subst (λ m. rollback.Stands _ (course_of _ c.self.invariant.world) m) (sym c.into_machine.ensures) c.self.invariant.stands.machine;
    })
