use Rattle.std.proofs.Common.{arith}
use Rattle.gr_program.specs.Views.{program_of}
use Rattle.gr_protocol.proofs.Showing.{none_shown}
use Rattle.gr_session.specs.Journal.{course_of}
use Rattle.gr_protocol.proofs.earlier.shown_at.Goals as goal

pub returns-then-steps-len-clause-shows : goal.returns-then-steps-len-clause-shows
returns-then-steps-len-clause-shows c =
    let stands = c.machine.ensures.stands in
    let p = program_of c.args.client.now.session.program in
    let count = rw c.log.ensures at c.len.ensures in
    record {
      world = stands.world;
      means = stands.means;
      holds = none_shown p (course_of p stands.world) c.machine.result.now stands.holds c.args.steps c.args.view.now (omega (arith, c.if-steps-len.true, count));
    }
