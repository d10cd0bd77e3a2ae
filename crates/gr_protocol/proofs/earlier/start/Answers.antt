use Rattle.std.proofs.Common.{subst}
use Rattle.gr_follow.proofs.StandLemmas.{is_of}
use Rattle.gr_follow.specs.Following.{IsOf}
use Rattle.gr_protocol.proofs.Sources.{one_program_of}
use Rattle.gr_session.specs.Journal.{course_of}
use Rattle.gr_protocol.proofs.earlier.start.Goals as goal

pub returns-in-Ok : goal.returns-in-Ok
returns-in-Ok c = λ p of.
    let stands = c.into_machine.ensures in
    subst (λ q. IsOf q c.into_machine.result)
    (one_program_of c.one_list.ensures c.one_tree.ensures c.one_program.ensures c.args.text.now _ p c.in-Ok.ensures.program of)
    (is_of _ (course_of _ stands.world) c.into_machine.result stands.holds)
