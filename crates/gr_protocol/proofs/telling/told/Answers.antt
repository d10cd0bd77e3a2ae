use Rattle.std.proofs.lemmas.Result.{IfOk-weaker}
use Rattle.gr_program.specs.Views.{program_of}
use Rattle.gr_session.specs.Journal.{course_of}
use Rattle.gr_protocol.proofs.telling.told.Goals as goal

pub returns-in-Step-clause-tells : goal.returns-in-Step-clause-tells
returns-in-Step-clause-tells c =
    let stands = c.machine.ensures.stands in
    let p = program_of c.args.client.now.session.program in
    IfOk-weaker c.about_step.result _ _
    (λ v tells. record { world = stands.world; means = stands.means; holds = rw c.in-Step.is (tells p (course_of p stands.world) stands.holds) }) c.about_step.ensures

pub returns-in-Places-clause-tells : goal.returns-in-Places-clause-tells
returns-in-Places-clause-tells c =
    let stands = c.machine-in-Places.ensures.stands in
    let p = program_of c.args.client.now.session.program in
    IfOk-weaker c.about_places.result _ _
    (λ v tells. record { world = stands.world; means = stands.means; holds = rw c.in-Places.is (tells p (course_of p stands.world) stands.holds) }) c.about_places.ensures
