use Rattle.std.proofs.Common.{refl}
use Rattle.std.proofs.lemmas.Result.{IfOk-weaker}
use Rattle.gr_command.specs.Replies.{said_of}
use Rattle.gr_program.specs.Views.{program_of}
use Rattle.gr_protocol.proofs.ClientLemmas.{stays_with}
use Rattle.gr_protocol.proofs.Showing.{of_session, shown_in}
use Rattle.gr_session.specs.Journal.{course_of}
use Rattle.gr_protocol.proofs.earlier.show_followed.Goals as goal

pub returns-clause-shows : goal.returns-clause-shows
returns-clause-shows c =
    let stands = c.machine-leader.ensures.stands in
    let p = program_of c.take_follower.new.client.session.program in
    IfOk-weaker c.show_there-shown.result _ _
    (λ reply shows. shown_in c.args.client.now.session c.take_follower.new.client.session c.args.steps c.args.view.now (said_of reply)
    c.take_follower.ensures.client.session
    (record { world = stands.world; means = stands.means; holds = shows p (course_of p stands.world) stands.holds }))
    c.show_there-shown.ensures.shows

pub returns-clause-client : goal.returns-clause-client
returns-clause-client c =
    let stands = c.machine-leader.ensures.stands in
    let p = program_of c.take_follower.new.client.session.program in
    stays_with c.args.client.now c.take_follower.new.client _ c.take_follower.ensures.client refl refl refl
    (of_session p (course_of p stands.world) c.machine-leader.result.now c.show_there-shown.new.follower stands.holds c.show_there-shown.ensures.of)
