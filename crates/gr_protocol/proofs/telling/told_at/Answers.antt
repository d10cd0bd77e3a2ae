use Rattle.std.proofs.lemmas.Result.{IfOk-weaker}
use Rattle.gr_command.specs.Replies.{said_of}
use Rattle.gr_protocol.proofs.telling.told_at.Goals as goal

pub returns-clause-tells : goal.returns-clause-tells
returns-clause-tells c =
    let shows = c.in_ok-reply.ensures.shows in
    IfOk-weaker c.said.result _ _
    (λ v is. record { world = shows.world; means = shows.means; holds = record { said = said_of c.in_ok-reply.reply; shows = shows.holds; is = is } })
    c.said.ensures
