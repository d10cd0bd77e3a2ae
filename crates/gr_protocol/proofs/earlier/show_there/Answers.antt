use Rattle.std.proofs.lemmas.Result.{IfOk-weaker}
use Rattle.gr_command.specs.Replies.{said_of}
use Rattle.gr_protocol.proofs.Showing.{shown_after}
use Rattle.gr_protocol.proofs.earlier.show_there.Goals as goal

pub returns-clause-shows : goal.returns-clause-shows
returns-clause-shows c = IfOk-weaker c.shown.result _ _
    (λ reply shows p w s. shown_after p w c.args.leader.now s c.follow.new.follower c.args.steps c.args.view.now (said_of reply) c.requires.kept
    (c.in_ok-follow.ensures.there p w s) (λ v t. shows p v t)) c.shown.ensures
