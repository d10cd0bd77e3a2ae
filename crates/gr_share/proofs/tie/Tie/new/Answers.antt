use Rattle.gr_share.proofs.Telling.{up_to_older}
use Rattle.gr_share.proofs.Moves.{begins}
use Rattle.gr_share.specs.Ties.{older_lines}
use Rattle.gr_share.proofs.tie.Tie.new.Goals as goal

pub of_words-requires : goal.of_words-requires
of_words-requires c = begins (older_lines 1 c.args.session.now.journal) c.args.session.now.askers (up_to_older _ 1 c.args.session.now.journal c.journal.ensures.legal.asked)
