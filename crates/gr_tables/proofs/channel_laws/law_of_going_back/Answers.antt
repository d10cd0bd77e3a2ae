use Rattle.gr_tables.proofs.Joining.{changes_join, changes_go_back, made_is_removed}
use Rattle.gr_tables.proofs.channel_laws.law_of_going_back.Goals as goal

pub returns-clause-joined : goal.returns-clause-joined
returns-clause-joined c = changes_join

pub returns-clause-back : goal.returns-clause-back
returns-clause-back c = changes_go_back

pub returns-clause-made : goal.returns-clause-made
returns-clause-made c = made_is_removed
