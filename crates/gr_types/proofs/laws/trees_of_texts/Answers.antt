use Rattle.gr_types.proofs.TreesOfTexts.{updates_give, posts_plain, bodies_in_order}
use Rattle.gr_types.proofs.laws.trees_of_texts.Goals as goal

pub returns-clause-updates : goal.returns-clause-updates
returns-clause-updates c = updates_give

pub returns-clause-posts : goal.returns-clause-posts
returns-clause-posts c = posts_plain

pub returns-clause-order : goal.returns-clause-order
returns-clause-order c = bodies_in_order
