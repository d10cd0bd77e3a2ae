use Rattle.gr_refine.proofs.MakeLemmas.{counting_items, counting_places, counting_items_of_nil, counting_places_of_nil, counting_items_goes_on, counting_places_goes_on}
use Rattle.gr_refine.proofs.rule_laws.law_of_counts.Goals as goal

pub returns-clause-items : goal.returns-clause-items
returns-clause-items c = counting_items

pub returns-clause-places : goal.returns-clause-places
returns-clause-places c = counting_places

pub returns-clause-items_of_nil : goal.returns-clause-items_of_nil
returns-clause-items_of_nil c = counting_items_of_nil

pub returns-clause-places_of_nil : goal.returns-clause-places_of_nil
returns-clause-places_of_nil c = counting_places_of_nil

pub returns-clause-items_go_on : goal.returns-clause-items_go_on
returns-clause-items_go_on c = counting_items_goes_on

pub returns-clause-places_go_on : goal.returns-clause-places_go_on
returns-clause-places_go_on c = counting_places_goes_on
