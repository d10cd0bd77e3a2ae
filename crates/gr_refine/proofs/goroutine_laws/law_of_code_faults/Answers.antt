use Rattle.gr_refine.proofs.CodeFaultLemmas.{make_of_negative, make_of_great, make_of_too_many, go_too_deep, go_too_many, close_nil}
use Rattle.gr_refine.proofs.CodeFaultLemmas.{close_twice, len_of_nil, cap_of_nil, len_can_arrive, cap_can_arrive}
use Rattle.gr_refine.proofs.goroutine_laws.law_of_code_faults.Goals as goal

pub returns-clause-negative : goal.returns-clause-negative
returns-clause-negative c = make_of_negative

pub returns-clause-great : goal.returns-clause-great
returns-clause-great c = make_of_great

pub returns-clause-channels : goal.returns-clause-channels
returns-clause-channels c = make_of_too_many

pub returns-clause-deep : goal.returns-clause-deep
returns-clause-deep c = go_too_deep

pub returns-clause-children : goal.returns-clause-children
returns-clause-children c = go_too_many

pub returns-clause-nil : goal.returns-clause-nil
returns-clause-nil c = close_nil

pub returns-clause-twice : goal.returns-clause-twice
returns-clause-twice c = close_twice

pub returns-clause-items_of_nil : goal.returns-clause-items_of_nil
returns-clause-items_of_nil c = len_of_nil

pub returns-clause-places_of_nil : goal.returns-clause-places_of_nil
returns-clause-places_of_nil c = cap_of_nil

pub returns-clause-items_on : goal.returns-clause-items_on
returns-clause-items_on c = len_can_arrive

pub returns-clause-places_on : goal.returns-clause-places_on
returns-clause-places_on c = cap_can_arrive
