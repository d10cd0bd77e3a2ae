use Rattle.gr_refine.proofs.BackLemmas.{changes_go_back_anywhere, taking_back_puts_back}
use Rattle.gr_refine.proofs.StateLemmas.{contents_are_put_back}
use Rattle.gr_refine.proofs.NamedBackLemmas.{named_changes_fit, named_changes_go_back}
use Rattle.gr_refine.proofs.WrittenLemmas.{written_parts_are_named, all_written_parts_are_named, full_slots_meet}
use Rattle.gr_refine.proofs.laws.law_of_taking_back.Goals as goal

pub returns-clause-changes : goal.returns-clause-changes
returns-clause-changes c = changes_go_back_anywhere

pub returns-clause-steps : goal.returns-clause-steps
returns-clause-steps c = taking_back_puts_back

pub returns-clause-contents : goal.returns-clause-contents
returns-clause-contents c = contents_are_put_back

pub returns-clause-named_fit : goal.returns-clause-named_fit
returns-clause-named_fit c = named_changes_fit

pub returns-clause-named_back : goal.returns-clause-named_back
returns-clause-named_back c = named_changes_go_back

pub returns-clause-written : goal.returns-clause-written
returns-clause-written c = written_parts_are_named

pub returns-clause-all_written : goal.returns-clause-all_written
returns-clause-all_written c = all_written_parts_are_named

pub returns-clause-full_slots : goal.returns-clause-full_slots
returns-clause-full_slots c = full_slots_meet
