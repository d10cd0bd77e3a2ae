use Rattle.type_safety.proofs.CheckedRuns.{checked_stands, checked_sends, checked_names, checked_begins}
use Rattle.type_safety.proofs.law_of_checked_states.Goals as goal

pub returns-clause-standing : goal.returns-clause-standing
returns-clause-standing c = checked_stands

pub returns-clause-sends : goal.returns-clause-sends
returns-clause-sends c = checked_sends

pub returns-clause-names : goal.returns-clause-names
returns-clause-names c = checked_names

pub returns-clause-begins : goal.returns-clause-begins
returns-clause-begins c = checked_begins
