use Rattle.std.proofs.Common.{sym, subst}
use Rattle.gr_rules.specs.Turns.{IsTurn, last_owner}
use Rattle.gr_depend.specs.Logs.{records_of}
use Rattle.gr_rollback.proofs.Basics.{last_item, no_item}
use Rattle.gr_rollback.proofs.NextTurn.{turn_of_last, turn_of_none}
use Rattle.gr_rollback.proofs.machine.Machine.next_turn.Goals as goal

pub returns-in_default : goal.returns-in_default
returns-in_default c = λ p w s.
    let none = no_item (records_of c.args.self.now.course.log) c.in_default.ensures in
    subst (IsTurn w.past.state (last_owner p w.past.log)) (sym c.next_after.ensures.next)
    (turn_of_none p w.past c.args.self.now.course s.holds c.next_after.ensures.ordered none)

pub returns : goal.returns
returns c = λ p w s.
    let last = last_item (records_of c.args.self.now.course.log) c.in-Some.last.now c.in-Some.ensures in
    subst (IsTurn w.past.state (last_owner p w.past.log)) (sym c.next_after-2.ensures.next)
    (turn_of_last p w.past c.args.self.now.course s.holds c.next_after-2.ensures.ordered last.rest c.in-Some.last.now last.whole)
