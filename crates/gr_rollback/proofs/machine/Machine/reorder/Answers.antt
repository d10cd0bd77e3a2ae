use Rattle.gr_depend.specs.Logs.{records_of}
use Rattle.gr_depend.specs.Ordering.{BreaksAt}
use Rattle.gr_rollback.proofs.ReorderLemmas.{once, breaks_within, memory_told, reorders, other_steps_told, break_told}
use Rattle.gr_rollback.proofs.machine.Machine.reorder.Goals as goal

pub permuted-requires : goal.permuted-requires
permuted-requires c = once _ c.requires.world c.args.self.now c.requires.stands

pub broken-requires-clause-earlier : goal.broken-requires-clause-earlier
broken-requires-clause-earlier c =
    let breaks : BreaksAt (records_of c.args.self.now.course.log) c.args.ids.now c.in-Err-Breaks.earlier c.in-Err-Breaks.later =
    rw c.in-Err-Breaks.field-0-is at c.in-Err-Breaks.ensures.why in
    (breaks_within _ (records_of c.permuted.new.self) _ _ _ c.in-Err-Breaks.ensures.err breaks).0

pub broken-requires-clause-later : goal.broken-requires-clause-later
broken-requires-clause-later c =
    let breaks : BreaksAt (records_of c.args.self.now.course.log) c.args.ids.now c.in-Err-Breaks.earlier c.in-Err-Breaks.later =
    rw c.in-Err-Breaks.field-0-is at c.in-Err-Breaks.ensures.why in
    (breaks_within _ (records_of c.permuted.new.self) _ _ _ c.in-Err-Breaks.ensures.err breaks).1

pub returns-in-Ok-clause-reordered : goal.returns-in-Ok-clause-reordered
returns-in-Ok-clause-reordered c = λ p w s.
    reorders p w c.args.self.now s c.permuted.new.self c.args.ids.now c.clear.new.self c.clear.ensures.items c.in-Ok.ensures.order c.in-Ok.ensures.names

pub returns-in-Err-NotTheSteps-clause-reordered : goal.returns-in-Err-NotTheSteps-clause-reordered
returns-in-Err-NotTheSteps-clause-reordered c = λ p w s.
    other_steps_told p w c.args.self.now s c.permuted.new.self c.args.ids.now c.in-Err-NotTheSteps.ensures.err
    (rw c.in-Err-NotTheSteps.field-0-is at c.in-Err-NotTheSteps.ensures.why)

pub returns-in-Err-NoMemory-clause-reordered : goal.returns-in-Err-NoMemory-clause-reordered
returns-in-Err-NoMemory-clause-reordered c = λ p w s.
    memory_told p w c.args.self.now s c.permuted.new.self c.args.ids.now c.new.result c.new.ensures.items c.in-Err-NoMemory.ensures.err
    (rw c.in-Err-NoMemory.field-0-is at c.in-Err-NoMemory.ensures.why)

pub returns-in-Err-Breaks-clause-reordered : goal.returns-in-Err-Breaks-clause-reordered
returns-in-Err-Breaks-clause-reordered c = λ p w s.
    let breaks : BreaksAt (records_of c.args.self.now.course.log) c.args.ids.now c.in-Err-Breaks.earlier c.in-Err-Breaks.later =
    rw c.in-Err-Breaks.field-0-is at c.in-Err-Breaks.ensures.why in
    break_told p w c.args.self.now s c.permuted.new.self c.args.ids.now c.in-Err-Breaks.earlier c.in-Err-Breaks.later c.broken.result
    c.in-Err-Breaks.ensures.err breaks c.broken.ensures
