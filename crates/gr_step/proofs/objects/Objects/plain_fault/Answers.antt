use Rattle.gr_step.proofs.objects.Objects.plain_fault.Goals as goal

pub returns-clause-ok : goal.returns-clause-ok
returns-clause-ok c = rw c.new-nothing.ensures.items at c.fault.ensures.ok
