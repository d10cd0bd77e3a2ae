use Rattle.std.proofs.Common.{refl}
use Rattle.gr_rules.specs.Attempts.{program_is_over, no_such_goroutine, goroutine_is_done, goroutine_waits, no_such_choice}
use Rattle.gr_command.specs.declared.refusal.Refusal.TheVariants.{Ended, NotThere, Done, Waits, NoChoice}
use Rattle.gr_session.proofs.StepLemmas.{machine_refuses}
use Rattle.gr_session.proofs.refusing.told.Goals as goal

pub returns-in-Over : goal.returns-in-Over
returns-in-Over c = λ p w e s says. machine_refuses p w e Ended program_is_over (rw c.in-Over.is at says) refl

pub returns-in-NotThere : goal.returns-in-NotThere
returns-in-NotThere c = λ p w e s says. machine_refuses p w e NotThere no_such_goroutine (rw c.in-NotThere.is at says) refl

pub returns-in-Done : goal.returns-in-Done
returns-in-Done c = λ p w e s says. machine_refuses p w e Done goroutine_is_done (rw c.in-Done.is at says) refl

pub returns-in-Waits : goal.returns-in-Waits
returns-in-Waits c = λ p w e s says. machine_refuses p w e Waits goroutine_waits (rw c.in-Waits.is at says) refl

pub returns-in-NoChoice : goal.returns-in-NoChoice
returns-in-NoChoice c = λ p w e s says. machine_refuses p w e NoChoice no_such_choice (rw c.in-NoChoice.is at says) refl

pub returns-in-NoMemory : goal.returns-in-NoMemory
returns-in-NoMemory c = λ p w e s says. c.unkept.ensures p w e s (rw c.in-NoMemory.is at says)
