-- One log of the machine of mailboxes, and orders of it.
use Rattle.std.specs.Prelude.{fold, ℕ, List, [], ◌∷◌, Some, None}
use Rattle.gr_causal.specs.declared.mailboxes.Action.TheVariants.{Put, Take, Look}
use Rattle.gr_causal.specs.Mailboxes.{MailStep, Worker, State, logged_as, start, put}
use Rattle.gr_causal.specs.Mailboxes.Cell.{worker_has, mailbox_has}

-- a worker before a step, by its steps and what it saw
abbrev pub idle : ℕ → Worker
idle n = record { steps = n; saw = None }

-- worker 0 puts 5 into mailbox 0
abbrev pub puts_five : MailStep
puts_five = logged_as (record { worker = 0; mailbox = 0; action = Put 5 }) 1 (worker_has 0 (idle 0) ∷ mailbox_has 0 None ∷ [])

-- worker 1 sees it
abbrev pub looks : MailStep
looks = logged_as (record { worker = 1; mailbox = 0; action = Look }) 1 (worker_has 1 (idle 0) ∷ [])

-- worker 2 puts 7 into mailbox 1
abbrev pub puts_seven : MailStep
puts_seven = logged_as (record { worker = 2; mailbox = 1; action = Put 7 }) 1 (worker_has 2 (idle 0) ∷ mailbox_has 1 None ∷ [])

-- worker 2 sees the 5
abbrev pub looks_too : MailStep
looks_too = logged_as (record { worker = 2; mailbox = 0; action = Look }) 2 (worker_has 2 (idle 1) ∷ [])

-- worker 3 takes it out
abbrev pub takes_five : MailStep
takes_five = logged_as (record { worker = 3; mailbox = 0; action = Take }) 1 (worker_has 3 (idle 0) ∷ mailbox_has 0 (Some 5) ∷ [])

abbrev pub worked_log : List MailStep
worked_log = puts_five ∷ looks ∷ puts_seven ∷ looks_too ∷ takes_five ∷ []

-- the state after the log
abbrev pub final : State
final = fold put start (
    worker_has 0 (record { steps = 1; saw = None })
    ∷ worker_has 1 (record { steps = 1; saw = Some 5 })
    ∷ worker_has 2 (record { steps = 2; saw = Some 5 })
    ∷ worker_has 3 (record { steps = 1; saw = Some 5 })
    ∷ mailbox_has 1 (Some 7)
    ∷ [])
