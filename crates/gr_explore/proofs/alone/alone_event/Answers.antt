use Rattle.std.proofs.Common.{ap, subst}
use Rattle.std.specs.Prelude.{option_copied}
use Rattle.gr_rollback.specs.Leasing.{IsLentAt}
use Rattle.gr_explore.specs.Exploring.{state_seen}
use Rattle.gr_explore.proofs.AloneLemmas.{lent_seen, none_alone, are_alone, is_found, none_are_alone}
use Rattle.gr_explore.proofs.alone.alone_event.Goals as goal

pub returns-in_ok-plain_event-in-Some-clause-alone : goal.returns-in_ok-plain_event-in-Some-clause-alone
returns-in_ok-plain_event-in-Some-clause-alone c =
    are_alone (state_seen c.args.machine.now) c.in-Some.go.now _
    (subst (IsLentAt (state_seen c.args.machine.now) 0) (ap option_copied c.in-Some.is) (lent_seen c.args.machine.now c.requires (option_copied c.first_alone.result) c.first_alone.ensures)) c.in_ok-plain_event-in-Some.ensures

pub returns-in_ok-plain_event-in-Some-clause-found : goal.returns-in_ok-plain_event-in-Some-clause-found
returns-in_ok-plain_event-in-Some-clause-found c = is_found (state_seen c.args.machine.now) _

pub returns-in-None-clause-alone : goal.returns-in-None-clause-alone
returns-in-None-clause-alone c = none_are_alone (state_seen c.args.machine.now)

pub returns-in-None-clause-found : goal.returns-in-None-clause-found
returns-in-None-clause-found c = λ h. none_alone (state_seen c.args.machine.now)
    (subst (IsLentAt (state_seen c.args.machine.now) 0) (ap option_copied c.in-None.is) (lent_seen c.args.machine.now c.requires (option_copied c.first_alone.result) c.first_alone.ensures))
