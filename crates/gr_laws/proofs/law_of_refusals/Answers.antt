use Rattle.std.proofs.Common.{inl, inr}
use Rattle.gr_rules.specs.Attempts.{program_is_over, no_such_goroutine, goroutine_is_done, goroutine_waits, no_such_choice, unsound}
use Rattle.gr_laws.proofs.ReasonLemmas.{reason, if_over, if_unknown, if_done, if_waits, if_plain, if_select}
use Rattle.gr_laws.proofs.law_of_refusals.Goals as goal

pub returns-clause-over : goal.returns-clause-over
returns-clause-over c p s e = (reason p s e program_is_over, if_over p s e)

pub returns-clause-unknown : goal.returns-clause-unknown
returns-clause-unknown c p s e = (reason p s e no_such_goroutine, if_unknown p s e)

pub returns-clause-done : goal.returns-clause-done
returns-clause-done c p s e = (reason p s e goroutine_is_done, if_done p s e)

pub returns-clause-waits : goal.returns-clause-waits
returns-clause-waits c p s e = (reason p s e goroutine_waits, λ h. if_waits p s e h.0 h.1)

pub returns-clause-others : goal.returns-clause-others
returns-clause-others c p s e h = elim h [ inl d ↦ reason p s e no_such_choice d | inr d ↦ reason p s e unsound d ]

pub returns-clause-plain : goal.returns-clause-plain
returns-clause-plain c p s e f h = if_plain p s e f h

pub returns-clause-select : goal.returns-clause-select
returns-clause-select c p s e f cs h q = (if_select p s e f h cs q).0

pub returns-clause-select_refuses : goal.returns-clause-select_refuses
returns-clause-select_refuses c p s e f cs h q = (if_select p s e f h cs q).1
